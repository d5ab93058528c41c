-- Arguments on the operands, and the functions that are called.
use Rattle.std.proofs.Common.{◌≡◌, ℕ, suc, Bool, true, false, if◌then◌else◌, List, [], ◌∷◌, ◌++◌, length, take, map, reverse, Option, Some, None, refl, sym, ap, ◌∙◌, subst, arith, append_assoc}
use Rattle.std.specs.Prelude.{ℤ, pos, negsuc, slice_get, unwrap_or}
use Rattle.std.specs.Str.{bytes_eq}
use Rattle.std.proofs.lemmas.Grind.{reverse_onto}
use Rattle.std.proofs.Math.Seq.{take-append_seam}
use Rattle.std.proofs.lemmas.List.{length-reverse, reverse-reverse, length-map}
use Rattle.cal_base.specs.declared.value.Val.{Val}
use Rattle.csl_tree.specs.declared.program.Program.{Program}
use Rattle.csl_tree.specs.declared.program.Function.{Function}
use Rattle.csl_tree.specs.declared.program.Form.TheVariants as form
use Rattle.csl_meaning.specs.declared.state.Area.{Area}
use Rattle.csl_meaning.specs.Layout.{Text}
use Rattle.csl_meaning.specs.Value.{item_at}
use Rattle.csl_meaning.specs.Effect.{function_named}
use Rattle.cal_terms.specs.declared.types.Ty.{Ty}
use Rattle.code_verify.specs.Kinds.{same_kind}
use Rattle.machine_meaning.specs.Machine as machine
use Rattle.machine_meaning.specs.Machine.{◌>>=◌, kind_of, split}
use Rattle.compiled_code.specs.Slots.{kind_of as slot_kind}
use Rattle.csl_tree.specs.declared.program.Param.{Param}
use Rattle.compiled_code.specs.Sizes.{kinds_in}
use Rattle.compiled_code.specs.Values.{function_number}
use Rattle.compiled_code.specs.Modules.{function_code}

-- the operands above which these values were pushed, one after the other
abbrev pub pushed : List Val → List Val → List Val
pushed [] ops = ops
pushed (v ∷ vs) ops = pushed vs (v ∷ ops)

pub pushed_is : (vs ops : List Val) → pushed vs ops ≡ reverse vs ++ ops
pushed_is [] ops = refl
pushed_is (v ∷ vs) ops = reverse_onto vs v ops ∙ sym (ap (λ (l : List Val). l ++ ops) (reverse_onto vs v []) ∙ append_assoc (reverse vs) (v ∷ []) ops)

-- what is split off and what is left are the operands, and as many are split off as there are kinds
pub split_parts : (ks : List Ty) (vs : List Val) (parts : List Val × List Val) → split ks vs ≡ Some parts → (parts.0 ++ parts.1 ≡ vs) × (length parts.0 ≡ length ks)
split_parts [] vs parts e = let is : ([], vs) ≡ parts = cc in (subst (λ (x : List Val × List Val). x.0 ++ x.1 ≡ vs) is refl, subst (λ (x : List Val × List Val). length x.0 ≡ 0) is refl)
split_parts (k ∷ ks) [] parts e = absurd cc
split_parts (k ∷ ks) (v ∷ vs) parts e = by (same_kind k (kind_of v)) e (λ x h. split_parts ks vs x h)
  where
    after : (o : Option (List Val × List Val)) → ((x : List Val × List Val) → o ≡ Some x → (x.0 ++ x.1 ≡ vs) × (length x.0 ≡ length ks))
        → o >>= (λ (x : List Val × List Val). Some (v ∷ x.0, x.1)) ≡ Some parts → (parts.0 ++ parts.1 ≡ v ∷ vs) × (length parts.0 ≡ suc (length ks))
    after None found e' = absurd cc
    after (Some x) found e' =
        let same : (v ∷ x.0, x.1) ≡ parts = cc in
        let more = found x refl in
        (subst (λ (y : List Val × List Val). y.0 ++ y.1 ≡ v ∷ vs) same (ap (λ (l : List Val). v ∷ l) more.0), subst (λ (y : List Val × List Val). length y.0 ≡ suc (length ks)) same (ap suc more.1))

    by : (b : Bool) → (if b then (split ks vs >>= (λ (x : List Val × List Val). Some (v ∷ x.0, x.1))) else None) ≡ Some parts
        → ((x : List Val × List Val) → split ks vs ≡ Some x → (x.0 ++ x.1 ≡ vs) × (length x.0 ≡ length ks)) → (parts.0 ++ parts.1 ≡ v ∷ vs) × (length parts.0 ≡ suc (length ks))
    by true e' found = after (split ks vs) found e'
    by false e' found = absurd cc

-- two fronts of one list that are as long as each other
pub same_front : (a b c d : List Val) → a ++ b ≡ c ++ d → length a ≡ length c → (a ≡ c) × (b ≡ d)
same_front [] b [] d e l = (refl, e)
same_front [] b (x ∷ c) d e l = absurd (omega arith)
same_front (y ∷ a) b [] d e l = absurd (omega arith)
same_front (y ∷ a) b (x ∷ c) d e l =
    let tails : a ++ b ≡ c ++ d = cc in
    let heads : y ≡ x = cc in
    let short : length a ≡ length c = omega arith in
    let more = same_front a b c d tails short in
    (ap (λ (z : Val). z ∷ a) heads ∙ ap (λ (l' : List Val). x ∷ l') more.0, more.1)

-- so the arguments of a call are split off
pub arguments_split : (ks : List Ty) (given ops : List Val) (parts : List Val × List Val) → split ks (pushed given ops) ≡ Some parts → length given ≡ length ks
    → (reverse parts.0 ≡ given) × (parts.1 ≡ ops)
arguments_split ks given ops parts e l =
    let found = split_parts ks (pushed given ops) parts e in
    let long : length parts.0 ≡ length (reverse given) = found.1 ∙ sym l ∙ sym (length-reverse given) in
    let same = same_front parts.0 parts.1 (reverse given) ops (found.0 ∙ pushed_is given ops) long in
    (ap reverse same.0 ∙ reverse-reverse given, same.1)

-- a function's parameters are its first locals
pub parameters_length : (p : Program) (f : Function) → length (reverse (take (function_code p f).params (function_code p f).locals)) ≡ length f.params
parameters_length p f = length-reverse _ ∙ firsts f.params
  where
    firsts : (qs : List Param) → length (take (length qs) (map (λ q. slot_kind q.ty) qs ++ kinds_in (form.Block f.body))) ≡ length qs
    firsts qs =
        ap (λ (n : ℕ). length (take n (map (λ q. slot_kind q.ty) qs ++ kinds_in (form.Block f.body)))) (sym (length-map qs (λ q. slot_kind q.ty)))
        ∙ ap length (take-append_seam (map (λ q. slot_kind q.ty) qs) (kinds_in (form.Block f.body)))
        ∙ length-map qs (λ q. slot_kind q.ty)

-- the function of a name has its number
pub numbered : (p : Program) (fs : List Function) (name : Text) (f : Function) → function_named fs name ≡ Some f
    → slice_get (map (λ g. function_code p g) fs) (function_number fs name) ≡ Some (function_code p f)
numbered p [] name f e = absurd cc
numbered p (g ∷ fs) name f e = by (bytes_eq g.name.text name) e (λ e'. numbered p fs name f e')
  where
    by : (b : Bool) → (if b then Some g else function_named fs name) ≡ Some f → (function_named fs name ≡ Some f
        → slice_get (map (λ h. function_code p h) fs) (function_number fs name) ≡ Some (function_code p f))
        → slice_get (function_code p g ∷ map (λ h. function_code p h) fs) (if b then 0 else suc (function_number fs name)) ≡ Some (function_code p f)
    by true same more = ap (λ (o : Option Function). o >>= (λ h. Some (function_code p h))) same
    by false same more = more same

pub not_numbered : (p : Program) (fs : List Function) (name : Text) → function_named fs name ≡ None → slice_get (map (λ g. function_code p g) fs) (function_number fs name) ≡ None
not_numbered p [] name e = refl
not_numbered p (g ∷ fs) name e = by (bytes_eq g.name.text name) e (λ e'. not_numbered p fs name e')
  where
    by : (b : Bool) → (if b then Some g else function_named fs name) ≡ None → (function_named fs name ≡ None → slice_get (map (λ h. function_code p h) fs) (function_number fs name) ≡ None)
        → slice_get (function_code p g ∷ map (λ h. function_code p h) fs) (if b then 0 else suc (function_number fs name)) ≡ None
    by true same more = absurd cc
    by false same more = more same

-- the address of an item is the machine's
pub item_same : (area : Area) (z : ℤ) → machine.item_at area.first (unwrap_or area.items 0) z ≡ item_at area z
item_same area (pos x) = refl
item_same area (negsuc x) = refl
