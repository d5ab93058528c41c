-- What the names of an accepted program mean to its code: a function's name is that of the function with its number.
use Rattle.std.proofs.Common.{◌≡◌, ℕ, zero, suc, ◌+◌, ◌<◌, ◌≤◌, Bool, true, false, if◌then◌else◌, List, [], ◌∷◌, ◌++◌, map, take, length, Option, Some, None, refl, sym, ap, ◌∙◌, subst, arith}
use Rattle.std.proofs.Common.{length-append}
use Rattle.std.specs.Prelude.{slice_get}
use Rattle.std.specs.Str.{bytes_eq}
use Rattle.std.specs.Map.{lookup}
use Rattle.std.proofs.Math.Seq.{take-append_seam}
use Rattle.std.proofs.lemmas.List.{append_assoc, append-nil, length-map}
use Rattle.csl_tree.specs.declared.program.Program.{Program}
use Rattle.csl_tree.specs.declared.program.Param.{Param}
use Rattle.csl_tree.specs.declared.program.Function.{Function}
use Rattle.csl_tree.specs.declared.program.Form.TheVariants as variant
use Rattle.csl_meaning.specs.Layout.{Text}
use Rattle.csl_meaning.specs.Effect.{function_named}
use Rattle.type_check.specs.declared.names.Declaration.{Declaration}
use Rattle.type_check.specs.declared.names.Declaration.TheVariants as declared
use Rattle.type_check.specs.declared.names.Signature.{Signature}
use Rattle.type_check.specs.Names.{Names, taken, declare}
use Rattle.type_check.specs.Faults.{IsAccepted, most_params, as_declared, with_shared, with_params, param_faults, with_own, touches_tally, inside_faults, with_function, all_function_faults}
use Rattle.type_check.specs.Faults.{with_functions, global_names}
use Rattle.type_check.proofs.CleanLemmas.{none_in_first, none_in_second}
use Rattle.type_check.proofs.Facts.{accepted-functions, first-function, other-functions, function-params}
use Rattle.bytecode.specs.declared.module.Code.{Code}
use Rattle.compiled_code.specs.Slots.{Slots, with_slot, kind_of}
use Rattle.compiled_code.specs.Sizes.{given_by, kinds_in}
use Rattle.compiled_code.specs.Values.{function_number}
use Rattle.compiled_code.specs.Modules.{function_code, module_of}
use Rattle.compiled_code.specs.Modules as code
use Rattle.accepted_code.proofs.Agrees.{FunctionIs, Means, Agrees}
use Rattle.accepted_code.proofs.Lookups.{bytes_same, bytes_self, bytes_turned, found_in}
use Rattle.accepted_code.proofs.Naming.{Stand, slot_at, not_taken, found_declared, agrees_local}

-- ---- functions behind others

-- one whose name none of the first has is numbered behind them
number_behind : (fs gs : List Function) (name : Text) → function_named fs name ≡ None → function_number (fs ++ gs) name ≡ length fs + function_number gs name
number_behind [] gs name none = omega arith
number_behind (f ∷ fs) gs name none = by (bytes_eq f.name.text name) none (λ h. number_behind fs gs name h)
  where
    by : (b : Bool) → (if b then Some f else function_named fs name) ≡ None → (function_named fs name ≡ None → function_number (fs ++ gs) name ≡ length fs + function_number gs name)
        → (if b then 0 else suc (function_number (fs ++ gs) name)) ≡ suc (length fs) + function_number gs name
    by true e more = absurd cc
    by false e more = let h = more e in omega (arith, h)

-- and found behind them
named_after : (fs gs : List Function) (name : Text) → function_named fs name ≡ None → function_named (fs ++ gs) name ≡ function_named gs name
named_after [] gs name none = refl
named_after (f ∷ fs) gs name none = by (bytes_eq f.name.text name) none (λ h. named_after fs gs name h)
  where
    by : (b : Bool) → (if b then Some f else function_named fs name) ≡ None → (function_named fs name ≡ None → function_named (fs ++ gs) name ≡ function_named gs name)
        → (if b then Some f else function_named (fs ++ gs) name) ≡ function_named gs name
    by true e more = absurd cc
    by false e more = more e

own_number : (fs rest : List Function) (g : Function) (t : Text) → function_named fs t ≡ None → t ≡ g.name.text → function_number (fs ++ g ∷ rest) t ≡ length fs
own_number fs rest g t none is =
    let same : bytes_eq g.name.text t ≡ true = ap (bytes_eq g.name.text) is ∙ bytes_self g.name.text in
    let end : length fs + 0 ≡ length fs = omega arith in
    number_behind fs (g ∷ rest) t none ∙ ap (λ (b : Bool). length fs + (if b then 0 else suc (function_number rest t))) same ∙ end

own_named : (fs rest : List Function) (g : Function) (t : Text) → function_named fs t ≡ None → t ≡ g.name.text → function_named (fs ++ g ∷ rest) t ≡ Some g
own_named fs rest g t none is =
    let same : bytes_eq g.name.text t ≡ true = ap (bytes_eq g.name.text) is ∙ bytes_self g.name.text in
    named_after fs (g ∷ rest) t none ∙ ap (λ (b : Bool). if b then Some g else function_named rest t) same

-- ---- functions that are visible

-- a name that is not visible is that of none of these functions
abbrev pub Sees : List Function → Names → Type 0
Sees fs names = (name : Text) → lookup (bytes_eq name) names ≡ None → function_named fs name ≡ None

-- with one function more, which is declared without a fault
sees_more : (fs : List Function) (g : Function) (touches : Bool) (names : Names) → taken names g.name ≡ [] → Sees fs names → Sees (fs ++ g ∷ []) (declare names g.name (as_declared g touches))
sees_more fs g touches names free sees t none = by (lookup (bytes_eq t) names) (bytes_eq t g.name.text) refl refl (sym (found_declared names g.name (as_declared g touches) t free) ∙ none)
  where
    by : (o : Option Declaration) (b : Bool) → lookup (bytes_eq t) names ≡ o → bytes_eq t g.name.text ≡ b → found_in o b (as_declared g touches) ≡ None → function_named (fs ++ g ∷ []) t ≡ None
    by (Some d) b is e h = absurd cc
    by None true is e h = absurd cc
    by None false is e h = named_after fs (g ∷ []) t (sees t is) ∙ ap (λ (b : Bool). if b then Some g else None) (bytes_turned t g.name.text false e)

-- the name of the first of functions without faults is not taken
first_free : (names : Names) (g : Function) (rest : List Function) → all_function_faults names (g ∷ rest) ≡ [] → taken names g.name ≡ []
first_free names g rest none =
    none_in_first (taken names g.name) (inside_faults (with_own names g) g)
    (none_in_first (taken names g.name ++ inside_faults (with_own names g) g) (all_function_faults (with_function names g) rest) none)

split_on : (fs rest : List Function) (g : Function) (all : List Function) → all ≡ fs ++ g ∷ rest → all ≡ (fs ++ g ∷ []) ++ rest
split_on fs rest g all split = split ∙ sym (append_assoc fs (g ∷ []) rest)

next_place : (fs : List Function) (g : Function) (k : ℕ) → length (fs ++ g ∷ []) + k ≡ length fs + suc k
next_place fs g k = let l = length-append fs (g ∷ []) in omega (arith, l)

-- the function at a place has its number and its name
record Numbered (all : List Function) (k : ℕ) (f : Function) : Type 0 where
  number : function_number all f.name.text ≡ k
  named : function_named all f.name.text ≡ Some f

numbered_from : (all fs rest : List Function) (names : Names) → all ≡ fs ++ rest → Sees fs names → all_function_faults names rest ≡ [] → (k : ℕ) (f : Function) → slice_get rest k ≡ Some f
    → Numbered all (length fs + k) f
numbered_from all fs [] names split sees none k f e = absurd cc
numbered_from all fs (g ∷ rest) names split sees none zero f e =
    let same : g ≡ f = cc in
    let free = sees g.name.text (not_taken names g.name (first_free names g rest none)) in
    let here : length fs ≡ length fs + 0 = omega arith in
    subst (λ (h : Function). Numbered all (length fs + 0) h) same
    (record {
      number = ap (λ (l : List Function). function_number l g.name.text) split ∙ own_number fs rest g g.name.text free refl ∙ here;
      named = ap (λ (l : List Function). function_named l g.name.text) split ∙ own_named fs rest g g.name.text free refl;
    })
numbered_from all fs (g ∷ rest) names split sees none (suc k) f e =
    subst (λ (n : ℕ). Numbered all n f) (next_place fs g k)
    (numbered_from all (fs ++ g ∷ []) rest (with_function names g) (split_on fs rest g all split) (sees_more fs g (touches_tally (with_own names g) g) names (first_free names g rest none) sees)
    (other-functions names g rest none) k f e)

numbered : (p : Program) → IsAccepted p → (k : ℕ) (f : Function) → slice_get p.functions k ≡ Some f → Numbered p.functions k f
numbered p accepted k f e =
    let first : 0 + k ≡ k = omega arith in
    subst (λ (n : ℕ). Numbered p.functions n f) first (numbered_from p.functions [] p.functions (with_shared [] p.shared) refl (λ name none. refl) (accepted-functions p accepted) k f e)

-- in an accepted program the name of the function at a place has the number of this place
pub number_is : (p : Program) → IsAccepted p → (k : ℕ) (f : Function) → slice_get p.functions k ≡ Some f → function_number p.functions f.name.text ≡ k
number_is p accepted k f e = (numbered p accepted k f e).number

-- and it is the name of this function
pub named_is : (p : Program) → IsAccepted p → (k : ℕ) (f : Function) → slice_get p.functions k ≡ Some f → function_named p.functions f.name.text ≡ Some f
named_is p accepted k f e = (numbered p accepted k f e).named

-- ---- what the names of functions mean

-- what a declared function's name stands for
abbrev signature : Function → Bool → Signature
signature f touches = record { params = map (λ q. q.ty) f.params; gives = f.gives; touches = touches }

kinds_twice : (qs : List Param) → map (λ q. kind_of q.ty) qs ≡ map kind_of (map (λ q. q.ty) qs)
kinds_twice [] = refl
kinds_twice (q ∷ qs) = ap (λ l. kind_of q.ty ∷ l) (kinds_twice qs)

module _ (p : Program) where
  code_there : (fs rest : List Function) (g : Function) → slice_get (map (λ f. function_code p f) (fs ++ g ∷ rest)) (length fs) ≡ Some (function_code p g)
  code_there [] rest g = refl
  code_there (f ∷ fs) rest g = code_there fs rest g

  params_kinds : (g : Function) → take (function_code p g).params (function_code p g).locals ≡ map kind_of (map (λ q. q.ty) g.params)
  params_kinds g =
      ap (λ (n : ℕ). take n (map (λ q. kind_of q.ty) g.params ++ kinds_in (variant.Block g.body))) (sym (length-map g.params (λ q. kind_of q.ty)))
      ∙ take-append_seam (map (λ q. kind_of q.ty) g.params) (kinds_in (variant.Block g.body))
      ∙ kinds_twice g.params

  -- a function that stands behind these, and whose name none of them has
  function_is : (fs rest : List Function) (g : Function) (touches : Bool) (visible : ℕ) (t : Text) → p.functions ≡ fs ++ g ∷ rest → function_named fs t ≡ None → t ≡ g.name.text
      → length g.params ≤ most_params → length fs < visible
      → FunctionIs p (module_of p) visible t (signature g touches)
  function_is fs rest g touches visible t split none is few less =
      let number : function_number p.functions t ≡ length fs = ap (λ (l : List Function). function_number l t) split ∙ own_number fs rest g t none is in
      let named : function_named p.functions t ≡ Some g = ap (λ (l : List Function). function_named l t) split ∙ own_named fs rest g t none is in
      let long = length-map g.params (λ q. q.ty) in
      record {
        code = function_code p g;
        there = ap (λ (n : ℕ). slice_get (map (λ f. function_code p f) p.functions) n) number ∙ ap (λ (l : List Function). slice_get (map (λ f. function_code p f) l) (length fs)) split
            ∙ code_there fs rest g;
        params = params_kinds g;
        gives = refl;
        given = ap given_by named;
        few = omega (arith, long, few);
        number = subst (λ (n : ℕ). n < visible) (sym number) less;
      }

  -- where these functions are declared, each name means to the code what it stands for
  record Before (fs : List Function) (names : Names) : Type 0 where
    agrees : (c : Code) (visible : ℕ) → length fs ≤ visible → Agrees p (module_of p) c visible names []
    sees : Sees fs names

  -- with one function more
  before_more : (fs rest : List Function) (g : Function) (touches : Bool) (names : Names) → p.functions ≡ fs ++ g ∷ rest → taken names g.name ≡ [] → length g.params ≤ most_params → Before fs names
      → Before (fs ++ g ∷ []) (declare names g.name (as_declared g touches))
  before_more fs rest g touches names split free few before = record { agrees = told; sees = sees_more fs g touches names free before.sees }
    where
      told : (c : Code) (visible : ℕ) → length (fs ++ g ∷ []) ≤ visible → Agrees p (module_of p) c visible (declare names g.name (as_declared g touches)) []
      told c visible le t =
          let l = length-append fs (g ∷ []) in
          let less : length fs < visible = omega (arith, l, le) in
          let still : length fs ≤ visible = omega (arith, l, le) in
          subst (λ (o : Option Declaration). Means p (module_of p) c visible [] t o) (sym (found_declared names g.name (as_declared g touches) t free))
          (by less (lookup (bytes_eq t) names) (bytes_eq t g.name.text) refl refl (before.agrees c visible still t))
        where
          by : length fs < visible → (o : Option Declaration) (b : Bool) → lookup (bytes_eq t) names ≡ o → bytes_eq t g.name.text ≡ b → Means p (module_of p) c visible [] t o
              → Means p (module_of p) c visible [] t (found_in o b (as_declared g touches))
          by less None true is e h = (refl, function_is fs rest g touches visible t split (before.sees t is) (bytes_same t g.name.text e) few less)
          by less None false is e h = h
          by less (Some d) b is e h = h

  -- what is known inside the function at a place
  pub record Inside (k : ℕ) (f : Function) : Type 0 where
    pub names : Names
    pub agrees : (c : Code) → Agrees p (module_of p) c (k + 1) names []
    pub clean : inside_faults names f ≡ []

  inside_first : (fs rest : List Function) (g : Function) (names : Names) → p.functions ≡ fs ++ g ∷ rest → Before fs names → all_function_faults names (g ∷ rest) ≡ [] → Inside (length fs) g
  inside_first fs rest g names split before none =
      let clean = first-function names g rest none in
      let l = length-append fs (g ∷ []) in
      let le : length (fs ++ g ∷ []) ≤ length fs + 1 = omega (arith, l) in
      let more = before_more fs rest g false names split (first_free names g rest none) (function-params (with_own names g) g clean) before in
      record { names = with_own names g; agrees = λ c. more.agrees c (length fs + 1) le; clean = clean }

  -- behind one function
  before_next : (fs rest : List Function) (g : Function) (names : Names) → p.functions ≡ fs ++ g ∷ rest → Before fs names → all_function_faults names (g ∷ rest) ≡ []
      → Before (fs ++ g ∷ []) (with_function names g)
  before_next fs rest g names split before none =
      before_more fs rest g (touches_tally (with_own names g) g) names split (first_free names g rest none) (function-params (with_own names g) g (first-function names g rest none)) before

  inside_from : (fs rest : List Function) (names : Names) → p.functions ≡ fs ++ rest → Before fs names → all_function_faults names rest ≡ [] → (k : ℕ) (f : Function) → slice_get rest k ≡ Some f
      → Inside (length fs + k) f
  inside_from fs [] names split before none k f e = absurd cc
  inside_from fs (g ∷ rest) names split before none zero f e =
      let same : g ≡ f = cc in
      let here : length fs ≡ length fs + 0 = omega arith in
      subst (λ (h : Function). Inside (length fs + 0) h) same (subst (λ (n : ℕ). Inside n g) here (inside_first fs rest g names split before none))
  inside_from fs (g ∷ rest) names split before none (suc k) f e =
      subst (λ (n : ℕ). Inside n f) (next_place fs g k)
      (inside_from (fs ++ g ∷ []) rest (with_function names g) (split_on fs rest g p.functions split) (before_next fs rest g names split before none) (other-functions names g rest none) k f e)

  -- behind all functions
  before_main : (fs rest : List Function) (names : Names) → p.functions ≡ fs ++ rest → Before fs names → all_function_faults names rest ≡ [] → Before p.functions (with_functions names rest)
  before_main fs [] names split before none = subst (λ (l : List Function). Before l names) (sym (split ∙ append-nil fs)) before
  before_main fs (g ∷ rest) names split before none =
      before_main (fs ++ g ∷ []) rest (with_function names g) (split_on fs rest g p.functions split) (before_next fs rest g names split before none) (other-functions names g rest none)

  -- parameters in the first slots
  pub params_agree : (c : Code) (visible : ℕ) (names : Names) (slots : Slots) (qs : List Param) → Agrees p (module_of p) c visible names slots → param_faults names qs ≡ []
      → Stand c.locals (length slots) (map (λ q. kind_of q.ty) qs)
      → Agrees p (module_of p) c visible (with_params names qs) (code.with_params slots qs)
  params_agree c visible names slots [] agrees none there = agrees
  params_agree c visible names slots (q ∷ qs) agrees none there =
      let free = none_in_first (taken names q.name) (param_faults (declare names q.name (declared.Local q.ty)) qs) none in
      let later = with_slot slots q.name.text (length slots) (kind_of q.ty) in
      let long : length slots + 1 ≡ length later = omega (arith, length-append slots (slot_at q.name.text (length slots) (kind_of q.ty) ∷ [])) in
      params_agree c visible (declare names q.name (declared.Local q.ty)) later qs
      (agrees_local p (module_of p) c visible names slots q.name q.ty (length slots) agrees free there.0)
      (none_in_second (taken names q.name) (param_faults (declare names q.name (declared.Local q.ty)) qs) none)
      (subst (λ (n : ℕ). Stand c.locals n (map (λ r. kind_of r.ty) qs)) long there.1)

  -- where shared names mean what they stand for
  module _ (accepted : IsAccepted p) (shared : (name : Text) (c : Code) (visible : ℕ) → Means p (module_of p) c visible [] name (lookup (bytes_eq name) (with_shared [] p.shared))) where
    before_all : Before [] (with_shared [] p.shared)
    before_all = record { agrees = λ c visible le name. shared name c visible; sees = λ name none. refl }

    -- inside each function the names mean to its code what they stand for
    pub inside_function : (k : ℕ) (f : Function) → slice_get p.functions k ≡ Some f → Inside k f
    inside_function k f e =
        let first : 0 + k ≡ k = omega arith in
        subst (λ (n : ℕ). Inside n f) first (inside_from [] p.functions (with_shared [] p.shared) refl before_all (accepted-functions p accepted) k f e)

    -- so do the names of main
    pub globals_agree : (c : Code) → Agrees p (module_of p) c (length p.functions) (global_names p) []
    globals_agree c = (before_main [] p.functions (with_shared [] p.shared) refl before_all (accepted-functions p accepted)).agrees c (length p.functions) (omega arith)
