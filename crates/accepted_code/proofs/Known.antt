-- What the names of an accepted program stand for.
use Rattle.std.proofs.Common.{◌≡◌, ℕ, Bool, true, false, if◌then◌else◌, List, [], ◌∷◌, ◌++◌, map, Option, Some, None, refl, sym, ap, ◌∙◌, subst}
use Rattle.std.specs.Prelude.{is_some}
use Rattle.std.specs.Str.{bytes_eq}
use Rattle.std.specs.Map.{lookup}
use Rattle.std.proofs.lemmas.List.{append_assoc, append-nil}
use Rattle.std.proofs.lemmas.Slice.Eq.{bytes_eq-Decides}
use Rattle.csl_tree.specs.declared.name.Name.{Name}
use Rattle.csl_tree.specs.declared.program.Program.{Program}
use Rattle.csl_tree.specs.declared.program.Shared.{Shared}
use Rattle.csl_tree.specs.declared.program.Param.{Param}
use Rattle.csl_tree.specs.declared.program.ArraySize.{ArraySize}
use Rattle.csl_tree.specs.declared.program.Function.{Function}
use Rattle.cal_terms.specs.declared.kinds.WordKind.{WordKind}
use Rattle.cal_terms.specs.declared.kinds.WordKind.TheVariants.{Ordinary, Tally}
use Rattle.csl_meaning.specs.Effect.{function_named}
use Rattle.type_check.specs.declared.names.Declaration.{Declaration}
use Rattle.type_check.specs.declared.names.Declaration.TheVariants as declared
use Rattle.type_check.specs.declared.names.Signature.{Signature}
use Rattle.type_check.specs.Names.{Names, meant, declare}
use Rattle.type_check.specs.Faults.{stands_for, with_shared, with_params, as_declared, with_own, touches_tally, with_function, with_functions, global_names}
use Rattle.accepted_code.proofs.Lookups.{found_in, found_behind}

-- the function with this name has these parameters and this result
pub record Is (functions : List Function) (name : List ℕ) (d : Signature) : Type 0 where
  pub function : Function
  pub named : function_named functions name ≡ Some function
  pub params : d.params ≡ map (λ q. q.ty) function.params
  pub gives : d.gives ≡ function.gives

-- a name that stands for a function is that of the function with its parameters and its result
abbrev pub Knows : List Function → Names → Type 0
Knows functions names = (name : List ℕ) (d : Signature) → lookup (bytes_eq name) names ≡ Some (declared.Function d) → Is functions name d

-- ---- names that are declared

-- the first of two that is there
abbrev first_named : Option Function → Option Function → Option Function
first_named (Some f) other = Some f
first_named None other = other

-- after a declaration that is no function's the same functions are known
declared_other : (functions : List Function) (names : Names) (name : Name) (d : Declaration) → ((s : Signature) → d ≡ declared.Function s → ⊥) → Knows functions names
    → Knows functions (declare names name d)
declared_other functions names name d other knows = by (is_some (meant names name)) (λ t s e. told t s e)
  where
    told : (t : List ℕ) (s : Signature) → lookup (bytes_eq t) (names ++ (name.text, d) ∷ []) ≡ Some (declared.Function s) → Is functions t s
    told t s e = which (lookup (bytes_eq t) names) (bytes_eq t name.text) (λ e'. knows t s e') (sym (found_behind names t name.text d) ∙ e)
      where
        which : (o : Option Declaration) (b : Bool) → (o ≡ Some (declared.Function s) → Is functions t s) → found_in o b d ≡ Some (declared.Function s) → Is functions t s
        which (Some x) b known e' = known e'
        which None true known e' = absurd (other s cc)
        which None false known e' = absurd cc

    by : (b : Bool) → Knows functions (names ++ (name.text, d) ∷ []) → Knows functions (if b then names else names ++ (name.text, d) ∷ [])
    by true more = knows
    by false more = more

no_function : (size : Option ArraySize) (kind : WordKind) (s : Signature) → stands_for size kind ≡ declared.Function s → ⊥
no_function (Some size) kind s e = cc
no_function None Ordinary s e = cc
no_function None Tally s e = cc

shared_known : (functions : List Function) (shared : List Shared) (names : Names) → Knows functions names → Knows functions (with_shared names shared)
shared_known functions [] names knows = knows
shared_known functions (s ∷ rest) names knows = shared_known functions rest (declare names s.name (stands_for s.size s.kind))
    (declared_other functions names s.name (stands_for s.size s.kind) (no_function s.size s.kind) knows)

pub params_known : (functions : List Function) (qs : List Param) (names : Names) → Knows functions names → Knows functions (with_params names qs)
params_known functions [] names knows = knows
params_known functions (q ∷ qs) names knows = params_known functions qs (declare names q.name (declared.Local q.ty)) (declared_other functions names q.name (declared.Local q.ty) (λ s e. cc) knows)

pub local_known : (functions : List Function) (names : Names) (name : Name) (ty : _) → Knows functions names → Knows functions (declare names name (declared.Local ty))
local_known functions names name ty knows = declared_other functions names name (declared.Local ty) (λ s e. cc) knows

-- ---- functions

-- each function that is named is visible
abbrev Sees : List Function → Names → Type 0
Sees functions names = (name : List ℕ) (f : Function) → function_named functions name ≡ Some f → is_some (lookup (bytes_eq name) names) ≡ true

-- a function behind others is named, if none of them has its name
named_behind : (fs gs : List Function) (name : List ℕ) → function_named (fs ++ gs) name ≡ first_named (function_named fs name) (function_named gs name)
named_behind [] gs name = refl
named_behind (f ∷ fs) gs name = by (bytes_eq f.name.text name) (named_behind fs gs name)
  where
    by : (b : Bool) → function_named (fs ++ gs) name ≡ first_named (function_named fs name) (function_named gs name)
        → (if b then Some f else function_named (fs ++ gs) name) ≡ first_named (if b then Some f else function_named fs name) (function_named gs name)
    by true h = refl
    by false h = h

-- what is known of some functions is known with others behind them
pub known_behind : (fs gs : List Function) (names : Names) → Knows fs names → Knows (fs ++ gs) names
known_behind fs gs names knows name s e =
    let is = knows name s e in
    record { function = is.function; named = named_behind fs gs name ∙ ap (λ (o : Option Function). first_named o (function_named gs name)) is.named; params = is.params; gives = is.gives }

bytes_same : (a b : List ℕ) → bytes_eq a b ≡ true → a ≡ b
bytes_same a b e = (bytes_eq-Decides a b).0 e

bytes_self : (a : List ℕ) → bytes_eq a a ≡ true
bytes_self a = (bytes_eq-Decides a a).1 refl

own_name : (f : Function) (t : List ℕ) → t ≡ f.name.text → function_named (f ∷ []) t ≡ Some f
own_name f t is = ap (λ (b : Bool). if b then Some f else None) (ap (bytes_eq f.name.text) is ∙ bytes_self f.name.text)

nobody : (o : Option Function) → ((g : Function) → o ≡ Some g → false ≡ true) → o ≡ None
nobody None h = refl
nobody (Some g) h = let never : false ≡ true = h g refl in cc

-- what a declared function's name stands for
abbrev signature : Function → Bool → Signature
signature f touches = record { params = map (λ q. q.ty) f.params; gives = f.gives; touches = touches }

is_own : (fs : List Function) (f : Function) (touches : Bool) (t : List ℕ) (s : Signature) → t ≡ f.name.text → function_named fs t ≡ None → signature f touches ≡ s → Is (fs ++ f ∷ []) t s
is_own fs f touches t s is none same =
    record { function = f; named = named_behind fs (f ∷ []) t ∙ ap (λ (o : Option Function). first_named o (function_named (f ∷ []) t)) none ∙ own_name f t is; params = ap (λ (d : Signature). d.params) (sym same); gives = ap (λ (d : Signature). d.gives) (sym same) }

which : (fs : List Function) (f : Function) (touches : Bool) (t : List ℕ) (s : Signature) (o : Option Declaration) (same : Bool)
    → bytes_eq t f.name.text ≡ same → (o ≡ Some (declared.Function s) → Is (fs ++ f ∷ []) t s) → ((g : Function) → function_named fs t ≡ Some g → is_some o ≡ true)
    → found_in o same (as_declared f touches) ≡ Some (declared.Function s) → Is (fs ++ f ∷ []) t s
which fs f touches t s (Some x) same is known seen e = known e
which fs f touches t s None true is known seen e = let the : signature f touches ≡ s = cc in is_own fs f touches t s (bytes_same t f.name.text is) (nobody (function_named fs t) seen) the
which fs f touches t s None false is known seen e = absurd cc

-- with one function more, where it is declared
pub own_known : (fs : List Function) (f : Function) (touches : Bool) (names : Names) → Knows fs names → Sees fs names → Knows (fs ++ f ∷ []) (declare names f.name (as_declared f touches))
own_known fs f touches names knows sees = by (is_some (meant names f.name)) new
  where
    new : Knows (fs ++ f ∷ []) (names ++ (f.name.text, as_declared f touches) ∷ [])
    new t s e = which fs f touches t s (lookup (bytes_eq t) names) (bytes_eq t f.name.text) refl (λ e'. known_behind fs (f ∷ []) names knows t s e') (λ g e'. sees t g e')
        (sym (found_behind names t f.name.text (as_declared f touches)) ∙ e)

    by : (b : Bool) → Knows (fs ++ f ∷ []) (names ++ (f.name.text, as_declared f touches) ∷ []) → Knows (fs ++ f ∷ []) (if b then names else names ++ (f.name.text, as_declared f touches) ∷ [])
    by true more = known_behind fs (f ∷ []) names knows
    by false more = more

seen_still : (names : Names) (name : Name) (d : Declaration) (t : List ℕ) → is_some (lookup (bytes_eq t) names) ≡ true → is_some (lookup (bytes_eq t) (declare names name d)) ≡ true
seen_still names name d t h = by (is_some (meant names name))
  where
    still : (o : Option Declaration) (b : Bool) → is_some o ≡ true → is_some (found_in o b d) ≡ true
    still (Some x) b h' = refl
    still None b h' = cc

    by : (b : Bool) → is_some (lookup (bytes_eq t) (if b then names else names ++ (name.text, d) ∷ [])) ≡ true
    by true = h
    by false = ap is_some (found_behind names t name.text d) ∙ still (lookup (bytes_eq t) names) (bytes_eq t name.text) h

seen_own : (names : Names) (name : Name) (d : Declaration) → is_some (lookup (bytes_eq name.text) (declare names name d)) ≡ true
seen_own names name d = by (is_some (meant names name)) refl
  where
    own : (o : Option Declaration) (b : Bool) → b ≡ true → is_some (found_in o b d) ≡ true
    own (Some x) b is = refl
    own None true is = refl
    own None false is = cc

    by : (b : Bool) → is_some (meant names name) ≡ b → is_some (lookup (bytes_eq name.text) (if b then names else names ++ (name.text, d) ∷ [])) ≡ true
    by true is = is
    by false is = ap is_some (found_behind names name.text name.text d) ∙ own (lookup (bytes_eq name.text) names) (bytes_eq name.text name.text) (bytes_self name.text)

own_seen : (fs : List Function) (f : Function) (touches : Bool) (names : Names) → Sees fs names → Sees (fs ++ f ∷ []) (declare names f.name (as_declared f touches))
own_seen fs f touches names sees t g e = by (function_named fs t) (bytes_eq f.name.text t) refl (λ h is. sees t h is) (sym (named_behind fs (f ∷ []) t) ∙ e)
  where
    by : (o : Option Function) (b : Bool) → bytes_eq f.name.text t ≡ b → ((h : Function) → o ≡ Some h → is_some (lookup (bytes_eq t) names) ≡ true)
        → first_named o (if b then Some f else None) ≡ Some g → is_some (lookup (bytes_eq t) (declare names f.name (as_declared f touches))) ≡ true
    by (Some h) b is seen e' = seen_still names f.name (as_declared f touches) t (seen h refl)
    by None true is seen e' = subst (λ (u : List ℕ). is_some (lookup (bytes_eq u) (declare names f.name (as_declared f touches))) ≡ true) (bytes_same f.name.text t is)
        (seen_own names f.name (as_declared f touches))
    by None false is seen e' = absurd cc

-- ---- all functions

-- known and seen
pub record Stand (fs : List Function) (names : Names) : Type 0 where
  pub knows : Knows fs names
  pub sees : Sees fs names

pub no_functions : (shared : List Shared) → Stand [] (with_shared [] shared)
no_functions shared = record { knows = shared_known [] shared [] (λ name d e. absurd (none name d e)); sees = λ name f e. absurd (nothing name f e) }
  where
    none : (name : List ℕ) (d : Signature) → lookup (bytes_eq name) [] ≡ Some (declared.Function d) → ⊥
    none name d e = cc

    nothing : (name : List ℕ) (f : Function) → function_named [] name ≡ Some f → ⊥
    nothing name f e = cc

pub one_function : (fs : List Function) (f : Function) (touches : Bool) (names : Names) → Stand fs names → Stand (fs ++ f ∷ []) (declare names f.name (as_declared f touches))
one_function fs f touches names stand = record { knows = own_known fs f touches names stand.knows stand.sees; sees = own_seen fs f touches names stand.sees }

-- the functions that are declared after these are known as well
pub functions_known : (fs rest : List Function) (names : Names) → Stand fs names → Knows (fs ++ rest) (with_functions names rest)
functions_known fs [] names stand = subst (λ (l : List Function). Knows l names) (sym (append-nil fs)) stand.knows
functions_known fs (f ∷ rest) names stand =
    subst (λ (l : List Function). Knows l (with_functions (with_function names f) rest)) (append_assoc fs (f ∷ []) rest)
    (functions_known (fs ++ f ∷ []) rest (with_function names f) (one_function fs f (touches_tally (with_own names f) f) names stand))

-- in main each function of the program is known
pub main_knows : (p : Program) → Knows p.functions (global_names p)
main_knows p = functions_known [] p.functions (with_shared [] p.shared) (no_functions p.shared)
