-- A declaration without a fault keeps the names of the checks and the slots of the code in agreement.
use Rattle.std.proofs.Common.{◌≡◌, ℕ, zero, suc, ◌+◌, ◌<◌, Bool, true, false, if◌then◌else◌, List, [], ◌∷◌, ◌++◌, length, Option, Some, None, refl, sym, ap, ◌∙◌, subst, arith, append_assoc}
use Rattle.std.proofs.Common.{length-append}
use Rattle.std.specs.Prelude.{is_some, slice_get}
use Rattle.std.specs.Str.{bytes_eq}
use Rattle.std.specs.Map.{lookup}
use Rattle.std.proofs.Math.Seq.{get_or-append_seam}
use Rattle.std.proofs.lemmas.Option.{slice_get-get_or}
use Rattle.csl_tree.specs.declared.name.Name.{Name}
use Rattle.cal_terms.specs.declared.types.Ty.{Ty}
use Rattle.csl_tree.specs.declared.program.Program.{Program}
use Rattle.csl_tree.specs.declared.program.Form.{Form, Declare, Row_of-Stmt, end_of-Stmt, more_of-Stmt}
use Rattle.csl_meaning.specs.Layout.{Text}
use Rattle.type_check.specs.declared.fault.CheckKind.TheVariants.{NameTaken}
use Rattle.type_check.specs.declared.body.Here.{Here}
use Rattle.type_check.specs.declared.names.Declaration.{Declaration}
use Rattle.type_check.specs.declared.names.Declaration.TheVariants as declared
use Rattle.type_check.specs.Names.{Names, meant, taken, declare, of_ty}
use Rattle.type_check.specs.Expressions.{value_faults}
use Rattle.type_check.specs.Bodies.{after, after_row}
use Rattle.type_check.specs.Statements.{faults, row_faults}
use Rattle.type_check.proofs.CleanLemmas.{none_in_first, none_in_second, none_if}
use Rattle.bytecode.specs.declared.module.Code.{Code}
use Rattle.bytecode.specs.declared.module.Module.{Module}
use Rattle.accepted_code.proofs.Lookups.{bytes_same, bytes_turned, found_in, found_behind}
use Rattle.compiled_code.specs.Slots.{Slot, Slots, slot_of, with_slot, kind_of}
use Rattle.compiled_code.specs.Sizes.{kinds_in, kinds_in_row}
use Rattle.compiled_code.specs.Places.{slots_after, slots_after_row}
use Rattle.accepted_code.proofs.Agrees.{Means, Agrees}

-- ---- kinds that stand among the locals of a code

-- these kinds stand in the list at this place and those behind it
abbrev pub Stand : List Ty → ℕ → List Ty → Type 0
Stand locals at [] = Unit {0}
Stand locals at (k ∷ ks) = (slice_get locals at ≡ Some k) × Stand locals (at + 1) ks

pub stand_front : (locals : List Ty) (at : ℕ) (a b : List Ty) → Stand locals at (a ++ b) → Stand locals at a
stand_front locals at [] b h = tt
stand_front locals at (k ∷ a) b h = (h.0, stand_front locals (at + 1) a b h.1)

pub stand_back : (locals : List Ty) (at : ℕ) (a b : List Ty) → Stand locals at (a ++ b) → Stand locals (at + length a) b
stand_back locals at [] b h = let here : at ≡ at + 0 = omega arith in subst (λ (n : ℕ). Stand locals n b) here h
stand_back locals at (k ∷ a) b h =
    let there : at + 1 + length a ≡ at + suc (length a) = omega arith in
    subst (λ (n : ℕ). Stand locals n b) there (stand_back locals (at + 1) a b h.1)

-- kinds stand behind those that are written before them
pub stands_behind : (ks pre : List Ty) → Stand (pre ++ ks) (length pre) ks
stands_behind [] pre = tt
stands_behind (k ∷ ks) pre =
    let within : length pre < length (pre ++ k ∷ ks) = omega (arith, length-append pre (k ∷ ks)) in
    let here = slice_get-get_or (pre ++ k ∷ ks) (length pre) k within ∙ ap Some (get_or-append_seam pre k ks k) in
    let n : length (pre ++ k ∷ []) ≡ length pre + 1 = omega (arith, length-append pre (k ∷ [])) in
    let others = stands_behind ks (pre ++ k ∷ []) in
    let others' = subst (λ (l : List Ty). Stand l (length (pre ++ k ∷ [])) ks) (append_assoc pre (k ∷ []) ks) others in
    (here, subst (λ (i : ℕ). Stand (pre ++ k ∷ ks) i ks) n others')

-- kinds that stand in a list stand in it with others behind
pub stands_still : (locals more : List Ty) (at : ℕ) (ks : List Ty) → Stand locals at ks → Stand (locals ++ more) at ks
stands_still locals more at [] h = tt
stands_still locals more at (k ∷ ks) h = (longer locals at h.0, stands_still locals more (at + 1) ks h.1)
  where
    longer : (l : List Ty) (n : ℕ) → slice_get l n ≡ Some k → slice_get (l ++ more) n ≡ Some k
    longer [] n e = absurd cc
    longer (x ∷ l) zero e = e
    longer (x ∷ l) (suc n) e = longer l n e

-- ---- names

-- a local's slot
abbrev pub slot_at : Text → ℕ → Ty → Slot
slot_at name number kind = record { name = name; number = number; kind = kind }

-- a slot is found behind others, if none of them has its name
pub slot_behind : (slots : Slots) (name other : Text) (number : ℕ) (kind : Ty) → slot_of (with_slot slots other number kind) name ≡ found_in (slot_of slots name) (bytes_eq other name)
    (slot_at other number kind)
slot_behind [] name other number kind = by (bytes_eq other name)
  where
    by : (b : Bool) → (if b then Some (slot_at other number kind) else None) ≡ found_in None b (slot_at other number kind)
    by true = refl
    by false = refl
slot_behind (s ∷ slots) name other number kind = by (bytes_eq s.name name) (slot_behind slots name other number kind)
  where
    by : (b : Bool) → slot_of (with_slot slots other number kind) name ≡ found_in (slot_of slots name) (bytes_eq other name) (slot_at other number kind)
        → (if b then Some s else slot_of (with_slot slots other number kind) name) ≡ found_in (if b then Some s else slot_of slots name) (bytes_eq other name) (slot_at other number kind)
    by true h = refl
    by false h = h

-- a name that is not taken is not visible
pub not_taken : (names : Names) (name : Name) → taken names name ≡ [] → lookup (bytes_eq name.text) names ≡ None
not_taken names name e = by (lookup (bytes_eq name.text) names) (none_if (is_some (meant names name)) NameTaken name.at e)
  where
    by : (o : Option Declaration) → is_some o ≡ false → o ≡ None
    by None h = refl
    by (Some d) h = cc

-- so it is declared behind the others
pub declared_last : (names : Names) (name : Name) (d : Declaration) → taken names name ≡ [] → declare names name d ≡ names ++ (name.text, d) ∷ []
declared_last names name d e = ap (λ (b : Bool). if b then names else names ++ (name.text, d) ∷ []) (none_if (is_some (meant names name)) NameTaken name.at e)

-- and a name after it is found among the others, or is its own
pub found_declared : (names : Names) (name : Name) (d : Declaration) (t : Text) → taken names name ≡ []
    → lookup (bytes_eq t) (declare names name d) ≡ found_in (lookup (bytes_eq t) names) (bytes_eq t name.text) d
found_declared names name d t e = ap (λ (l : Names). lookup (bytes_eq t) l) (declared_last names name d e) ∙ found_behind names t name.text d

-- a visible name is another one than one that is not visible
pub is_other : (names : Names) (name t : Text) (d : Declaration) → lookup (bytes_eq name) names ≡ None → lookup (bytes_eq t) names ≡ Some d → bytes_eq t name ≡ false
is_other names name t d none some = by (bytes_eq t name) refl
  where
    by : (b : Bool) → bytes_eq t name ≡ b → bytes_eq t name ≡ false
    by false e = e
    by true e = let same : lookup (bytes_eq name) names ≡ Some d = ap (λ (u : Text). lookup (bytes_eq u) names) (sym (bytes_same t name e)) ∙ some in cc

module _ (p : Program) (m : Module) (c : Code) (visible : ℕ) where
  -- what a name means, by the slot that it has
  means_same : (slots later : Slots) (t : Text) (o : Option Declaration) → slot_of later t ≡ slot_of slots t → Means p m c visible slots t o → Means p m c visible later t o
  means_same slots later t None e h = e ∙ h
  means_same slots later t (Some declared.Word) e h = (e ∙ h.0, h.1)
  means_same slots later t (Some declared.Tally) e h = (e ∙ h.0, h.1)
  means_same slots later t (Some declared.Array) e h = (e ∙ h.0, h.1)
  means_same slots later t (Some (declared.Local ty)) e h = record { slot = h.slot; found = e ∙ h.found; right = h.right; local = h.local }
  means_same slots later t (Some (declared.Function d)) e h = (e ∙ h.0, h.1)

  -- after the declaration of a local without a fault
  pub agrees_local : (names : Names) (slots : Slots) (name : Name) (ty : Ty) (number : ℕ) → Agrees p m c visible names slots → taken names name ≡ [] → slice_get c.locals number ≡ Some (kind_of ty)
      → Agrees p m c visible (declare names name (declared.Local ty)) (with_slot slots name.text number (kind_of ty))
  agrees_local names slots name ty number agrees free there t =
      subst (λ (o : Option Declaration). Means p m c visible (with_slot slots name.text number (kind_of ty)) t o) (sym (found_declared names name (declared.Local ty) t free))
      (by (lookup (bytes_eq t) names) (bytes_eq t name.text) refl refl (agrees t))
    where
      own : Slot
      own = record { name = name.text; number = number; kind = kind_of ty }

      old : (b : Bool) → bytes_eq t name.text ≡ b → slot_of (with_slot slots name.text number (kind_of ty)) t ≡ found_in (slot_of slots t) b own
      old b e = slot_behind slots t name.text number (kind_of ty) ∙ ap (λ (x : Bool). found_in (slot_of slots t) x own) (bytes_turned t name.text b e)

      unchanged : bytes_eq t name.text ≡ false → slot_of (with_slot slots name.text number (kind_of ty)) t ≡ slot_of slots t
      unchanged e = old false e ∙ none (slot_of slots t)
        where
          none : (o : Option Slot) → found_in o false own ≡ o
          none None = refl
          none (Some s) = refl

      by : (o : Option Declaration) (b : Bool) → lookup (bytes_eq t) names ≡ o → bytes_eq t name.text ≡ b → Means p m c visible slots t o
          → Means p m c visible (with_slot slots name.text number (kind_of ty)) t (found_in o b (declared.Local ty))
      by None true is e h = record { slot = own; found = old true e ∙ ap (λ (o : Option Slot). found_in o true own) h; right = refl; local = there }
      by None false is e h = unchanged e ∙ h
      by (Some d) b is e h = means_same slots (with_slot slots name.text number (kind_of ty)) t (Some d) (unchanged (is_other names name.text t d (not_taken names name free) is)) h

  module _ (globals : Names) (here : Here) where
    -- after a statement without faults, whose local has its slot
    pub after_agrees : (names : Names) (slots : Slots) (at slot : ℕ) (f : Form) → Agrees p m c visible names slots → faults globals here names at f ≡ [] → Stand c.locals slot (kinds_in f)
        → Agrees p m c visible (after names f) (slots_after slots slot f)
    after_agrees names slots at slot (Declare ty name e) agrees none there = agrees_local names slots name ty slot agrees
        (none_in_second (value_faults here.body names (of_ty ty) e) (taken names name) none) there.0
    after_agrees names slots at slot _ agrees none there = agrees

    -- after statements without faults
    pub after_row_agrees : {n : _} (names : Names) (slots : Slots) (slot : ℕ) (row : Row_of-Stmt n) → Agrees p m c visible names slots → row_faults globals here names row ≡ []
        → Stand c.locals slot (kinds_in_row row)
        → Agrees p m c visible (after_row names row) (slots_after_row slots slot row)
    after_row_agrees names slots slot end_of-Stmt agrees none there = agrees
    after_row_agrees names slots slot (more_of-Stmt at f rest) agrees none there =
        after_row_agrees (after names f) (slots_after slots slot f) (slot + length (kinds_in f)) rest
        (after_agrees names slots at slot f agrees (none_in_first (faults globals here names at f) (row_faults globals here (after names f) rest) none)
        (stand_front c.locals slot (kinds_in f) (kinds_in_row rest) there))
        (none_in_second (faults globals here names at f) (row_faults globals here (after names f) rest) none)
        (stand_back c.locals slot (kinds_in f) (kinds_in_row rest) there)
