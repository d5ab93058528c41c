-- A tree in which a routine uses no tally word has code that reads and sets none, and calls no function that does.
use Rattle.std.proofs.Common.{◌≡◌, ℕ, zero, suc, ◌+◌, Bool, true, false, ◌||◌, if◌then◌else◌, List, [], ◌∷◌, ◌++◌, map, Option, Some, None, refl, sym, subst}
use Rattle.std.specs.Prelude.{not, slice_get, is_some}
use Rattle.std.specs.List.{AllByRecursion, list_any}
use Rattle.std.specs.Str.{bytes_eq}
use Rattle.std.specs.Map.{lookup}
use Rattle.csl_tree.specs.declared.name.Name.{Name}
use Rattle.csl_tree.specs.declared.program.Program.{Program}
use Rattle.csl_tree.specs.declared.program.Param.{Param}
use Rattle.cal_terms.specs.declared.types.Ty.{Ty}
use Rattle.cal_terms.specs.declared.types.Gives.{Gives}
use Rattle.cal_terms.specs.declared.types.Gives.TheVariants as gives
use Rattle.csl_tree.specs.declared.program.UnaryOp.{UnaryOp}
use Rattle.csl_tree.specs.declared.program.UnaryOp.TheVariants.{Neg, Not}
use Rattle.csl_tree.specs.declared.program.BinaryOp.{BinaryOp}
use Rattle.csl_tree.specs.declared.program.BinaryOp.TheVariants.{Add, Sub, Mul, Div, Rem, Eq, Ne, Lt, Le, Gt, Ge, And, Or}
use Rattle.csl_tree.specs.declared.program.Expr.{Expr}
use Rattle.csl_tree.specs.declared.program.Node.{Node, Number, Truth, Read, CallOf, Unary', Binary', Paren', Row_of-Expr, end_of-Expr, more_of-Expr}
use Rattle.csl_tree.specs.declared.program.Place.{Place, Place', None', Some'}
use Rattle.csl_tree.specs.declared.program.Call.{Call, Call'}
use Rattle.csl_tree.specs.declared.program.Arm.{Arm'}
use Rattle.csl_tree.specs.declared.program.Form.{Form, Declare, Set, AddTo, If', While', For', Break, Continue, Return, Assert, Block', Print, Par', Row_of-Arm, end_of-Arm, more_of-Arm, Row_of-Stmt}
use Rattle.csl_tree.specs.declared.program.Form.{end_of-Stmt, more_of-Stmt, Held-Form-If-1}
use Rattle.csl_tree.specs.declared.program.Form as form
use Rattle.csl_meaning.specs.declared.state.Area.{Area}
use Rattle.csl_meaning.specs.Layout.{Text, area_of}
use Rattle.csl_meaning.specs.Value as value
use Rattle.csl_meaning.specs.Effect.{function_named}
use Rattle.type_check.specs.declared.fault.Fault.{Fault}
use Rattle.type_check.specs.declared.fault.CheckKind.TheVariants.{WrongReturn, OnlyInMain, TallyUsed}
use Rattle.type_check.specs.declared.body.Body.{Body}
use Rattle.type_check.specs.declared.body.Body.TheVariants.{Routine}
use Rattle.type_check.specs.declared.body.Here.{Here}
use Rattle.type_check.specs.declared.names.Declaration.{Declaration}
use Rattle.type_check.specs.declared.names.Declaration.TheVariants as declared
use Rattle.type_check.specs.declared.names.Typed.{Typed}
use Rattle.type_check.specs.declared.names.Typed.TheVariants as typed
use Rattle.type_check.specs.Listed.{fault, fault_if, beyond, is_tally_used}
use Rattle.type_check.specs.Names.{Names, meant, taken, declare, of_ty, wanted, as_scalar, as_call, use_faults, is_tally, call_touches, params_of}
use Rattle.type_check.specs.Expressions.{place_type, part_of, value_faults, tally_faults, place_tally, place_faults, call_faults, argument_faults, boxed_faults, node_faults}
use Rattle.type_check.specs.Bodies.{after, after_row}
use Rattle.type_check.specs.Statements.{is_main, no_bool, item_at, most_items, return_faults, result_of, blocks_at, most_blocks, faults, row_faults, arm_faults, last_faults, block_faults}
use Rattle.type_check.specs.Faults as checked
use Rattle.type_check.proofs.CleanLemmas.{none_in_first, none_in_second}
use Rattle.bytecode.specs.declared.instr.Instr.{Instr}
use Rattle.bytecode.specs.declared.instr.Instr.TheVariants as i
use Rattle.bytecode.specs.declared.module.Module.{Module}
use Rattle.code_verify.specs.Rules.{IsTally}
use Rattle.compiled_code.specs.Slots.{Slot, Slots, slot_of, with_slot, kind_of}
use Rattle.compiled_code.specs.Sizes.{boxed_size, given_by}
use Rattle.compiled_code.specs.Places.{slots_after, slots_after_row}
use Rattle.compiled_code.specs.Values.{unary_instr, binary_instr, truth_instr, read_instr, function_number, binary_code, value_code, read_code, call_code, boxed_code, values_code, code_of}
use Rattle.compiled_code.specs.Statements.{At, Exits, store_instr, add_code, drop_code, set_code, add_to_code, return_code, statement_code, form_code, row_code, arms_code, last_code}
use Rattle.compiled_code.specs.Modules.{with_params}
use Rattle.accepted_code.proofs.Agrees.{WordIs}
use Rattle.accepted_code.proofs.Lookups.{bytes_turned, found_in, found_behind}

-- ---- faults of used tally words

-- none of these faults is that of a used tally word
pub record NoneUsed (xs : List Fault) : Type 0 where
  pub none : list_any (λ x. is_tally_used x.kind) xs ≡ false

unused_first : (xs ys : List Fault) → NoneUsed (xs ++ ys) → NoneUsed xs
unused_first xs ys u = record { none = by xs u.none }
  where
    head : (b c d : Bool) → (c ≡ false → d ≡ false) → b || c ≡ false → b || d ≡ false
    head true c d go h = h
    head false c d go h = go h

    by : (xs : List Fault) → list_any (λ x. is_tally_used x.kind) (xs ++ ys) ≡ false → list_any (λ x. is_tally_used x.kind) xs ≡ false
    by [] h = refl
    by (x ∷ xs) h = head (is_tally_used x.kind) (list_any (λ x. is_tally_used x.kind) (xs ++ ys)) (list_any (λ x. is_tally_used x.kind) xs) (by xs) h

unused_second : (xs ys : List Fault) → NoneUsed (xs ++ ys) → NoneUsed ys
unused_second xs ys u = record { none = by xs u.none }
  where
    tail : (b c : Bool) → b || c ≡ false → c ≡ false
    tail true c h = cc
    tail false c h = h

    by : (xs : List Fault) → list_any (λ x. is_tally_used x.kind) (xs ++ ys) ≡ false → list_any (λ x. is_tally_used x.kind) ys ≡ false
    by [] h = h
    by (x ∷ xs) h = by xs (tail (is_tally_used x.kind) (list_any (λ x. is_tally_used x.kind) (xs ++ ys)) h)

unused_if : (b : Bool) (at : ℕ) → NoneUsed (fault_if b TallyUsed at) → b ≡ false
unused_if true at u = u.none
unused_if false at u = refl

-- ---- slots

slot_behind : (slots : Slots) (s : Slot) (t : Text) → slot_of (slots ++ s ∷ []) t ≡ None → (slot_of slots t ≡ None) × (bytes_eq s.name t ≡ false)
slot_behind [] s t e = (refl, by (bytes_eq s.name t) e)
  where
    by : (b : Bool) → (if b then Some s else None) ≡ None → b ≡ false
    by true h = cc
    by false h = refl
slot_behind (x ∷ slots) s t e = by (bytes_eq x.name t) e (slot_behind slots s t)
  where
    by : (b : Bool) → (if b then Some x else slot_of (slots ++ s ∷ []) t) ≡ None → (slot_of (slots ++ s ∷ []) t ≡ None → (slot_of slots t ≡ None) × (bytes_eq s.name t ≡ false))
        → ((if b then Some x else slot_of slots t) ≡ None) × (bytes_eq s.name t ≡ false)
    by true h go = absurd (never h)
      where
        never : Some x ≡ None → ⊥
        never h' = cc
    by false h go = go h

abbrev slot_for : Name → ℕ → Ty → Slot
slot_for name number kind = record { name = name.text; number = number; kind = kind }

-- a place of a body, inside a loop or not
abbrev here_in : Body → Bool → Here
here_in b looped = record { body = b; looped = looped }

-- the code of the index of a place, where it has one
abbrev index_code : Program → Slots → Place → ℕ → List Instr
index_code p slots (Place' name None') at = []
index_code p slots (Place' name (Some' shape index)) at = boxed_code p slots index at

module _ (p : Program) (m : Module) (calm : ℕ → Type 0) where
  -- ---- what is quiet

  -- an instruction that reads and sets no tally word, and calls calm functions only
  abbrev pub IsQuiet : Instr → Type 0
  IsQuiet (i.Word a) = IsTally m a → ⊥
  IsQuiet (i.Put a) = IsTally m a → ⊥
  IsQuiet (i.Call f) = calm f
  IsQuiet _ = Unit {0}

  pub record AreQuiet (is : List Instr) : Type 0 where
    pub each : AllByRecursion IsQuiet is

  nothing : AreQuiet []
  nothing = record { each = tt }

  -- one instruction in front
  pub also : (x : Instr) (xs : List Instr) → IsQuiet x → AreQuiet xs → AreQuiet (x ∷ xs)
  also x xs quiet h = record { each = (quiet, h.each) }

  pub one : (x : Instr) → IsQuiet x → AreQuiet (x ∷ [])
  one x quiet = record { each = (quiet, tt) }

  -- one piece of code behind another
  pub joined : (xs ys : List Instr) → AreQuiet xs → AreQuiet ys → AreQuiet (xs ++ ys)
  joined xs ys h k = record { each = by xs h.each }
    where
      by : (xs : List Instr) → AllByRecursion IsQuiet xs → AllByRecursion IsQuiet (xs ++ ys)
      by [] all = k.each
      by (x ∷ xs) all = (all.0, by xs all.1)

  -- the instruction at a place of quiet code is quiet
  pub quiet_at : (is : List Instr) (place : ℕ) (instr : Instr) → slice_get is place ≡ Some instr → AreQuiet is → IsQuiet instr
  quiet_at is place instr e h = by is place e h.each
    where
      none : None ≡ Some instr → ⊥
      none e' = cc

      by : (is : List Instr) (place : ℕ) → slice_get is place ≡ Some instr → AllByRecursion IsQuiet is → IsQuiet instr
      by [] place e' all = absurd (none e')
      by (x ∷ is) zero e' all = let same : x ≡ instr = cc in subst (λ (y : Instr). IsQuiet y) same all.0
      by (x ∷ is) (suc place) e' all = by is place e' all.1

  -- ---- what names stand for

  -- a word is no tally word, a local has a slot, and a function that uses no tally word is calm
  abbrev pub Covered : Slots → Text → Option Declaration → Type 0
  Covered slots name None = Unit {0}
  Covered slots name (Some declared.Word) = WordIs p m name
  Covered slots name (Some declared.Tally) = Unit {0}
  Covered slots name (Some declared.Array) = Unit {0}
  Covered slots name (Some (declared.Local ty)) = slot_of slots name ≡ None → ⊥
  Covered slots name (Some (declared.Function d)) = d.touches ≡ false → calm (function_number p.functions name)

  -- so it is for each name
  abbrev pub Covers : Names → Slots → Type 0
  Covers names slots = (name : Text) → Covered slots name (lookup (bytes_eq name) names)

  covered_still : (slots : Slots) (s : Slot) (t : Text) (o : Option Declaration) → Covered slots t o → Covered (slots ++ s ∷ []) t o
  covered_still slots s t None h = tt
  covered_still slots s t (Some declared.Word) h = h
  covered_still slots s t (Some declared.Tally) h = tt
  covered_still slots s t (Some declared.Array) h = tt
  covered_still slots s t (Some (declared.Local ty)) h = λ e. h (slot_behind slots s t e).0
  covered_still slots s t (Some (declared.Function d)) h = h

  -- after the declaration of a local
  pub covers_local : (names : Names) (slots : Slots) (name : Name) (ty : Ty) (number : ℕ) (kind : Ty) → Covers names slots
      → Covers (declare names name (declared.Local ty)) (with_slot slots name.text number kind)
  covers_local names slots name ty number kind covers t = by (is_some (meant names name))
    where
      clash : bytes_eq name.text t ≡ true → bytes_eq name.text t ≡ false → ⊥
      clash yes' no' = cc

      there : (o : Option Declaration) (b : Bool) → bytes_eq t name.text ≡ b → Covered slots t o → Covered (slots ++ slot_for name number kind ∷ []) t (found_in o b (declared.Local ty))
      there (Some d) b is h = covered_still slots (slot_for name number kind) t (Some d) h
      there None true is h = λ e. clash (bytes_turned t name.text true is) (slot_behind slots (slot_for name number kind) t e).1
      there None false is h = tt

      by : (b : Bool) → Covered (slots ++ slot_for name number kind ∷ []) t (lookup (bytes_eq t) (if b then names else names ++ (name.text, declared.Local ty) ∷ []))
      by true = covered_still slots (slot_for name number kind) t (lookup (bytes_eq t) names) (covers t)
      by false =
          subst (λ (o : Option Declaration). Covered (slots ++ slot_for name number kind ∷ []) t o) (sym (found_behind names t name.text (declared.Local ty)))
          (there (lookup (bytes_eq t) names) (bytes_eq t name.text) refl (covers t))

  -- after the parameters of a function
  pub covers_params : (qs : List Param) (names : Names) (slots : Slots) → Covers names slots → Covers (checked.with_params names qs) (with_params slots qs)
  covers_params [] names slots covers = covers
  covers_params (q ∷ qs) names slots covers = covers_params qs (declare names q.name (declared.Local q.ty)) (with_slot slots q.name.text _ (kind_of q.ty))
      (covers_local names slots q.name q.ty _ (kind_of q.ty) covers)

  -- after a statement
  covers_after : (names : Names) (slots : Slots) (slot : ℕ) (f : Form) → Covers names slots → Covers (after names f) (slots_after slots slot f)
  covers_after names slots slot (Declare ty name e) covers = covers_local names slots name ty slot (kind_of ty) covers
  covers_after names slots slot _ covers = covers

  covers_after_row : {n : _} (names : Names) (slots : Slots) (slot : ℕ) (row : Row_of-Stmt n) → Covers names slots → Covers (after_row names row) (slots_after_row slots slot row)
  covers_after_row names slots slot end_of-Stmt covers = covers
  covers_after_row names slots slot (more_of-Stmt where' f rest) covers = covers_after_row (after names f) (slots_after slots slot f) _ rest (covers_after names slots slot f covers)

  -- ---- single instructions

  truth_quiet : (b : Bool) → IsQuiet (truth_instr b)
  truth_quiet true = tt
  truth_quiet false = tt

  unary_quiet : (op : UnaryOp) → IsQuiet (unary_instr op)
  unary_quiet Neg = tt
  unary_quiet Not = tt

  operator_quiet : (op : BinaryOp) → IsQuiet (binary_instr op)
  operator_quiet Add = tt
  operator_quiet Sub = tt
  operator_quiet Mul = tt
  operator_quiet Div = tt
  operator_quiet Rem = tt
  operator_quiet Eq = tt
  operator_quiet Ne = tt
  operator_quiet Lt = tt
  operator_quiet Le = tt
  operator_quiet Gt = tt
  operator_quiet Ge = tt
  operator_quiet And = tt
  operator_quiet Or = tt

  binary_quiet : (op : BinaryOp) (at n k : ℕ) (left : List Instr) (right : ℕ → List Instr) → AreQuiet left → ((there : ℕ) → AreQuiet (right there)) → AreQuiet (binary_code op at n k left right)
  binary_quiet And at n k left right h g =
      joined (left ++ i.Branch (at + n + 1 + k + 1) ∷ right (at + n + 1)) (i.Jump (at + n + 1 + k + 2) ∷ i.False ∷ [])
      (joined left (i.Branch (at + n + 1 + k + 1) ∷ right (at + n + 1)) h (also _ _ tt (g (at + n + 1))))
      (also _ _ tt (one _ tt))
  binary_quiet Or at n k left right h g = joined left (i.Branch (at + n + 3) ∷ i.True ∷ i.Jump (at + n + 3 + k) ∷ right (at + n + 3)) h (also _ _ tt (also _ _ tt (also _ _ tt (g (at + n + 3)))))
  binary_quiet op at n k left right h g = joined (left ++ right (at + n)) (binary_instr op ∷ []) (joined left (right (at + n)) h (g (at + n))) (one _ (operator_quiet op))

  add_quiet : (s : Option Slot) (area : Area) → AreQuiet (add_code s area)
  add_quiet (Some s) area = also _ _ tt (also _ _ tt (one _ tt))
  add_quiet None area = one _ tt

  drop_quiet : (g : Gives) → AreQuiet (drop_code g)
  drop_quiet gives.Nothing = nothing
  drop_quiet gives.Int = one _ tt
  drop_quiet gives.Bool = one _ tt

  -- a name that a routine reads or sets without a fault, and that is no local, is no tally word
  no_tally : (slots : Slots) (name : Name) (o : Option Declaration) → Covered slots name.text o → slot_of slots name.text ≡ None → use_faults name o (as_scalar o) ≡ []
      → NoneUsed (tally_faults Routine name (is_tally o)) → IsTally m (value.declared (area_of p.shared name.text)).first → ⊥
  no_tally slots name None covered none used tally t = cc
  no_tally slots name (Some declared.Word) covered none used tally t = covered.plain (subst (λ (o : Option Area). IsTally m (value.declared o).first) covered.found t)
  no_tally slots name (Some declared.Tally) covered none used tally t = let never = unused_if true name.at tally in cc
  no_tally slots name (Some declared.Array) covered none used tally t = cc
  no_tally slots name (Some (declared.Local ty)) covered none used tally t = covered none
  no_tally slots name (Some (declared.Function d)) covered none used tally t = cc

  name_quiet : (slots : Slots) (name : Name) (o : Option Declaration) (s : Option Slot) → slot_of slots name.text ≡ s → Covered slots name.text o → use_faults name o (as_scalar o) ≡ []
      → NoneUsed (tally_faults Routine name (is_tally o)) → IsQuiet (read_instr s (value.declared (area_of p.shared name.text)))
  name_quiet slots name o (Some s) is covered used tally = tt
  name_quiet slots name o None is covered used tally = no_tally slots name o covered is used tally

  store_quiet : (slots : Slots) (name : Name) (o : Option Declaration) (s : Option Slot) → slot_of slots name.text ≡ s → Covered slots name.text o → use_faults name o (as_scalar o) ≡ []
      → NoneUsed (tally_faults Routine name (is_tally o)) → IsQuiet (store_instr s (value.declared (area_of p.shared name.text)))
  store_quiet slots name o (Some s) is covered used tally = tt
  store_quiet slots name o None is covered used tally = no_tally slots name o covered is used tally

  called_quiet : (slots : Slots) (name : Name) (o : Option Declaration) → Covered slots name.text o → use_faults name o (as_call o) ≡ [] → NoneUsed (tally_faults Routine name (call_touches o))
      → calm (function_number p.functions name.text)
  called_quiet slots name None covered used tally = absurd cc
  called_quiet slots name (Some declared.Word) covered used tally = absurd cc
  called_quiet slots name (Some declared.Tally) covered used tally = absurd cc
  called_quiet slots name (Some declared.Array) covered used tally = absurd cc
  called_quiet slots name (Some (declared.Local ty)) covered used tally = absurd cc
  called_quiet slots name (Some (declared.Function d)) covered used tally = covered (unused_if d.touches name.at tally)

  -- ---- expressions

  module _ (b : Body) (names : Names) (slots : Slots) (covers : Covers names slots) where
    mutual
      -- an expression without faults, which as a routine's uses no tally word
      pub value_quiet : (n : Node) (at : ℕ) → node_faults b names n ≡ [] → NoneUsed (node_faults Routine names n) → AreQuiet (value_code p slots n at)
      value_quiet (Number z) at e u = one _ tt
      value_quiet (Truth x) at e u = one _ (truth_quiet x)
      value_quiet (Read place) at e u = read_quiet place at (none_in_first (place_faults b names place) (place_tally b names place) e) u
      value_quiet (CallOf call) at e u = call_quiet call at e u
      value_quiet (Unary' op shape a) at e u = joined (boxed_code p slots a at) (unary_instr op ∷ [])
          (boxed_quiet a at (none_in_first (boxed_faults b names a) _ e) (unused_first (boxed_faults Routine names a) _ u)) (one _ (unary_quiet op))
      value_quiet (Binary' op shape a shape' c) at e u =
          let own = none_in_first (boxed_faults b names a ++ boxed_faults b names c) _ e in
          let none = unused_first (boxed_faults Routine names a ++ boxed_faults Routine names c) _ u in
          binary_quiet op at (boxed_size a) (boxed_size c) (boxed_code p slots a at) (λ there. boxed_code p slots c there)
          (boxed_quiet a at (none_in_first (boxed_faults b names a) (boxed_faults b names c) own) (unused_first (boxed_faults Routine names a) (boxed_faults Routine names c) none))
          (λ there. boxed_quiet c there (none_in_second (boxed_faults b names a) (boxed_faults b names c) own) (unused_second (boxed_faults Routine names a) (boxed_faults Routine names c) none))
      value_quiet (Paren' shape a) at e u = boxed_quiet a at e u

      read_quiet : (place : Place) (at : ℕ) → place_faults b names place ≡ [] → NoneUsed (place_faults Routine names place ++ place_tally Routine names place) → AreQuiet (read_code p slots place at)
      read_quiet (Place' name None') at e u = one _ (name_quiet slots name (meant names name) (slot_of slots name.text) refl (covers name.text) e
          (unused_second (use_faults name (meant names name) (as_scalar (meant names name))) _ u))
      read_quiet (Place' name (Some' shape index)) at e u = joined (boxed_code p slots index at) (_ ∷ [])
          (boxed_quiet index at (none_in_second _ (boxed_faults b names index) (none_in_first _ _ e))
          (unused_second _ (boxed_faults Routine names index) (unused_first _ _ (unused_first (place_faults Routine names (Place' name (Some' shape index))) _ u)))) (one _ tt)

      pub call_quiet : (call : Call) (at : ℕ) → call_faults b names call ≡ [] → NoneUsed (call_faults Routine names call) → AreQuiet (call_code p slots call at)
      call_quiet (Call' name shape args) at e u =
          joined (values_code p slots args at) (i.Call (function_number p.functions name.text) ∷ [])
          (values_quiet (params_of (meant names name)) args at (none_in_second _ _ e) (unused_second _ _ u))
          (one _ (called_quiet slots name (meant names name) (covers name.text) (none_in_first _ _ (none_in_first _ _ (none_in_first _ _ e)))
          (unused_second _ _ (unused_first _ _ (unused_first _ _ u)))))

      pub boxed_quiet : {n : _} (row : Row_of-Expr n) (at : ℕ) → boxed_faults b names row ≡ [] → NoneUsed (boxed_faults Routine names row) → AreQuiet (boxed_code p slots row at)
      boxed_quiet end_of-Expr at e u = nothing
      boxed_quiet (more_of-Expr where' node rest) at e u = value_quiet node at e u

      values_quiet : {n : _} (tys : List Ty) (row : Row_of-Expr n) (at : ℕ) → argument_faults b names tys row ≡ [] → NoneUsed (argument_faults Routine names tys row)
          → AreQuiet (values_code p slots row at)
      values_quiet tys end_of-Expr at e u = nothing
      values_quiet [] (more_of-Expr where' node rest) at e u =
          joined (value_code p slots node at) (values_code p slots rest _)
          (value_quiet node at (none_in_first (node_faults b names node) (argument_faults b names [] rest) e) (unused_first (node_faults Routine names node) (argument_faults Routine names [] rest) u))
          (values_quiet [] rest _ (none_in_second (node_faults b names node) (argument_faults b names [] rest) e)
          (unused_second (node_faults Routine names node) (argument_faults Routine names [] rest) u))
      values_quiet (t ∷ tys) (more_of-Expr where' node rest) at e u =
          joined (value_code p slots node at) (values_code p slots rest _)
          (value_quiet node at (none_in_first (node_faults b names node) _ (none_in_first _ (argument_faults b names tys rest) e))
          (unused_first (node_faults Routine names node) _ (unused_first _ (argument_faults Routine names tys rest) u)))
          (values_quiet tys rest _ (none_in_second _ (argument_faults b names tys rest) e) (unused_second _ (argument_faults Routine names tys rest) u))

    -- the index of a place
    index_quiet : (place : Place) (at : ℕ) → place_faults b names place ≡ [] → NoneUsed (place_faults Routine names place) → AreQuiet (index_code p slots place at)
    index_quiet (Place' name None') at e u = nothing
    index_quiet (Place' name (Some' shape index)) at e u = boxed_quiet index at (none_in_second _ (boxed_faults b names index) (none_in_first _ _ e))
        (unused_second _ (boxed_faults Routine names index) (unused_first _ _ u))

    -- an expression of the wanted type
    wanted_quiet : (want : Typed) (e : Expr) (at : ℕ) → value_faults b names want e ≡ [] → NoneUsed (value_faults Routine names want e) → AreQuiet (code_of p slots e at)
    wanted_quiet want e at own u = value_quiet e.node at (none_in_first (node_faults b names e.node) (wanted want (part_of names e)) own)
        (unused_first (node_faults Routine names e.node) (wanted want (part_of names e)) u)

    -- ---- parts of statements

    -- an item of an array that is set or added to: its index, the value, and one instruction more
    item_quiet : (place : Place) (e : Expr) (at there : ℕ) (mine other : List Fault) (last : Instr) → place_faults b names place ++ mine ++ value_faults b names (place_type names place) e ≡ []
        → NoneUsed (place_faults Routine names place ++ other ++ value_faults Routine names (place_type names place) e) → IsQuiet last
        → AreQuiet (index_code p slots place at ++ code_of p slots e there ++ last ∷ [])
    item_quiet place e at there mine other last own u quiet =
        joined (index_code p slots place at ++ code_of p slots e there) (last ∷ [])
        (joined (index_code p slots place at) (code_of p slots e there)
        (index_quiet place at (none_in_first (place_faults b names place) mine (none_in_first (place_faults b names place ++ mine) _ own))
        (unused_first (place_faults Routine names place) other (unused_first (place_faults Routine names place ++ other) _ u)))
        (wanted_quiet (place_type names place) e there (none_in_second (place_faults b names place ++ mine) _ own) (unused_second (place_faults Routine names place ++ other) _ u)))
        (one last quiet)

    set_quiet : (place : Place) (e : Expr) (at : ℕ) → place_faults b names place ++ place_tally b names place ++ value_faults b names (place_type names place) e ≡ []
        → NoneUsed (place_faults Routine names place ++ place_tally Routine names place ++ value_faults Routine names (place_type names place) e) → AreQuiet (set_code p slots place e at)
    set_quiet (Place' name None') e at own u =
        let used = none_in_first (place_faults b names (Place' name None')) (place_tally b names (Place' name None'))
        (none_in_first _ (value_faults b names (place_type names (Place' name None')) e) own) in
        let tally = unused_second (place_faults Routine names (Place' name None')) (place_tally Routine names (Place' name None'))
        (unused_first _ (value_faults Routine names (place_type names (Place' name None')) e) u) in
        joined (code_of p slots e at) (_ ∷ [])
        (wanted_quiet (place_type names (Place' name None')) e at (none_in_second _ (value_faults b names (place_type names (Place' name None')) e) own)
        (unused_second _ (value_faults Routine names (place_type names (Place' name None')) e) u))
        (one _ (store_quiet slots name (meant names name) (slot_of slots name.text) refl (covers name.text) used tally))
    set_quiet (Place' name (Some' shape index)) e at own u = item_quiet (Place' name (Some' shape index)) e at _ [] [] _ own u tt

    add_to_quiet : (place : Place) (e : Expr) (at : ℕ) → place_faults b names place ++ no_bool names place ++ value_faults b names (place_type names place) e ≡ []
        → NoneUsed (place_faults Routine names place ++ no_bool names place ++ value_faults Routine names (place_type names place) e) → AreQuiet (add_to_code p slots place e at)
    add_to_quiet (Place' name None') e at own u =
        joined (code_of p slots e at) _
        (wanted_quiet (place_type names (Place' name None')) e at (none_in_second _ (value_faults b names (place_type names (Place' name None')) e) own)
        (unused_second _ (value_faults Routine names (place_type names (Place' name None')) e) u))
        (add_quiet (slot_of slots name.text) (value.declared (area_of p.shared name.text)))
    add_to_quiet (Place' name (Some' shape index)) e at own u = item_quiet (Place' name (Some' shape index)) e at _ [] [] _ own u tt

    return_quiet : (given : Option Expr) (g : Gives) (where' at : ℕ) → return_faults b names where' g given ≡ [] → NoneUsed (return_faults Routine names where' gives.Nothing given)
        → AreQuiet (return_code p slots given at)
    return_quiet None g where' at own u = one _ tt
    return_quiet (Some e) gives.Nothing where' at own u = absurd (never (node_faults b names e.node) own)
      where
        never : (others : List Fault) → fault WrongReturn where' ++ others ≡ [] → ⊥
        never others h = cc
    return_quiet (Some e) gives.Int where' at own u = joined (code_of p slots e at) (i.Return ∷ [])
        (value_quiet e.node at (none_in_first _ _ own) (unused_second (fault WrongReturn where') (node_faults Routine names e.node) u)) (one _ tt)
    return_quiet (Some e) gives.Bool where' at own u = joined (code_of p slots e at) (i.Return ∷ [])
        (value_quiet e.node at (none_in_first _ _ own) (unused_second (fault WrongReturn where') (node_faults Routine names e.node) u)) (one _ tt)

    statement_quiet : (call : Call) (at : ℕ) → call_faults b names call ≡ [] → NoneUsed (call_faults Routine names call) → AreQuiet (statement_code p slots call at)
    statement_quiet (Call' name shape args) at own u = joined (call_code p slots (Call' name shape args) at) (drop_code (given_by (function_named p.functions name.text)))
        (call_quiet (Call' name shape args) at own u) (drop_quiet (given_by (function_named p.functions name.text)))

  -- ---- statements

  module _ (b : Body) (not_main : is_main b ≡ false) (globals : Names) where
    no_print : (at : ℕ) (x : Bool) → x ≡ false → fault_if (not x) OnlyInMain at ≡ [] → ⊥
    no_print at true is h = cc
    no_print at false is h = cc

    no_step : (at : ℕ) (x : Bool) (ys : List Fault) → x ≡ false → (if x then ys else fault OnlyInMain at) ≡ [] → ⊥
    no_step at true ys is h = cc
    no_step at false ys is h = cc

    mutual
      -- a statement without faults, which as a routine's uses no tally word
      pub form_quiet : (f : Form) (looped : Bool) (names : Names) (slots : Slots) (where' : ℕ) (at : At) (exits : Exits) → Covers names slots
          → faults globals (here_in b looped) names where' f ≡ [] → NoneUsed (faults globals (here_in Routine looped) names where' f) → AreQuiet (form_code p f slots at exits)
      form_quiet (Declare ty name e) looped names slots where' at exits covers own u =
          joined (code_of p slots e at.place) (i.Store at.slot ∷ []) (wanted_quiet b names slots covers (of_ty ty) e at.place (none_in_first _ (taken names name) own)
          (unused_first _ (taken names name) u)) (one _ tt)
      form_quiet (Set place e) looped names slots where' at exits covers own u = set_quiet b names slots covers place e at.place own u
      form_quiet (AddTo place e) looped names slots where' at exits covers own u = add_to_quiet b names slots covers place e at.place own u
      form_quiet (If' shape arms last) looped names slots where' at exits covers own u =
          joined (arms_code p arms slots at exits _) (last_code p last slots _ exits)
          (arms_quiet arms looped names slots at exits _ covers (none_in_first (arm_faults globals (here_in b looped) names arms) _ own)
          (unused_first (arm_faults globals (here_in Routine looped) names arms) _ u))
          (last_quiet last looped names slots _ exits covers (none_in_second (arm_faults globals (here_in b looped) names arms) _ own)
          (unused_second (arm_faults globals (here_in Routine looped) names arms) _ u))
      form_quiet (While' test shape body) looped names slots where' at exits covers own u =
          joined _ (_ ∷ [])
          (joined (code_of p slots test at.place) (_ ∷ row_code p body slots _ _)
          (wanted_quiet b names slots covers typed.Bool test at.place (none_in_first _ (row_faults globals (here_in b true) names body) own)
          (unused_first _ (row_faults globals (here_in Routine true) names body) u))
          (also _ _ tt (row_quiet body true names slots _ _ covers (none_in_second _ (row_faults globals (here_in b true) names body) own)
          (unused_second _ (row_faults globals (here_in Routine true) names body) u))))
          (one _ tt)
      form_quiet (For' shape first test shape' next' shape'' body) looped names slots where' at exits covers own u =
          let inner = slots_after_row slots at.slot first in
          let inside = after_row names first in
          let inner_covers : Covers inside inner = covers_after_row names slots at.slot first covers in
          let three = none_in_first _ (row_faults globals (here_in b true) inside body) own in
          let three_u = unused_first _ (row_faults globals (here_in Routine true) inside body) u in
          let two = none_in_first _ (row_faults globals (here_in b looped) inside next') three in
          let two_u = unused_first _ (row_faults globals (here_in Routine looped) inside next') three_u in
          joined _ (_ ∷ [])
          (joined _ (row_code p next' inner _ exits)
          (joined _ (_ ∷ row_code p body inner _ _)
          (joined (row_code p first slots at exits) (code_of p inner test _)
          (row_quiet first looped names slots at exits covers (none_in_first (row_faults globals (here_in b looped) names first) _ two)
          (unused_first (row_faults globals (here_in Routine looped) names first) _ two_u))
          (wanted_quiet b inside inner inner_covers typed.Bool test _ (none_in_second (row_faults globals (here_in b looped) names first) _ two)
          (unused_second (row_faults globals (here_in Routine looped) names first) _ two_u)))
          (also _ _ tt (row_quiet body true inside inner _ _ inner_covers (none_in_second _ (row_faults globals (here_in b true) inside body) own)
          (unused_second _ (row_faults globals (here_in Routine true) inside body) u))))
          (row_quiet next' looped inside inner _ exits inner_covers (none_in_second _ (row_faults globals (here_in b looped) inside next') three)
          (unused_second _ (row_faults globals (here_in Routine looped) inside next') three_u)))
          (one _ tt)
      form_quiet Break looped names slots where' at exits covers own u = one _ tt
      form_quiet Continue looped names slots where' at exits covers own u = one _ tt
      form_quiet (Return given) looped names slots where' at exits covers own u = return_quiet b names slots covers given (result_of b) where' at.place own u
      form_quiet (form.CallOf call) looped names slots where' at exits covers own u = statement_quiet b names slots covers call at.place own u
      form_quiet (Assert e) looped names slots where' at exits covers own u = joined (code_of p slots e at.place) (i.Assert ∷ []) (wanted_quiet b names slots covers typed.Bool e at.place own u)
          (one _ tt)
      form_quiet (Block' shape body) looped names slots where' at exits covers own u = row_quiet body looped names slots at exits covers own u
      form_quiet (Print items) looped names slots where' at exits covers own u = absurd (no_print where' (is_main b) not_main
          (none_in_first (fault_if (not (is_main b)) OnlyInMain where') _ (none_in_first _ (beyond most_items (map item_at items)) own)))
      form_quiet (Par' shape blocks) looped names slots where' at exits covers own u = absurd
          (no_step where' (is_main b) (block_faults globals b names blocks ++ beyond most_blocks (blocks_at blocks)) not_main own)

      pub row_quiet : {n : _} (row : Row_of-Stmt n) (looped : Bool) (names : Names) (slots : Slots) (at : At) (exits : Exits) → Covers names slots
          → row_faults globals (here_in b looped) names row ≡ [] → NoneUsed (row_faults globals (here_in Routine looped) names row) → AreQuiet (row_code p row slots at exits)
      row_quiet end_of-Stmt looped names slots at exits covers own u = nothing
      row_quiet (more_of-Stmt where' f rest) looped names slots at exits covers own u =
          joined (form_code p f slots at exits) (row_code p rest _ _ exits)
          (form_quiet f looped names slots where' at exits covers (none_in_first (faults globals (here_in b looped) names where' f) _ own)
          (unused_first (faults globals (here_in Routine looped) names where' f) _ u))
          (row_quiet rest looped (after names f) (slots_after slots at.slot f) _ exits (covers_after names slots at.slot f covers)
          (none_in_second (faults globals (here_in b looped) names where' f) _ own) (unused_second (faults globals (here_in Routine looped) names where' f) _ u))

      arms_quiet : {n : _} (arms : Row_of-Arm n) (looped : Bool) (names : Names) (slots : Slots) (at : At) (exits : Exits) (end : ℕ) → Covers names slots
          → arm_faults globals (here_in b looped) names arms ≡ [] → NoneUsed (arm_faults globals (here_in Routine looped) names arms) → AreQuiet (arms_code p arms slots at exits end)
      arms_quiet end_of-Arm looped names slots at exits end covers own u = nothing
      arms_quiet (more_of-Arm (Arm' test shape body) rest) looped names slots at exits end covers own u =
          let two = none_in_first _ (arm_faults globals (here_in b looped) names rest) own in
          let two_u = unused_first _ (arm_faults globals (here_in Routine looped) names rest) u in
          joined _ (_ ∷ arms_code p rest slots _ exits end)
          (joined (code_of p slots test at.place) (_ ∷ row_code p body slots _ exits)
          (wanted_quiet b names slots covers typed.Bool test at.place (none_in_first _ (row_faults globals (here_in b looped) names body) two)
          (unused_first _ (row_faults globals (here_in Routine looped) names body) two_u))
          (also _ _ tt (row_quiet body looped names slots _ exits covers (none_in_second _ (row_faults globals (here_in b looped) names body) two)
          (unused_second _ (row_faults globals (here_in Routine looped) names body) two_u))))
          (also _ _ tt (arms_quiet rest looped names slots _ exits end covers (none_in_second _ (arm_faults globals (here_in b looped) names rest) own)
          (unused_second _ (arm_faults globals (here_in Routine looped) names rest) u)))

      last_quiet : (last : Held-Form-If-1) (looped : Bool) (names : Names) (slots : Slots) (at : At) (exits : Exits) → Covers names slots
          → last_faults globals (here_in b looped) names last ≡ [] → NoneUsed (last_faults globals (here_in Routine looped) names last) → AreQuiet (last_code p last slots at exits)
      last_quiet form.None' looped names slots at exits covers own u = nothing
      last_quiet (form.Some' shape body) looped names slots at exits covers own u = row_quiet body looped names slots at exits covers own u
