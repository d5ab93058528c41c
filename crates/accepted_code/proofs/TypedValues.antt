-- An expression without faults fits, and its value is of the kind of its ty.
use Rattle.std.proofs.Common.{◌≡◌, ℕ, suc, Bool, true, false, ◌&&◌, if◌then◌else◌, List, [], ◌∷◌, ◌++◌, map, reverse, length, Option, Some, None, refl, sym, ap, ◌∙◌, subst, arith, append_assoc}
use Rattle.std.specs.Prelude.{not, nat_eq, unwrap_or}
use Rattle.std.proofs.lemmas.Grind.{reverse_onto}
use Rattle.csl_tree.specs.declared.name.Name.{Name}
use Rattle.csl_tree.specs.declared.program.Program.{Program}
use Rattle.cal_terms.specs.declared.types.Gives.{Gives as Result}
use Rattle.cal_terms.specs.declared.types.Gives.TheVariants as result
use Rattle.cal_terms.specs.declared.types.Ty.{Ty}
use Rattle.cal_terms.specs.declared.types.Ty.TheVariants as ty
use Rattle.csl_tree.specs.declared.program.UnaryOp.{UnaryOp}
use Rattle.csl_tree.specs.declared.program.UnaryOp.TheVariants.{Neg, Not}
use Rattle.csl_tree.specs.declared.program.BinaryOp.{BinaryOp}
use Rattle.csl_tree.specs.declared.program.BinaryOp.TheVariants.{Add, Sub, Mul, Div, Rem, Eq, Ne, Lt, Le, Gt, Ge, And, Or}
use Rattle.csl_tree.specs.declared.program.Expr.{Expr}
use Rattle.csl_tree.specs.declared.program.Node.{Node, Number, Truth, Read, CallOf, Unary', Binary', Paren', Row_of-Expr, end_of-Expr, more_of-Expr}
use Rattle.csl_tree.specs.declared.program.Place.{Place, Place', None', Some'}
use Rattle.csl_tree.specs.declared.program.Call.{Call'}
use Rattle.csl_meaning.specs.declared.state.Area.{Area}
use Rattle.csl_meaning.specs.Layout.{Text, area_of}
use Rattle.csl_meaning.specs.Value.{declared as declared_area}
use Rattle.csl_meaning.specs.Effect.{function_named}
use Rattle.type_check.specs.declared.fault.CheckKind.TheVariants.{WrongCount}
use Rattle.type_check.specs.declared.body.Body.{Body}
use Rattle.type_check.specs.declared.names.Declaration.{Declaration}
use Rattle.type_check.specs.declared.names.Declaration.TheVariants as declared
use Rattle.type_check.specs.declared.names.Part.{Part}
use Rattle.type_check.specs.declared.names.Typed.{Typed}
use Rattle.type_check.specs.declared.names.Typed.TheVariants as typed
use Rattle.type_check.specs.Names.{Names, meant, of_ty, given, is_bad, same, wanted, as_scalar, as_array, as_call, use_faults, call_touches, params_of}
use Rattle.type_check.specs.Expressions.{unary_operand, gives_type, operands_fit, operand_faults, place_type, call_type, type_of, boxed, part_of, tally_faults, count_faults, node_faults, boxed_faults}
use Rattle.type_check.specs.Expressions.{place_faults, place_tally, call_faults, argument_faults, value_faults}
use Rattle.type_check.specs.Expressions as checked
use Rattle.type_check.proofs.CleanLemmas.{none_in_first, none_in_second, none_if, wanted_same, operands_of, well_typed, box_well_typed}
use Rattle.bytecode.specs.declared.instr.Instr.{Instr}
use Rattle.bytecode.specs.declared.module.Code.{Code}
use Rattle.bytecode.specs.declared.module.Module.{Module}
use Rattle.code_verify.specs.Kinds.{Kinds, below, parameters}
use Rattle.code_verify.specs.Rules.{IsArray, HoldsNoTally}
use Rattle.compiled_code.specs.Slots.{Slot, Slots, slot_of, kind_of}
use Rattle.compiled_code.specs.Sizes.{given_by}
use Rattle.compiled_code.specs.Values.{function_number, given_kind, unary_kind, binary_kind, name_kind, kind_in, boxed_kind}
use Rattle.compiled_code.specs.Modules.{gives_of}
use Rattle.compiled_code.specs.Shape.{count, ValueIs, PlaceIs, BoxedIs, ValuesAre}
use Rattle.accepted_code.proofs.Permits.{Permits}
use Rattle.accepted_code.proofs.Fits.{OperandsFit, pushed, IsItems, ReadFits, CallFits, ValueFits, PlaceFits, BoxedFits, ValuesFit}
use Rattle.accepted_code.proofs.Agrees.{Means, Agrees}
use Rattle.cal_terms.proofs.Lists.{and_left, and_right, true_of}
use Rattle.accepted_code.proofs.Typed.{Parts, parts_of}

-- ---- types and kinds

-- a value of this type is of this kind
abbrev pub IsKind : Typed → Ty → Type 0
IsKind typed.Int k = k ≡ ty.Int
IsKind typed.Bool k = k ≡ ty.Bool
IsKind typed.Nothing k = Unit {0}
IsKind typed.Bad k = Unit {0}

-- so it is of the type that is wanted, where that is the same
pub kind_wanted : (want t : Typed) (k : Ty) → same want t ≡ true → IsKind t k → IsKind want k
kind_wanted typed.Int typed.Int k e h = h
kind_wanted typed.Bool typed.Bool k e h = h
kind_wanted typed.Nothing t k e h = tt
kind_wanted typed.Bad t k e h = tt
kind_wanted typed.Int typed.Bool k e h = absurd cc
kind_wanted typed.Int typed.Nothing k e h = absurd cc
kind_wanted typed.Int typed.Bad k e h = absurd cc
kind_wanted typed.Bool typed.Int k e h = absurd cc
kind_wanted typed.Bool typed.Nothing k e h = absurd cc
kind_wanted typed.Bool typed.Bad k e h = absurd cc

pub kind_of_ty : (t : Ty) (k : Ty) → IsKind (of_ty t) k → k ≡ kind_of t
kind_of_ty ty.Int k h = h
kind_of_ty ty.Bool k h = h

pub good_ty : (t : Ty) → is_bad (of_ty t) ≡ false
good_ty ty.Int = refl
good_ty ty.Bool = refl

is_kind_of : (t : Ty) (k : Ty) → k ≡ kind_of t → IsKind (of_ty t) k
is_kind_of ty.Int k h = h
is_kind_of ty.Bool k h = h

given_is : (g : Result) → IsKind (given g) (given_kind g)
given_is result.Nothing = tt
given_is result.Int = refl
given_is result.Bool = refl

unary_is : (op : UnaryOp) (k : Ty) → IsKind (unary_operand op) k → k ≡ unary_kind op
unary_is Neg k h = h
unary_is Not k h = h

good_unary : (op : UnaryOp) → is_bad (unary_operand op) ≡ false
good_unary Neg = refl
good_unary Not = refl

unary_gives : (op : UnaryOp) (b : Bool) → IsKind (if b then unary_operand op else typed.Bad) (unary_kind op)
unary_gives Neg true = refl
unary_gives Not true = refl
unary_gives op false = tt

binary_gives : (op : BinaryOp) (b : Bool) → IsKind (if b then gives_type op else typed.Bad) (binary_kind op)
binary_gives op false = tt
binary_gives Add true = refl
binary_gives Sub true = refl
binary_gives Mul true = refl
binary_gives Div true = refl
binary_gives Rem true = refl
binary_gives Eq true = refl
binary_gives Ne true = refl
binary_gives Lt true = refl
binary_gives Le true = refl
binary_gives Gt true = refl
binary_gives Ge true = refl
binary_gives And true = refl
binary_gives Or true = refl

both_kinds : (want a b : Typed) (k l : Ty) → same want a && same want b ≡ true → IsKind a k → IsKind b l → IsKind want k × IsKind want l
both_kinds want a b k l e h g = (kind_wanted want a k (and_left (same want a) (same want b) e) h, kind_wanted want b l (and_right (same want a) (same want b) e) g)

same_kinds : (a b : Typed) (k l : Ty) → same a b && not (same typed.Nothing a) ≡ true → IsKind a k → IsKind b l → k ≡ l
same_kinds typed.Int b k l e h g = h ∙ sym (kind_wanted typed.Int b l (and_left (same typed.Int b) true e) g)
same_kinds typed.Bool b k l e h g = h ∙ sym (kind_wanted typed.Bool b l (and_left (same typed.Bool b) true e) g)
same_kinds typed.Nothing b k l e h g = let never : false ≡ true = and_right (same typed.Nothing b) false e in absurd cc
same_kinds typed.Bad b k l e h g = absurd cc

-- operands of types that fit are of kinds that fit
operands_are : (op : BinaryOp) (a b : Typed) (k l : Ty) → operands_fit op a b ≡ true → IsKind a k → IsKind b l → OperandsFit op k l
operands_are Add a b k l e h g = both_kinds typed.Int a b k l e h g
operands_are Sub a b k l e h g = both_kinds typed.Int a b k l e h g
operands_are Mul a b k l e h g = both_kinds typed.Int a b k l e h g
operands_are Div a b k l e h g = both_kinds typed.Int a b k l e h g
operands_are Rem a b k l e h g = both_kinds typed.Int a b k l e h g
operands_are Lt a b k l e h g = both_kinds typed.Int a b k l e h g
operands_are Le a b k l e h g = both_kinds typed.Int a b k l e h g
operands_are Gt a b k l e h g = both_kinds typed.Int a b k l e h g
operands_are Ge a b k l e h g = both_kinds typed.Int a b k l e h g
operands_are And a b k l e h g = both_kinds typed.Bool a b k l e h g
operands_are Or a b k l e h g = both_kinds typed.Bool a b k l e h g
operands_are Eq a b k l e h g = same_kinds a b k l e h g
operands_are Ne a b k l e h g = same_kinds a b k l e h g

-- ---- the operands of a call

-- the kinds of several expressions
abbrev kinds_of_row : {n : _} → Program → Slots → Row_of-Expr n → List Ty
kinds_of_row p slots end_of-Expr = []
kinds_of_row p slots (more_of-Expr at node rest) = kind_in p slots node ∷ kinds_of_row p slots rest

pushed_is : {n : _} (p : Program) (slots : Slots) (row : Row_of-Expr n) (ks : Kinds) → pushed p slots row ks ≡ reverse (kinds_of_row p slots row) ++ ks
pushed_is p slots end_of-Expr ks = refl
pushed_is p slots (more_of-Expr at node rest) ks =
    let k = kind_in p slots node in
    let l = kinds_of_row p slots rest in
    pushed_is p slots rest (k ∷ ks) ∙ sym (ap (λ (x : List Ty). x ++ ks) (reverse_onto l k []) ∙ append_assoc (reverse l) (k ∷ []) ks)

below_same : (l ks : Kinds) → below l (l ++ ks) ≡ Some ks
below_same [] ks = refl
below_same (ty.Int ∷ l) ks = below_same l ks
below_same (ty.Bool ∷ l) ks = below_same l ks

same_count : {n : _} (r : Row_of-Expr n) → checked.count r ≡ count r
same_count end_of-Expr = refl
same_count (more_of-Expr at node rest) = let h = same_count rest in grind (arith)

equal : (a b : ℕ) → nat_eq a b ≡ true → a ≡ b
equal a b e = grind (arith)

pred : (a b : ℕ) → suc a ≡ suc b → a ≡ b
pred a b e = grind (arith)

-- as many arguments as parameters
counted : (name : Name) (o : Option Declaration) (n : ℕ) → use_faults name o (as_call o) ≡ [] → count_faults name o n ≡ [] → n ≡ length (params_of o)
counted name None n used counts = absurd cc
counted name (Some declared.Word) n used counts = absurd cc
counted name (Some declared.Tally) n used counts = absurd cc
counted name (Some declared.Array) n used counts = absurd cc
counted name (Some (declared.Local t)) n used counts = absurd cc
counted name (Some (declared.Function d)) n used counts = equal n (length d.params) (true_of (nat_eq n (length d.params)) (none_if (not (nat_eq n (length d.params))) WrongCount name.at counts))

module _ (p : Program) (m : Module) (c : Code) (visible : ℕ) (names : Names) (slots : Slots) (agrees : Agrees p m c visible names slots) where
  scalar_kind : (name : Text) (o : Option Declaration) → Means p m c visible slots name o → IsKind (as_scalar o) (name_kind (slot_of slots name))
  scalar_kind name None h = tt
  scalar_kind name (Some declared.Word) h = ap name_kind h.0
  scalar_kind name (Some declared.Tally) h = ap name_kind h.0
  scalar_kind name (Some declared.Array) h = tt
  scalar_kind name (Some (declared.Local t)) h = is_kind_of t (name_kind (slot_of slots name)) (ap name_kind h.found ∙ h.right)
  scalar_kind name (Some (declared.Function d)) h = tt

  array_kind : (o : Option Declaration) → IsKind (as_array o) ty.Int
  array_kind None = tt
  array_kind (Some declared.Word) = tt
  array_kind (Some declared.Tally) = tt
  array_kind (Some declared.Array) = refl
  array_kind (Some (declared.Local t)) = tt
  array_kind (Some (declared.Function d)) = tt

  called_kind : (name : Text) (o : Option Declaration) → Means p m c visible slots name o → IsKind (as_call o) (given_kind (given_by (function_named p.functions name)))
  called_kind name None h = tt
  called_kind name (Some declared.Word) h = tt
  called_kind name (Some declared.Tally) h = tt
  called_kind name (Some declared.Array) h = tt
  called_kind name (Some (declared.Local t)) h = tt
  called_kind name (Some (declared.Function d)) h = subst (λ (g : Result). IsKind (given d.gives) (given_kind g)) (sym h.1.given) (given_is d.gives)

  place_kind : (place : Place) → IsKind (place_type names place) (kind_in p slots (Read place))
  place_kind (Place' name None') = scalar_kind name.text (meant names name) (agrees name.text)
  place_kind (Place' name (Some' shape i)) = array_kind (meant names name)

  mutual
    -- the value of an expression is of the kind of its type
    pub value_kind : (n : Node) → IsKind (type_of names n) (kind_in p slots n)
    value_kind (Number z) = refl
    value_kind (Truth b) = refl
    value_kind (Read place) = place_kind place
    value_kind (CallOf (Call' name shape args)) = called_kind name.text (meant names name) (agrees name.text)
    value_kind (Unary' op shape a) = unary_gives op (same (unary_operand op) (boxed names a).typed)
    value_kind (Binary' op shape a shape' b) = binary_gives op (operands_fit op (boxed names a).typed (boxed names b).typed)
    value_kind (Paren' shape a) = box_kind a

    pub box_kind : {n : _} (a : Row_of-Expr n) → IsKind (boxed names a).typed (boxed_kind p slots a)
    box_kind end_of-Expr = tt
    box_kind (more_of-Expr at node rest) = value_kind node

  module _ (main : Bool) (Ok : Instr → Type 0) (permits : Permits m c visible main Ok) (body : Body) where
    -- a name that is read
    read_fits : (name : Name) (o : Option Declaration) → Means p m c visible slots name.text o → use_faults name o (as_scalar o) ≡ []
        → ReadFits m c Ok p (slot_of slots name.text) (declared_area (area_of p.shared name.text))
    read_fits name None h e = absurd cc
    read_fits name (Some declared.Word) h e =
        let word = h.1 in
        subst (λ (a : Option Area). ReadFits m c Ok p (slot_of slots name.text) (declared_area a)) (sym word.found)
        (subst (λ (s : Option Slot). ReadFits m c Ok p s word.area) (sym h.0) (word.in_range, permits.words word.area.first word.in_range))
    read_fits name (Some declared.Tally) h e =
        let word = h.1 in
        subst (λ (a : Option Area). ReadFits m c Ok p (slot_of slots name.text) (declared_area a)) (sym word.found)
        (subst (λ (s : Option Slot). ReadFits m c Ok p s word.area) (sym h.0) (word.in_range, permits.words word.area.first word.in_range))
    read_fits name (Some declared.Array) h e = absurd cc
    read_fits name (Some (declared.Local t)) h e =
        subst (λ (s : Option Slot). ReadFits m c Ok p s (declared_area (area_of p.shared name.text))) (sym h.found) (h.local ∙ ap Some (sym h.right))
    read_fits name (Some (declared.Function d)) h e = absurd cc

    -- an array
    pub items_fit : (name : Name) (o : Option Declaration) → Means p m c visible slots name.text o → use_faults name o (as_array o) ≡ [] → IsItems m c Ok p (declared_area (area_of p.shared name.text))
    items_fit name None h e = absurd cc
    items_fit name (Some declared.Word) h e = absurd cc
    items_fit name (Some declared.Tally) h e = absurd cc
    items_fit name (Some declared.Array) h e =
        let array = h.1 in
        let size : unwrap_or array.area.items 0 ≡ array.size = ap (λ (o : Option ℕ). unwrap_or o 0) array.array in
        subst (λ (a : Option Area). IsItems m c Ok p (declared_area a)) (sym array.found)
        (subst (λ (n : ℕ). IsArray m array.area.first n × HoldsNoTally m array.area.first n) (sym size) (array.in_range, array.plain))
    items_fit name (Some (declared.Local t)) h e = absurd cc
    items_fit name (Some (declared.Function d)) h e = absurd cc

    -- a call whose arguments are of the kinds of the parameters
    called_fits : {n : _} (name : Name) (args : Row_of-Expr n) (o : Option Declaration) → Means p m c visible slots name.text o → use_faults name o (as_call o) ≡ [] → count args ≡ length (params_of o)
        → kinds_of_row p slots args ≡ map kind_of (params_of o) → CallFits m c Ok p slots name args
    called_fits name args None h e counts kinds = absurd cc
    called_fits name args (Some declared.Word) h e counts kinds = absurd cc
    called_fits name args (Some declared.Tally) h e counts kinds = absurd cc
    called_fits name args (Some declared.Array) h e counts kinds = absurd cc
    called_fits name args (Some (declared.Local t)) h e counts kinds = absurd cc
    called_fits name args (Some (declared.Function d)) h e counts kinds =
        let is = h.1 in
        let few = is.few in
        record {
          code = is.code;
          there = is.there;
          takes = λ ks. ap (λ (l : Kinds). below (parameters is.code) l) (pushed_is p slots args ks)
              ∙ ap (λ (l : Kinds). below (parameters is.code) (reverse l ++ ks)) (kinds ∙ sym is.params)
              ∙ below_same (parameters is.code) ks;
          gives = is.gives ∙ ap gives_of (sym is.given);
          few = omega (arith, counts, few);
          allowed = permits.calls (function_number p.functions name.text) is.number;
        }

    -- an array and its index without faults
    index_parts : {n : _} (name : Name) (i : Row_of-Expr n) → use_faults name (meant names name) (as_array (meant names name)) ++ boxed_faults body names i ++ wanted typed.Int (boxed names i) ≡ []
        → (boxed_faults body names i ≡ []) × (IsItems m c Ok p (declared_area (area_of p.shared name.text)) × (boxed_kind p slots i ≡ ty.Int))
    index_parts name i e =
        let used = use_faults name (meant names name) (as_array (meant names name)) in
        let first_two = none_in_first (used ++ boxed_faults body names i) (wanted typed.Int (boxed names i)) e in
        let clean = none_in_second used (boxed_faults body names i) first_two in
        let fits = wanted_same typed.Int (boxed names i) refl (box_well_typed body names i clean) (none_in_second (used ++ boxed_faults body names i) (wanted typed.Int (boxed names i)) e) in
        (clean, (items_fit name (meant names name) (agrees name.text) (none_in_first used (boxed_faults body names i) first_two), kind_wanted typed.Int (boxed names i).typed (boxed_kind p slots i) fits (box_kind i)))

    mutual
      -- an expression
      pub value_fits : (n : Node) → node_faults body names n ≡ [] → ValueIs p n → ValueFits m c Ok p slots n
      value_fits (Number z) e is = tt
      value_fits (Truth b) e is = tt
      value_fits (Read place) e is = place_fits place (none_in_first (place_faults body names place) (place_tally body names place) e) is
      value_fits (CallOf (Call' name shape args)) e is =
          let parts = parts_of body names name args e in
          let counts = counted name (meant names name) (count args) parts.used parts.counts in
          let fits = values_fit (params_of (meant names name)) args parts.arguments counts is.0.1 in
          (called_fits name args (meant names name) (agrees name.text) parts.used counts fits.1, fits.0, is.1)
      value_fits (Unary' op shape a) e is =
          let clean = none_in_first (boxed_faults body names a) (wanted (unary_operand op) (boxed names a)) e in
          let fits = wanted_same (unary_operand op) (boxed names a) (good_unary op) (box_well_typed body names a clean)
          (none_in_second (boxed_faults body names a) (wanted (unary_operand op) (boxed names a)) e) in
          (boxed_fits a clean is, unary_is op (boxed_kind p slots a) (kind_wanted (unary_operand op) (boxed names a).typed (boxed_kind p slots a) fits (box_kind a)))
      value_fits (Binary' op shape a shape' b) e is =
          let clean = none_in_first (boxed_faults body names a ++ boxed_faults body names b) (operand_faults op (boxed names a) (boxed names b)) e in
          let clean_a = none_in_first (boxed_faults body names a) (boxed_faults body names b) clean in
          let clean_b = none_in_second (boxed_faults body names a) (boxed_faults body names b) clean in
          let fits = operands_of op (boxed names a) (boxed names b) (box_well_typed body names a clean_a) (box_well_typed body names b clean_b)
          (none_in_second (boxed_faults body names a ++ boxed_faults body names b) (operand_faults op (boxed names a) (boxed names b)) e) in
          (boxed_fits a clean_a is.0, boxed_fits b clean_b is.1, operands_are op (boxed names a).typed (boxed names b).typed (boxed_kind p slots a) (boxed_kind p slots b) fits (box_kind a) (box_kind b))
      value_fits (Paren' shape a) e is = boxed_fits a e is

      -- a place that is read
      pub place_fits : (place : Place) → place_faults body names place ≡ [] → PlaceIs p place → PlaceFits m c Ok p slots place
      place_fits (Place' name None') e is = read_fits name (meant names name) (agrees name.text) e
      place_fits (Place' name (Some' shape i)) e is =
          let parts = index_parts name i e in
          (parts.1.0, boxed_fits i parts.0 is, parts.1.1)

      pub boxed_fits : {n : _} (r : Row_of-Expr n) → boxed_faults body names r ≡ [] → BoxedIs p r → BoxedFits m c Ok p slots r
      boxed_fits end_of-Expr e is = is
      boxed_fits (more_of-Expr at node rest) e is = value_fits node e is

      -- arguments, which are of the kinds of the parameters
      pub values_fit : {n : _} (tys : List Ty) (r : Row_of-Expr n) → argument_faults body names tys r ≡ [] → count r ≡ length tys → ValuesAre p r
          → ValuesFit m c Ok p slots r × (kinds_of_row p slots r ≡ map kind_of tys)
      values_fit [] end_of-Expr e counts is = (tt, refl)
      values_fit (t ∷ tys) end_of-Expr e counts is = absurd cc
      values_fit [] (more_of-Expr at node rest) e counts is = absurd cc
      values_fit (t ∷ tys) (more_of-Expr at node rest) e counts is =
          let part : Part = record { at = at; typed = type_of names node } in
          let first_two = none_in_first (node_faults body names node ++ wanted (of_ty t) part) (argument_faults body names tys rest) e in
          let clean = none_in_first (node_faults body names node) (wanted (of_ty t) part) first_two in
          let fits = wanted_same (of_ty t) part (good_ty t) (well_typed body names node clean) (none_in_second (node_faults body names node) (wanted (of_ty t) part) first_two) in
          let kind = kind_of_ty t (kind_in p slots node) (kind_wanted (of_ty t) (type_of names node) (kind_in p slots node) fits (value_kind node)) in
          let more = values_fit tys rest (none_in_second (node_faults body names node ++ wanted (of_ty t) part) (argument_faults body names tys rest) e) (pred (count rest) (length tys) counts) is.1 in
          ((value_fits node clean is.0, more.0), (λ i. kind i ∷ more.1 i))

    -- an array and its index
    pub index_fits : {n : _} (name : Name) (i : Row_of-Expr n) → use_faults name (meant names name) (as_array (meant names name)) ++ boxed_faults body names i ++ wanted typed.Int (boxed names i) ≡ []
        → BoxedIs p i
        → IsItems m c Ok p (declared_area (area_of p.shared name.text)) × BoxedFits m c Ok p slots i × (boxed_kind p slots i ≡ ty.Int)
    index_fits name i e is = let parts = index_parts name i e in (parts.1.0, boxed_fits i parts.0 is, parts.1.1)

    -- a call
    pub call_fits : {n : _} (name : Name) (args : Row_of-Expr n)
        → use_faults name (meant names name) (as_call (meant names name)) ++ tally_faults body name (call_touches (meant names name)) ++ count_faults name (meant names name) (checked.count args)
        ++ argument_faults body names (params_of (meant names name)) args ≡ []
        → ValuesAre p args → CallFits m c Ok p slots name args × ValuesFit m c Ok p slots args
    call_fits name args e is =
        let parts = parts_of body names name args e in
        let counts = counted name (meant names name) (count args) parts.used parts.counts in
        let fits = values_fit (params_of (meant names name)) args parts.arguments counts is in
        (called_fits name args (meant names name) (agrees name.text) parts.used counts fits.1, fits.0)

    -- an expression of the wanted type
    pub expr_fits : (want : Typed) (e : Expr) → is_bad want ≡ false → value_faults body names want e ≡ [] → ValueIs p e.node → ValueFits m c Ok p slots e.node × IsKind want (kind_in p slots e.node)
    expr_fits want e good none is =
        let clean = none_in_first (node_faults body names e.node) (wanted want (part_of names e)) none in
        let fits = wanted_same want (part_of names e) good (well_typed body names e.node clean) (none_in_second (node_faults body names e.node) (wanted want (part_of names e)) none) in
        (value_fits e.node clean is, kind_wanted want (type_of names e.node) (kind_in p slots e.node) fits (value_kind e.node))
