-- An expression without faults calls functions with as many arguments as they have parameters, and uses values only.
use Rattle.std.proofs.Common.{◌≡◌, ℕ, suc, Bool, true, false, ◌&&◌, List, [], ◌∷◌, ◌++◌, length, Option, Some, None, refl, sym, ap, ◌∙◌, subst, arith}
use Rattle.std.specs.Prelude.{not, nat_eq}
use Rattle.std.proofs.lemmas.List.{length-map}
use Rattle.csl_tree.specs.declared.name.Name.{Name}
use Rattle.csl_tree.specs.declared.program.Program.{Program}
use Rattle.csl_tree.specs.declared.program.Function.{Function}
use Rattle.cal_terms.specs.declared.types.Gives.{Gives}
use Rattle.cal_terms.specs.declared.types.Gives.TheVariants as gives
use Rattle.cal_terms.specs.declared.types.Ty.{Ty}
use Rattle.cal_terms.specs.declared.types.Ty.TheVariants as ty
use Rattle.csl_tree.specs.declared.program.UnaryOp.{UnaryOp}
use Rattle.csl_tree.specs.declared.program.UnaryOp.TheVariants.{Neg, Not}
use Rattle.csl_tree.specs.declared.program.BinaryOp.{BinaryOp}
use Rattle.csl_tree.specs.declared.program.BinaryOp.TheVariants.{Add, Sub, Mul, Div, Rem, Eq, Ne, Lt, Le, Gt, Ge, And, Or}
use Rattle.csl_tree.specs.declared.program.Node.{Node, Number, Truth, Read, CallOf, Unary', Binary', Paren', Row_of-Expr, end_of-Expr, more_of-Expr}
use Rattle.csl_tree.specs.declared.program.Place.{Place, Place', None', Some'}
use Rattle.csl_tree.specs.declared.program.Call.{Call, Call'}
use Rattle.csl_meaning.specs.Effect.{function_named}
use Rattle.type_check.specs.declared.fault.CheckKind.TheVariants.{WrongCount}
use Rattle.type_check.specs.declared.body.Body.{Body}
use Rattle.type_check.specs.declared.names.Declaration.{Declaration}
use Rattle.type_check.specs.declared.names.Declaration.TheVariants as declared
use Rattle.type_check.specs.declared.names.Typed.{Typed}
use Rattle.type_check.specs.declared.names.Typed.TheVariants as typed
use Rattle.type_check.specs.Names.{Names, meant, of_ty, given, is_bad, same, wanted, as_scalar, as_array, as_call, use_faults, call_touches, params_of}
use Rattle.type_check.specs.Expressions.{unary_operand, operands_fit, operand_faults, place_type, type_of, boxed, part_of, tally_faults, count_faults, node_faults, boxed_faults, place_faults}
use Rattle.type_check.specs.Expressions.{place_tally, call_faults, argument_faults, value_faults}
use Rattle.type_check.specs.Expressions as checked
use Rattle.type_check.proofs.CleanLemmas.{none_in_first, none_in_second, none_if, wanted_same, operands_of, well_typed, box_well_typed}
use Rattle.compiled_code.specs.Sizes.{given_by}
use Rattle.compiled_code.specs.Shape.{count, HasCount, HasValue, ValueIs, PlaceIs, CallIs, BoxedIs, ValuesAre}
use Rattle.accepted_code.proofs.Known.{Is, Knows}
use Rattle.cal_terms.proofs.Lists.{and_left, and_right}

-- a type of values
abbrev pub IsSome : Typed → Type 0
IsSome t = same typed.Nothing t ≡ false

-- what is of such a type is a value
pub some_of : (want t : Typed) → IsSome want → same want t ≡ true → IsSome t
some_of typed.Int typed.Int some e = refl
some_of typed.Bool typed.Bool some e = refl
some_of typed.Int typed.Bool some e = refl
some_of typed.Bool typed.Int some e = refl
some_of typed.Int typed.Nothing some e = cc
some_of typed.Int typed.Bad some e = refl
some_of typed.Bool typed.Nothing some e = cc
some_of typed.Bool typed.Bad some e = refl
some_of typed.Bad t some e = cc
some_of typed.Nothing t some e = cc

pub some_ty : (t : Ty) → IsSome (of_ty t)
some_ty ty.Int = refl
some_ty ty.Bool = refl

pub good_ty : (t : Ty) → is_bad (of_ty t) ≡ false
good_ty ty.Int = refl
good_ty ty.Bool = refl

some_unary : (op : UnaryOp) → IsSome (unary_operand op)
some_unary Neg = refl
some_unary Not = refl

good_unary : (op : UnaryOp) → is_bad (unary_operand op) ≡ false
good_unary Neg = refl
good_unary Not = refl

both_some : (want a b : Typed) → IsSome want → same want a && same want b ≡ true → IsSome a × IsSome b
both_some want a b some e = (some_of want a some (and_left (same want a) (same want b) e), some_of want b some (and_right (same want a) (same want b) e))

equal_some : (a b : Typed) → same a b && not (same typed.Nothing a) ≡ true → IsSome a × IsSome b
equal_some typed.Int b e = (refl, some_of typed.Int b refl (and_left (same typed.Int b) true e))
equal_some typed.Bool b e = (refl, some_of typed.Bool b refl (and_left (same typed.Bool b) true e))
equal_some typed.Nothing b e = let never : false ≡ true = and_right (same typed.Nothing b) false e in absurd cc
equal_some typed.Bad b e = cc

-- operands that fit are values
operands_some : (op : BinaryOp) (a b : Typed) → operands_fit op a b ≡ true → IsSome a × IsSome b
operands_some Add a b e = both_some typed.Int a b refl e
operands_some Sub a b e = both_some typed.Int a b refl e
operands_some Mul a b e = both_some typed.Int a b refl e
operands_some Div a b e = both_some typed.Int a b refl e
operands_some Rem a b e = both_some typed.Int a b refl e
operands_some Lt a b e = both_some typed.Int a b refl e
operands_some Le a b e = both_some typed.Int a b refl e
operands_some Gt a b e = both_some typed.Int a b refl e
operands_some Ge a b e = both_some typed.Int a b refl e
operands_some And a b e = both_some typed.Bool a b refl e
operands_some Or a b e = both_some typed.Bool a b refl e
operands_some Eq a b e = equal_some a b e
operands_some Ne a b e = equal_some a b e

-- a place is no call of what gives nothing
scalar_some : (o : Option Declaration) → IsSome (as_scalar o)
scalar_some None = refl
scalar_some (Some declared.Word) = refl
scalar_some (Some declared.Tally) = refl
scalar_some (Some declared.Array) = refl
scalar_some (Some (declared.Local ty.Int)) = refl
scalar_some (Some (declared.Local ty.Bool)) = refl
scalar_some (Some (declared.Function f)) = refl

array_some : (o : Option Declaration) → IsSome (as_array o)
array_some None = refl
array_some (Some declared.Word) = refl
array_some (Some declared.Tally) = refl
array_some (Some declared.Array) = refl
array_some (Some (declared.Local t)) = refl
array_some (Some (declared.Function f)) = refl

pub place_some : (names : Names) (place : Place) → IsSome (place_type names place)
place_some names (Place' name None') = scalar_some (meant names name)
place_some names (Place' name (Some' shape i)) = array_some (meant names name)

same_count : {n : _} (r : Row_of-Expr n) → checked.count r ≡ count r
same_count end_of-Expr = refl
same_count (more_of-Expr at node rest) = let h = same_count rest in grind (arith)

equal : (a b : ℕ) → nat_eq a b ≡ true → a ≡ b
equal a b e = grind (arith)

pred : (a b : ℕ) → suc a ≡ suc b → a ≡ b
pred a b e = grind (arith)

-- ---- calls

-- a function that is called without a fault
record Called (fs : List Function) (name : Name) (o : Option Declaration) (n : ℕ) : Type 0 where
  counted : HasCount (function_named fs name.text) n
  valued : IsSome (as_call o) → HasValue (given_by (function_named fs name.text))
  agrees : n ≡ length (params_of o)

has_value : (g : Gives) → IsSome (given g) → HasValue g
has_value gives.Nothing some = absurd cc
has_value gives.Int some = tt
has_value gives.Bool some = tt

called : (fs : List Function) (name : Name) (o : Option Declaration) (n : ℕ)
    → ((d : _) → o ≡ Some (declared.Function d) → Is fs name.text d)
    → use_faults name o (as_call o) ≡ [] → count_faults name o n ≡ [] → Called fs name o n
called fs name None n known used counts = absurd cc
called fs name (Some declared.Word) n known used counts = absurd cc
called fs name (Some declared.Tally) n known used counts = absurd cc
called fs name (Some declared.Array) n known used counts = absurd cc
called fs name (Some (declared.Local t)) n known used counts = absurd cc
called fs name (Some (declared.Function d)) n known used counts =
    let is = known d refl in
    let agree = equal n (length d.params) (true_of (nat_eq n (length d.params)) (none_if (not (nat_eq n (length d.params))) WrongCount name.at counts)) in
    record {
      counted = subst (λ (o : Option Function). HasCount o n) (sym is.named) (agree ∙ ap length is.params ∙ length-map is.function.params (λ q. q.ty));
      valued = λ some. subst (λ (o : Option Function). HasValue (given_by o)) (sym is.named) (has_value is.function.gives (subst (λ (g : Gives). IsSome (given g)) is.gives some));
      agrees = agree;
    }
  where
    true_of : (b : Bool) → not b ≡ false → b ≡ true
    true_of true e = refl
    true_of false e = cc

-- the parts of a call without faults
pub record Parts (body : Body) (names : Names) (name : Name) {n : _} (args : Row_of-Expr n) : Type 0 where
  pub used : use_faults name (meant names name) (as_call (meant names name)) ≡ []
  pub counts : count_faults name (meant names name) (count args) ≡ []
  pub arguments : argument_faults body names (params_of (meant names name)) args ≡ []

pub parts_of : (body : Body) (names : Names) (name : Name) {n : _} (args : Row_of-Expr n)
    → use_faults name (meant names name) (as_call (meant names name)) ++ tally_faults body name (call_touches (meant names name)) ++ count_faults name (meant names name) (checked.count args)
    ++ argument_faults body names (params_of (meant names name)) args ≡ []
    → Parts body names name args
parts_of body names name args e =
    let used = use_faults name (meant names name) (as_call (meant names name)) in
    let tallies = tally_faults body name (call_touches (meant names name)) in
    let counts = count_faults name (meant names name) (checked.count args) in
    let arguments = argument_faults body names (params_of (meant names name)) args in
    let first_three = none_in_first (used ++ tallies ++ counts) arguments e in
    record {
      used = none_in_first used tallies (none_in_first (used ++ tallies) counts first_three);
      counts = subst (λ (n : ℕ). count_faults name (meant names name) n ≡ []) (same_count args) (none_in_second (used ++ tallies) counts first_three);
      arguments = none_in_second (used ++ tallies ++ counts) arguments e;
    }

module _ (p : Program) (body : Body) (names : Names) (knows : Knows p.functions names) where
  mutual
    -- an expression that is a value
    pub value_is : (n : Node) → node_faults body names n ≡ [] → IsSome (type_of names n) → ValueIs p n
    value_is (Number z) e some = tt
    value_is (Truth b) e some = tt
    value_is (Read place) e some = place_is place (none_in_first (place_faults body names place) (place_tally body names place) e)
    value_is (CallOf (Call' name shape args)) e some =
        let parts = parts_of body names name args e in
        (call_is (Call' name shape args) e, (called p.functions name (meant names name) (count args) (λ d. knows name.text d) parts.used parts.counts).valued some)
    value_is (Unary' op shape a) e some =
        let clean = none_in_first (boxed_faults body names a) (wanted (unary_operand op) (boxed names a)) e in
        let fits = wanted_same (unary_operand op) (boxed names a) (good_unary op) (box_well_typed body names a clean)
        (none_in_second (boxed_faults body names a) (wanted (unary_operand op) (boxed names a)) e) in
        boxed_is a clean (some_of (unary_operand op) (boxed names a).typed (some_unary op) fits)
    value_is (Binary' op shape a shape' b) e some =
        let clean = none_in_first (boxed_faults body names a ++ boxed_faults body names b) (operand_faults op (boxed names a) (boxed names b)) e in
        let clean_a = none_in_first (boxed_faults body names a) (boxed_faults body names b) clean in
        let clean_b = none_in_second (boxed_faults body names a) (boxed_faults body names b) clean in
        let fits = operands_of op (boxed names a) (boxed names b) (box_well_typed body names a clean_a) (box_well_typed body names b clean_b)
        (none_in_second (boxed_faults body names a ++ boxed_faults body names b) (operand_faults op (boxed names a) (boxed names b)) e) in
        let somes = operands_some op (boxed names a).typed (boxed names b).typed fits in
        (boxed_is a clean_a somes.0, boxed_is b clean_b somes.1)
    value_is (Paren' shape a) e some = boxed_is a e some

    -- a place
    pub place_is : (place : Place) → place_faults body names place ≡ [] → PlaceIs p place
    place_is (Place' name None') e = tt
    place_is (Place' name (Some' shape i)) e =
        let clean = none_in_second (use_faults name (meant names name) (as_array (meant names name))) (boxed_faults body names i)
        (none_in_first (use_faults name (meant names name) (as_array (meant names name)) ++ boxed_faults body names i) (wanted typed.Int (boxed names i)) e) in
        let fits = wanted_same typed.Int (boxed names i) refl (box_well_typed body names i clean)
        (none_in_second (use_faults name (meant names name) (as_array (meant names name)) ++ boxed_faults body names i) (wanted typed.Int (boxed names i)) e) in
        boxed_is i clean (some_of typed.Int (boxed names i).typed refl fits)

    -- a call
    pub call_is : (call : Call) → call_faults body names call ≡ [] → CallIs p call
    call_is (Call' name shape args) e =
        let parts = parts_of body names name args e in
        let done = called p.functions name (meant names name) (count args) (λ d. knows name.text d) parts.used parts.counts in
        (done.counted, values_are (params_of (meant names name)) args parts.arguments done.agrees)

    pub boxed_is : {n : _} (r : Row_of-Expr n) → boxed_faults body names r ≡ [] → IsSome (boxed names r).typed → BoxedIs p r
    boxed_is end_of-Expr e some = absurd cc
    boxed_is (more_of-Expr at node rest) e some = value_is node e some

    pub values_are : {n : _} (tys : List Ty) (r : Row_of-Expr n) → argument_faults body names tys r ≡ [] → count r ≡ length tys → ValuesAre p r
    values_are tys end_of-Expr e counts = tt
    values_are [] (more_of-Expr at node rest) e counts = absurd cc
    values_are (t ∷ tys) (more_of-Expr at node rest) e counts =
        let clean = none_in_first (node_faults body names node) (wanted (of_ty t) (record { at = at; typed = type_of names node }))
        (none_in_first (node_faults body names node ++ wanted (of_ty t) (record { at = at; typed = type_of names node })) (argument_faults body names tys rest) e) in
        let fits = wanted_same (of_ty t) (record { at = at; typed = type_of names node }) (good_ty t) (well_typed body names node clean)
        (none_in_second (node_faults body names node) (wanted (of_ty t) (record { at = at; typed = type_of names node }))
        (none_in_first (node_faults body names node ++ wanted (of_ty t) (record { at = at; typed = type_of names node })) (argument_faults body names tys rest) e)) in
        (value_is node clean (some_of (of_ty t) (type_of names node) (some_ty t) fits), values_are tys rest (none_in_second (node_faults body names node ++ wanted (of_ty t) (record { at = at; typed = type_of names node })) (argument_faults body names tys rest) e) (pred (count rest) (length tys) counts))
