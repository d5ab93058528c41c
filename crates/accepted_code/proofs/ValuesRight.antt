-- The code of an expression keeps the rules, and leaves a value of its kind.
use Rattle.std.proofs.Common.{◌≡◌, ℕ, ◌+◌, ◌*◌, ◌≤◌, Bool, true, false, List, [], ◌∷◌, ◌++◌, length, Option, Some, None, refl, sym, ap, subst, ◌∙◌, arith}
use Rattle.std.specs.Prelude.{slice_get, unwrap_or}
use Rattle.std.specs.Option.{option_map}
use Rattle.std.proofs.lemmas.Option.{slice_get_within}
use Rattle.csl_tree.specs.declared.name.Name.{Name}
use Rattle.csl_tree.specs.declared.program.Program.{Program}
use Rattle.cal_terms.specs.declared.types.Gives.{Gives as Result}
use Rattle.cal_terms.specs.declared.types.Gives.TheVariants as result'
use Rattle.csl_tree.specs.declared.program.Expr.{Expr}
use Rattle.csl_tree.specs.declared.program.Item.{Item}
use Rattle.csl_tree.specs.declared.program.Item.TheVariants as item
use Rattle.csl_tree.specs.declared.program.RoutineBlock.{RoutineBlock, RoutineBlock'}
use Rattle.csl_tree.specs.declared.program.Node.{Node, Number, Truth, Read, CallOf, Unary', Binary', Paren', Row_of-Expr, end_of-Expr, more_of-Expr}
use Rattle.csl_tree.specs.declared.program.Place.{Place', None', Some'}
use Rattle.csl_tree.specs.declared.program.Call.{Call'}
use Rattle.csl_grammar.specs.Levels.{most_levels}
use Rattle.csl_meaning.specs.declared.state.Area.{Area}
use Rattle.csl_meaning.specs.Layout.{area_of}
use Rattle.csl_meaning.specs.Value.{declared}
use Rattle.csl_meaning.specs.Effect.{function_named}
use Rattle.bytecode.specs.declared.instr.Instr.{Instr}
use Rattle.bytecode.specs.declared.instr.Instr.TheVariants as i
use Rattle.cal_terms.specs.declared.types.Ty.{Ty}
use Rattle.cal_terms.specs.declared.types.Ty.TheVariants as ty
use Rattle.bytecode.specs.declared.module.Code.{Code}
use Rattle.bytecode.specs.declared.module.Module.{Module}
use Rattle.code_verify.specs.Kinds.{Kinds, result, below, parameters, loads, calls, after}
use Rattle.code_verify.specs.Rules.{Taken, KindsAt, most_operands}
use Rattle.compiled_code.specs.Slots.{Slot, Slots, slot_of}
use Rattle.compiled_code.specs.Sizes.{value_size, boxed_size, values_size, size_of, items_size, widths_size, given_by}
use Rattle.compiled_code.specs.Values.{unary_instr, unary_kind, truth_instr, read_instr, item_instr, function_number, value_code, boxed_code, values_code, code_of, given_kind, name_kind, kind_in}
use Rattle.compiled_code.specs.Values.{boxed_kind}
use Rattle.compiled_code.specs.Statements.{items_code, widths_code}
use Rattle.compiled_code.specs.Modules.{gives_of}
use Rattle.compiled_code.specs.Shape.{count, HasValue}
use Rattle.compiled_code.proofs.Lengths.{value_length, boxed_length, values_length, expr_length}
use Rattle.accepted_code.proofs.Spelled.{ValueSpelled, BoxedSpelled, ValuesSpelled, ExprSpelled, ItemsSpelled}
use Rattle.accepted_code.proofs.Permits.{Permits}
use Rattle.accepted_code.proofs.Fits.{pushed, items_pushed, ReadFits, CallFits, ValueFits, BoxedFits, ValuesFit, ExprFits, ItemsFit, WidthsFit}
use Rattle.accepted_code.proofs.Taken.{value_taken, boxed_taken, values_taken, taken_of, items_taken, widths_taken, widths_pushed}
use Rattle.accepted_code.proofs.Fine.{Held, Right, falls}
use Rattle.accepted_code.proofs.Starts.{value_many, boxed_many, values_many, expr_many, boxed_starts, values_start, items_start, WidthsSpelled, widths_start}
use Rattle.accepted_code.proofs.Pieces.{at_end, then_piece, then_one}
use Rattle.accepted_code.proofs.Operators.{unary_leaves, unary_plain, binary_right}

mutual
  -- no expression begins above the highest level
  pub value_low : (n : Node) (level : ℕ) → ValueSpelled level n → level ≤ most_levels
  value_low (Number z) level s = s.0
  value_low (Truth b) level s = s
  value_low (Read (Place' name None')) level s = s
  value_low (Read (Place' name (Some' shape i))) level s = let low = boxed_low i (level + 1) s in omega (arith, low)
  value_low (CallOf (Call' name shape args)) level s = s.0
  value_low (Unary' op shape a) level s = let low = boxed_low a (level + 1) s in omega (arith, low)
  value_low (Binary' op shape a shape' b) level s = boxed_low a level s.0
  value_low (Paren' shape a) level s = let low = boxed_low a (level + 1) s in omega (arith, low)

  pub boxed_low : {n : _} (row : Row_of-Expr n) (level : ℕ) → BoxedSpelled level row → level ≤ most_levels
  boxed_low end_of-Expr level s = absurd s
  boxed_low (more_of-Expr at node rest) level s = value_low node level s

-- the kinds below an expression at this level are few
abbrev pub most_below : ℕ → ℕ
most_below level = 511 + 8 * level

low_short : (level n : ℕ) → n ≤ most_below level → level ≤ most_levels → n + 1 ≤ most_operands
low_short level n few low = omega (arith, few, low)

-- as many more as there are arguments
pushed_length : (p : Program) (slots : Slots) {n : _} (args : Row_of-Expr n) (ks : Kinds) → length (pushed p slots args ks) ≡ length ks + count args
pushed_length p slots end_of-Expr ks = omega arith
pushed_length p slots (more_of-Expr at node rest) ks = let h = pushed_length p slots rest (kind_in p slots node ∷ ks) in omega (arith, h)

-- a value is given
given_value : (g : Result) (ks : Kinds) → HasValue g → result (gives_of g) ++ ks ≡ given_kind g ∷ ks
given_value result'.Nothing ks h = absurd h
given_value result'.Int ks h = refl
given_value result'.Bool ks h = refl

call_leaves : (o : Option Code) (code : Code) (g : Result) (there ks : Kinds) → o ≡ Some code → below (parameters code) there ≡ Some ks → code.gives ≡ gives_of g
    → calls o there ≡ Some (result (gives_of g) ++ ks)
call_leaves o code g there ks found takes same =
    ap (λ (x : Option Code). calls x there) found ∙ ap (λ (x : Option Kinds). option_map (λ rest. result code.gives ++ rest) x) takes ∙ ap (λ (x : Result). Some (result x ++ ks)) same

-- arguments and what is below them are no more than the longest list of operands
args_short : {n : _} (args : Row_of-Expr n) (level : ℕ) → ValuesSpelled level args → (others : ℕ) → others + count args ≤ most_below level → others ≤ most_operands
    → others + count args ≤ most_operands
args_short end_of-Expr level s others few short = omega (arith, short)
args_short (more_of-Expr where' node rest) level s others few short = let low = value_low node level s.0 in omega (arith, few, low)

module _ (m : Module) (c : Code) (taken : Taken) (Ok : Instr → Type 0) (visible : ℕ) (main : Bool) (permits : Permits m c visible main Ok) (long : length taken ≡ length c.instrs) (p : Program)
    (slots : Slots) where
  truth_right : (b : Bool) (at : ℕ) (ks : Kinds) → length ks ≤ most_operands → Held c.instrs at (truth_instr b ∷ []) → Held taken at (ks ∷ []) → KindsAt taken (at + 1) (ty.Bool ∷ ks)
      → Right m c taken Ok at (truth_instr b ∷ [])
  truth_right true at ks short h t end = (falls m c taken Ok at i.True ks (ty.Bool ∷ ks) tt h.0 t.0 tt refl short (permits.plain i.True tt) end, tt)
  truth_right false at ks short h t end = (falls m c taken Ok at i.False ks (ty.Bool ∷ ks) tt h.0 t.0 tt refl short (permits.plain i.False tt) end, tt)

  -- a name is read
  read_right : (o : Option Slot) (area : Area) (at : ℕ) (ks : Kinds) → ReadFits m c Ok p o area → length ks ≤ most_operands → Held c.instrs at (read_instr o area ∷ []) → Held taken at (ks ∷ [])
      → KindsAt taken (at + 1) (name_kind o ∷ ks) → Right m c taken Ok at (read_instr o area ∷ [])
  read_right (Some s) area at ks fit short h t end =
      let within = slice_get_within c.locals s.number s.kind fit in
      (falls m c taken Ok at (i.Load s.number) ks (s.kind ∷ ks) tt h.0 t.0 within (ap (λ (o : Option Ty). loads o ks) fit) short (permits.loads s.number within) end, tt)
  read_right None area at ks fit short h t end = (falls m c taken Ok at (i.Word area.first) ks (ty.Int ∷ ks) tt h.0 t.0 fit.0 refl short fit.1 end, tt)

  -- a call whose arguments' code keeps the rules: it leaves what the function gives
  call_piece : (name : Name) {n : _} (args : Row_of-Expr n) (at : ℕ) (ks : Kinds) (level : ℕ) → CallFits m c Ok p slots name args → level ≤ most_levels → ValuesSpelled (level + 1) args
      → length ks ≤ most_below level
      → Held c.instrs at (values_code p slots args at ++ i.Call (function_number p.functions name.text) ∷ []) → Held taken at (values_taken p slots args ks ++ (pushed p slots args ks) ∷ [])
      → KindsAt taken (at + (values_size args + 1)) (result (gives_of (given_by (function_named p.functions name.text))) ++ ks)
      → (length ks + count args ≤ most_below (level + 1) → Held c.instrs at (values_code p slots args at) → Held taken at (values_taken p slots args ks)
      → KindsAt taken (at + values_size args) (pushed p slots args ks) → Right m c taken Ok at (values_code p slots args at))
      → Right m c taken Ok at (values_code p slots args at ++ i.Call (function_number p.functions name.text) ∷ [])
  call_piece name args at ks level fit low s few h t end arguments =
      let pushed_long = pushed_length p slots args ks in
      let eight = fit.few in
      let short = args_short args (level + 1) s (length ks) (omega (arith, few, eight)) (omega (arith, few, low)) in
      then_one m c taken Ok at (values_size args) (values_code p slots args at) (values_taken p slots args ks) (i.Call (function_number p.functions name.text)) (pushed p slots args ks)
      (result (gives_of (given_by (function_named p.functions name.text))) ++ ks)
      (values_length p slots args at) (values_many p slots args ks) tt (slice_get_within m.functions (function_number p.functions name.text) fit.code fit.there) fit.allowed
      (call_leaves (slice_get m.functions (function_number p.functions name.text)) fit.code (given_by (function_named p.functions name.text)) (pushed p slots args ks) ks fit.there (fit.takes ks)
      fit.gives)
      (omega (arith, pushed_long, short)) h t end
      (λ h1 t1 there. arguments (omega (arith, few, eight)) h1 t1 there)

  mutual
    pub value_right : (n : Node) (at : ℕ) (ks : Kinds) (level : ℕ) → ValueFits m c Ok p slots n → ValueSpelled level n → length ks ≤ most_below level
        → Held c.instrs at (value_code p slots n at) → Held taken at (value_taken p slots n ks) → KindsAt taken (at + value_size n) (kind_in p slots n ∷ ks)
        → Right m c taken Ok at (value_code p slots n at)
    value_right (Number z) at ks level fit s few h t end =
        (falls m c taken Ok at (i.Int z) ks (ty.Int ∷ ks) tt h.0 t.0 tt refl (let low = s.0 in omega (arith, few, low)) (permits.ints z s.1) end, tt)
    value_right (Truth b) at ks level fit s few h t end = truth_right b at ks (omega (arith, few, s)) h t end
    value_right (Read (Place' name None')) at ks level fit s few h t end =
        read_right (slot_of slots name.text) (declared (area_of p.shared name.text)) at ks fit (omega (arith, few, s)) h t (at_end taken _ (at + (0 + 1)) (at + 1) (omega arith) end)
    value_right (Read (Place' name (Some' shape index))) at ks level fit s few h t end =
        let low = boxed_low index (level + 1) s in
        then_one m c taken Ok at (boxed_size index) (boxed_code p slots index at) (boxed_taken p slots index ks) (item_instr (declared (area_of p.shared name.text))) (boxed_kind p slots index ∷ ks)
        (ty.Int ∷ ks)
        (boxed_length p slots index at) (boxed_many p slots index ks) tt fit.0.0 (permits.items (declared (area_of p.shared name.text)).first
        (unwrap_or (declared (area_of p.shared name.text)).items 0) fit.0.0 fit.0.1)
        (subst (λ (k : Ty). after m c (item_instr (declared (area_of p.shared name.text))) (k ∷ ks) ≡ Some (ty.Int ∷ ks)) (sym fit.2) refl) (omega (arith, few, low)) h t end
        (λ h1 t1 there. boxed_right index at ks (level + 1) fit.1 s (omega (arith, few)) h1 t1 there)
    value_right (CallOf (Call' name shape args)) at ks level fit s few h t end =
        call_piece name args at ks level fit.0 s.0 s.1 few h t (subst (λ (l : Kinds). KindsAt taken (at + (values_size args + 1)) l)
        (sym (given_value (given_by (function_named p.functions name.text)) ks fit.2)) end)
        (λ few' h1 t1 there. values_right args at ks (level + 1) fit.1 s.1 few' h1 t1 there)
    value_right (Unary' op shape a) at ks level fit s few h t end =
        let low = boxed_low a (level + 1) s in
        let plain : _ × _ × _ = unary_plain m c op in
        then_one m c taken Ok at (boxed_size a) (boxed_code p slots a at) (boxed_taken p slots a ks) (unary_instr op) (boxed_kind p slots a ∷ ks) (unary_kind op ∷ ks)
        (boxed_length p slots a at) (boxed_many p slots a ks) plain.0 plain.1 (permits.plain (unary_instr op) plain.2) (unary_leaves m c op (boxed_kind p slots a) ks fit.1) (omega (arith, few, low)) h
        t end
        (λ h1 t1 there. boxed_right a at ks (level + 1) fit.0 s (omega (arith, few)) h1 t1 there)
    value_right (Binary' op shape a shape' b) at ks level fit s few h t end =
        let low = boxed_low b (level + 1) s.1 in
        binary_right m c taken Ok visible main permits long (boxed_size a) (boxed_size b) (most_below level) (boxed_kind p slots a) (boxed_kind p slots b)
        (λ there. boxed_code p slots a there) (λ there. boxed_code p slots b there) (λ below. boxed_taken p slots a below) (λ below. boxed_taken p slots b below)
        (record {
          code_long = λ there. boxed_length p slots a there;
          kinds_long = λ below. boxed_many p slots a below;
          starts = λ there below t'. boxed_starts p slots taken a there below level s.0 t';
          right = λ there below few' h' t' e'. boxed_right a there below level fit.0 s.0 few' h' t' e';
        })
        (record {
          code_long = λ there. boxed_length p slots b there;
          kinds_long = λ below. boxed_many p slots b below;
          starts = λ there below t'. boxed_starts p slots taken b there below (level + 1) s.1 t';
          right = λ there below few' h' t' e'. boxed_right b there below (level + 1) fit.1 s.1 (omega (arith, few')) h' t' e';
        })
        at ks few (omega (arith, low)) op fit.2 h t end
    value_right (Paren' shape a) at ks level fit s few h t end = boxed_right a at ks (level + 1) fit s (omega (arith, few)) h t end

    pub boxed_right : {n : _} (row : Row_of-Expr n) (at : ℕ) (ks : Kinds) (level : ℕ) → BoxedFits m c Ok p slots row → BoxedSpelled level row → length ks ≤ most_below level
        → Held c.instrs at (boxed_code p slots row at) → Held taken at (boxed_taken p slots row ks) → KindsAt taken (at + boxed_size row) (boxed_kind p slots row ∷ ks)
        → Right m c taken Ok at (boxed_code p slots row at)
    boxed_right end_of-Expr at ks level fit s few h t end = absurd fit
    boxed_right (more_of-Expr where' node rest) at ks level fit s few h t end = value_right node at ks level fit s few h t end

    -- arguments, which are 8 at most
    pub values_right : {n : _} (row : Row_of-Expr n) (at : ℕ) (ks : Kinds) (level : ℕ) → ValuesFit m c Ok p slots row → ValuesSpelled level row → length ks + count row ≤ most_below level
        → Held c.instrs at (values_code p slots row at) → Held taken at (values_taken p slots row ks) → KindsAt taken (at + values_size row) (pushed p slots row ks)
        → Right m c taken Ok at (values_code p slots row at)
    values_right end_of-Expr at ks level fit s few h t end = tt
    values_right (more_of-Expr where' node rest) at ks level fit s few h t end =
        let long_end : at + (value_size node + values_size rest) ≡ at + value_size node + values_size rest = omega arith in
        let end' = at_end taken (pushed p slots rest (kind_in p slots node ∷ ks)) (at + (value_size node + values_size rest)) (at + value_size node + values_size rest) long_end end in
        then_piece m c taken Ok at (value_size node) (value_code p slots node at) (values_code p slots rest (at + value_size node)) (value_taken p slots node ks)
        (values_taken p slots rest (kind_in p slots node ∷ ks)) (kind_in p slots node ∷ ks)
        (value_length p slots node at) (value_many p slots node ks) h t
        (λ tb. values_start p slots taken rest (at + value_size node) (kind_in p slots node ∷ ks) level s.1 tb end')
        (λ h1 t1 there. value_right node at ks level fit.0 s.0 (omega (arith, few)) h1 t1 there)
        (λ h1 t1 there. values_right rest (at + value_size node) (kind_in p slots node ∷ ks) level fit.1 s.1 (omega (arith, few)) h1 t1 end')

  -- a call of a statement
  pub call_right : (name : Name) {n : _} (args : Row_of-Expr n) (at : ℕ) → CallFits m c Ok p slots name args → ValuesFit m c Ok p slots args → ValuesSpelled 1 args
      → Held c.instrs at (values_code p slots args at ++ i.Call (function_number p.functions name.text) ∷ []) → Held taken at (values_taken p slots args [] ++ (pushed p slots args []) ∷ [])
      → KindsAt taken (at + (values_size args + 1)) (result (gives_of (given_by (function_named p.functions name.text))) ++ [])
      → Right m c taken Ok at (values_code p slots args at ++ i.Call (function_number p.functions name.text) ∷ [])
  call_right name args at fit fits s h t end = call_piece name args at [] 0 fit (omega arith) s (omega arith) h t end (λ few' h1 t1 there. values_right args at [] 1 fits s few' h1 t1 there)

  -- an expression of a statement, above a few operands
  pub expr_right : (e : Expr) (kind : Ty) (at : ℕ) (ks : Kinds) → ExprFits m c Ok p slots e kind → ExprSpelled e → length ks ≤ 511
      → Held c.instrs at (code_of p slots e at) → Held taken at (taken_of p slots e ks) → KindsAt taken (at + size_of e) (kind_in p slots e.node ∷ ks) → Right m c taken Ok at (code_of p slots e at)
  expr_right e kind at ks fit s few h t end = value_right e.node at ks 0 fit.0 s (omega (arith, few)) h t end

  -- the values of a line
  pub items_right : (items : List Item) (at : ℕ) (ks : Kinds) → ItemsFit m c Ok p slots items → ItemsSpelled items → length ks + length items ≤ 511
      → Held c.instrs at (items_code p slots items at) → Held taken at (items_taken p slots items ks) → KindsAt taken (at + items_size items) (items_pushed p slots items ks)
      → Right m c taken Ok at (items_code p slots items at)
  items_right [] at ks fit s few h t end = tt
  items_right (item.Text text ∷ rest) at ks fit s few h t end = items_right rest at ks fit s (omega (arith, few)) h t end
  items_right (item.Value e ∷ rest) at ks fit s few h t end =
      let long_end : at + (size_of e + items_size rest) ≡ at + size_of e + items_size rest = omega arith in
      let end' = at_end taken (items_pushed p slots rest (kind_in p slots e.node ∷ ks)) (at + (size_of e + items_size rest)) (at + size_of e + items_size rest) long_end end in
      then_piece m c taken Ok at (size_of e) (code_of p slots e at) (items_code p slots rest (at + size_of e)) (taken_of p slots e ks) (items_taken p slots rest (kind_in p slots e.node ∷ ks))
      (kind_in p slots e.node ∷ ks)
      (expr_length p slots e at) (expr_many p slots e ks) h t
      (λ tb. items_start p slots taken rest (at + size_of e) (kind_in p slots e.node ∷ ks) s.1 tb end')
      (λ h1 t1 there. value_right e.node at ks 0 fit.0 s.0 (omega (arith, few)) h1 t1 there)
      (λ h1 t1 there. items_right rest (at + size_of e) (kind_in p slots e.node ∷ ks) fit.1 s.1 (omega (arith, few)) h1 t1 end')

  -- the widths of a step
  pub widths_right : (blocks : List RoutineBlock) (at : ℕ) (ks : Kinds) → WidthsFit m c Ok p slots blocks → WidthsSpelled blocks → length ks + length blocks ≤ 511
      → Held c.instrs at (widths_code p slots blocks at) → Held taken at (widths_taken p slots blocks ks) → KindsAt taken (at + widths_size blocks) (widths_pushed p slots blocks ks)
      → Right m c taken Ok at (widths_code p slots blocks at)
  widths_right [] at ks fit s few h t end = tt
  widths_right (RoutineBlock' where' width width_name id_name shape body ∷ rest) at ks fit s few h t end =
      let long_end : at + (size_of width + widths_size rest) ≡ at + size_of width + widths_size rest = omega arith in
      let end' = at_end taken (widths_pushed p slots rest (kind_in p slots width.node ∷ ks)) (at + (size_of width + widths_size rest)) (at + size_of width + widths_size rest) long_end end in
      then_piece m c taken Ok at (size_of width) (code_of p slots width at) (widths_code p slots rest (at + size_of width)) (taken_of p slots width ks)
      (widths_taken p slots rest (kind_in p slots width.node ∷ ks)) (kind_in p slots width.node ∷ ks)
      (expr_length p slots width at) (expr_many p slots width ks) h t
      (λ tb. widths_start p slots taken rest (at + size_of width) (kind_in p slots width.node ∷ ks) s.1 tb end')
      (λ h1 t1 there. value_right width.node at ks 0 fit.0.0 s.0 (omega (arith, few)) h1 t1 there)
      (λ h1 t1 there. widths_right rest (at + size_of width) (kind_in p slots width.node ∷ ks) fit.1 s.1 (omega (arith, few)) h1 t1 end')
