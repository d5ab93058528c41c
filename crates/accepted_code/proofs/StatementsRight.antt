-- The code of single statements keeps the rules.
use Rattle.std.proofs.Common.{◌≡◌, ℕ, ◌+◌, ◌≤◌, Bool, List, [], ◌∷◌, ◌++◌, length, Option, Some, None, refl, sym, ap, subst, ◌∙◌, arith, length-append}
use Rattle.std.specs.Prelude.{slice_get, unwrap_or}
use Rattle.std.specs.Option.{option_map}
use Rattle.std.proofs.lemmas.Option.{slice_get_within}
use Rattle.csl_tree.specs.declared.name.Name.{Name}
use Rattle.csl_tree.specs.declared.program.Program.{Program}
use Rattle.cal_terms.specs.declared.types.Gives.{Gives as Result}
use Rattle.cal_terms.specs.declared.types.Gives.TheVariants as result'
use Rattle.csl_tree.specs.declared.program.Expr.{Expr}
use Rattle.csl_tree.specs.declared.program.Item.{Item}
use Rattle.csl_tree.specs.declared.program.Item.TheVariants as item
use Rattle.csl_tree.specs.declared.program.RoutineBlock.{RoutineBlock}
use Rattle.csl_tree.specs.declared.program.Node.{Row_of-Expr}
use Rattle.csl_tree.specs.declared.program.Place.{Place, Place', None', Some'}
use Rattle.csl_meaning.specs.declared.state.Area.{Area}
use Rattle.csl_meaning.specs.Layout.{area_of}
use Rattle.csl_meaning.specs.Value.{declared}
use Rattle.csl_meaning.specs.Effect.{function_named}
use Rattle.bytecode.specs.declared.instr.Instr.{Instr}
use Rattle.bytecode.specs.declared.instr.Instr.TheVariants as i
use Rattle.cal_terms.specs.declared.types.Ty.{Ty}
use Rattle.cal_terms.specs.declared.types.Ty.TheVariants as ty
use Rattle.bytecode.specs.declared.module.Code.{Code}
use Rattle.bytecode.specs.declared.module.Module.{Module}
use Rattle.code_verify.specs.Kinds.{Kinds, result, below, loads, after}
use Rattle.code_verify.specs.Rules.{Taken, KindsAt, IsInRange}
use Rattle.compiled_code.specs.Slots.{Slot, Slots, slot_of}
use Rattle.compiled_code.specs.Sizes.{boxed_size, place_size, values_size, size_of, items_size, widths_size, returned_size, drop_size, given_by}
use Rattle.compiled_code.specs.Places.{add_size, form_size}
use Rattle.csl_tree.specs.declared.program.Form.{AddTo}
use Rattle.compiled_code.specs.Values.{function_number, kind_in, boxed_code, boxed_kind, values_code, code_of}
use Rattle.compiled_code.specs.Statements.{store_instr, add_code, drop_code, set_code, add_to_code, return_code, items_code, printed_items, widths_code}
use Rattle.compiled_code.specs.Modules.{gives_of}
use Rattle.compiled_code.proofs.Lengths.{values_length, expr_length, boxed_length, items_length, widths_length}
use Rattle.accepted_code.proofs.Spelled.{BoxedSpelled, ValuesSpelled, PlaceSpelled, ExprSpelled, ReturnSpelled, ItemsSpelled}
use Rattle.accepted_code.proofs.Permits.{Permits}
use Rattle.accepted_code.proofs.Fits.{pushed, ValueFits, items_pushed, AddFits, CallFits, BoxedFits, ValuesFit, ExprFits, SetFits, AddToFits, ReturnFits, ItemsFit, WidthsFit}
use Rattle.accepted_code.proofs.Taken.{values_taken, add_taken, drop_taken, boxed_taken, taken_of, set_taken, add_to_taken, return_taken, items_taken, widths_taken, widths_pushed}
use Rattle.accepted_code.proofs.Fine.{Held, Right, Falls, falls, returns}
use Rattle.accepted_code.proofs.Starts.{WidthsSpelled, values_many, boxed_many, expr_many, items_many, widths_many, value_starts}
use Rattle.accepted_code.proofs.Pieces.{at_end, then_piece, then_one}
use Rattle.accepted_code.proofs.ValuesRight.{value_right, boxed_right, call_right, items_right, widths_right}
use Rattle.accepted_code.proofs.Leaving.{below_one, print_leaves, step_leaves, widths_length as pushed_widths, name_sets, store_leaves}

-- as many values as a line has
pushed_items : (p : Program) (slots : Slots) (items : List Item) (ks : Kinds) → length (items_pushed p slots items ks) ≤ length ks + length items
pushed_items p slots items ks = all items ks
  where
    all : (items : List Item) (ks : Kinds) → length (items_pushed p slots items ks) ≤ length ks + length items
    all [] ks = omega arith
    all (item.Text text ∷ rest) ks = let h = all rest ks in omega (arith, h)
    all (item.Value e ∷ rest) ks = let h = all rest (kind_in p slots e.node ∷ ks) in omega (arith, h)

module _ (m : Module) (c : Code) (taken : Taken) (Ok : Instr → Type 0) (visible : ℕ) (main : Bool) (permits : Permits m c visible main Ok) (long : length taken ≡ length c.instrs) (p : Program)
    (slots : Slots) where
  -- an expression, and an instruction that takes its value
  pub expr_then : (e : Expr) (x : Instr) (at : ℕ) → ExprSpelled e → Falls x → IsInRange m c x → Ok x → after m c x (kind_in p slots e.node ∷ []) ≡ Some []
      → ValueFits m c Ok p slots e.node
      → Held c.instrs at (code_of p slots e at ++ x ∷ []) → Held taken at (taken_of p slots e [] ++ (kind_in p slots e.node ∷ []) ∷ []) → KindsAt taken (at + (size_of e + 1)) []
      → Right m c taken Ok at (code_of p slots e at ++ x ∷ [])
  expr_then e x at s plain in_range allowed leaves fit h t end =
      then_one m c taken Ok at (size_of e) (code_of p slots e at) (taken_of p slots e []) x (kind_in p slots e.node ∷ []) [] (expr_length p slots e at) (expr_many p slots e []) plain in_range allowed
      leaves (omega arith) h t end
      (λ h1 t1 there. value_right m c taken Ok visible main permits long p slots e.node at [] 0 fit s (omega arith) h1 t1 there)

  ints_taken : (x : Instr) (a b : Ty) → (a ≡ ty.Int) → (b ≡ ty.Int) → after m c x (ty.Int ∷ ty.Int ∷ []) ≡ Some [] → after m c x (b ∷ a ∷ []) ≡ Some []
  ints_taken x a b ea eb h = subst (λ (y : Ty). after m c x (y ∷ a ∷ []) ≡ Some []) (sym eb) (subst (λ (y : Ty). after m c x (ty.Int ∷ y ∷ []) ≡ Some []) (sym ea) h)

  -- an index and a value, and an instruction that takes both
  item_then : {n : _} (index : Row_of-Expr n) (e : Expr) (x : Instr) (at : ℕ) → BoxedFits m c Ok p slots index → (boxed_kind p slots index ≡ ty.Int) → ExprFits m c Ok p slots e ty.Int
      → BoxedSpelled 1 index → ExprSpelled e
      → Falls x → IsInRange m c x → Ok x → after m c x (ty.Int ∷ ty.Int ∷ []) ≡ Some []
      → Held c.instrs at (boxed_code p slots index at ++ code_of p slots e (at + boxed_size index) ++ x ∷ [])
      → Held taken at (boxed_taken p slots index [] ++ taken_of p slots e (boxed_kind p slots index ∷ []) ++ (kind_in p slots e.node ∷ boxed_kind p slots index ∷ []) ∷ [])
      → KindsAt taken (at + (boxed_size index + size_of e + 1)) []
      → Right m c taken Ok at (boxed_code p slots index at ++ code_of p slots e (at + boxed_size index) ++ x ∷ [])
  item_then index e x at fit kind fits s t' plain in_range allowed leaves h t end =
      let k = boxed_kind p slots index in
      let one = boxed_code p slots index at in
      let two = code_of p slots e (at + boxed_size index) in
      let one_t = boxed_taken p slots index [] in
      let two_t = taken_of p slots e (k ∷ []) in
      let l = length-append one two in
      let l1 = boxed_length p slots index at in
      let l2 = expr_length p slots e (at + boxed_size index) in
      let q = length-append one_t two_t in
      let q1 = boxed_many p slots index [] in
      let q2 = expr_many p slots e (k ∷ []) in
      then_one m c taken Ok at (boxed_size index + size_of e) (one ++ two) (one_t ++ two_t) x (kind_in p slots e.node ∷ k ∷ []) [] (omega (arith, l, l1, l2)) (omega (arith, q, q1, q2)) plain in_range
      allowed
      (ints_taken x k (kind_in p slots e.node) kind fits.1 leaves) (omega arith) h t end
      (λ h1 t1 there. then_piece m c taken Ok at (boxed_size index) one two one_t two_t (k ∷ []) l1 q1 h1 t1
      (λ tb. value_starts p slots taken e.node (at + boxed_size index) (k ∷ []) 0 t' tb)
      (λ ha ta begins. boxed_right m c taken Ok visible main permits long p slots index at [] 1 fit s (omega arith) ha ta begins)
      (λ hb tb begins. value_right m c taken Ok visible main permits long p slots e.node (at + boxed_size index) (k ∷ []) 0 fits.0 t' (omega arith) hb tb
      (at_end taken (kind_in p slots e.node ∷ k ∷ []) (at + (boxed_size index + size_of e)) (at + boxed_size index + size_of e) (omega arith) there)))

  pub set_right : (place : Place) (e : Expr) (at : ℕ) → SetFits m c Ok p slots place e → PlaceSpelled 0 place → ExprSpelled e
      → Held c.instrs at (set_code p slots place e at) → Held taken at (set_taken p slots place e) → KindsAt taken (at + (place_size place + size_of e + 1)) []
      → Right m c taken Ok at (set_code p slots place e at)
  set_right (Place' name None') e at fit s t' h t end =
      let sets = name_sets m c Ok p slots visible main permits (slot_of slots name.text) (declared (area_of p.shared name.text)) (kind_in p slots e.node) fit.1 in
      expr_then e (store_instr (slot_of slots name.text) (declared (area_of p.shared name.text))) at t' sets.plain sets.in_range sets.allowed sets.leaves fit.0 h t
      (at_end taken [] (at + (0 + size_of e + 1)) (at + (size_of e + 1)) (omega arith) end)
  set_right (Place' name (Some' shape index)) e at fit s t' h t end =
      let area = declared (area_of p.shared name.text) in
      item_then index e (i.SetItem area.first (unwrap_or area.items 0)) at fit.1 fit.2 fit.3 s t' tt fit.0.0 (permits.set_items area.first (unwrap_or area.items 0) fit.0.0 fit.0.1) refl h t end

  add_right : (o : Option Slot) (area : Area) (at : ℕ) → AddFits m c Ok p o area → Held c.instrs at (add_code o area) → Held taken at (add_taken o) → KindsAt taken (at + add_size o) []
      → Right m c taken Ok at (add_code o area)
  add_right (Some s) area at fit h t end =
      let within = slice_get_within c.locals s.number s.kind fit.0 in
      let third : at + 3 ≡ at + 1 + 1 + 1 = omega arith in (
        falls m c taken Ok at (i.Load s.number) (ty.Int ∷ []) (s.kind ∷ ty.Int ∷ []) tt h.0 t.0 within (ap (λ (o : Option Ty). loads o (ty.Int ∷ [])) fit.0) (omega arith)
            (permits.loads s.number within) t.1.0,
        (
          falls m c taken Ok (at + 1) i.Add (s.kind ∷ ty.Int ∷ []) (ty.Int ∷ []) tt h.1.0 t.1.0 tt (subst (λ (x : Ty). after m c i.Add (x ∷ ty.Int ∷ []) ≡ Some (ty.Int ∷ [])) (sym fit.1) refl)
              (omega arith) (permits.plain i.Add tt) t.1.1.0,
          (falls m c taken Ok (at + 1 + 1) (i.Store s.number) (ty.Int ∷ []) [] tt h.1.1.0 t.1.1.0 within (store_leaves m c Ok p slots (slice_get c.locals s.number) s.kind ty.Int fit.0 (sym fit.1)) (omega arith) (permits.stores s.number within) (at_end taken [] (at + 3) (at + 1 + 1 + 1) third end), tt),
        ),
      )
  add_right None area at fit h t end = (falls m c taken Ok at (i.AddWord area.first) (ty.Int ∷ []) [] tt h.0 t.0 fit.0 refl (omega arith) fit.1 end, tt)

  add_begins : (o : Option Slot) (at : ℕ) → Held taken at (add_taken o) → KindsAt taken at (ty.Int ∷ [])
  add_begins (Some s) at t = t.0
  add_begins None at t = t.0

  pub add_to_right : (place : Place) (e : Expr) (slot at : ℕ) → AddToFits m c Ok p slots place e → PlaceSpelled 0 place → ExprSpelled e
      → Held c.instrs at (add_to_code p slots place e at) → Held taken at (add_to_taken p slots place e) → KindsAt taken (at + form_size p (AddTo place e) slots slot) []
      → Right m c taken Ok at (add_to_code p slots place e at)
  add_to_right (Place' name None') e slot at fit s t' h t end =
      let o = slot_of slots name.text in
      let area = declared (area_of p.shared name.text) in
      let same : at + (size_of e + add_size o) ≡ at + size_of e + add_size o = omega arith in
      then_piece m c taken Ok at (size_of e) (code_of p slots e at) (add_code o area) (taken_of p slots e []) (add_taken o) (ty.Int ∷ []) (expr_length p slots e at) (expr_many p slots e []) h t
      (λ tb. add_begins o (at + size_of e) tb)
      (λ ha ta begins. value_right m c taken Ok visible main permits long p slots e.node at [] 0 fit.0.0 t' (omega arith) ha ta
      (subst (λ (x : Ty). KindsAt taken (at + size_of e) (x ∷ [])) (sym fit.0.1) begins))
      (λ hb tb begins. add_right o area (at + size_of e) fit.1 hb tb (at_end taken [] (at + (size_of e + add_size o)) (at + size_of e + add_size o) same end))
  add_to_right (Place' name (Some' shape index)) e slot at fit s t' h t end =
      let area = declared (area_of p.shared name.text) in
      item_then index e (i.AddItem area.first (unwrap_or area.items 0)) at fit.1 fit.2 fit.3 s t' tt fit.0.0 (permits.add_items area.first (unwrap_or area.items 0) fit.0.0 fit.0.1) refl h t end

  -- a value that is the result
  value_returned : (k : Ty) (e : Expr) (at : ℕ) → result c.gives ≡ k ∷ [] → ExprFits m c Ok p slots e k → ExprSpelled e
      → Held c.instrs at (code_of p slots e at ++ i.Return ∷ []) → Held taken at (taken_of p slots e [] ++ (kind_in p slots e.node ∷ []) ∷ []) → KindsAt taken (at + (size_of e + 1)) []
      → Right m c taken Ok at (code_of p slots e at ++ i.Return ∷ [])
  value_returned k e at gives fit s h t end =
      let kind = kind_in p slots e.node in
      let last : at + (size_of e + 1) ≡ at + size_of e + 1 = omega arith in
      then_piece m c taken Ok at (size_of e) (code_of p slots e at) (i.Return ∷ []) (taken_of p slots e []) ((kind ∷ []) ∷ []) (kind ∷ []) (expr_length p slots e at) (expr_many p slots e []) h t
      (λ tb. tb.0)
      (λ ha ta begins. value_right m c taken Ok visible main permits long p slots e.node at [] 0 fit.0 s (omega arith) ha ta begins)
      (λ hb tb begins. (
        returns m c taken Ok (at + size_of e) (kind ∷ []) begins
            (ap (λ (l : Kinds). option_map (λ rest. rest) (below l (kind ∷ []))) gives ∙ ap (λ (x : Ty). option_map (λ rest. rest) (below (k ∷ []) (x ∷ []))) fit.1
            ∙ ap (λ (o : Option Kinds). option_map (λ rest. rest) o) (below_one k []))
            (omega arith) (permits.plain i.Return tt) (λ within none. at_end taken [] (at + (size_of e + 1)) (at + size_of e + 1) last end),
        tt,
      ))

  pub return_right : (g : Result) (given : Option Expr) (at : ℕ) → c.gives ≡ g → ReturnFits m c Ok p slots g given → ReturnSpelled given
      → Held c.instrs at (return_code p slots given at) → Held taken at (return_taken p slots given) → KindsAt taken (at + (returned_size given + 1)) []
      → Right m c taken Ok at (return_code p slots given at)
  return_right result'.Nothing None at same fit s h t end =
      let last : at + (0 + 1) ≡ at + 1 = omega arith in
      (returns m c taken Ok at [] t.0 (ap (λ (g : Result). option_map (λ rest. rest) (below (result g) [])) same) (omega arith) (permits.plain i.Return tt) (λ within none. at_end taken [] (at + (0 + 1)) (at + 1) last end), tt)
  return_right result'.Nothing (Some e) at same fit s h t end = absurd fit
  return_right result'.Int None at same fit s h t end = absurd fit
  return_right result'.Int (Some e) at same fit s h t end = value_returned ty.Int e at (ap result same) fit s h t end
  return_right result'.Bool None at same fit s h t end = absurd fit
  return_right result'.Bool (Some e) at same fit s h t end = value_returned ty.Bool e at (ap result same) fit s h t end

  -- a result that is dropped
  drop_right : (g : Result) (at : ℕ) → Held c.instrs at (drop_code g) → Held taken at (drop_taken g) → KindsAt taken (at + drop_size g) [] → Right m c taken Ok at (drop_code g)
  drop_right result'.Nothing at h t end = tt
  drop_right result'.Int at h t end = (falls m c taken Ok at i.Pop (ty.Int ∷ []) [] tt h.0 t.0 tt refl (omega arith) (permits.plain i.Pop tt) end, tt)
  drop_right result'.Bool at h t end = (falls m c taken Ok at i.Pop (ty.Bool ∷ []) [] tt h.0 t.0 tt refl (omega arith) (permits.plain i.Pop tt) end, tt)

  drop_begins : (g : Result) (at : ℕ) → Held taken at (drop_taken g) → KindsAt taken (at + drop_size g) [] → KindsAt taken at (result (gives_of g) ++ [])
  drop_begins result'.Nothing at t end = let same : at + 0 ≡ at = omega arith in at_end taken [] (at + 0) at same end
  drop_begins result'.Int at t end = t.0
  drop_begins result'.Bool at t end = t.0

  pub statement_right : (name : Name) {n : _} (args : Row_of-Expr n) (at : ℕ) → CallFits m c Ok p slots name args → ValuesFit m c Ok p slots args → ValuesSpelled 1 args
      → Held c.instrs at (values_code p slots args at ++ i.Call (function_number p.functions name.text) ∷ [] ++ drop_code (given_by (function_named p.functions name.text)))
      → Held taken at (values_taken p slots args [] ++ (pushed p slots args []) ∷ [] ++ drop_taken (given_by (function_named p.functions name.text)))
      → KindsAt taken (at + (values_size args + 1 + drop_size (given_by (function_named p.functions name.text)))) []
      → Right m c taken Ok at (values_code p slots args at ++ i.Call (function_number p.functions name.text) ∷ [] ++ drop_code (given_by (function_named p.functions name.text)))
  statement_right name args at fit fits s h t end =
      let g = given_by (function_named p.functions name.text) in
      let one = values_code p slots args at ++ i.Call (function_number p.functions name.text) ∷ [] in
      let one_t = values_taken p slots args [] ++ (pushed p slots args []) ∷ [] in
      let l = length-append (values_code p slots args at) (i.Call (function_number p.functions name.text) ∷ []) in
      let l1 = values_length p slots args at in
      let q = length-append (values_taken p slots args []) ((pushed p slots args []) ∷ []) in
      let q1 = values_many p slots args [] in
      let end' = at_end taken [] (at + (values_size args + 1 + drop_size g)) (at + (values_size args + 1) + drop_size g) (omega arith) end in
      then_piece m c taken Ok at (values_size args + 1) one (drop_code g) one_t (drop_taken g) (result (gives_of g) ++ []) (omega (arith, l, l1)) (omega (arith, q, q1)) h t
      (λ tb. drop_begins g (at + (values_size args + 1)) tb end')
      (λ ha ta begins. call_right m c taken Ok visible main permits long p slots name args at fit fits s ha ta begins)
      (λ hb tb begins. drop_right g (at + (values_size args + 1)) hb tb end')

  pub print_right : (items : List Item) (text at : ℕ) → ItemsFit m c Ok p slots items → length items ≤ 64 → Ok (i.Print (printed_items p slots items text))
      → IsInRange m c (i.Print (printed_items p slots items text)) → ItemsSpelled items
      → Held c.instrs at (items_code p slots items at ++ i.Print (printed_items p slots items text) ∷ []) → Held taken at (items_taken p slots items [] ++ (items_pushed p slots items []) ∷ [])
      → KindsAt taken (at + (items_size items + 1)) []
      → Right m c taken Ok at (items_code p slots items at ++ i.Print (printed_items p slots items text) ∷ [])
  print_right items text at fit few allowed in_range s h t end =
      let many = pushed_items p slots items [] in
      then_one m c taken Ok at (items_size items) (items_code p slots items at) (items_taken p slots items []) (i.Print (printed_items p slots items text)) (items_pushed p slots items []) []
      (items_length p slots items at) (items_many p slots items []) tt in_range allowed
      (print_leaves m c Ok p slots items text) (omega (arith, many, few)) h t end
      (λ ha ta begins. items_right m c taken Ok visible main permits long p slots items at [] fit s (omega (arith, few)) ha ta begins)

  pub step_right : (blocks : List RoutineBlock) (first at : ℕ) → WidthsFit m c Ok p slots blocks → length blocks ≤ 64 → Ok (i.Par first (length blocks)) → WidthsSpelled blocks
      → Held c.instrs at (widths_code p slots blocks at ++ i.Par first (length blocks) ∷ []) → Held taken at (widths_taken p slots blocks [] ++ (widths_pushed p slots blocks []) ∷ [])
      → KindsAt taken (at + (widths_size blocks + 1)) []
      → Right m c taken Ok at (widths_code p slots blocks at ++ i.Par first (length blocks) ∷ [])
  step_right blocks first at fit few allowed s h t end =
      let many = pushed_widths m c Ok p slots blocks fit in
      then_one m c taken Ok at (widths_size blocks) (widths_code p slots blocks at) (widths_taken p slots blocks []) (i.Par first (length blocks)) (widths_pushed p slots blocks []) []
      (widths_length p slots blocks at) (widths_many p slots blocks []) tt tt allowed
      (step_leaves m c Ok p slots blocks first fit) (omega (arith, many, few)) h t end
      (λ ha ta begins. widths_right m c taken Ok visible main permits long p slots blocks at [] fit s (omega (arith, few)) ha ta begins)
