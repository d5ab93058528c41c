-- The product of two matrices.
use Rattle.std.proofs.Common.{◌≡◌, refl, ℕ, zero, suc, ◌+◌, ◌*◌, ◌/◌, ◌%◌, ◌^◌, ◌<◌, ◌≤◌, nat_lt, nat_eq, Bool, true, false, if◌then◌else◌, ℤ, pos, ap, ◌∙◌, sym, arith, Option, Some, List, [], ◌∷◌}
use Rattle.std.proofs.Common.{◌++◌, map, Ok}
use Rattle.std.specs.Prelude.{codes}
use Rattle.std.proofs.lemmas.Bool.{lt-ltb}
use Rattle.std.specs.Fmt.{digits}
use Rattle.std.specs.List.{range_with_len}
use Rattle.std.specs.FinMap.{empty, get-empty}
use Rattle.std.specs.Ordering.{nat_cmp}
use Rattle.csl_tree.specs.declared.program.Node.TheBlock.{shape-the_row-Expr-0, hidden-the_row-Expr-0, shape-the_row-Expr-1, hidden-the_row-Expr-1}
use Rattle.csl_tree.specs.declared.program.Place.{roll-Place}
use Rattle.csl_tree.specs.declared.program.Call.{roll-Call}
use Rattle.csl_tree.specs.declared.program.Form.TheBlock.{shape-the_row-Stmt-1, hidden-the_row-Stmt-1, shape-the_row-Stmt-2, hidden-the_row-Stmt-2, shape-the_row-RoutineBlock-3}
use Rattle.csl_tree.specs.declared.program.Form.TheBlock.{hidden-the_row-RoutineBlock-3, shape-the_row-Arm-0, hidden-the_row-Arm-0}
use Rattle.csl_tree.specs.declared.program.RoutineBlock.{roll-RoutineBlock}
use Rattle.csl_tree.specs.declared.program.Arm.{roll-Arm}
use denote.Hole.Carrier.{hidden, roll}
use Rattle.cal_base.specs.declared.answer.Answer.TheVariants.{Update}
use Rattle.cal_terms.specs.declared.kinds.WordKind.TheVariants.{Ordinary}
use Rattle.cal_base.specs.declared.value.Store.{Store}
use Rattle.cal_base.specs.declared.value.Store.TheVariants.{Routine}
use Rattle.cal_base.specs.declared.value.Val.{Val}
use Rattle.cal_base.specs.declared.value.Val.TheVariants.{Int}
use Rattle.cal_base.specs.Memory.{Memory, value_at}
use Rattle.std.specs.Option.{unwrap_or}
use Rattle.cal_base.specs.Updates.{Written}
use Rattle.cal_base.specs.Stores.{read_word}
use Rattle.cal_base.specs.Answers.{all_of}
use Rattle.cal_base.specs.After.{after}
use Rattle.cal_base.specs.Claims.{meant}
use Rattle.csl_meaning.specs.declared.state.World.{World}
use Rattle.csl_meaning.specs.Locals.{Locals}
use Rattle.csl_meaning.specs.declared.state.Ending.TheVariants as ending
use Rattle.csl_meaning.specs.Runs.{Run, Outcome, Gives, and_then, pure, take_unit, ◌>>◌}
use Rattle.csl_meaning.specs.Value.{Calls, value_of}
use Rattle.csl_meaning.specs.Effect.{Went, calls_to, turn, turns, scoped, leave, go_on, given_back, statements, step_of, nowhere}
use Rattle.csl_meaning.specs.Routines.{answer}
use Rattle.csl_meaning.specs.Meaning.{main}
use Rattle.csl_meaning.specs.Rows as rows
use Rattle.csl_meaning.specs.Rows.{written}
use Rattle.csl_meaning.proofs.Disjoint.{answers_by, update_of, disjoint}
use Rattle.csl_meaning.proofs.Stepping.{first_step, after_first, steps_leave}

-- eight more
abbrev eight : ℕ → ℕ
eight n = suc (suc (suc (suc (suc (suc (suc (suc n)))))))

-- within `cell`
abbrev inside : ℕ → ℕ → ℕ → ℕ → Locals
inside r q v k =
    record { name = codes "r"; value = Int (pos r) } ∷ record { name = codes "q"; value = Int (pos q) }
    ∷ record { name = codes "v"; value = Int (pos v) } ∷ record { name = codes "k"; value = Int (pos k) } ∷ []

module _ (calls : Calls) where
  abbrev one_turn : (Locals → Run Went) → Locals → Run Went
  one_turn = turn (λ l. value_of rows.products calls l rows.below_eight) (scoped (statements rows.products calls nowhere (rows.add_product ∷ [])))
      (step_of rows.products calls nowhere (Some rows.next_k))

  turned : (again : Locals → Run Went) (r q v k x y : ℕ) (w : World)
      → nat_lt k 8 ≡ true → nat_lt (r * 8) (2 ^ 63) ≡ true → nat_lt (r * 8 + k) (2 ^ 63) ≡ true → nat_lt (r * 8 + k) 64 ≡ true → read_word w.store (0 + (r * 8 + k)) ≡ pos x
      → nat_lt (k * 8) (2 ^ 63) ≡ true → nat_lt (k * 8 + q) (2 ^ 63) ≡ true → nat_lt (k * 8 + q) 64 ≡ true → read_word w.store (64 + (k * 8 + q)) ≡ pos y
      → nat_lt (x * y) (2 ^ 63) ≡ true → nat_lt (v + x * y) (2 ^ 63) ≡ true → nat_lt (k + 1) (2 ^ 63) ≡ true
      → one_turn again (inside r q v k) w ≡ again (inside r q (v + x * y) (k + 1)) w
  unfolding shape-the_row-Expr-0 hidden-the_row-Expr-0 shape-the_row-Expr-1 hidden-the_row-Expr-1 roll-Place roll-Call hidden roll
  turned again r q v k x y w h0 h1 h2 h3 h4 h5 h6 h7 h8 h9 h10 h11 = simp (h0, h1, h2, h3, h4, h5, h6, h7, h8, h9, h10, h11)

-- what the arrays hold after the first step
abbrev in_a : ℕ → ℕ
in_a i = i / 8 + i % 8

abbrev in_b : ℕ → ℕ
in_b j = if nat_eq (j / 8) (j % 8) then 2 else 0

-- the sum after so many turns
abbrev total : ℕ → ℕ → ℕ → ℕ
total r q zero = 0
total r q (suc k) = total r q k + in_a (r * 8 + k) * in_b (k * 8 + q)

small_b : (j : ℕ) → in_b j ≤ 2
small_b j = by_test (nat_eq (j / 8) (j % 8))
  where
    by_test : (b : Bool) → (if b then 2 else 0) ≤ 2
    by_test true = omega arith
    by_test false = omega arith

small_product : (x y : ℕ) → x ≤ 14 → y ≤ 2 → x * y ≤ 28
small_product x y l m = grind arith

product_at : (r q k : ℕ) → r < 8 → q < 8 → k < 8 → in_a (r * 8 + k) * in_b (k * 8 + q) ≤ 28
product_at r q k lr lq lk = small_product (in_a (r * 8 + k)) (in_b (k * 8 + q)) (omega arith) (small_b (k * 8 + q))

small_total : (r q k : ℕ) → r < 8 → q < 8 → k ≤ 8 → total r q k ≤ 28 * k
small_total r q zero lr lq lk = omega arith
small_total r q (suc k) lr lq lk =
    let before : total r q k ≤ 28 * k = small_total r q k lr lq (omega arith) in
    let one : in_a (r * 8 + k) * in_b (k * 8 + q) ≤ 28 = product_at r q k lr lq (omega arith) in
    omega arith

module _ (s : Store) (steps : ℕ) (reads_a : (i : ℕ) → i < 64 → read_word s (0 + i) ≡ pos (in_a i)) (reads_b : (j : ℕ) → j < 64 → read_word s (64 + j) ≡ pos (in_b j))
    (r q : ℕ) (lr : r < 8) (lq : q < 8) where
  -- the world with this much fuel
  abbrev at : ℕ → World
  at fuel = record { store = s; fuel = fuel; steps = steps }

  module _ (calls : Calls) (loops : ℕ → Locals → Run Went) (unrolls : (n : ℕ) → loops (suc n) ≡ one_turn calls (λ l. take_unit >> loops n l)) where
    next_turn : (n k : ℕ) → k < 8 → loops (suc n) (inside r q (total r q k) k) (at (suc n)) ≡ loops n (inside r q (total r q (suc k)) (k + 1)) (at n)
    next_turn n k lk =
        let all : total r q k ≤ 28 * k = small_total r q k lr lq (omega arith) in
        let one : in_a (r * 8 + k) * in_b (k * 8 + q) ≤ 28 = product_at r q k lr lq lk in
        ap (λ (f : Locals → Run Went). f (inside r q (total r q k) k) (at (suc n))) (unrolls n)
        ∙ turned calls (λ l. take_unit >> loops n l) r q (total r q k) k (in_a (r * 8 + k)) (in_b (k * 8 + q)) (at (suc n))
        (lt-ltb _ _ lk) (lt-ltb _ _ (omega arith)) (lt-ltb _ _ (omega arith)) (lt-ltb _ _ (omega arith)) (reads_a (r * 8 + k) (omega arith))
        (lt-ltb _ _ (omega arith)) (lt-ltb _ _ (omega arith)) (lt-ltb _ _ (omega arith)) (reads_b (k * 8 + q) (omega arith))
        (lt-ltb _ _ (omega arith)) (lt-ltb _ _ (omega arith)) (lt-ltb _ _ (omega arith))

    all_turns : (f : ℕ) → loops (eight (suc f)) (inside r q 0 0) (at (eight (suc f))) ≡ Gives (ending.Normal, inside r q (total r q 8) 8) (at (suc f))
    unfolding hidden-the_row-Expr-0 hidden roll-Place roll
    all_turns f =
        let left : ℕ = suc f in
        next_turn (suc (suc (suc (suc (suc (suc (suc left))))))) 0 (omega arith)
        ∙ next_turn (suc (suc (suc (suc (suc (suc left)))))) 1 (omega arith)
        ∙ next_turn (suc (suc (suc (suc (suc left))))) 2 (omega arith)
        ∙ next_turn (suc (suc (suc (suc left)))) 3 (omega arith)
        ∙ next_turn (suc (suc (suc left))) 4 (omega arith)
        ∙ next_turn (suc (suc left)) 5 (omega arith)
        ∙ next_turn (suc left) 6 (omega arith)
        ∙ next_turn left 7 (omega arith)
        ∙ ap (λ (g : Locals → Run Went). g (inside r q (total r q 8) 8) (at left)) (unrolls f)

  -- the loop of `cell`, and what follows it
  abbrev behind : Outcome Went → Outcome (Option Val)
  behind looped =
      and_then (and_then (and_then looped (λ went. pure (leave 3 went))) (λ went. go_on went (statements rows.products (calls_to rows.products 63) nowhere (rows.return_v ∷ []))))
      (λ went. pure (given_back went.0))

  called : (f : ℕ) → calls_to rows.products 64 (codes "cell") (Int (pos r) ∷ Int (pos q) ∷ []) (at (eight (suc f))) ≡ Gives (Some (Int (pos (total r q 8)))) (at (suc f))
  unfolding shape-the_row-Expr-0 hidden-the_row-Expr-0 shape-the_row-Expr-1 hidden-the_row-Expr-1 shape-the_row-Stmt-1 hidden-the_row-Stmt-1 shape-the_row-Stmt-2 hidden-the_row-Stmt-2
      shape-the_row-RoutineBlock-3 hidden-the_row-RoutineBlock-3 shape-the_row-Arm-0 hidden-the_row-Arm-0 roll-Place roll-Call roll-RoutineBlock roll-Arm hidden roll calls_to
  called f =
      ap behind (all_turns (calls_to rows.products 63) (λ n. turns n (λ l. value_of rows.products (calls_to rows.products 63) l rows.below_eight)
      (scoped (statements rows.products (calls_to rows.products 63) nowhere (rows.add_product ∷ []))) (step_of rows.products (calls_to rows.products 63) nowhere (Some rows.next_k))) (λ n. refl) f)

-- nothing written
abbrev nothing : Written
nothing = empty

-- what a routine of the second step writes
abbrev multiplied : ℕ → List (ℕ × ℤ)
multiplied id = (128 + id, pos (total (id / 8) (id % 8) 8)) ∷ []

-- what a function gives for the numbers from one on, this many
abbrev by_number : {A : Type 0} → (ℕ → A) → ℕ → ℕ → List A
by_number f from n = map f (range_with_len from n)

module _ (m : Memory) (holds_a : (i : ℕ) → i < 64 → value_at m (0 + i) ≡ pos (in_a i)) (holds_b : (j : ℕ) → j < 64 → value_at m (64 + j) ≡ pos (in_b j)) where
  reading : (a : ℕ) (z : ℤ) → value_at m a ≡ z → read_word (Routine m nothing) a ≡ z
  reading a z is = ap (λ o. unwrap_or o (value_at m a)) (get-empty nat_cmp a) ∙ is

  multiplies : (f id : ℕ) → id < 64 → answer rows.products m (suc (eight (suc f))) rows.multiplying 64 id ≡ Update (update_of (multiplied id))
  unfolding shape-the_row-Expr-0 hidden-the_row-Expr-0 shape-the_row-Expr-1 hidden-the_row-Expr-1 shape-the_row-Stmt-1 hidden-the_row-Stmt-1 shape-the_row-Stmt-2 hidden-the_row-Stmt-2
      shape-the_row-RoutineBlock-3 hidden-the_row-RoutineBlock-3 shape-the_row-Arm-0 hidden-the_row-Arm-0 roll-Place roll-Call roll-RoutineBlock roll-Arm hidden roll
  multiplies f id lt =
      let calling : calls_to rows.products 64 (codes "cell") (Int (pos (id / 8)) ∷ Int (pos (id % 8)) ∷ []) (record { store = Routine m nothing; fuel = eight (suc f); steps = 0 }) ≡ Gives
      (Some (Int (pos (total (id / 8) (id % 8) 8)))) (record { store = Routine m nothing; fuel = suc f; steps = 0 }) =
      called (Routine m nothing) 0 (λ i l. reading (0 + i) (pos (in_a i)) (holds_a i l)) (λ j l. reading (64 + j) (pos (in_b j)) (holds_b j l)) (id / 8) (id % 8) (omega arith) (omega arith) f in
      let row : nat_lt (id / 8) (2 ^ 63) ≡ true = lt-ltb _ _ (omega arith) in
      let within : nat_lt id 64 ≡ true = lt-ltb _ _ lt in
      simp (calling, row, within)

  all_multiply : (f n from : ℕ) → from + n ≤ 64 → map (λ id. answer rows.products m (suc (eight (suc f))) rows.multiplying 64 id) (range_with_len from n) ≡ answers_by (by_number multiplied from n)
  all_multiply f zero from le = refl
  all_multiply f (suc n) from le = λ i. multiplies f from (omega arith) i ∷ all_multiply f n (from + 1) (omega arith) i

-- ---- the memories

-- ordinary words that hold what a function gives for these numbers
abbrev words_by : (ℕ → ℕ) → ℕ → ℕ → Memory
words_by f from n = by_number (λ id. record { kind = Ordinary; value = pos (f id) }) from n

value_here : (f : ℕ → ℕ) (from n i : ℕ) (rest : Memory) → i < n → value_at (words_by f from n ++ rest) i ≡ pos (f (from + i))
value_here f from zero i rest lt = absurd (omega arith)
value_here f from (suc n) zero rest lt = let is : from + 0 ≡ from = omega arith in ap (λ x. pos (f x)) (sym is)
value_here f from (suc n) (suc i) rest lt = let is : from + 1 + i ≡ from + suc i = omega arith in value_here f (from + 1) n i rest (omega arith) ∙ ap (λ x. pos (f x)) is

value_behind : (f : ℕ → ℕ) (from n i j : ℕ) (rest : Memory) → i ≡ n + j → value_at (words_by f from n ++ rest) i ≡ value_at rest j
value_behind f from zero i j rest is = let same : i ≡ j = omega arith in ap (value_at rest) same
value_behind f from (suc n) zero j rest is = absurd (omega arith)
value_behind f from (suc n) (suc i) j rest is = value_behind f (from + 1) n i j rest (omega arith)

abbrev zeros : Memory
zeros = words_by (λ id. 0) 0 64

abbrev filled : Memory
filled = words_by in_a 0 64 ++ words_by in_b 0 64 ++ zeros

holds_a : (i : ℕ) → i < 64 → value_at filled (0 + i) ≡ pos (in_a i)
holds_a i lt = let is : 0 + i ≡ i = omega arith in ap (value_at filled) is ∙ value_here in_a 0 64 i (words_by in_b 0 64 ++ zeros) lt ∙ ap (λ x. pos (in_a x)) is

holds_b : (j : ℕ) → j < 64 → value_at filled (64 + j) ≡ pos (in_b j)
holds_b j lt = let is : 0 + j ≡ j = omega arith in value_behind in_a 0 64 (64 + j) j (words_by in_b 0 64 ++ zeros) refl ∙ value_here in_b 0 64 j zeros lt ∙ ap (λ x. pos (in_b x)) is

-- what a routine of the first step writes
abbrev sums : ℕ → List (ℕ × ℤ)
sums id = if nat_eq (id / 8) (id % 8) then (64 + id, pos 2) ∷ (id, pos (in_a id)) ∷ [] else (id, pos (in_a id)) ∷ []

abbrev doubled : Memory
doubled = words_by in_a 0 64 ++ words_by in_b 0 64 ++ words_by (λ id. total (id / 8) (id % 8) 8) 0 64

fuel_for_products_fills : (first_step (main rows.products 66)).answers ≡ answers_by (by_number sums 0 64)
unfolding shape-the_row-Expr-0 hidden-the_row-Expr-0 shape-the_row-Expr-1 hidden-the_row-Expr-1 shape-the_row-Stmt-1 hidden-the_row-Stmt-1 shape-the_row-Stmt-2 hidden-the_row-Stmt-2
    shape-the_row-RoutineBlock-3 hidden-the_row-RoutineBlock-3 shape-the_row-Arm-0 hidden-the_row-Arm-0 roll-Place roll-Call roll-RoutineBlock roll-Arm hidden roll digits calls_to
fuel_for_products_fills = refl

fuel_for_products_filled : meant (first_step (main rows.products 66)) ≡ Ok filled
unfolding shape-the_row-Expr-0 hidden-the_row-Expr-0 shape-the_row-Expr-1 hidden-the_row-Expr-1 shape-the_row-Stmt-1 hidden-the_row-Stmt-1 shape-the_row-Stmt-2 hidden-the_row-Stmt-2
    shape-the_row-RoutineBlock-3 hidden-the_row-RoutineBlock-3 shape-the_row-Arm-0 hidden-the_row-Arm-0 roll-Place roll-Call roll-RoutineBlock roll-Arm hidden roll digits calls_to
fuel_for_products_filled = ap (λ all. after (zeros ++ zeros ++ zeros) (all_of all)) fuel_for_products_fills ∙ disjoint (zeros ++ zeros ++ zeros) (by_number sums 0 64) refl

fuel_for_products_multiplied : meant (first_step (after_first filled (main rows.products 66))) ≡ Ok doubled
unfolding shape-the_row-Expr-0 hidden-the_row-Expr-0 shape-the_row-Expr-1 hidden-the_row-Expr-1 shape-the_row-Stmt-1 hidden-the_row-Stmt-1 shape-the_row-Stmt-2 hidden-the_row-Stmt-2
    shape-the_row-RoutineBlock-3 hidden-the_row-RoutineBlock-3 shape-the_row-Arm-0 hidden-the_row-Arm-0 roll-Place roll-Call roll-RoutineBlock roll-Arm hidden roll digits calls_to
fuel_for_products_multiplied = ap (λ all. after filled (all_of (all ++ []))) (all_multiply filled holds_a holds_b 56 64 0 (omega arith)) ∙ disjoint filled (by_number multiplied 0 64) refl

pub fuel_for_products : rows.FuelForProducts
unfolding shape-the_row-Expr-0 hidden-the_row-Expr-0 shape-the_row-Expr-1 hidden-the_row-Expr-1 shape-the_row-Stmt-1 hidden-the_row-Stmt-1 shape-the_row-Stmt-2 hidden-the_row-Stmt-2
    shape-the_row-RoutineBlock-3 hidden-the_row-RoutineBlock-3 shape-the_row-Arm-0 hidden-the_row-Arm-0 roll-Place roll-Call roll-RoutineBlock roll-Arm hidden roll digits calls_to
fuel_for_products = ap (written false) (steps_leave (main rows.products 66) _ _ fuel_for_products_filled fuel_for_products_multiplied)

no_fuel_for_products_fills : (first_step (main rows.products 65)).answers ≡ answers_by (by_number sums 0 64)
unfolding shape-the_row-Expr-0 hidden-the_row-Expr-0 shape-the_row-Expr-1 hidden-the_row-Expr-1 shape-the_row-Stmt-1 hidden-the_row-Stmt-1 shape-the_row-Stmt-2 hidden-the_row-Stmt-2
    shape-the_row-RoutineBlock-3 hidden-the_row-RoutineBlock-3 shape-the_row-Arm-0 hidden-the_row-Arm-0 roll-Place roll-Call roll-RoutineBlock roll-Arm hidden roll digits calls_to
no_fuel_for_products_fills = refl

no_fuel_for_products_filled : meant (first_step (main rows.products 65)) ≡ Ok filled
unfolding shape-the_row-Expr-0 hidden-the_row-Expr-0 shape-the_row-Expr-1 hidden-the_row-Expr-1 shape-the_row-Stmt-1 hidden-the_row-Stmt-1 shape-the_row-Stmt-2 hidden-the_row-Stmt-2
    shape-the_row-RoutineBlock-3 hidden-the_row-RoutineBlock-3 shape-the_row-Arm-0 hidden-the_row-Arm-0 roll-Place roll-Call roll-RoutineBlock roll-Arm hidden roll digits calls_to
no_fuel_for_products_filled = ap (λ all. after (zeros ++ zeros ++ zeros) (all_of all)) no_fuel_for_products_fills ∙ disjoint (zeros ++ zeros ++ zeros) (by_number sums 0 64) refl

no_fuel_for_products_multiplied : meant (first_step (after_first filled (main rows.products 65))) ≡ Ok doubled
unfolding shape-the_row-Expr-0 hidden-the_row-Expr-0 shape-the_row-Expr-1 hidden-the_row-Expr-1 shape-the_row-Stmt-1 hidden-the_row-Stmt-1 shape-the_row-Stmt-2 hidden-the_row-Stmt-2
    shape-the_row-RoutineBlock-3 hidden-the_row-RoutineBlock-3 shape-the_row-Arm-0 hidden-the_row-Arm-0 roll-Place roll-Call roll-RoutineBlock roll-Arm hidden roll digits calls_to
no_fuel_for_products_multiplied = ap (λ all. after filled (all_of (all ++ []))) (all_multiply filled holds_a holds_b 55 64 0 (omega arith)) ∙ disjoint filled (by_number multiplied 0 64) refl

pub no_fuel_for_products : rows.NoFuelForProducts
unfolding shape-the_row-Expr-0 hidden-the_row-Expr-0 shape-the_row-Expr-1 hidden-the_row-Expr-1 shape-the_row-Stmt-1 hidden-the_row-Stmt-1 shape-the_row-Stmt-2 hidden-the_row-Stmt-2
    shape-the_row-RoutineBlock-3 hidden-the_row-RoutineBlock-3 shape-the_row-Arm-0 hidden-the_row-Arm-0 roll-Place roll-Call roll-RoutineBlock roll-Arm hidden roll digits calls_to
no_fuel_for_products = ap (written false) (steps_leave (main rows.products 65) _ _ no_fuel_for_products_filled no_fuel_for_products_multiplied)
