-- What a routine leaves, and the answers of a step.
use Rattle.std.proofs.Common.{◌≡◌, ℕ, zero, suc, ◌+◌, ◌-◌, ◌<◌, ◌≤◌, pos, Bool, true, false, cond, ◌||◌, ltb, map, drop, length, List, [], ◌∷◌, ◌++◌}
use Rattle.std.proofs.Common.{Option, Some, None, Result, Ok, Err, refl, sym, ap, ◌∙◌, subst, ⊎_elim, arith, append_assoc, append-nil}
use Rattle.std.proofs.lemmas.Bool.{cases_lt, or_left}
use Rattle.std.specs.Prelude.{IfOk, if◌then◌else◌}
use Rattle.std.specs.List.{range_with_len}
use Rattle.std.specs.FinMap.{empty}
use Rattle.csl_tree.specs.declared.program.Program.{Program}
use Rattle.csl_tree.specs.declared.program.Stmt.{Stmt}
use Rattle.csl_tree.specs.declared.program.RoutineBlock.{RoutineBlock, out-RoutineBlock, is-RoutineBlock'}
use Rattle.cal_base.specs.declared.answer.Answer.{Answer}
use Rattle.cal_base.specs.declared.value.Val.TheVariants as val
use Rattle.cal_base.specs.declared.value.Store.{Store}
use Rattle.cal_base.specs.declared.value.Store.TheVariants as store
use Rattle.cal_base.specs.Answers.{Answers, answer_of, all_of, is_fault}
use Rattle.cal_base.specs.After.{shared_word, is_faulty, least_faulty, after}
use Rattle.cal_base.specs.Memory.{Memory, kinds_of}
use Rattle.cal_terms.specs.declared.kinds.WordKind.{WordKind}
use Rattle.step_laws.proofs.Agreement.{AgreeBelow, agree_less, after_same}
use Rattle.step_laws.proofs.Searches.{least_le}
use Rattle.cal_base.specs.Updates.{Written}
use Rattle.csl_meaning.specs.declared.state.Ending.{Ending}
use Rattle.csl_meaning.specs.declared.state.World.{World}
use Rattle.csl_meaning.specs.Locals.{Locals, bound}
use Rattle.csl_meaning.specs.Runs.{Outcome, Run}
use Rattle.csl_meaning.specs.Effect.{Went, statements, calls_to, most_levels, nowhere}
use Rattle.csl_meaning.specs.Routines.{answer, answers, answered, opening_world}
use Rattle.statement_eval.specs.declared.halt.Halt.{Halt}
use Rattle.statement_eval.specs.declared.halt.Halt.TheVariants.{Cause, NoMemory}
use Rattle.statement_eval.specs.Follows.{Goes, opening_of}
use Rattle.tree_eval.specs.Asked.{has_failed, until_fault}
use Rattle.tree_eval.specs.Finished.{finished}
use Rattle.statement_eval.proofs.Loops.{in_order_is}

pub same_opening : (went : Result Ending Halt) (w : World) (opening : Memory) → opening_of w.store ≡ Some opening → IfOk (finished went w.store) (λ r. r.0 ≡ opening)
same_opening went w opening is = by_store went w.store is
  where
    by_store : (x : Result Ending Halt) (s : Store) → opening_of s ≡ Some opening → IfOk (finished x s) (λ r. r.0 ≡ opening)
    by_store (Ok e) (store.Routine o u) e' = cc
    by_store (Ok e) (store.Main m) e' = cc
    by_store (Err (Cause c)) (store.Routine o u) e' = cc
    by_store (Err (Cause c)) (store.Main m) e' = cc
    by_store (Err NoMemory) s e' = tt

-- the answer, by the world's store
given_answer : (o : Outcome Went) (went : Result Ending Halt) (l : Locals) (w : World) → Goes o went l w → IfOk (finished went w.store) (λ r. r.1 ≡ answered o)
given_answer o (Ok e) l w g = sym (ap answered g)
given_answer o (Err (Cause c)) l w g = sym (ap answered g)
given_answer o (Err NoMemory) l w g = tt

answer_is : (p : Program) (opening : Memory) (fuel : ℕ) (b : RoutineBlock) (width id : ℕ) → answer p opening fuel b width id ≡ answered
    (statements p (calls_to p most_levels) nowhere (out-RoutineBlock b).body (bound ((out-RoutineBlock b).width_name.text ∷ (out-RoutineBlock b).id_name.text ∷ [])
    (val.Int (pos width) ∷ val.Int (pos id) ∷ [])) (opening_world opening fuel))
answer_is p opening fuel b width id =
    ap (λ x. answer p opening fuel x width id) (is-RoutineBlock' b)
    ∙ ap (λ (f : Locals → Run Went). answered (f (bound ((out-RoutineBlock b).width_name.text ∷ (out-RoutineBlock b).id_name.text ∷ []) (val.Int (pos width) ∷ val.Int (pos id) ∷ []))
    (opening_world opening fuel))) (in_order_is p (calls_to p most_levels) nowhere (out-RoutineBlock b).body)

pub right_answer : (p : Program) (opening : Memory) (fuel : ℕ) (b : RoutineBlock) (width id : ℕ) (body : List Stmt) (begun l : Locals) (written : Written) (went : Result Ending Halt) (w : World)
    → body ≡ (out-RoutineBlock b).body → begun ≡ bound ((out-RoutineBlock b).width_name.text ∷ (out-RoutineBlock b).id_name.text ∷ []) (val.Int (pos width) ∷ val.Int (pos id) ∷ [])
    → Goes (statements p (calls_to p most_levels) nowhere body begun (record { store = store.Routine opening written; fuel = fuel; steps = 0 })) went l w → written ≡ empty
    → IfOk (finished went w.store) (λ r. r.1 ≡ answer p opening fuel b width id)
right_answer p opening fuel b width id body begun l written went w same begins g none =
    let o : Outcome Went = statements p (calls_to p most_levels) nowhere body begun (record { store = store.Routine opening written; fuel = fuel; steps = 0 }) in
    let is : o ≡ statements p (calls_to p most_levels) nowhere (out-RoutineBlock b).body (bound ((out-RoutineBlock b).width_name.text ∷ (out-RoutineBlock b).id_name.text ∷ [])
    (val.Int (pos width) ∷ val.Int (pos id) ∷ [])) (opening_world opening fuel) =
    ap (λ x. statements p (calls_to p most_levels) nowhere body begun (record { store = store.Routine opening x; fuel = fuel; steps = 0 })) none
    ∙ ap (λ x. statements p (calls_to p most_levels) nowhere x begun (opening_world opening fuel)) same
    ∙ ap (λ x. statements p (calls_to p most_levels) nowhere (out-RoutineBlock b).body x (opening_world opening fuel)) begins in
    subst (λ a. IfOk (finished went w.store) (λ r. r.1 ≡ a)) (sym (answer_is p opening fuel b width id))
    (subst (λ (a : Outcome Went). IfOk (finished went w.store) (λ r. r.1 ≡ answered a)) is (given_answer o went l w g))

-- ---- the answers of a block, one after the other

module _ (f : ℕ → Answer) where
  abbrev pub block_from : ℕ → ℕ → List Answer
  block_from id n = map f (range_with_len id n)

  left_is : (width id : ℕ) → id < width → width - id ≡ suc (width - (id + 1))
  left_is width id lt = omega arith

  -- one number more, which is asked where none has failed
  pub one_more : (failed later : Bool) (before given : Answers) (o : Option Answer) (width id : ℕ) → id < width → later ≡ (failed || is_fault (Some (f id)))
      → o ≡ cond failed None (Some (f id)) → given ≡ before ++ o ∷ []
      → given ++ until_fault later (block_from (id + 1) (width - (id + 1))) ≡ before ++ until_fault failed (block_from id (width - id))
  one_more failed later before given o width id lt flag asked is =
      (λ i. is i ++ until_fault (flag i) (block_from (id + 1) (width - (id + 1))))
      ∙ append_assoc before (o ∷ []) (until_fault (failed || is_fault (Some (f id))) (block_from (id + 1) (width - (id + 1))))
      ∙ (λ i. before ++ asked i ∷ until_fault (failed || is_fault (Some (f id))) (block_from (id + 1) (width - (id + 1))))
      ∙ ap (λ n. before ++ until_fault failed (block_from id n)) (sym (left_is width id lt))

  pub one_more_failed : (failed later : Bool) (width id : ℕ) → id < width → later ≡ (failed || is_fault (Some (f id)))
      → has_failed later (block_from (id + 1) (width - (id + 1))) ≡ has_failed failed (block_from id (width - id))
  one_more_failed failed later width id lt flag =
      ap (λ b. has_failed b (block_from (id + 1) (width - (id + 1)))) flag ∙ ap (λ n. has_failed failed (block_from id n)) (sym (left_is width id lt))

  pub no_more : (failed : Bool) (before : Answers) (width id : ℕ) → width - id ≡ 0 → before ++ until_fault failed (block_from id (width - id)) ≡ before
  no_more failed before width id none = ap (λ n. before ++ until_fault failed (block_from id n)) none ∙ append-nil before

  pub none_failed_more : (failed : Bool) (width id : ℕ) → width - id ≡ 0 → has_failed failed (block_from id (width - id)) ≡ failed
  none_failed_more failed width id none = ap (λ n. has_failed failed (block_from id n)) none

until_append : (failed : Bool) (xs ys : List Answer) → until_fault failed (xs ++ ys) ≡ until_fault failed xs ++ until_fault (has_failed failed xs) ys
until_append failed [] ys = refl
until_append failed (x ∷ xs) ys = ap (λ r. cond failed None (Some x) ∷ r) (until_append (failed || is_fault (Some x)) xs ys)

-- ---- the blocks of a step, one after the other

module _ (p : Program) (memory : Memory) (fuel : ℕ) where
  -- the answers of one block
  abbrev pub of_block : RoutineBlock → ℕ → List Answer
  of_block b w = map (λ id. answer p memory fuel b w id) (range_with_len 0 w)

  block_first : (failed : Bool) (b : RoutineBlock) (blocks : List RoutineBlock) (w : ℕ) (widths : List ℕ)
      → until_fault failed (of_block b w) ++ until_fault (has_failed failed (of_block b w)) (answers p memory fuel blocks widths)
      ≡ until_fault failed (answers p memory fuel (b ∷ blocks) (w ∷ widths))
  block_first failed b blocks w widths = sym (until_append failed (of_block b w) (answers p memory fuel blocks widths))

  -- one block more
  pub block_more : (failed : Bool) (before : Answers) (blocks : List RoutineBlock) (widths : List ℕ) (i : ℕ) (b : RoutineBlock) (w : ℕ) → drop i blocks ≡ b ∷ drop (i + 1) blocks
      → drop i widths ≡ w ∷ drop (i + 1) widths
      → (before ++ until_fault failed (of_block b w)) ++ until_fault (has_failed failed (of_block b w)) (answers p memory fuel (drop (i + 1) blocks) (drop (i + 1) widths))
      ≡ before ++ until_fault failed (answers p memory fuel (drop i blocks) (drop i widths))
  block_more failed before blocks widths i b w bs ws =
      append_assoc before (until_fault failed (of_block b w)) (until_fault (has_failed failed (of_block b w)) (answers p memory fuel (drop (i + 1) blocks) (drop (i + 1) widths)))
      ∙ ap (λ r. before ++ r) (block_first failed b (drop (i + 1) blocks) w (drop (i + 1) widths))
      ∙ (λ j. before ++ until_fault failed (answers p memory fuel (sym bs j) (sym ws j)))

  -- no block, or no width, is left
  pub blocks_end : (failed : Bool) (before : Answers) (blocks : List RoutineBlock) (widths : List ℕ) (i : ℕ) → drop i blocks ≡ []
      → before ++ until_fault failed (answers p memory fuel (drop i blocks) (drop i widths)) ≡ before
  blocks_end failed before blocks widths i none = ap (λ bs. before ++ until_fault failed (answers p memory fuel bs (drop i widths))) none ∙ append-nil before

  pub widths_end : (failed : Bool) (before : Answers) (blocks : List RoutineBlock) (widths : List ℕ) (i : ℕ) → drop i widths ≡ []
      → before ++ until_fault failed (answers p memory fuel (drop i blocks) (drop i widths)) ≡ before
  widths_end failed before blocks widths i none = ap (λ ws. before ++ until_fault failed (answers p memory fuel (drop i blocks) ws)) none ∙ by_blocks (drop i blocks)
    where
      by_blocks : (bs : List RoutineBlock) → before ++ until_fault failed (answers p memory fuel bs []) ≡ before
      by_blocks [] = append-nil before
      by_blocks (b ∷ bs) = append-nil before

-- ---- why none need be asked behind one that failed

-- the number of the first that failed, or how many there are
abbrev first_fault : List Answer → ℕ
first_fault [] = zero
first_fault (answer ∷ answers) = if is_fault (Some answer) then zero else suc (first_fault answers)

pub length-until_fault : (failed : Bool) (xs : List Answer) → length (until_fault failed xs) ≡ length (all_of xs)
length-until_fault failed [] = refl
length-until_fault failed (x ∷ xs) = ap suc (length-until_fault (failed || is_fault (Some x)) xs)

-- up to the first that failed each has its answer
agree : (xs : List Answer) → AgreeBelow (until_fault false xs) (all_of xs) (suc (first_fault xs))
agree [] j h = refl
agree (x ∷ xs) zero h = refl
agree (x ∷ xs) (suc j) h =
    elim (is_fault (Some x)) as (λ b. suc j < suc (cond b zero (suc (first_fault xs))) → answer_of (until_fault b xs) j ≡ answer_of (all_of xs) j) [
      | true ↦ λ h'. absurd (omega arith)
      | false ↦ λ h'. agree xs j (omega arith)
    ] h

-- where none failed, each has its answer
none_failed : (xs : List Answer) → first_fault xs ≡ length (all_of xs) → until_fault false xs ≡ all_of xs
none_failed [] e = refl
none_failed (x ∷ xs) e =
    elim (is_fault (Some x)) as (λ b. cond b zero (suc (first_fault xs)) ≡ suc (length (all_of xs)) → Some x ∷ until_fault b xs ≡ Some x ∷ all_of xs) [
      | true ↦ λ e'. absurd (omega (arith, e'))
      | false ↦ λ e'. ap (λ r. Some x ∷ r) (none_failed xs (omega (arith, e')))
    ] e

first_fault-le : (xs : List Answer) → first_fault xs ≤ length (all_of xs)
first_fault-le [] = omega arith
first_fault-le (x ∷ xs) =
    elim (is_fault (Some x)) as (λ b. cond b zero (suc (first_fault xs)) ≤ suc (length (all_of xs))) [
      | true ↦ omega arith
      | false ↦ omega (arith, first_fault-le xs)
    ]

at_first : (xs : List Answer) → first_fault xs < length (all_of xs) → is_fault (answer_of (all_of xs) (first_fault xs)) ≡ true
at_first [] h = absurd (omega arith)
at_first (x ∷ xs) h =
    elim (is_fault (Some x)) as (λ b. is_fault (Some x) ≡ b → cond b zero (suc (first_fault xs)) < suc (length (all_of xs))
    → is_fault (answer_of (all_of (x ∷ xs)) (cond b zero (suc (first_fault xs)))) ≡ true) [
      | true ↦ λ e _. e
      | false ↦ λ _ h'. at_first xs (omega arith)
    ] refl h

least_at_most : (kinds : List WordKind) (xs : Answers) (k : ℕ) → is_fault (answer_of xs k) ≡ true → least_faulty kinds xs ≤ k
unfolding least_faulty is_faulty
least_at_most kinds xs k fails = least_le (length xs) (is_faulty kinds xs) k (or_left (is_fault (answer_of xs k)) (ltb (shared_word kinds xs k) (length kinds)) fails)

-- A step ends alike whether or not those behind the first that failed are asked.
pub asked_enough : (memory : Memory) (xs : List Answer) → after memory (until_fault false xs) ≡ after memory (all_of xs)
asked_enough memory xs =
    let front = until_fault false xs in
    let first = first_fault xs in
    ⊎_elim
    (λ (h : first < length (all_of xs)).
    let fails : is_fault (answer_of front first) ≡ true = ap is_fault (agree xs first (omega arith)) ∙ at_first xs h in
    let least : least_faulty (kinds_of memory) front ≤ first = least_at_most (kinds_of memory) front first fails in
    after_same memory front (all_of xs) (length-until_fault false xs) (omega (arith, length-until_fault false xs, least))
    (agree_less front (all_of xs) (suc (least_faulty (kinds_of memory) front)) (suc first) (omega (arith, least)) (agree xs)))
    (λ (h : length (all_of xs) ≤ first). ap (λ a. after memory a) (none_failed xs (omega (arith, first_fault-le xs))))
    (cases_lt first (length (all_of xs)))
