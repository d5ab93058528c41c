-- What main's statements tell, one part after the other.
use Rattle.std.proofs.Common.{◌≡◌, ℕ, zero, suc, ◌+◌, ◌≤◌, length, take, drop, Bool, true, false, if◌then◌else◌, List, [], ◌∷◌, Option, Some, Result, Ok, Err, refl, sym, ap, subst, arith, ◌⊎◌, ⊎_elim}
use Rattle.cal_base.specs.declared.ends.Cause.TheVariants.{FuelSpent}
use Rattle.cal_base.specs.declared.value.Val.{Val}
use Rattle.csl_tree.specs.declared.program.Program.{Program}
use Rattle.csl_tree.specs.declared.program.Stmt.{Stmt}
use Rattle.csl_tree.specs.declared.program.Arm.{Arm, out-Arm}
use Rattle.csl_meaning.specs.declared.state.World.{World}
use Rattle.csl_meaning.specs.declared.state.Ending.{Ending}
use Rattle.csl_meaning.specs.declared.state.Ending.TheVariants as ending
use Rattle.csl_meaning.specs.Operators.{truth_in}
use Rattle.csl_meaning.specs.Locals.{Locals}
use Rattle.csl_meaning.specs.Runs.{Outcome, Gives, Run, and_then, ◌>>=◌, pure, stop, spend, take_unit}
use Rattle.csl_meaning.specs.Value.{Calls, value_of}
use Rattle.csl_meaning.specs.Effect.{Went, MainOnly, effect, statements, scoped, turns, after_body, go_on, leave, step_of}
use Rattle.tree_eval.specs.declared.main_halt.MainHalt.{MainHalt}
use Rattle.statement_eval.specs.Lists.{chosen, last_block}
use Rattle.tree_eval.specs.Told.{Told, TellsOf, Tells, TellsLocals}
use Rattle.statement_eval.proofs.Loops.{after_one, one_gave, again, turns_is, tested}
use Rattle.tree_eval.proofs.Telling.{told_nothing, told_then, told_bind, halts_bind, halts_after, halts_went, went_halts, locals_halts, halts_locals}

-- what was told before, and then what a statement tells
pub tells_after : (a b : Outcome Went) (r : Result Ending MainHalt) (l : Locals) (w : World) (old mid new : Option (List ℕ)) → Told a b old mid → Tells b r l w mid new → Tells a r l w old new
tells_after a b (Ok e) l w old mid new first t = told_then a b (Gives (e, l) w) old mid new first t
tells_after a b (Err m) l w old mid new first t = halts_went a m l w w old new (halts_after a b m w old mid new first (went_halts b m l w w mid new t))

-- a part that stops, in a statement
pub stops_in : {A : Type 0} (o : Outcome A) (f : A → Run Went) (m : MainHalt) (l : Locals) (w : World) (old new : Option (List ℕ)) → TellsOf o (Err m) w old new
    → Tells (and_then o f) (Err m) l w old new
stops_in o f m l w old new t = halts_went (and_then o f) m l w w old new (halts_bind o f m w w old new t)

-- nothing is left of a list that was passed
pub drop_end : {A : Type 0} (all : List A) (i : ℕ) → length all ≤ i → drop i all ≡ []
drop_end [] zero e = refl
drop_end [] (suc i) e = refl
drop_end (x ∷ all) zero e = absurd (omega arith)
drop_end (x ∷ all) (suc i) e = drop_end all i (omega arith)

module _ (p : Program) (calls : Calls) (mains : MainOnly → Locals → Run Went) where
  -- ---- a block

  pub block_stops : (shown body : List Stmt) (m : MainHalt) (locals l l' : Locals) (w w' : World) (old new : Option (List ℕ)) → shown ≡ body
      → Tells (statements p calls mains shown locals w) (Err m) l w' old new → Tells (scoped (statements p calls mains body) locals w) (Err m) l' w' old new
  block_stops shown body m locals l l' w w' old new same t =
      subst (λ (b : List Stmt). Tells (scoped (statements p calls mains b) locals w) (Err m) l' w' old new) same
      (stops_in (statements p calls mains shown locals w) (λ went. pure (leave (length locals) went)) m l' w' old new (went_halts (statements p calls mains shown locals w) m l w' w' old new t))

  pub block_gives : (shown body : List Stmt) (e : Ending) (locals l l' : Locals) (w w' : World) (old new : Option (List ℕ)) → shown ≡ body → l' ≡ take (length locals) l
      → Told (statements p calls mains shown locals w) (Gives (e, l) w') old new → Told (scoped (statements p calls mains body) locals w) (Gives (e, l') w') old new
  block_gives shown body e locals l l' w w' old new same kept t =
      subst (λ (x : Locals). Told (scoped (statements p calls mains body) locals w) (Gives (e, x) w') old new) (sym kept)
      (subst (λ (b : List Stmt). Told (scoped (statements p calls mains b) locals w) (Gives (e, take (length locals) l) w') old new) same
      (told_bind (statements p calls mains shown locals w) (Gives (e, l) w') (λ went. pure (leave (length locals) went)) old new t))

  -- ---- one statement after the other

  pub first_stops : (all rest : List Stmt) (s : Stmt) (m : MainHalt) (locals l l' : Locals) (w w' : World) (old new : Option (List ℕ)) → all ≡ s ∷ rest
      → Tells (effect p calls mains s.form locals w) (Err m) l w' old new → Tells (statements p calls mains all locals w) (Err m) l' w' old new
  first_stops all rest s m locals l l' w w' old new is t =
      subst (λ (x : List Stmt). Tells (statements p calls mains x locals w) (Err m) l' w' old new) (sym is)
      (stops_in (effect p calls mains s.form locals w) (λ went. go_on went (statements p calls mains rest)) m l' w' old new (went_halts (effect p calls mains s.form locals w) m l w' w' old new t))

  first_told : (all rest : List Stmt) (s : Stmt) (e : Ending) (locals l : Locals) (w w' : World) (old new : Option (List ℕ)) → all ≡ s ∷ rest
      → Told (effect p calls mains s.form locals w) (Gives (e, l) w') old new → Told (statements p calls mains all locals w) (go_on (e, l) (statements p calls mains rest) w') old new
  first_told all rest s e locals l w w' old new is t =
      subst (λ (x : List Stmt). Told (statements p calls mains x locals w) (go_on (e, l) (statements p calls mains rest) w') old new) (sym is)
      (told_bind (effect p calls mains s.form locals w) (Gives (e, l) w') (λ went. go_on went (statements p calls mains rest)) old new t)

  pub first_goes_on : (all rest : List Stmt) (s : Stmt) (e : Ending) (locals l : Locals) (w w' : World) (old new : Option (List ℕ)) → all ≡ s ∷ rest → e ≡ ending.Normal
      → Told (effect p calls mains s.form locals w) (Gives (e, l) w') old new → Told (statements p calls mains all locals w) (statements p calls mains rest l w') old new
  first_goes_on all rest s e locals l w w' old new is normal t =
      subst (λ (x : Ending). Told (statements p calls mains all locals w) (go_on (x, l) (statements p calls mains rest) w') old new) normal (first_told all rest s e locals l w w' old new is t)

  pub first_ends : (all rest : List Stmt) (s : Stmt) (e : Ending) (locals l : Locals) (w w' : World) (old new : Option (List ℕ)) → all ≡ s ∷ rest → (e ≡ ending.Normal → ⊥)
      → Told (effect p calls mains s.form locals w) (Gives (e, l) w') old new → Told (statements p calls mains all locals w) (Gives (e, l) w') old new
  first_ends all rest s ending.Normal locals l w w' old new is other t = absurd (other refl)
  first_ends all rest s ending.Break locals l w w' old new is other t = first_told all rest s ending.Break locals l w w' old new is t
  first_ends all rest s ending.Continue locals l w w' old new is other t = first_told all rest s ending.Continue locals l w w' old new is t
  first_ends all rest s (ending.Return v) locals l w w' old new is other t = first_told all rest s (ending.Return v) locals l w w' old new is t

  -- ---- the arms of an `if`

  -- what follows the test of an arm
  abbrev pub arm_then : Arm → List Arm → (Locals → Run Went) → Locals → Val → Run Went
  arm_then arm rest last locals v = if truth_in v then scoped (statements p calls mains (out-Arm arm).body) locals else chosen p calls mains rest last locals

  pub arm_stops : (all rest : List Arm) (arm : Arm) (last : Locals → Run Went) (m : MainHalt) (locals l : Locals) (w w' : World) (old new : Option (List ℕ)) → all ≡ arm ∷ rest
      → TellsOf (value_of p calls locals (out-Arm arm).test w) (Err m) w' old new → Tells (chosen p calls mains all last locals w) (Err m) l w' old new
  arm_stops all rest arm last m locals l w w' old new is t =
      subst (λ (x : List Arm). Tells (chosen p calls mains x last locals w) (Err m) l w' old new) (sym is)
      (stops_in (value_of p calls locals (out-Arm arm).test w) (arm_then arm rest last locals) m l w' old new t)

  arm_told : (all rest : List Arm) (arm : Arm) (last : Locals → Run Went) (v : Val) (locals : Locals) (w w' : World) (old new : Option (List ℕ)) → all ≡ arm ∷ rest
      → Told (value_of p calls locals (out-Arm arm).test w) (Gives v w') old new → Told (chosen p calls mains all last locals w) (arm_then arm rest last locals v w') old new
  arm_told all rest arm last v locals w w' old new is t =
      subst (λ (x : List Arm). Told (chosen p calls mains x last locals w) (arm_then arm rest last locals v w') old new) (sym is)
      (told_bind (value_of p calls locals (out-Arm arm).test w) (Gives v w') (arm_then arm rest last locals) old new t)

  pub arm_true : (all rest : List Arm) (arm : Arm) (last : Locals → Run Went) (v : Val) (locals : Locals) (w w' : World) (old new : Option (List ℕ)) → all ≡ arm ∷ rest → truth_in v ≡ true
      → Told (value_of p calls locals (out-Arm arm).test w) (Gives v w') old new → Told (chosen p calls mains all last locals w) (scoped (statements p calls mains (out-Arm arm).body) locals w') old
      new
  arm_true all rest arm last v locals w w' old new is holds t =
      subst (λ (b : Bool). Told (chosen p calls mains all last locals w) ((if b then scoped (statements p calls mains (out-Arm arm).body) locals else chosen p calls mains rest last locals) w') old
      new) holds (arm_told all rest arm last v locals w w' old new is t)

  pub arm_false : (all rest : List Arm) (arm : Arm) (last : Locals → Run Went) (v : Val) (locals : Locals) (w w' : World) (old new : Option (List ℕ)) → all ≡ arm ∷ rest → truth_in v ≡ false
      → Told (value_of p calls locals (out-Arm arm).test w) (Gives v w') old new → Told (chosen p calls mains all last locals w) (chosen p calls mains rest last locals w') old new
  arm_false all rest arm last v locals w w' old new is fails t =
      subst (λ (b : Bool). Told (chosen p calls mains all last locals w) ((if b then scoped (statements p calls mains (out-Arm arm).body) locals else chosen p calls mains rest last locals) w') old
      new) fails (arm_told all rest arm last v locals w w' old new is t)

  -- no arm is left
  pub last_some : (all : List Arm) (last : Option (List Stmt)) (body : List Stmt) (locals : Locals) (w : World) (old : Option (List ℕ)) → all ≡ [] → last ≡ Some body
      → Told (chosen p calls mains all (last_block p calls mains last) locals w) (scoped (statements p calls mains body) locals w) old old
  last_some all last body locals w old none is =
      subst (λ (x : List Arm). Told (chosen p calls mains x (last_block p calls mains last) locals w) (scoped (statements p calls mains body) locals w) old old) (sym none)
      (subst (λ (x : Option (List Stmt)). Told (last_block p calls mains x locals w) (scoped (statements p calls mains body) locals w) old old) (sym is)
      (told_nothing (scoped (statements p calls mains body) locals w) old))

  -- ---- a statement whose locals alone count

  one_told : (o : Outcome Went) (e : Ending) (l : Locals) (w : World) (old new : Option (List ℕ)) → Told o (Gives (e, l) w) old new → Told (after_one p calls mains o) (Gives l w) old new
  one_told o e l w old new t =
      subst (λ (x : Outcome Locals). Told (after_one p calls mains o) x old new) (one_gave p calls mains (Gives (e, l) w) e l w refl)
      (told_bind (and_then o (λ went. go_on went (λ l'. pure (ending.Normal, l')))) (and_then (Gives (e, l) w) (λ went. go_on went (λ l'. pure (ending.Normal, l')))) (λ went. pure went.1) old new
      (told_bind o (Gives (e, l) w) (λ went. go_on went (λ l'. pure (ending.Normal, l'))) old new t))

  one_halts : (o : Outcome Went) (m : MainHalt) (w : World) (old new : Option (List ℕ)) → TellsOf o (Err m) w old new → TellsOf (after_one p calls mains o) (Err m) w old new
  one_halts o m w old new t =
      halts_bind (and_then o (λ went. go_on went (λ l'. pure (ending.Normal, l')))) (λ went. pure went.1) m w w old new
      (halts_bind o (λ went. go_on went (λ l'. pure (ending.Normal, l'))) m w w old new t)

  -- ---- the step statement of a loop

  pub step_told : (s : Stmt) (e : Ending) (locals l : Locals) (w w' : World) (old new : Option (List ℕ)) → Told (effect p calls mains s.form locals w) (Gives (e, l) w') old new
      → Told (step_of p calls mains (Some s) locals w) (Gives l w') old new
  step_told s e locals l w w' old new t = one_told (effect p calls mains s.form locals w) e l w' old new t

  pub step_halts : (s : Stmt) (m : MainHalt) (locals l l' : Locals) (w w' : World) (old new : Option (List ℕ)) → Tells (effect p calls mains s.form locals w) (Err m) l w' old new
      → TellsLocals (step_of p calls mains (Some s) locals w) (Err m) l' w' old new
  step_halts s m locals l l' w w' old new t =
      halts_locals (step_of p calls mains (Some s) locals w) m l' w' w' old new (one_halts (effect p calls mains s.form locals w) m w' old new
      (went_halts (effect p calls mains s.form locals w) m l w' w' old new t))

  -- ---- a `for`

  module _ (k : Locals → Run Went) (n : ℕ) where
    abbrev pub rest_of_for : Locals → Run Went
    rest_of_for inner = k inner >>= (λ went. pure (leave n went))

    abbrev pub for_of : Outcome Went → Outcome Went
    for_of o = and_then (after_one p calls mains o) rest_of_for

    pub for_first_stops : (o : Outcome Went) (m : MainHalt) (l l' : Locals) (w : World) (old new : Option (List ℕ)) → Tells o (Err m) l w old new → Tells (for_of o) (Err m) l' w old new
    for_first_stops o m l l' w old new t = stops_in (after_one p calls mains o) rest_of_for m l' w old new (one_halts o m w old new (went_halts o m l w w old new t))

    for_begun : (o : Outcome Went) (e : Ending) (l1 : Locals) (w1 : World) (old mid : Option (List ℕ)) → Told o (Gives (e, l1) w1) old mid → Told (for_of o) (rest_of_for l1 w1) old mid
    for_begun o e l1 w1 old mid t = told_bind (after_one p calls mains o) (Gives l1 w1) rest_of_for old mid (one_told o e l1 w1 old mid t)

    pub for_loop_stops : (o : Outcome Went) (e : Ending) (m : MainHalt) (l1 l2 l3 : Locals) (w1 w2 : World) (old mid new : Option (List ℕ)) → Told o (Gives (e, l1) w1) old mid
        → Tells (k l1 w1) (Err m) l2 w2 mid new → Tells (for_of o) (Err m) l3 w2 old new
    for_loop_stops o e m l1 l2 l3 w1 w2 old mid new first t =
        tells_after (for_of o) (rest_of_for l1 w1) (Err m) l3 w2 old mid new (for_begun o e l1 w1 old mid first)
        (stops_in (k l1 w1) (λ went. pure (leave n went)) m l3 w2 mid new (went_halts (k l1 w1) m l2 w2 w2 mid new t))

    pub for_gives : (o : Outcome Went) (e e2 : Ending) (l1 l2 l3 : Locals) (w1 w2 : World) (old mid new : Option (List ℕ)) → Told o (Gives (e, l1) w1) old mid
        → Told (k l1 w1) (Gives (e2, l2) w2) mid new → l3 ≡ take n l2 → Told (for_of o) (Gives (e2, l3) w2) old new
    for_gives o e e2 l1 l2 l3 w1 w2 old mid new first t kept =
        subst (λ (x : Locals). Told (for_of o) (Gives (e2, x) w2) old new) (sym kept)
        (told_then (for_of o) (rest_of_for l1 w1) (Gives (e2, take n l2) w2) old mid new (for_begun o e l1 w1 old mid first)
        (told_bind (k l1 w1) (Gives (e2, l2) w2) (λ went. pure (leave n went)) mid new t))

-- ---- the turns of a loop

module _ (test : Locals → Run Val) (body : Locals → Run Went) (next : Locals → Run Locals) where
  -- what follows the body, and what follows the step statement
  abbrev pub back : ℕ → Locals → Run Went
  back n inner = next inner >>= again test body next n

  turn_outcome : (n : ℕ) (l : Locals) (w : World) → turns n test body next l w ≡ and_then (test l w) (tested test body next n l)
  turn_outcome n l w = ap (λ (t : Locals → Run Went). t l w) (turns_is test body next n)

  pub turn_test_stops : (n : ℕ) (m : MainHalt) (l l' : Locals) (w w' : World) (old new : Option (List ℕ)) → TellsOf (test l w) (Err m) w' old new
      → Tells (turns n test body next l w) (Err m) l' w' old new
  turn_test_stops n m l l' w w' old new t =
      subst (λ (o : Outcome Went). Tells o (Err m) l' w' old new) (sym (turn_outcome n l w)) (stops_in (test l w) (tested test body next n l) m l' w' old new t)

  turn_tested : (n : ℕ) (v : Val) (l : Locals) (w w' : World) (old new : Option (List ℕ)) → Told (test l w) (Gives v w') old new
      → Told (turns n test body next l w) (tested test body next n l v w') old new
  turn_tested n v l w w' old new t =
      subst (λ (o : Outcome Went). Told o (tested test body next n l v w') old new) (sym (turn_outcome n l w)) (told_bind (test l w) (Gives v w') (tested test body next n l) old new t)

  pub turn_test_false : (n : ℕ) (v : Val) (l : Locals) (w w' : World) (old new : Option (List ℕ)) → truth_in v ≡ false → Told (test l w) (Gives v w') old new
      → Told (turns n test body next l w) (Gives (ending.Normal, l) w') old new
  turn_test_false n v l w w' old new fails t =
      subst (λ (b : Bool). Told (turns n test body next l w) ((if b then (body l >>= (λ went. after_body went (back n))) else pure (ending.Normal, l)) w') old new) fails
      (turn_tested n v l w w' old new t)

  turn_test_true : (n : ℕ) (v : Val) (l : Locals) (w w' : World) (old new : Option (List ℕ)) → truth_in v ≡ true → Told (test l w) (Gives v w') old new
      → Told (turns n test body next l w) (and_then (body l w') (λ went. after_body went (back n))) old new
  turn_test_true n v l w w' old new holds t =
      subst (λ (b : Bool). Told (turns n test body next l w) ((if b then (body l >>= (λ went. after_body went (back n))) else pure (ending.Normal, l)) w') old new) holds
      (turn_tested n v l w w' old new t)

  pub turn_body_stops : (n : ℕ) (v : Val) (m : MainHalt) (l l1 l2 : Locals) (w w1 w2 : World) (old mid new : Option (List ℕ)) → truth_in v ≡ true → Told (test l w) (Gives v w1) old mid
      → Tells (body l w1) (Err m) l1 w2 mid new → Tells (turns n test body next l w) (Err m) l2 w2 old new
  turn_body_stops n v m l l1 l2 w w1 w2 old mid new holds t b =
      tells_after (turns n test body next l w) (and_then (body l w1) (λ went. after_body went (back n))) (Err m) l2 w2 old mid new (turn_test_true n v l w w1 old mid holds t)
      (stops_in (body l w1) (λ went. after_body went (back n)) m l2 w2 mid new (went_halts (body l w1) m l1 w2 w2 mid new b))

  -- a turn whose body ended so
  pub turn_body : (n : ℕ) (v : Val) (e : Ending) (l l1 : Locals) (w w1 w2 : World) (old mid new : Option (List ℕ)) → truth_in v ≡ true → Told (test l w) (Gives v w1) old mid
      → Told (body l w1) (Gives (e, l1) w2) mid new → Told (turns n test body next l w) (after_body (e, l1) (back n) w2) old new
  turn_body n v e l l1 w w1 w2 old mid new holds t b =
      told_then (turns n test body next l w) (and_then (body l w1) (λ went. after_body went (back n))) (after_body (e, l1) (back n) w2) old mid new (turn_test_true n v l w w1 old mid holds t)
      (told_bind (body l w1) (Gives (e, l1) w2) (λ went. after_body went (back n)) mid new b)

  -- a turn whose body goes on to the step statement
  pub turn_to_step : (n : ℕ) (v : Val) (e : Ending) (l l1 : Locals) (w w1 w2 : World) (old mid new : Option (List ℕ)) → truth_in v ≡ true → Told (test l w) (Gives v w1) old mid
      → Told (body l w1) (Gives (e, l1) w2) mid new → (e ≡ ending.Normal) ⊎ (e ≡ ending.Continue) → Told (turns n test body next l w) (back n l1 w2) old new
  turn_to_step n v e l l1 w w1 w2 old mid new holds t b ends =
      ⊎_elim
      (λ (k : e ≡ ending.Normal). subst (λ (x : Ending). Told (turns n test body next l w) (after_body (x, l1) (back n) w2) old new) k (turn_body n v e l l1 w w1 w2 old mid new holds t b))
      (λ (k : e ≡ ending.Continue). subst (λ (x : Ending). Told (turns n test body next l w) (after_body (x, l1) (back n) w2) old new) k (turn_body n v e l l1 w w1 w2 old mid new holds t b))
      ends

  -- the step statement
  pub back_stops : (n : ℕ) (m : MainHalt) (l l1 l2 : Locals) (w w' : World) (old new : Option (List ℕ)) → TellsLocals (next l w) (Err m) l1 w' old new → Tells (back n l w) (Err m) l2 w' old new
  back_stops n m l l1 l2 w w' old new t = stops_in (next l w) (again test body next n) m l2 w' old new (locals_halts (next l w) m l1 w' w' old new t)

  pub back_gives : (n : ℕ) (l l1 : Locals) (w w' : World) (old new : Option (List ℕ)) → Told (next l w) (Gives l1 w') old new → Told (back n l w) (again test body next n l1 w') old new
  back_gives n l l1 w w' old new t = told_bind (next l w) (Gives l1 w') (again test body next n) old new t

  -- the return to the head
  abbrev after_unit : ℕ → Locals → Run Went
  after_unit zero l = stop FuelSpent
  after_unit (suc n) l = turns n test body next l

  again_is : (n : ℕ) (l : Locals) (w : World) → w.fuel ≤ n → again test body next n l w ≡ and_then (take_unit w) (λ _. after_unit n l)
  again_is zero l w le = let none : w.fuel ≡ 0 = omega arith in sym (ap (λ f. and_then (spend f w) (λ _. after_unit zero l)) none)
  again_is (suc n) l w le = refl

  pub unit_halts : (n : ℕ) (m : MainHalt) (l l' : Locals) (w w' : World) (old new : Option (List ℕ)) → w.fuel ≤ n → TellsOf (take_unit w) (Err m) w' old new
      → Tells (again test body next n l w) (Err m) l' w' old new
  unit_halts n m l l' w w' old new le t =
      subst (λ (o : Outcome Went). Tells o (Err m) l' w' old new) (sym (again_is n l w le)) (stops_in (take_unit w) (λ _. after_unit n l) m l' w' old new t)

  pub unit_told : (n : ℕ) (l : Locals) (w w' : World) (old new : Option (List ℕ)) → w.fuel ≤ n → w'.fuel + 1 ≡ w.fuel → Told (take_unit w) (Gives tt w') old new
      → (m : ℕ) × (w'.fuel ≤ m) × Told (again test body next n l w) (turns m test body next l w') old new
  unit_told zero l w w' old new le f t = absurd (omega arith)
  unit_told (suc n) l w w' old new le f t = (n, omega arith, told_bind (take_unit w) (Gives tt w') (λ _. turns n test body next l) old new t)
