-- A body that returns what it has to give.
use Rattle.std.proofs.Common.{ℕ, zero, suc, Bool, true, false, if◌then◌else◌, length, take, Option, Some, None, inl, inr}
use Rattle.cal_base.specs.declared.value.Val.{Val}
use Rattle.cal_base.specs.Memory.{Memory}
use Rattle.csl_tree.specs.declared.program.Program.{Program}
use Rattle.csl_tree.specs.declared.program.Arm.{Arm'}
use Rattle.csl_tree.specs.declared.program.Form.{Form, Declare, Set, AddTo, If', While', For', Break, Continue, Return, Assert, Block', Print, Par', Row_of-Arm, end_of-Arm, more_of-Arm, Row_of-Stmt}
use Rattle.csl_tree.specs.declared.program.Form.{end_of-Stmt, more_of-Stmt, Held-Form-If-1}
use Rattle.csl_tree.specs.declared.program.Form as form
use Rattle.csl_meaning.specs.declared.state.World.{World}
use Rattle.csl_meaning.specs.declared.state.Ending.{Ending}
use Rattle.csl_meaning.specs.declared.state.Ending.TheVariants as ending
use Rattle.csl_meaning.specs.Locals.{Locals}
use Rattle.csl_meaning.specs.Operators.{truth_in}
use Rattle.csl_meaning.specs.Runs.{Outcome, Gives, Stops, ShowsLine, OpensStep, Run, and_then, ◌>>=◌, pure}
use Rattle.csl_meaning.specs.Value.{Calls, value_of, result}
use Rattle.csl_meaning.specs.Effect.{Went, go_on, after_body, leave, turn, turns, loop, assert, locals_after, set, add_to, effect, in_order, choose, otherwise, nowhere}
use Rattle.compiled_code.specs.Shape.{Stays, RowStays, ArmsStay, LastStays, Ends, RowEnds, ArmsEnd, LastEnds}

-- of each ending that a run comes to, this holds
abbrev pub All : {A : Type 0} → (A → Type 0) → Outcome A → Type 0
All P (Gives a w) = P a
All P (Stops cause w) = Unit {0}
All P (ShowsLine line rest) = All P rest
All P (OpensStep job rest) = (later : Memory) → All P (rest later)

pub all_then : {A B : Type 0} (P : A → Type 0) (Q : B → Type 0) (o : Outcome A) (next : A → Run B) → All P o → ((a : A) (w : World) → P a → All Q (next a w)) → All Q (and_then o next)
all_then P Q (Gives a w) next h go = go a w h
all_then P Q (Stops cause w) next h go = tt
all_then P Q (ShowsLine line rest) next h go = all_then P Q rest next h go
all_then P Q (OpensStep job rest) next h go = λ later. all_then P Q (rest later) next (h later) go

abbrev Anything : (A : Type 0) → A → Type 0
Anything A a = Unit {0}

any : {A : Type 0} (o : Outcome A) → All (Anything A) o
any (Gives a w) = tt
any (Stops cause w) = tt
any (ShowsLine line rest) = any rest
any (OpensStep job rest) = λ later. any (rest later)

-- neither by `break` nor by `continue`
abbrev pub Normally : Went → Type 0
Normally (ending.Normal, ls) = Unit {0}
Normally (ending.Break, ls) = ⊥
Normally (ending.Continue, ls) = ⊥
Normally (ending.Return v, ls) = Unit {0}

-- by `return`
abbrev pub ByReturn : Went → Type 0
ByReturn (ending.Normal, ls) = ⊥
ByReturn (ending.Break, ls) = ⊥
ByReturn (ending.Continue, ls) = ⊥
ByReturn (ending.Return v, ls) = Unit {0}

left : (P : Went → Type 0) (n : ℕ) → ((e : Ending) (a b : Locals) → P (e, a) → P (e, b)) → (went : Went) → P went → P (leave n went)
left P n same (e, ls) h = same e ls (take n ls) h

same_normally : (e : Ending) (a b : Locals) → Normally (e, a) → Normally (e, b)
same_normally ending.Normal a b h = tt
same_normally ending.Break a b h = h
same_normally ending.Continue a b h = h
same_normally (ending.Return v) a b h = tt

same_return : (e : Ending) (a b : Locals) → ByReturn (e, a) → ByReturn (e, b)
same_return ending.Normal a b h = h
same_return ending.Break a b h = h
same_return ending.Continue a b h = h
same_return (ending.Return v) a b h = tt

goes_on : (next : Locals → Run Went) (went : Went) (u : World) → Normally went → ((ls : Locals) (u' : World) → All Normally (next ls u')) → All Normally (go_on went next u)
goes_on next (ending.Normal, ls) u g h = h ls u
goes_on next (ending.Break, ls) u g h = absurd g
goes_on next (ending.Continue, ls) u g h = absurd g
goes_on next (ending.Return v, ls) u g h = tt

ends_on : (next : Locals → Run Went) (went : Went) (u : World) → Normally went → ((ls : Locals) (u' : World) → All ByReturn (next ls u')) → All ByReturn (go_on went next u)
ends_on next (ending.Normal, ls) u g h = h ls u
ends_on next (ending.Break, ls) u g h = absurd g
ends_on next (ending.Continue, ls) u g h = absurd g
ends_on next (ending.Return v, ls) u g h = tt

returns_on : (next : Locals → Run Went) (went : Went) (u : World) → ByReturn went → All ByReturn (go_on went next u)
returns_on next (ending.Normal, ls) u g = absurd g
returns_on next (ending.Break, ls) u g = absurd g
returns_on next (ending.Continue, ls) u g = absurd g
returns_on next (ending.Return v, ls) u g = tt

either_way : (P : Went → Type 0) (b : Bool) (first second : Run Went) (u : World) → All P (first u) → All P (second u) → All P ((if b then first else second) u)
either_way P true first second u h k = h
either_way P false first second u h k = k

module _ (p : Program) (calls : Calls) where
  -- a loop is left normally or by a return
  turn_normal : (test : Locals → Run Val) (body : Locals → Run Went) (next : Locals → Run Locals) (again : Locals → Run Went) → ((l : Locals) (w : World) → All Normally (again l w))
      → (l : Locals) (w : World) → All Normally (turn test body next again l w)
  turn_normal test body next again h l w = all_then (Anything Val) Normally (test l w) _ (any (test l w)) (λ v u _. by (truth_in v) u)
    where
      after : (went : Went) (u : World) → All Normally (after_body went (λ inner. next inner >>= again) u)
      after (ending.Normal, ls) u = all_then (Anything Locals) Normally (next ls u) again (any (next ls u)) (λ ls' u' _. h ls' u')
      after (ending.Continue, ls) u = all_then (Anything Locals) Normally (next ls u) again (any (next ls u)) (λ ls' u' _. h ls' u')
      after (ending.Break, ls) u = tt
      after (ending.Return v, ls) u = tt

      by : (b : Bool) (u : World) → All Normally ((if b then (body l >>= (λ went. after_body went (λ inner. next inner >>= again))) else pure (ending.Normal, l)) u)
      by true u = all_then (Anything Went) Normally (body l u) _ (any (body l u)) (λ went u' _. after went u')
      by false u = tt

  turns_normal : (n : ℕ) (test : Locals → Run Val) (body : Locals → Run Went) (next : Locals → Run Locals) (l : Locals) (w : World) → All Normally (turns n test body next l w)
  turns_normal zero test body next l w = turn_normal test body next _ (λ l' w'. tt) l w
  turns_normal (suc n) test body next l w = turn_normal test body next _ (λ l' w'. all_then (Anything (Unit {0})) Normally (Rattle.csl_meaning.specs.Runs.take_unit w') _
      (any (Rattle.csl_meaning.specs.Runs.take_unit w')) (λ a u _. turns_normal n test body next l' u)) l w

  asserted : (b : Bool) (ls : Locals) (w : World) → All Normally (assert b ls w)
  asserted true ls w = tt
  asserted false ls w = tt

  mutual
    stays : (f : Form) (ls : Locals) (w : World) → Stays f → All Normally (effect p calls nowhere f ls w)
    stays (Declare ty name e) ls w h = all_then (Anything Val) Normally (value_of p calls ls e w) _ (any (value_of p calls ls e w)) (λ v u _. tt)
    stays (Set place e) ls w h = all_then (Anything Locals) Normally (set p calls ls place e w) _ (any (set p calls ls place e w)) (λ v u _. tt)
    stays (AddTo place e) ls w h = all_then (Anything Locals) Normally (add_to p calls ls place e w) _ (any (add_to p calls ls place e w)) (λ v u _. tt)
    stays (If' shape arms last) ls w h = arms_stay arms (otherwise p calls nowhere last) ls w h.0 (λ u. last_stays last ls u h.1)
    stays (While' test shape body) ls w h = turns_normal w.fuel _ _ _ ls w
    stays (For' shape first test shape' next shape'' body) ls w h =
        all_then (Anything Locals) Normally (locals_after (in_order p calls nowhere first) ls w) _ (any (locals_after (in_order p calls nowhere first) ls w)) (λ inner u _.
        all_then Normally Normally (loop _ _ _ inner u) _ (turns_normal u.fuel _ _ _ inner u) (λ went u' g. left Normally (length ls) same_normally went g))
    stays Break ls w h = absurd h
    stays Continue ls w h = absurd h
    stays (Return None) ls w h = tt
    stays (Return (Some e)) ls w h = all_then (Anything Val) Normally (value_of p calls ls e w) _ (any (value_of p calls ls e w)) (λ v u _. tt)
    stays (form.CallOf call) ls w h = all_then (Anything (Option Val)) Normally (result p calls ls call w) _ (any (result p calls ls call w)) (λ v u _. tt)
    stays (Assert e) ls w h = all_then (Anything Val) Normally (value_of p calls ls e w) _ (any (value_of p calls ls e w)) (λ v u _. asserted (truth_in v) ls u)
    stays (Block' shape body) ls w h = all_then Normally Normally (in_order p calls nowhere body ls w) _ (row_stays body ls w h) (λ went u g. left Normally (length ls) same_normally went g)
    stays (Print items) ls w h = tt
    stays (Par' shape blocks) ls w h = tt

    row_stays : {n : _} (row : Row_of-Stmt n) (ls : Locals) (w : World) → RowStays row → All Normally (in_order p calls nowhere row ls w)
    row_stays end_of-Stmt ls w h = tt
    row_stays (more_of-Stmt where' f rest) ls w h = all_then Normally Normally (effect p calls nowhere f ls w) _ (stays f ls w h.0)
        (λ went u g. goes_on _ went u g (λ ls' u'. row_stays rest ls' u' h.1))

    arms_stay : {n : _} (arms : Row_of-Arm n) (last : Locals → Run Went) (ls : Locals) (w : World) → ArmsStay arms → ((u : World) → All Normally (last ls u))
        → All Normally (choose p calls nowhere arms last ls w)
    arms_stay end_of-Arm last ls w h last_ok = last_ok w
    arms_stay (more_of-Arm (Arm' test shape body) rest) last ls w h last_ok =
        all_then (Anything Val) Normally (value_of p calls ls test w) _ (any (value_of p calls ls test w)) (λ v u _. either_way Normally (truth_in v) _ _ u
        (all_then Normally Normally (in_order p calls nowhere body ls u) _ (row_stays body ls u h.0) (λ went u' g. left Normally (length ls) same_normally went g))
        (arms_stay rest last ls u h.1 last_ok))

    last_stays : (last : Held-Form-If-1) (ls : Locals) (w : World) → LastStays last → All Normally (otherwise p calls nowhere last ls w)
    last_stays form.None' ls w h = tt
    last_stays (form.Some' shape body) ls w h = all_then Normally Normally (in_order p calls nowhere body ls w) _ (row_stays body ls w h) (λ went u g. left Normally (length ls) same_normally went g)

  mutual
    ends : (f : Form) (ls : Locals) (w : World) → Stays f → Ends f → All ByReturn (effect p calls nowhere f ls w)
    ends (Declare ty name e) ls w s h = absurd h
    ends (Set place e) ls w s h = absurd h
    ends (AddTo place e) ls w s h = absurd h
    ends (If' shape arms last) ls w s h = arms_end arms (otherwise p calls nowhere last) ls w s.0 h.0 (λ u. last_ends last ls u s.1 h.1)
    ends (While' test shape body) ls w s h = absurd h
    ends (For' shape first test shape' next shape'' body) ls w s h = absurd h
    ends Break ls w s h = absurd h
    ends Continue ls w s h = absurd h
    ends (Return None) ls w s h = tt
    ends (Return (Some e)) ls w s h = all_then (Anything Val) ByReturn (value_of p calls ls e w) _ (any (value_of p calls ls e w)) (λ v u _. tt)
    ends (form.CallOf call) ls w s h = absurd h
    ends (Assert e) ls w s h = absurd h
    ends (Block' shape body) ls w s h = all_then ByReturn ByReturn (in_order p calls nowhere body ls w) _ (row_ends body ls w s h) (λ went u g. left ByReturn (length ls) same_return went g)
    ends (Print items) ls w s h = absurd h
    ends (Par' shape blocks) ls w s h = absurd h

    pub row_ends : {n : _} (row : Row_of-Stmt n) (ls : Locals) (w : World) → RowStays row → RowEnds row → All ByReturn (in_order p calls nowhere row ls w)
    row_ends end_of-Stmt ls w s h = absurd h
    row_ends (more_of-Stmt where' f rest) ls w s (inl h) = all_then ByReturn ByReturn (effect p calls nowhere f ls w) _ (ends f ls w s.0 h) (λ went u g. returns_on _ went u g)
    row_ends (more_of-Stmt where' f rest) ls w s (inr h) = all_then Normally ByReturn (effect p calls nowhere f ls w) _ (stays f ls w s.0)
        (λ went u g. ends_on _ went u g (λ ls' u'. row_ends rest ls' u' s.1 h))

    arms_end : {n : _} (arms : Row_of-Arm n) (last : Locals → Run Went) (ls : Locals) (w : World) → ArmsStay arms → ArmsEnd arms → ((u : World) → All ByReturn (last ls u))
        → All ByReturn (choose p calls nowhere arms last ls w)
    arms_end end_of-Arm last ls w s h last_ok = last_ok w
    arms_end (more_of-Arm (Arm' test shape body) rest) last ls w s h last_ok =
        all_then (Anything Val) ByReturn (value_of p calls ls test w) _ (any (value_of p calls ls test w)) (λ v u _. either_way ByReturn (truth_in v) _ _ u
        (all_then ByReturn ByReturn (in_order p calls nowhere body ls u) _ (row_ends body ls u s.0 h.0) (λ went u' g. left ByReturn (length ls) same_return went g))
        (arms_end rest last ls u s.1 h.1 last_ok))

    last_ends : (last : Held-Form-If-1) (ls : Locals) (w : World) → LastStays last → LastEnds last → All ByReturn (otherwise p calls nowhere last ls w)
    last_ends form.None' ls w s h = absurd h
    last_ends (form.Some' shape body) ls w s h = all_then ByReturn ByReturn (in_order p calls nowhere body ls w) _ (row_ends body ls w s h) (λ went u g. left ByReturn (length ls) same_return went g)
