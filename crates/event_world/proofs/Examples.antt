-- The worked examples of worlds, computed.
use Rattle.std.proofs.Common.{◌≡◌, ℕ, ℤ, List, [], ◌∷◌, ◌++◌, Option, Some, None, Ok, Err, pos, refl, ap, ◌∙◌}
use Rattle.std.specs.Prelude.{map, drop}
use Rattle.std.specs.FinMap.{empty}
use Rattle.cal_base.specs.Numbers.{least_below, lightest_below}
use Rattle.cal_base.specs.After.{least_faulty, is_faulty, shared_word, after, fault_of, merged_memory}
use Rattle.cal_terms.specs.declared.kinds.WordKind.TheVariants.{Ordinary}
use Rattle.cal_base.specs.declared.step.Entry.TheVariants.{Claim, Arrive}
use Rattle.cal_base.specs.declared.step.TheConstants.{CALLER}
use Rattle.cal_base.specs.declared.step.Verdict.TheVariants.{First, Again, Stale}
use Rattle.cal_base.specs.declared.ends.StepFault.TheVariants.{Conflict}
use Rattle.cal_base.specs.declared.answer.Answer.{Answer}
use Rattle.cal_base.specs.declared.answer.Answer.TheVariants.{Update}
use Rattle.cal_base.specs.declared.ends.RunEnd.TheVariants.{Done, StepFailed}
use Rattle.cal_base.specs.History.{History}
use Rattle.cal_base.specs.Memory.{Memory}
use Rattle.cal_base.specs.Main.{Main, Event as Shown, Step, Ends, Shows, Opens}
use Rattle.step_laws.specs.Rows.{ordinary, one}
use Rattle.step_laws.proofs.Rows.{get_none, get_one}
use Rattle.event_world.specs.declared.event.Event.{Event}
use Rattle.event_world.specs.declared.event.Event.TheVariants as event
use Rattle.event_world.specs.World.{State, Mode, Idle, Busy, Stopped, Delivery, Phase, Open, Over, apply, apply_all, first_state, finish_in, freed, with_mode}
use Rattle.event_world.specs.Rows as rows

-- ---- a world from the state behind its events

abbrev shown_from : State → List Shown
shown_from state = state.run.shown ++ (finish_in state.run.phase).shown

abbrev histories_from : State → List History
histories_from state = map (λ step. step.history) (state.run.closed ++ (finish_in state.run.phase).closed)

abbrev phase_from : State → Phase
phase_from state = (finish_in state.run.phase).phase

-- ---- two routines that write the two words, whichever of them were delivered

none_faulty : least_faulty (Ordinary ∷ Ordinary ∷ []) (None ∷ None ∷ []) ≡ 2
unfolding least_faulty is_faulty shared_word least_below
none_faulty = refl

first_alone : (v : ℤ) → least_faulty (Ordinary ∷ Ordinary ∷ []) (Some (one 0 v) ∷ None ∷ []) ≡ 2
unfolding least_faulty is_faulty shared_word least_below
first_alone v = simp get_one

second_alone : (v : ℤ) → least_faulty (Ordinary ∷ Ordinary ∷ []) (None ∷ Some (one 1 v) ∷ []) ≡ 2
unfolding least_faulty is_faulty shared_word least_below
second_alone v = simp get_one

both : (v w : ℤ) → least_faulty (Ordinary ∷ Ordinary ∷ []) (Some (one 0 v) ∷ Some (one 1 w) ∷ []) ≡ 2
unfolding least_faulty is_faulty shared_word least_below
both v w = simp get_one

both_merged : (a b v w : ℤ) → after (ordinary a ∷ ordinary b ∷ []) (Some (one 0 v) ∷ Some (one 1 w) ∷ []) ≡ Ok (ordinary v ∷ ordinary w ∷ [])
unfolding after merged_memory least_below
both_merged a b v w = simp (both, get_one)

pub nobody_works : rows.NobodyWorks
unfolding lightest_below
nobody_works = (simp (none_faulty, first_alone, both_merged), simp (none_faulty, first_alone, both_merged), simp (none_faulty, first_alone, both_merged))

-- ---- event by event

abbrev idle : ℕ → Mode
idle w = Idle

abbrev one_busy : ℕ → Mode
one_busy = with_mode idle 0 (Busy 0)

module _ (next : Memory → Main) where
  -- the first step is open
  abbrev swapping : History → (ℕ → Mode) → List Delivery → State
  swapping history modes deliveries =
      record { run = record { shown = []; closed = []; phase = Open (rows.swapping 1 (rows.pair 1 2)) next history }; modes = modes; deliveries = deliveries }

  begins : first_state (Opens (rows.swapping 1 (rows.pair 1 2)) next) ≡ swapping [] idle []
  unfolding lightest_below
  begins = simp none_faulty

  claims : apply (event.Claim 0) (swapping [] idle []) ≡ swapping (Claim 0 0 ∷ []) one_busy []
  unfolding lightest_below
  claims = simp none_faulty

  stops : apply (event.Stop 0) (swapping (Claim 0 0 ∷ []) one_busy []) ≡ swapping (Claim 0 0 ∷ []) (with_mode one_busy 0 Stopped) []
  unfolding lightest_below
  stops = simp none_faulty

  finishes_no_more : apply (event.Finish 0) (swapping (Claim 0 0 ∷ []) (with_mode one_busy 0 Stopped) []) ≡ swapping (Claim 0 0 ∷ []) (with_mode one_busy 0 Stopped) []
  unfolding lightest_below
  finishes_no_more = simp none_faulty

  claims_no_more : apply (event.Claim 0) (swapping (Claim 0 0 ∷ []) (with_mode one_busy 0 Stopped) []) ≡ swapping (Claim 0 0 ∷ []) (with_mode one_busy 0 Stopped) []
  unfolding lightest_below
  claims_no_more = simp none_faulty

  abbrev stopping : List Event
  stopping = event.Claim 0 ∷ event.Stop 0 ∷ event.Finish 0 ∷ event.Claim 0 ∷ []

  has_stopped : apply_all stopping (first_state (Opens (rows.swapping 1 (rows.pair 1 2)) next)) ≡ swapping (Claim 0 0 ∷ []) (with_mode one_busy 0 Stopped) []
  has_stopped =
      ap (apply_all stopping) begins
      ∙ ap (apply_all (drop 1 stopping)) claims
      ∙ ap (apply_all (drop 2 stopping)) stops
      ∙ ap (apply_all (drop 3 stopping)) finishes_no_more
      ∙ claims_no_more

abbrev prints : Memory → Main
prints later = Shows (50 ∷ 10 ∷ []) (Ends (Done 1))

stopped_finished : finish_in (swapping prints (Claim 0 0 ∷ []) (with_mode one_busy 0 Stopped) []).run.phase ≡ record {
  shown = rows.swapped;
  closed = record {
    job = rows.swapping 1 (rows.pair 1 2);
    history = Claim 0 0 ∷ Claim CALLER 1 ∷ Arrive CALLER 1 1 First ∷ Claim CALLER 0 ∷ Arrive CALLER 1 0 First ∷ [];
  } ∷ [];
  phase = Over (Done 1);
}
unfolding lightest_below
stopped_finished = simp (none_faulty, second_alone, both_merged)

pub worker_stops : rows.WorkerStops
worker_stops = (
  ap shown_from (has_stopped prints) ∙ ap (λ run. run.shown) stopped_finished,
  ap histories_from (has_stopped prints) ∙ ap (λ run. map (λ step. step.history) run.closed) stopped_finished,
  ap phase_from (has_stopped prints) ∙ ap (λ run. run.phase) stopped_finished,
)

-- ---- a delivery that comes again, and late

-- two answers were delivered, of routine 0 as number 1 and of routine 1 as number 2
abbrev answers_of_both : List Delivery
answers_of_both = record { who = 0; step = 1; k = 0 } ∷ record { who = 1; step = 1; k = 1 } ∷ []

abbrev back : Memory → Main
back later = Opens (rows.swapping 2 later) (λ last. Ends (Done 2))

-- the second step is open
abbrev swapping_back : History → (ℕ → Mode) → State
swapping_back history modes = record {
  run = record {
    shown = Step 1 2 (rows.pair 1 2) (rows.pair 2 1) ∷ [];
    closed = record {
      job = rows.swapping 1 (rows.pair 1 2);
      history = Claim 0 0 ∷ Claim 1 1 ∷ Arrive 0 1 0 First ∷ Arrive 0 1 0 Again ∷ Arrive 1 1 1 First ∷ [];
    } ∷ [];
    phase = Open (rows.swapping 2 (rows.pair 2 1)) (λ last. Ends (Done 2)) history;
  };
  modes = modes;
  deliveries = answers_of_both;
}

abbrev two_busy : ℕ → Mode
two_busy = with_mode one_busy 1 (Busy 1)

abbrev both_claimed : History
both_claimed = Claim 0 0 ∷ Claim 1 1 ∷ []

second_claims : apply (event.Claim 1) (swapping back (Claim 0 0 ∷ []) one_busy []) ≡ swapping back both_claimed two_busy []
unfolding lightest_below
second_claims = simp none_faulty

first_finishes : apply (event.Finish 0) (swapping back both_claimed two_busy []) ≡ swapping back both_claimed (with_mode two_busy 0 Idle) (record { who = 0; step = 1; k = 0 } ∷ [])
unfolding lightest_below
first_finishes = simp none_faulty

abbrev both_free : ℕ → Mode
both_free = with_mode (with_mode two_busy 0 Idle) 1 Idle

second_finishes : apply (event.Finish 1) (swapping back both_claimed (with_mode two_busy 0 Idle) (record { who = 0; step = 1; k = 0 } ∷ [])) ≡ swapping back both_claimed both_free answers_of_both
unfolding lightest_below
second_finishes = simp none_faulty

first_arrives : apply (event.Arrive 1) (swapping back both_claimed both_free answers_of_both) ≡ swapping back (both_claimed ++ Arrive 0 1 0 First ∷ []) both_free answers_of_both
unfolding lightest_below
first_arrives = simp first_alone

first_again : apply (event.Arrive 1) (swapping back (both_claimed ++ Arrive 0 1 0 First ∷ []) both_free answers_of_both) ≡ swapping back (both_claimed ++ Arrive 0 1 0 First ∷ Arrive 0 1 0 Again ∷ [])
    both_free answers_of_both
unfolding lightest_below
first_again = simp first_alone

second_arrives : apply (event.Arrive 2) (swapping back (both_claimed ++ Arrive 0 1 0 First ∷ Arrive 0 1 0 Again ∷ []) both_free answers_of_both) ≡ swapping_back [] (λ w. freed (both_free w))
unfolding lightest_below
second_arrives = simp (none_faulty, both_merged)

first_late : apply (event.Arrive 1) (swapping_back [] (λ w. freed (both_free w))) ≡ swapping_back (Arrive 0 1 0 Stale ∷ []) (λ w. freed (both_free w))
unfolding lightest_below
first_late = simp none_faulty

abbrev repeating : List Event
repeating = event.Claim 0 ∷ event.Claim 1 ∷ event.Finish 0 ∷ event.Finish 1 ∷ event.Arrive 1 ∷ event.Arrive 1 ∷ event.Arrive 2 ∷ event.Arrive 1 ∷ []

has_repeated : apply_all repeating (first_state rows.swap_twice) ≡ swapping_back (Arrive 0 1 0 Stale ∷ []) (λ w. freed (both_free w))
has_repeated =
    ap (apply_all repeating) (begins back)
    ∙ ap (apply_all (drop 1 repeating)) (claims back)
    ∙ ap (apply_all (drop 2 repeating)) second_claims
    ∙ ap (apply_all (drop 3 repeating)) first_finishes
    ∙ ap (apply_all (drop 4 repeating)) second_finishes
    ∙ ap (apply_all (drop 5 repeating)) first_arrives
    ∙ ap (apply_all (drop 6 repeating)) first_again
    ∙ ap (apply_all (drop 7 repeating)) second_arrives
    ∙ first_late

late_finished : finish_in (swapping_back (Arrive 0 1 0 Stale ∷ []) (λ w. freed (both_free w))).run.phase ≡ record {
  shown = Step 2 2 (rows.pair 2 1) (rows.pair 1 2) ∷ [];
  closed = record {
    job = rows.swapping 2 (rows.pair 2 1);
    history = Arrive 0 1 0 Stale ∷ Claim CALLER 0 ∷ Arrive CALLER 2 0 First ∷ Claim CALLER 1 ∷ Arrive CALLER 2 1 First ∷ [];
  } ∷ [];
  phase = Over (Done 2);
}
unfolding lightest_below
late_finished = simp (none_faulty, first_alone, both_merged)

pub repeated_and_late : rows.RepeatedAndLate
repeated_and_late = (
  ap shown_from has_repeated ∙ ap (λ run. Step 1 2 (rows.pair 1 2) (rows.pair 2 1) ∷ run.shown) late_finished,
  ap histories_from has_repeated ∙ ap (λ run. (both_claimed ++ Arrive 0 1 0 First ∷ Arrive 0 1 0 Again ∷ Arrive 1 1 1 First ∷ []) ∷ map (λ step. step.history) run.closed) late_finished,
  ap phase_from has_repeated ∙ ap (λ run. run.phase) late_finished,
)

-- ---- three routines that write one word, whichever of them were delivered

abbrev writes : ℕ → Option Answer
writes n = Some (one 0 (pos n))

none_in_conflict : least_faulty (Ordinary ∷ []) (None ∷ None ∷ None ∷ None ∷ []) ≡ 4
unfolding least_faulty is_faulty shared_word least_below
none_in_conflict = refl

one_writer : least_faulty (Ordinary ∷ []) (None ∷ None ∷ writes 2 ∷ None ∷ []) ≡ 4
unfolding least_faulty is_faulty shared_word least_below
one_writer = simp get_one

two_writers : least_faulty (Ordinary ∷ []) (None ∷ None ∷ writes 2 ∷ writes 3 ∷ []) ≡ 3
unfolding least_faulty is_faulty shared_word least_below
two_writers = simp get_one

three_writers : least_faulty (Ordinary ∷ []) (None ∷ writes 1 ∷ writes 2 ∷ writes 3 ∷ []) ≡ 2
unfolding least_faulty is_faulty shared_word least_below
three_writers = simp get_one

in_conflict : after (ordinary (pos 0) ∷ []) (Some (Update empty) ∷ writes 1 ∷ writes 2 ∷ writes 3 ∷ []) ≡ Err (Conflict 2 0 1)
unfolding after least_faulty is_faulty shared_word least_below fault_of
in_conflict = simp (get_one, get_none)

abbrev four : History → (ℕ → Mode) → List Delivery → State
four history modes deliveries = record {
  run = record { shown = []; closed = []; phase = Open rows.three_write (λ later. Ends (Done 1)) history };
  modes = modes;
  deliveries = deliveries;
}

abbrev modes_2 : ℕ → Mode
modes_2 = with_mode one_busy 1 (Busy 1)

abbrev modes_3 : ℕ → Mode
modes_3 = with_mode modes_2 2 (Busy 2)

abbrev modes_4 : ℕ → Mode
modes_4 = with_mode modes_3 3 (Busy 3)

abbrev modes_5 : ℕ → Mode
modes_5 = with_mode modes_4 2 Idle

abbrev modes_6 : ℕ → Mode
modes_6 = with_mode modes_5 3 Idle

abbrev modes_7 : ℕ → Mode
modes_7 = with_mode modes_6 1 Idle

abbrev answer_of_2 : Delivery
answer_of_2 = record { who = 2; step = 1; k = 2 }

abbrev answer_of_3 : Delivery
answer_of_3 = record { who = 3; step = 1; k = 3 }

abbrev answer_of_1 : Delivery
answer_of_1 = record { who = 1; step = 1; k = 1 }

abbrev all_three : List Delivery
all_three = answer_of_2 ∷ answer_of_3 ∷ answer_of_1 ∷ []

abbrev four_claims : History
four_claims = Claim 0 0 ∷ Claim 1 1 ∷ Claim 2 2 ∷ Claim 3 3 ∷ []

opens : first_state rows.three_writers ≡ four [] idle []
unfolding lightest_below
opens = simp none_in_conflict

claims_0 : apply (event.Claim 0) (four [] idle []) ≡ four (Claim 0 0 ∷ []) one_busy []
unfolding lightest_below
claims_0 = simp none_in_conflict

claims_1 : apply (event.Claim 1) (four (Claim 0 0 ∷ []) one_busy []) ≡ four (Claim 0 0 ∷ Claim 1 1 ∷ []) modes_2 []
unfolding lightest_below
claims_1 = simp none_in_conflict

claims_2 : apply (event.Claim 2) (four (Claim 0 0 ∷ Claim 1 1 ∷ []) modes_2 []) ≡ four (Claim 0 0 ∷ Claim 1 1 ∷ Claim 2 2 ∷ []) modes_3 []
unfolding lightest_below
claims_2 = simp none_in_conflict

claims_3 : apply (event.Claim 3) (four (Claim 0 0 ∷ Claim 1 1 ∷ Claim 2 2 ∷ []) modes_3 []) ≡ four four_claims modes_4 []
unfolding lightest_below
claims_3 = simp none_in_conflict

finishes_2 : apply (event.Finish 2) (four four_claims modes_4 []) ≡ four four_claims modes_5 (answer_of_2 ∷ [])
unfolding lightest_below
finishes_2 = simp none_in_conflict

finishes_3 : apply (event.Finish 3) (four four_claims modes_5 (answer_of_2 ∷ [])) ≡ four four_claims modes_6 (answer_of_2 ∷ answer_of_3 ∷ [])
unfolding lightest_below
finishes_3 = simp none_in_conflict

finishes_1 : apply (event.Finish 1) (four four_claims modes_6 (answer_of_2 ∷ answer_of_3 ∷ [])) ≡ four four_claims modes_7 all_three
unfolding lightest_below
finishes_1 = simp none_in_conflict

arrives_2 : apply (event.Arrive 1) (four four_claims modes_7 all_three) ≡ four (four_claims ++ Arrive 2 1 2 First ∷ []) modes_7 all_three
unfolding lightest_below
arrives_2 = simp one_writer

arrives_3 : apply (event.Arrive 2) (four (four_claims ++ Arrive 2 1 2 First ∷ []) modes_7 all_three) ≡ four (four_claims ++ Arrive 2 1 2 First ∷ Arrive 3 1 3 First ∷ []) modes_7 all_three
unfolding lightest_below
arrives_3 = simp two_writers

arrives_1 : apply (event.Arrive 3) (four (four_claims ++ Arrive 2 1 2 First ∷ Arrive 3 1 3 First ∷ []) modes_7 all_three) ≡ four
    (four_claims ++ Arrive 2 1 2 First ∷ Arrive 3 1 3 First ∷ Arrive 1 1 1 First ∷ []) modes_7 all_three
unfolding lightest_below
arrives_1 = simp three_writers

all_arrived : apply_all rows.out_of_order (first_state rows.three_writers) ≡ four (four_claims ++ Arrive 2 1 2 First ∷ Arrive 3 1 3 First ∷ Arrive 1 1 1 First ∷ []) modes_7 all_three
all_arrived =
    ap (apply_all rows.out_of_order) opens
    ∙ ap (apply_all (drop 1 rows.out_of_order)) claims_0
    ∙ ap (apply_all (drop 2 rows.out_of_order)) claims_1
    ∙ ap (apply_all (drop 3 rows.out_of_order)) claims_2
    ∙ ap (apply_all (drop 4 rows.out_of_order)) claims_3
    ∙ ap (apply_all (drop 5 rows.out_of_order)) finishes_2
    ∙ ap (apply_all (drop 6 rows.out_of_order)) finishes_3
    ∙ ap (apply_all (drop 7 rows.out_of_order)) finishes_1
    ∙ ap (apply_all (drop 8 rows.out_of_order)) arrives_2
    ∙ ap (apply_all (drop 9 rows.out_of_order)) arrives_3
    ∙ arrives_1

ends_in_conflict : finish_in (four (four_claims ++ Arrive 2 1 2 First ∷ Arrive 3 1 3 First ∷ Arrive 1 1 1 First ∷ []) modes_7 all_three).run.phase ≡ record {
  shown = [];
  closed = record {
    job = rows.three_write;
    history = four_claims ++ Arrive 2 1 2 First ∷ Arrive 3 1 3 First ∷ Arrive 1 1 1 First ∷ Claim CALLER 0 ∷ Arrive CALLER 1 0 First ∷ [];
  } ∷ [];
  phase = Over (StepFailed 1 (Conflict 2 0 1));
}
unfolding lightest_below
ends_in_conflict = simp (three_writers, in_conflict)

pub conflict_in_order_of_numbers : rows.ConflictInOrderOfNumbers
conflict_in_order_of_numbers = (
  ap shown_from all_arrived ∙ ap (λ run. run.shown) ends_in_conflict,
  ap histories_from all_arrived ∙ ap (λ run. map (λ step. step.history) run.closed) ends_in_conflict,
  ap phase_from all_arrived ∙ ap (λ run. run.phase) ends_in_conflict,
)

-- ---- without words

pub later_fault_first : rows.LaterFaultFirst
unfolding after least_faulty is_faulty shared_word least_below lightest_below fault_of merged_memory
later_fault_first = (refl, refl, refl)

pub skipped_events : rows.SkippedEvents
unfolding after least_faulty is_faulty shared_word least_below lightest_below fault_of merged_memory
skipped_events = (refl, refl, refl)

pub claim_is_dropped : rows.ClaimIsDropped
unfolding after least_faulty is_faulty shared_word least_below lightest_below fault_of merged_memory
claim_is_dropped = (refl, refl, refl)

pub late_answer_counts_for_nothing : rows.LateAnswerCountsForNothing
unfolding after least_faulty is_faulty shared_word least_below lightest_below fault_of merged_memory
late_answer_counts_for_nothing = (refl, refl, refl)

pub stopped_worker_delivers : rows.StoppedWorkerDelivers
unfolding after least_faulty is_faulty shared_word least_below lightest_below fault_of merged_memory
stopped_worker_delivers = (refl, refl, refl)

pub stopped_stays_stopped : rows.StoppedStaysStopped
unfolding after least_faulty is_faulty shared_word least_below lightest_below fault_of merged_memory
stopped_stays_stopped = (refl, refl, refl)

pub finished_is_idle : rows.FinishedIsIdle
unfolding after least_faulty is_faulty shared_word least_below lightest_below fault_of merged_memory
finished_is_idle = (refl, refl, refl)

pub spent_is_idle : rows.SpentIsIdle
unfolding after least_faulty is_faulty shared_word least_below lightest_below fault_of merged_memory
spent_is_idle = (refl, refl, refl)

pub empty_step_is_passed : rows.EmptyStepIsPassed
unfolding after least_faulty is_faulty shared_word least_below lightest_below fault_of merged_memory
empty_step_is_passed = (refl, refl, refl)

pub full_is_not_entered : rows.FullIsNotEntered
unfolding after least_faulty is_faulty shared_word least_below lightest_below fault_of merged_memory
full_is_not_entered = (refl, refl, refl)

pub unasked_fill_a_step : rows.UnaskedFillAStep
unfolding after least_faulty is_faulty shared_word least_below lightest_below fault_of merged_memory
unasked_fill_a_step = (refl, refl, refl, refl)
