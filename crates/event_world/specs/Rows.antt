-- Worked examples of worlds: what workers do, by hand, and what becomes of it.
use Rattle.std.specs.Prelude.{◌≡◌, ℕ, zero, suc, List, [], ◌∷◌, ◌++◌, map, replicate, pos}
use Rattle.std.specs.FinMap.{empty}
use Rattle.std.specs.Ordering.{nat_cmp}
use Rattle.cal_base.specs.declared.ends.Cause.TheVariants.{Overflow, OutOfRange}
use Rattle.cal_base.specs.declared.ends.RunEnd.{RunEnd}
use Rattle.cal_base.specs.declared.ends.RunEnd.TheVariants.{Done, StepFailed}
use Rattle.cal_base.specs.declared.ends.StepFault.TheVariants.{Trap, Conflict}
use Rattle.cal_base.specs.declared.step.TheConstants.{CALLER}
use Rattle.cal_base.specs.declared.step.Verdict.TheVariants.{First, Again, Stale, Unasked, Full}
use Rattle.cal_base.specs.declared.step.Claimed.TheVariants.{AllDone}
use Rattle.cal_base.specs.declared.step.Entry.TheVariants.{Claim, Arrive}
use Rattle.cal_base.specs.declared.answer.Answer.TheVariants.{Update, Fault}
use Rattle.cal_base.specs.Memory.{Memory, value_at}
use Rattle.cal_base.specs.History.{History}
use Rattle.cal_base.specs.Claims.{StepJob, claimed, verdict_on}
use Rattle.cal_base.specs.Main.{Main, Ends, Shows, Opens, Event as Shown, Line, Step}
use Rattle.step_laws.specs.Rows.{ordinary, one}
use Rattle.event_world.specs.declared.event.Event.{Event}
use Rattle.event_world.specs.declared.event.Event.TheVariants as event
use Rattle.step_laws.specs.Caller.{completed}
use Rattle.event_world.specs.World.{Run, Over, world}

-- the histories of the closed steps, in order
abbrev pub histories_in : Run → List History
histories_in run = map (λ step. step.history) run.closed

-- by these events the program shows this, its steps have these histories, and it ends so
abbrev pub Becomes : Main → List Event → List Shown → List History → RunEnd → Type 0
Becomes main events shown histories ending =
    (world main events).shown ≡ shown
    × histories_in (world main events) ≡ histories
    × (world main events).phase ≡ Over ending

-- ---- two routines that swap two words

-- a step of two routines, each of which writes the other one's word
abbrev pub swapping : ℕ → Memory → StepJob
swapping number memory = record { number = number; opening = memory; answers = one 0 (value_at memory 1) ∷ one 1 (value_at memory 0) ∷ [] }

-- two words with these values
abbrev pub pair : ℕ → ℕ → Memory
pair a b = ordinary (pos a) ∷ ordinary (pos b) ∷ []

-- the two words are swapped, and a line is printed
abbrev pub swap : Main
swap = Opens (swapping 1 (pair 1 2)) (λ later. Shows (50 ∷ 10 ∷ []) (Ends (Done 1)))

-- what is shown of it
abbrev pub swapped : List Shown
swapped = Step 1 2 (pair 1 2) (pair 2 1) ∷ Line (50 ∷ 10 ∷ []) ∷ []

-- where no worker does anything the caller does it all
abbrev pub NobodyWorks : Type 0
NobodyWorks =
    Becomes swap [] swapped
    ((Claim CALLER 0 ∷ Arrive CALLER 1 0 First ∷ Claim CALLER 1 ∷ Arrive CALLER 1 1 First ∷ []) ∷ [])
    (Done 1)

-- a worker stops after its claim: it does not finish it and claims no more, and the caller does it all
abbrev pub WorkerStops : Type 0
WorkerStops =
    Becomes swap (event.Claim 0 ∷ event.Stop 0 ∷ event.Finish 0 ∷ event.Claim 0 ∷ []) swapped
    ((Claim 0 0 ∷ Claim CALLER 1 ∷ Arrive CALLER 1 1 First ∷ Claim CALLER 0 ∷ Arrive CALLER 1 0 First ∷ []) ∷ [])
    (Done 1)

-- the two words are swapped in one step, and back in the next
abbrev pub swap_twice : Main
swap_twice = Opens (swapping 1 (pair 1 2)) (λ later. Opens (swapping 2 later) (λ last. Ends (Done 2)))

-- the answer of routine 0 arrives, arrives again, and once more in the next step, where it counts for nothing
abbrev pub RepeatedAndLate : Type 0
RepeatedAndLate =
    Becomes swap_twice
    (
    event.Claim 0 ∷ event.Claim 1 ∷ event.Finish 0 ∷ event.Finish 1 ∷ event.Arrive 1 ∷ event.Arrive 1 ∷ event.Arrive 2
    ∷ event.Arrive 1 ∷ []
    )
    (Step 1 2 (pair 1 2) (pair 2 1) ∷ Step 2 2 (pair 2 1) (pair 1 2) ∷ [])
    (
    (Claim 0 0 ∷ Claim 1 1 ∷ Arrive 0 1 0 First ∷ Arrive 0 1 0 Again ∷ Arrive 1 1 1 First ∷ [])
    ∷ (Arrive 0 1 0 Stale ∷ Claim CALLER 0 ∷ Arrive CALLER 2 0 First ∷ Claim CALLER 1 ∷ Arrive CALLER 2 1 First ∷ [])
    ∷ []
    )
    (Done 2)

-- ---- steps that fail

-- a step of four routines on one word: 1, 2 and 3 write it
abbrev pub three_write : StepJob
three_write = record { number = 1; opening = ordinary (pos 0) ∷ []; answers = Update empty ∷ one 0 (pos 1) ∷ one 0 (pos 2) ∷ one 0 (pos 3) ∷ [] }

-- this one step
abbrev pub three_writers : Main
three_writers = Opens three_write (λ later. Ends (Done 1))

-- four workers claim, and the answers of routines 2, 3 and 1 arrive in this order
abbrev pub out_of_order : List Event
out_of_order =
    event.Claim 0 ∷ event.Claim 1 ∷ event.Claim 2 ∷ event.Claim 3 ∷ event.Finish 2 ∷ event.Finish 3 ∷ event.Finish 1
    ∷ event.Arrive 1 ∷ event.Arrive 2 ∷ event.Arrive 3 ∷ []

-- routine 2 is in conflict with routine 1, though the answers of 2 and 3 came first
abbrev pub ConflictInOrderOfNumbers : Type 0
ConflictInOrderOfNumbers =
    Becomes three_writers out_of_order
    []
    (
    (
    Claim 0 0 ∷ Claim 1 1 ∷ Claim 2 2 ∷ Claim 3 3 ∷ Arrive 2 1 2 First ∷ Arrive 3 1 3 First ∷ Arrive 1 1 1 First
    ∷ Claim CALLER 0 ∷ Arrive CALLER 1 0 First ∷ []
    )
    ∷ []
    )
    (StepFailed 1 (Conflict 2 0 1))

-- a step of four routines: 0 and 2 write nothing, 1 goes out of range and 3 overflows
abbrev pub two_traps : Main
two_traps =
    Opens
    (record { number = 1; opening = []; answers = Update (empty {R = nat_cmp}) ∷ Fault OutOfRange ∷ Update (empty {R = nat_cmp}) ∷ Fault Overflow ∷ [] })
    (λ later. Ends (Done 1))

-- the fault of routine 3 arrives first; then the caller executes 0 and 1, and 1 is named
abbrev pub LaterFaultFirst : Type 0
LaterFaultFirst =
    Becomes two_traps (event.Claim 0 ∷ event.Claim 1 ∷ event.Claim 2 ∷ event.Claim 3 ∷ event.Finish 3 ∷ event.Arrive 1 ∷ [])
    []
    (
    (
    Claim 0 0 ∷ Claim 1 1 ∷ Claim 2 2 ∷ Claim 3 3 ∷ Arrive 3 1 3 First
    ∷ Claim CALLER 0 ∷ Arrive CALLER 1 0 First ∷ Claim CALLER 1 ∷ Arrive CALLER 1 1 First ∷ []
    )
    ∷ []
    )
    (StepFailed 1 (Trap 1 OutOfRange))

-- ---- events that do not apply

-- a step of one routine that writes nothing
abbrev pub quiet : ℕ → StepJob
quiet number = record { number = number; opening = []; answers = Update (empty {R = nat_cmp}) ∷ [] }

-- two such steps
abbrev pub two_quiet_steps : Main
two_quiet_steps = Opens (quiet 1) (λ memory. Opens (quiet 2) (λ later. Ends (Done 2)))

-- what is not there does not arrive, who claimed nothing does not finish, and a fetch changes nothing that is seen
abbrev pub SkippedEvents : Type 0
SkippedEvents =
    Becomes two_quiet_steps
    (event.Arrive 2 ∷ event.Finish 0 ∷ event.Fetch 0 7 ∷ event.Claim 0 ∷ event.Claim 0 ∷ event.Finish 0 ∷ event.Arrive 0 ∷ event.Arrive 1
    ∷ [])
    (Step 1 1 [] [] ∷ Step 2 1 [] [] ∷ [])
    ((Claim 0 0 ∷ Arrive 0 1 0 First ∷ []) ∷ (Claim CALLER 0 ∷ Arrive CALLER 2 0 First ∷ []) ∷ [])
    (Done 2)

-- ---- what outlives a step, and what does not

-- a worker is busy when its step is closed: its claim is dropped, it finishes nothing, and it claims in the next step
abbrev pub ClaimIsDropped : Type 0
ClaimIsDropped =
    Becomes two_quiet_steps
    (
    event.Claim 0 ∷ event.Claim 1 ∷ event.Finish 0 ∷ event.Arrive 1 ∷ event.Finish 1 ∷ event.Claim 1 ∷ event.Finish 1
    ∷ event.Arrive 2 ∷ []
    )
    (Step 1 1 [] [] ∷ Step 2 1 [] [] ∷ [])
    ((Claim 0 0 ∷ Claim 1 0 ∷ Arrive 0 1 0 First ∷ []) ∷ (Claim 1 0 ∷ Arrive 1 2 0 First ∷ []) ∷ [])
    (Done 2)

-- an answer arrives late: it is entered and counts for nothing, so a worker claims the routine, and then the caller does
abbrev pub LateAnswerCountsForNothing : Type 0
LateAnswerCountsForNothing =
    Becomes two_quiet_steps
    (event.Claim 0 ∷ event.Finish 0 ∷ event.Arrive 1 ∷ event.Arrive 1 ∷ event.Claim 1 ∷ [])
    (Step 1 1 [] [] ∷ Step 2 1 [] [] ∷ [])
    (
    (Claim 0 0 ∷ Arrive 0 1 0 First ∷ [])
    ∷ (Arrive 0 1 0 Stale ∷ Claim 1 0 ∷ Claim CALLER 0 ∷ Arrive CALLER 2 0 First ∷ [])
    ∷ []
    )
    (Done 2)

-- a step of two routines that write nothing, and one of one routine
abbrev pub quiet_pair_first : Main
quiet_pair_first =
    Opens
    (record { number = 1; opening = []; answers = Update (empty {R = nat_cmp}) ∷ Update (empty {R = nat_cmp}) ∷ [] })
    (λ memory. Opens (quiet 2) (λ later. Ends (Done 2)))

-- a worker finishes and stops: its answer still arrives, then again, and once more in the next step
abbrev pub StoppedWorkerDelivers : Type 0
StoppedWorkerDelivers =
    Becomes quiet_pair_first
    (
    event.Claim 0 ∷ event.Finish 0 ∷ event.Stop 0 ∷ event.Arrive 1 ∷ event.Arrive 1 ∷ event.Claim 1 ∷ event.Finish 1
    ∷ event.Arrive 2 ∷ event.Arrive 1 ∷ []
    )
    (Step 1 2 [] [] ∷ Step 2 1 [] [] ∷ [])
    (
    (Claim 0 0 ∷ Arrive 0 1 0 First ∷ Arrive 0 1 0 Again ∷ Claim 1 1 ∷ Arrive 1 1 1 First ∷ [])
    ∷ (Arrive 0 1 0 Stale ∷ Claim CALLER 0 ∷ Arrive CALLER 2 0 First ∷ [])
    ∷ []
    )
    (Done 2)

-- ---- what a worker is after its turn

-- one step of one routine that writes nothing
abbrev pub one_quiet_step : Main
one_quiet_step = Opens (quiet 1) (λ memory. Ends (Done 1))

-- a worker that stopped claims in the next step: it is stopped still
abbrev pub StoppedStaysStopped : Type 0
StoppedStaysStopped =
    Becomes two_quiet_steps
    (event.Claim 0 ∷ event.Stop 0 ∷ event.Claim 1 ∷ event.Finish 1 ∷ event.Arrive 1 ∷ event.Claim 0 ∷ event.Finish 0 ∷ event.Arrive 2 ∷ [])
    (Step 1 1 [] [] ∷ Step 2 1 [] [] ∷ [])
    ((Claim 0 0 ∷ Claim 1 0 ∷ Arrive 1 1 0 First ∷ []) ∷ (Claim CALLER 0 ∷ Arrive CALLER 2 0 First ∷ []) ∷ [])
    (Done 2)

-- a worker that finished is neither busy nor retired: it finishes nothing more, and claims again
abbrev pub FinishedIsIdle : Type 0
FinishedIsIdle =
    Becomes one_quiet_step
    (event.Claim 0 ∷ event.Finish 0 ∷ event.Finish 0 ∷ event.Claim 0 ∷ event.Arrive 2 ∷ [])
    (Step 1 1 [] [] ∷ [])
    ((Claim 0 0 ∷ Claim 0 0 ∷ Claim CALLER 0 ∷ Arrive CALLER 1 0 First ∷ []) ∷ [])
    (Done 1)

-- a worker claims and finishes so many times, and then this happens
abbrev pub working : ℕ → List Event → List Event
working zero events = events
working (suc n) events = event.Claim 0 ∷ event.Finish 0 ∷ working n events

-- the 36th claim of a step of one routine is spent, which does not stop its worker: it claims in the next step
abbrev pub SpentIsIdle : Type 0
SpentIsIdle =
    Becomes two_quiet_steps (working 35 (event.Claim 0 ∷ event.Arrive 1 ∷ event.Claim 0 ∷ []))
    (Step 1 1 [] [] ∷ Step 2 1 [] [] ∷ [])
    (
    (replicate 35 (Claim 0 0) ++ Arrive 0 1 0 First ∷ [])
    ∷ (Claim 0 0 ∷ Claim CALLER 0 ∷ Arrive CALLER 2 0 First ∷ [])
    ∷ []
    )
    (Done 2)

-- ---- a step of no routines

-- a step of one routine, one of none, and one of one
abbrev pub empty_between : Main
empty_between =
    Opens (quiet 1)
    (λ memory. Opens (record { number = 2; opening = []; answers = [] }) (λ later. Opens (quiet 3) (λ last. Ends (Done 3))))

-- a step of no routines waits for nothing: what is delivered behind it is of an older step
abbrev pub EmptyStepIsPassed : Type 0
EmptyStepIsPassed =
    Becomes empty_between
    (event.Claim 0 ∷ event.Claim 1 ∷ event.Finish 0 ∷ event.Finish 1 ∷ event.Arrive 1 ∷ event.Arrive 2 ∷ [])
    (Step 1 1 [] [] ∷ Step 2 0 [] [] ∷ Step 3 1 [] [] ∷ [])
    (
    (Claim 0 0 ∷ Claim 1 0 ∷ Arrive 0 1 0 First ∷ [])
    ∷ []
    ∷ (Arrive 1 1 0 Stale ∷ Claim CALLER 0 ∷ Arrive CALLER 3 0 First ∷ [])
    ∷ []
    )
    (Done 3)

-- ---- a step that is full

-- an older answer arrives 103 times in a step of one routine: the last time it is not entered, and the caller completes the step
abbrev pub FullIsNotEntered : Type 0
FullIsNotEntered =
    Becomes two_quiet_steps (event.Claim 0 ∷ event.Finish 0 ∷ event.Arrive 1 ∷ replicate 103 (event.Arrive 1))
    (Step 1 1 [] [] ∷ Step 2 1 [] [] ∷ [])
    (
    (Claim 0 0 ∷ Arrive 0 1 0 First ∷ [])
    ∷ (replicate 102 (Arrive 0 1 0 Stale) ++ Claim CALLER 0 ∷ Arrive CALLER 2 0 First ∷ [])
    ∷ []
    )
    (Done 2)

-- an answer that nobody asked for arrived so many times in a step of one routine
abbrev pub unasked : ℕ → History
unasked n = replicate n (Arrive 0 1 0 Unasked)

-- of 103 such arrivals 102 are entered, the last is full, and the caller completes the step
abbrev pub UnaskedFillAStep : Type 0
UnaskedFillAStep =
    verdict_on (quiet 1) (unasked 101) 0 1 0 ≡ Unasked
    × verdict_on (quiet 1) (unasked 102) 0 1 0 ≡ Full
    × completed (quiet 1) (unasked 102) ≡ unasked 102 ++ Claim CALLER 0 ∷ Arrive CALLER 1 0 First ∷ []
    × claimed (quiet 1) (unasked 102 ++ Claim CALLER 0 ∷ Arrive CALLER 1 0 First ∷ []) CALLER ≡ AllDone
