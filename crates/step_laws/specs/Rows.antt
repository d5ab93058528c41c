-- Worked examples of what a step leaves and of histories, each computed from the definitions.
use Rattle.std.specs.Prelude.{◌≡◌, ℕ, ◌-◌, ◌^◌, List, [], ◌∷◌, ◌++◌, map, replicate, ℤ, pos, negsuc, true, false, Result, Ok, Err, codes}
use Rattle.std.specs.FinMap.{empty, insert}
use Rattle.std.specs.Ordering.{nat_cmp}
use Rattle.cal_base.specs.declared.ends.Cause.TheVariants.{DivisionByZero, OutOfRange, Assertion, Overflow}
use Rattle.cal_base.specs.declared.ends.StepFault.{StepFault}
use Rattle.cal_base.specs.declared.ends.StepFault.TheVariants.{Trap, Conflict, Total}
use Rattle.cal_base.specs.declared.ends.RunEnd.TheVariants.{Done, MainFault, StepFailed}
use Rattle.cal_base.specs.declared.step.TheConstants.{CALLER}
use Rattle.cal_terms.specs.declared.kinds.WordKind.TheVariants.{Ordinary, Tally}
use Rattle.cal_base.specs.declared.step.Word.{Word}
use Rattle.cal_base.specs.declared.step.Verdict.TheVariants.{First, Again, Stale, Unasked, Full}
use Rattle.cal_base.specs.declared.step.Claimed.TheVariants.{Work, AllDone, Spent}
use Rattle.cal_base.specs.declared.step.Entry.TheVariants.{Claim, Arrive}
use Rattle.cal_base.specs.Memory.{Memory}
use Rattle.cal_base.specs.Arithmetic.{quotient, remainder}
use Rattle.cal_base.specs.declared.value.Store.TheVariants.{Main as OfMain, Routine}
use Rattle.cal_base.specs.Stores.{read_word, add_word}
use Rattle.cal_base.specs.declared.answer.Answer.{Answer}
use Rattle.cal_base.specs.declared.answer.Answer.TheVariants.{Update, Fault}
use Rattle.cal_base.specs.Answers.{all_of}
use Rattle.cal_base.specs.After.{after}
use Rattle.cal_base.specs.History.{History}
use Rattle.cal_base.specs.Claims.{StepJob, claimed, verdict_on, IsLegal, IsComplete, merged}
use Rattle.cal_base.specs.Main.{Main, Ends, Shows, Opens, Event, Line, Step, meaning_of, steps_of}
use Rattle.cal_base.specs.Text.{text_of, fault_line}

-- an ordinary word
abbrev pub ordinary : ℤ → Word
ordinary v = record { kind = Ordinary; value = v }

-- a tally word
abbrev pub tally : ℤ → Word
tally v = record { kind = Tally; value = v }

-- the update of a routine that wrote one ordinary word, or added to one tally word
abbrev pub one : ℕ → ℤ → Answer
one address value = Update (insert empty address value)

-- the update of a routine that did so with two words
abbrev pub two : ℕ → ℤ → ℕ → ℤ → Answer
two a v b w = Update (insert (insert empty a v) b w)

-- the greatest 64-bit value
abbrev pub greatest : ℕ
greatest = 2 ^ 63 - 1

-- ---- words and numbers

-- division cuts towards zero, and a remainder has the sign of the dividend
abbrev pub DivisionCuts : Type 0
DivisionCuts = quotient (negsuc 6) (pos 2) ≡ Ok (negsuc 2) × remainder (negsuc 6) (pos 2) ≡ Ok (negsuc 0)

-- the least value by -1 has neither a quotient nor a remainder
abbrev pub LeastByMinusOne : Type 0
LeastByMinusOne =
    quotient (negsuc greatest) (negsuc 0) ≡ Err Overflow
    × remainder (negsuc greatest) (negsuc 0) ≡ Err Overflow

-- nothing is divided by zero
abbrev pub ZeroDivisor : Type 0
ZeroDivisor = quotient (pos 1) (pos 0) ≡ Err DivisionByZero × remainder (pos 1) (pos 0) ≡ Err DivisionByZero

-- a routine reads what it wrote, and elsewhere the opening memory
abbrev pub ReadsItsWrites : Type 0
ReadsItsWrites =
    read_word (Routine (ordinary (pos 7) ∷ ordinary (pos 8) ∷ []) (insert empty 0 (pos 1))) 0 ≡ pos 1
    × read_word (Routine (ordinary (pos 7) ∷ ordinary (pos 8) ∷ []) (insert empty 0 (pos 1))) 1 ≡ pos 8

-- a routine's sum of a tally word begins at 0, whatever the word holds, and adding 0 makes an entry
abbrev pub SumBeginsAtZero : Type 0
SumBeginsAtZero =
    add_word (Routine (tally (pos 7) ∷ []) empty) 0 (pos 0) ≡ Ok (Routine (tally (pos 7) ∷ []) (insert empty 0 (pos 0)))

-- a routine adds to an ordinary word, and main to every word, as it reads
abbrev pub AddsToWhatItReads : Type 0
AddsToWhatItReads =
    add_word (Routine (ordinary (pos 7) ∷ []) empty) 0 (pos 1) ≡ Ok (Routine (ordinary (pos 7) ∷ []) (insert empty 0 (pos 8)))
    × add_word (OfMain (tally (pos 7) ∷ [])) 0 (pos 1) ≡ Ok (OfMain (tally (pos 8) ∷ []))

-- a running sum outside 64 bits is an overflow
abbrev pub SumOverflows : Type 0
SumOverflows = add_word (Routine (tally (pos 0) ∷ []) (insert empty 0 (pos greatest))) 0 (pos 1) ≡ Err Overflow

-- ---- what a step leaves

-- routines that write different words leave their values, and the other words stay
abbrev pub WordsOfTheirOwn : Type 0
WordsOfTheirOwn =
    after (ordinary (pos 7) ∷ ordinary (pos 8) ∷ ordinary (pos 9) ∷ []) (all_of (one 2 (pos 1) ∷ one 0 (pos 2) ∷ []))
    ≡ Ok (ordinary (pos 2) ∷ ordinary (pos 8) ∷ ordinary (pos 1) ∷ [])

-- two routines write word 0: routine 1 is in conflict with routine 0
abbrev pub TwoWriters : Type 0
TwoWriters = after (ordinary (pos 0) ∷ []) (all_of (one 0 (pos 0) ∷ one 0 (pos 1) ∷ [])) ≡ Err (Conflict 1 0 0)

-- they are in conflict also where both write the value that the word had
abbrev pub TwoEqualWriters : Type 0
TwoEqualWriters = after (ordinary (pos 0) ∷ []) (all_of (one 0 (pos 0) ∷ one 0 (pos 0) ∷ [])) ≡ Err (Conflict 1 0 0)

-- routines 1, 2 and 3 write word 0: the conflict is of routine 2 with routine 1
abbrev pub ThreeWriters : Type 0
ThreeWriters =
    after (ordinary (pos 0) ∷ []) (all_of (Update empty ∷ one 0 (pos 1) ∷ one 0 (pos 2) ∷ one 0 (pos 3) ∷ []))
    ≡ Err (Conflict 2 0 1)

-- routine 1 shares words 1 and 2 with routine 0: word 1 is named
abbrev pub LeastSharedWord : Type 0
LeastSharedWord =
    after (ordinary (pos 0) ∷ ordinary (pos 0) ∷ ordinary (pos 0) ∷ []) (all_of (two 2 (pos 1) 1 (pos 1) ∷ two 1 (pos 1) 2 (pos 1) ∷ []))
    ≡ Err (Conflict 1 1 0)

-- routine 3 divides by zero and routine 1 is out of range: routine 1 is named
abbrev pub LeastTrap : Type 0
LeastTrap =
    after (replicate 5 (ordinary (pos 0))) (all_of (one 0 (pos 0) ∷ Fault OutOfRange ∷ one 2 (pos 2) ∷ Fault DivisionByZero ∷ []))
    ≡ Err (Trap 1 OutOfRange)

-- routine 0 failed and so wrote nothing: it is named, and routine 1 has no conflict with it
abbrev pub FailedWroteNothing : Type 0
FailedWroteNothing = after (replicate 6 (ordinary (pos 0))) (all_of (Fault Assertion ∷ one 5 (pos 1) ∷ [])) ≡ Err (Trap 0 Assertion)

-- routine 1 is in conflict and routine 2 failed: the lower one is named
abbrev pub ConflictBelowTrap : Type 0
ConflictBelowTrap =
    after (ordinary (pos 0) ∷ []) (all_of (one 0 (pos 1) ∷ one 0 (pos 2) ∷ Fault Assertion ∷ [])) ≡ Err (Conflict 1 0 0)

-- eight routines add their numbers to a tally word
abbrev pub SumOfNumbers : Type 0
SumOfNumbers =
    after (tally (pos 0) ∷ ordinary (pos 7) ∷ [])
    (all_of (one 0 (pos 0) ∷ one 0 (pos 1) ∷ one 0 (pos 2) ∷ one 0 (pos 3) ∷ one 0 (pos 4) ∷ one 0 (pos 5) ∷ one 0 (pos 6) ∷ one 0 (pos 7)
    ∷ []))
    ≡ Ok (tally (pos 28) ∷ ordinary (pos 7) ∷ [])

-- the sums of two routines are outside 64 bits together: the step ends at that word
abbrev pub TotalOutside : Type 0
TotalOutside = after (tally (pos 0) ∷ []) (all_of (one 0 (pos greatest) ∷ one 0 (pos 1) ∷ [])) ≡ Err (Total 0)

-- two totals are outside 64 bits: the lower word is named, though the ordinary word 0 is at its greatest value
abbrev pub LeastTotal : Type 0
LeastTotal =
    after (ordinary (pos greatest) ∷ tally (pos greatest) ∷ tally (negsuc greatest) ∷ []) (all_of (two 2 (negsuc 0) 1 (pos 1) ∷ []))
    ≡ Err (Total 1)

-- only the total counts: the sums before it may be outside 64 bits
abbrev pub TotalInside : Type 0
TotalInside =
    after (tally (pos 0) ∷ []) (all_of (one 0 (pos greatest) ∷ one 0 (pos 1) ∷ one 0 (negsuc 0) ∷ []))
    ≡ Ok (tally (pos greatest) ∷ [])

-- ---- claims and arrivals

-- a step whose routines write nothing
abbrev pub quiet : ℕ → ℕ → StepJob
quiet number n = record { number = number; opening = []; answers = replicate n (Update (empty {R = nat_cmp})) }

-- in a step of one routine a worker's claim after 34 claims is granted
abbrev pub Claim35 : Type 0
Claim35 = claimed (quiet 1 1) (replicate 34 (Claim 0 0)) 0 ≡ Work 0

-- after 35 it is not
abbrev pub Claim36 : Type 0
Claim36 = claimed (quiet 1 1) (replicate 35 (Claim 0 0)) 0 ≡ Spent

-- and the caller's then is
abbrev pub CallerStillClaims : Type 0
CallerStillClaims = claimed (quiet 1 1) (replicate 35 (Claim 0 0)) CALLER ≡ Work 0

-- numbers are claimed in their order, and then those that were claimed least often
abbrev pub ClaimsGoRound : Type 0
ClaimsGoRound =
    claimed (quiet 1 3) (Claim 0 0 ∷ Claim 1 1 ∷ []) 2 ≡ Work 2
    × claimed (quiet 1 3) (Claim 0 0 ∷ Claim 1 1 ∷ Claim 2 2 ∷ []) 2 ≡ Work 0
    × claimed (quiet 1 3) (Claim 0 0 ∷ Claim 1 1 ∷ Claim 2 2 ∷ Arrive 0 1 0 First ∷ []) 2 ≡ Work 1

-- where all was delivered there is nothing to claim, though claims are left
abbrev pub NothingLeft : Type 0
NothingLeft = claimed (quiet 1 1) (Claim 0 0 ∷ Arrive 0 1 0 First ∷ []) 1 ≡ AllDone

-- a delivery that nobody asked for changes nothing: its number is still wanted
abbrev pub UnaskedIsNoDelivery : Type 0
UnaskedIsNoDelivery = verdict_on (quiet 1 2) [] 0 1 1 ≡ Unasked × claimed (quiet 1 2) (Arrive 0 1 1 Unasked ∷ []) 0 ≡ Work 0

-- a delivery of an older step is stale, whatever was claimed
abbrev pub OlderIsStale : Type 0
OlderIsStale = verdict_on (quiet 2 1) (Claim 0 0 ∷ []) 0 1 0 ≡ Stale

-- the claimed number, delivered by a worker after so many deliveries of workers
abbrev pub delivered_often : ℕ → History
delivered_often n = Claim 0 0 ∷ Arrive 0 1 0 First ∷ replicate n (Arrive 0 1 0 Again)

-- of a step with one routine 102 deliveries of workers arrive
abbrev pub Arrival102 : Type 0
Arrival102 = verdict_on (quiet 1 1) (delivered_often 100) 0 1 0 ≡ Again

-- and the next does not
abbrev pub Arrival103 : Type 0
Arrival103 = verdict_on (quiet 1 1) (delivered_often 101) 0 1 0 ≡ Full

-- ---- whole histories

-- a history that is legal and complete and merges to this
abbrev pub EndsSo : StepJob → History → Result Memory StepFault → Type 0
EndsSo job history result = IsLegal job history × IsComplete job history × merged job history ≡ result

-- a step of one routine that adds 5 to a tally word
abbrev pub adding : StepJob
adding = record { number = 1; opening = tally (pos 0) ∷ []; answers = one 0 (pos 5) ∷ [] }

-- a worker delivers twice
abbrev pub twice : History
twice = Claim 0 0 ∷ Arrive 0 1 0 First ∷ Arrive 0 1 0 Again ∷ []

-- what is delivered twice counts once
abbrev pub DeliveredTwice : Type 0
DeliveredTwice = EndsSo adding twice (Ok (tally (pos 5) ∷ []))

-- the second step, of one routine that writes 2
abbrev pub second : StepJob
second = record { number = 2; opening = ordinary (pos 1) ∷ []; answers = one 0 (pos 2) ∷ [] }

-- a delivery that was held over from the first step arrives in the second
abbrev pub late : History
late = Arrive 0 1 0 Stale ∷ Claim 0 0 ∷ Arrive 0 2 0 First ∷ []

-- it counts for nothing
abbrev pub DeliveredLate : Type 0
DeliveredLate = EndsSo second late (Ok (ordinary (pos 2) ∷ []))

-- a step of four routines: routine 3 divides by zero and routine 1 is out of range
abbrev pub two_traps : StepJob
two_traps = record {
  number = 1;
  opening = replicate 5 (ordinary (pos 0));
  answers = one 0 (pos 0) ∷ Fault OutOfRange ∷ one 2 (pos 2) ∷ Fault DivisionByZero ∷ [];
}

-- the fault of routine 3 arrives first, and the caller delivers 0 and 1
abbrev pub upper_fault_first : History
upper_fault_first =
    Claim 0 0 ∷ Claim 1 1 ∷ Claim 2 2 ∷ Claim 3 3 ∷ Arrive 3 1 3 First
    ∷ Claim CALLER 0 ∷ Arrive CALLER 1 0 First ∷ Claim CALLER 1 ∷ Arrive CALLER 1 1 First ∷ []

-- then nothing is wanted, and routine 1 is named
abbrev pub FaultArrivesFirst : Type 0
FaultArrivesFirst = EndsSo two_traps upper_fault_first (Err (Trap 1 OutOfRange))

-- a step of four routines, three of which write one word
abbrev pub three_writers : StepJob
three_writers = record {
  number = 1;
  opening = ordinary (pos 0) ∷ [];
  answers = Update empty ∷ one 0 (pos 1) ∷ one 0 (pos 2) ∷ one 0 (pos 3) ∷ [];
}

-- routines 2, 3 and 1 arrive in this order
abbrev pub out_of_order : History
out_of_order =
    Claim 0 0 ∷ Claim 1 1 ∷ Claim 2 2 ∷ Claim 3 3 ∷ Arrive 2 1 2 First ∷ Arrive 3 1 3 First ∷ Arrive 1 1 1 First
    ∷ Claim CALLER 0 ∷ Arrive CALLER 1 0 First ∷ []

-- the conflict is of routine 2 with routine 1
abbrev pub ConflictInAnyOrder : Type 0
ConflictInAnyOrder = EndsSo three_writers out_of_order (Err (Conflict 2 0 1))

-- ---- meanings

-- a main that opens a step, shows a line and ends
abbrev pub one_step_main : Main
one_step_main = Opens adding (λ later. Shows (codes "done" ++ 10 ∷ []) (Ends (Done 1)))

-- its events are the step and the line, and its end is reached
abbrev pub OneStep : Type 0
OneStep =
    meaning_of one_step_main
    ≡ record { events = Step 1 1 (tally (pos 0) ∷ []) (tally (pos 5) ∷ []) ∷ Line (codes "done" ++ 10 ∷ []) ∷ []; ending = Done 1 }

-- a main whose second step fails
abbrev pub failing_main : Main
failing_main = Opens adding (λ later. Opens (record second { answers = Fault Assertion ∷ [] }) (λ later. Ends (Done 2)))

-- the meaning ends with the fault of that step, and both steps were opened
abbrev pub SecondStepFails : Type 0
SecondStepFails =
    meaning_of failing_main
    ≡ record { events = Step 1 1 (tally (pos 0) ∷ []) (tally (pos 5) ∷ []) ∷ []; ending = StepFailed 2 (Trap 0 Assertion) }
    × map (λ job. job.number) (steps_of failing_main) ≡ 1 ∷ 2 ∷ []

-- ---- texts

-- the events of a run whose step changed three of five words, and which then printed a line
abbrev pub run_of_squares : List Event
run_of_squares =
    Step 1 4 (replicate 5 (ordinary (pos 0))) (ordinary (pos 0) ∷ ordinary (pos 1) ∷ ordinary (negsuc 3) ∷ ordinary (pos 9) ∷ ordinary
    (pos 0) ∷ [])
    ∷ Line (codes "sum 6" ++ 10 ∷ []) ∷ []

-- with the flag a completed step shows its number and each word that it changed
abbrev pub StepsAreShown : Type 0
StepsAreShown =
    text_of true run_of_squares
    ≡ codes "step 1" ++ 10 ∷ [] ++ codes "word 1 = 1" ++ 10 ∷ [] ++ codes "word 2 = -4" ++ 10 ∷ [] ++ codes "word 3 = 9" ++ 10 ∷ []
    ++ codes "sum 6" ++ 10 ∷ []

-- without it only what was printed
abbrev pub LinesAlone : Type 0
LinesAlone = text_of false run_of_squares ≡ codes "sum 6" ++ 10 ∷ []

-- the line of each kind of fault
abbrev pub FaultLines : Type 0
FaultLines =
    fault_line (StepFailed 1 (Trap 1 OutOfRange)) ≡ codes "fault: step 1, routine 1: index out of range" ++ 10 ∷ []
    × fault_line (StepFailed 1 (Conflict 2 0 1)) ≡ codes "fault: step 1, routine 2: word 0 also written by routine 1" ++ 10 ∷ []
    × fault_line (StepFailed 1 (Total 0)) ≡ codes "fault: step 1: total at word 0" ++ 10 ∷ []
    × fault_line (MainFault 0 Overflow) ≡ codes "fault: after step 0: overflow" ++ 10 ∷ []
    × fault_line (Done 1) ≡ []
