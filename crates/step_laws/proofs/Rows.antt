-- The worked examples, computed.
use Rattle.std.proofs.Common.{◌≡◌, ℕ, cond, refl, ap, ◌∙◌, Some, None, ℤ}
use Rattle.std.specs.FinMap.{empty, insert, get, get-insert, get-empty}
use Rattle.std.specs.Cmp.{nat_cmp_total}
use Rattle.std.specs.Fmt.{digits}
use Rattle.std.specs.Ordering.{nat_cmp, eq_by_cmp}
use Rattle.cal_base.specs.Numbers.{least_below}
use Rattle.cal_base.specs.After.{after, least_faulty, is_faulty, shared_word, fault_of, merged_memory}
use Rattle.step_laws.specs.Rows

pub get_none : (at : ℕ) → get (empty {X = ℤ} {R = nat_cmp}) at ≡ None
get_none at = get-empty nat_cmp at

pub get_one : (address at : ℕ) (value : ℤ) → get (insert (empty {R = nat_cmp}) address value) at ≡ cond (eq_by_cmp nat_cmp at address) (Some value) None
get_one address at value = get-insert nat_cmp_total empty address value at ∙ ap (λ o. cond (eq_by_cmp nat_cmp at address) (Some value) o) (get-empty nat_cmp at)

pub get_two : (a b at : ℕ) (v w : ℤ) → get (insert (insert (empty {R = nat_cmp}) a v) b w) at ≡ cond (eq_by_cmp nat_cmp at b) (Some w) (cond (eq_by_cmp nat_cmp at a) (Some v) None)
get_two a b at v w = get-insert nat_cmp_total (insert empty a v) b w at ∙ ap (λ o. cond (eq_by_cmp nat_cmp at b) (Some w) o) (get_one a at v)

pub division_cuts : Rows.DivisionCuts
division_cuts = (refl, refl)

pub least_by_minus_one : Rows.LeastByMinusOne
least_by_minus_one = (refl, refl)

pub zero_divisor : Rows.ZeroDivisor
zero_divisor = (refl, refl)

pub reads_its_writes : Rows.ReadsItsWrites
reads_its_writes = (simp get_one, simp get_one)

pub sum_begins_at_zero : Rows.SumBeginsAtZero
sum_begins_at_zero = simp get_none

pub adds_to_what_it_reads : Rows.AddsToWhatItReads
adds_to_what_it_reads = (simp get_none, refl)

pub sum_overflows : Rows.SumOverflows
sum_overflows = simp get_one

pub words_of_their_own : Rows.WordsOfTheirOwn
unfolding after least_faulty is_faulty shared_word least_below fault_of merged_memory
words_of_their_own = simp get_one

pub two_writers : Rows.TwoWriters
unfolding after least_faulty is_faulty shared_word least_below fault_of
two_writers = simp get_one

pub two_equal_writers : Rows.TwoEqualWriters
unfolding after least_faulty is_faulty shared_word least_below fault_of
two_equal_writers = simp get_one

pub three_writers : Rows.ThreeWriters
unfolding after least_faulty is_faulty shared_word least_below fault_of
three_writers = simp (get_one, get_none)

pub least_shared_word : Rows.LeastSharedWord
unfolding after least_faulty is_faulty shared_word least_below fault_of
least_shared_word = simp (get_two)

pub least_trap : Rows.LeastTrap
unfolding after least_faulty is_faulty shared_word least_below fault_of
least_trap = simp get_one

pub failed_wrote_nothing : Rows.FailedWroteNothing
unfolding after least_faulty is_faulty shared_word least_below fault_of
failed_wrote_nothing = refl

pub conflict_below_trap : Rows.ConflictBelowTrap
unfolding after least_faulty is_faulty shared_word least_below fault_of
conflict_below_trap = simp get_one

pub sum_of_numbers : Rows.SumOfNumbers
unfolding after least_faulty is_faulty shared_word least_below fault_of merged_memory
sum_of_numbers = simp get_one

pub total_outside : Rows.TotalOutside
unfolding after least_faulty is_faulty shared_word least_below fault_of merged_memory
total_outside = simp get_one

pub least_total : Rows.LeastTotal
unfolding after least_faulty is_faulty shared_word least_below fault_of merged_memory
least_total = simp get_two

pub total_inside : Rows.TotalInside
unfolding after least_faulty is_faulty shared_word least_below fault_of merged_memory
total_inside = simp get_one

pub one_step : Rows.OneStep
unfolding after least_faulty is_faulty shared_word least_below fault_of merged_memory
one_step = simp get_one

pub second_step_fails : Rows.SecondStepFails
unfolding after least_faulty is_faulty shared_word least_below fault_of merged_memory
second_step_fails = (simp get_one, simp get_one)

pub steps_are_shown : Rows.StepsAreShown
unfolding digits
steps_are_shown = refl

pub lines_alone : Rows.LinesAlone
lines_alone = refl

pub fault_lines : Rows.FaultLines
unfolding digits
fault_lines = (refl, refl, refl, refl, refl)
