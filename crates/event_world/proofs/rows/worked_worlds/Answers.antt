use Rattle.event_world.proofs.Examples
use Rattle.event_world.proofs.rows.worked_worlds.Goals as goal

pub returns-clause-nobody : goal.returns-clause-nobody
returns-clause-nobody c = Examples.nobody_works

pub returns-clause-stops : goal.returns-clause-stops
returns-clause-stops c = Examples.worker_stops

pub returns-clause-late : goal.returns-clause-late
returns-clause-late c = Examples.repeated_and_late

pub returns-clause-conflict : goal.returns-clause-conflict
returns-clause-conflict c = Examples.conflict_in_order_of_numbers

pub returns-clause-fault_first : goal.returns-clause-fault_first
returns-clause-fault_first c = Examples.later_fault_first

pub returns-clause-skipped : goal.returns-clause-skipped
returns-clause-skipped c = Examples.skipped_events

pub returns-clause-dropped : goal.returns-clause-dropped
returns-clause-dropped c = Examples.claim_is_dropped

pub returns-clause-counts_for_nothing : goal.returns-clause-counts_for_nothing
returns-clause-counts_for_nothing c = Examples.late_answer_counts_for_nothing

pub returns-clause-still_delivers : goal.returns-clause-still_delivers
returns-clause-still_delivers c = Examples.stopped_worker_delivers

pub returns-clause-still_stopped : goal.returns-clause-still_stopped
returns-clause-still_stopped c = Examples.stopped_stays_stopped

pub returns-clause-idle_again : goal.returns-clause-idle_again
returns-clause-idle_again c = Examples.finished_is_idle

pub returns-clause-spent : goal.returns-clause-spent
returns-clause-spent c = Examples.spent_is_idle

pub returns-clause-empty_step : goal.returns-clause-empty_step
returns-clause-empty_step c = Examples.empty_step_is_passed

pub returns-clause-full : goal.returns-clause-full
returns-clause-full c = Examples.full_is_not_entered

pub returns-clause-unasked : goal.returns-clause-unasked
returns-clause-unasked c = Examples.unasked_fill_a_step
