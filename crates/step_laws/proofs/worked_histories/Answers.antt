use Rattle.step_laws.proofs.HistoryRows
use Rattle.step_laws.proofs.worked_histories.Goals as goal

pub returns-clause-twice : goal.returns-clause-twice
returns-clause-twice c = HistoryRows.delivered_twice

pub returns-clause-late : goal.returns-clause-late
returns-clause-late c = HistoryRows.delivered_late

pub returns-clause-fault_first : goal.returns-clause-fault_first
returns-clause-fault_first c = HistoryRows.fault_arrives_first

pub returns-clause-any_order : goal.returns-clause-any_order
returns-clause-any_order c = HistoryRows.conflict_in_any_order
