use Rattle.step_laws.proofs.HistoryRows
use Rattle.step_laws.proofs.worked_claims.Goals as goal

pub returns-clause-granted : goal.returns-clause-granted
returns-clause-granted c = HistoryRows.claim_35

pub returns-clause-spent : goal.returns-clause-spent
returns-clause-spent c = HistoryRows.claim_36

pub returns-clause-caller : goal.returns-clause-caller
returns-clause-caller c = HistoryRows.caller_still_claims

pub returns-clause-round : goal.returns-clause-round
returns-clause-round c = HistoryRows.claims_go_round

pub returns-clause-done : goal.returns-clause-done
returns-clause-done c = HistoryRows.nothing_left

pub returns-clause-unasked : goal.returns-clause-unasked
returns-clause-unasked c = HistoryRows.unasked_is_no_delivery

pub returns-clause-stale : goal.returns-clause-stale
returns-clause-stale c = HistoryRows.older_is_stale

pub returns-clause-taken : goal.returns-clause-taken
returns-clause-taken c = HistoryRows.arrival_102

pub returns-clause-full : goal.returns-clause-full
returns-clause-full c = HistoryRows.arrival_103
