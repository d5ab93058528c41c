use Rattle.meaning_rows.proofs.Scopes as proved
use Rattle.meaning_rows.proofs.scopes_of_locals.Goals as goal

pub returns-clause-block_ends : goal.returns-clause-block_ends
returns-clause-block_ends c = proved.block_ends

pub returns-clause-loop_ends : goal.returns-clause-loop_ends
returns-clause-loop_ends c = proved.loop_ends

pub returns-clause-own_locals : goal.returns-clause-own_locals
returns-clause-own_locals c = proved.own_locals

pub returns-clause-local_overflows : goal.returns-clause-local_overflows
returns-clause-local_overflows c = proved.local_overflows

pub returns-clause-truths_in_locals : goal.returns-clause-truths_in_locals
returns-clause-truths_in_locals c = proved.truths_in_locals
