use Rattle.step_laws.proofs.Rows
use Rattle.step_laws.proofs.worked_words.Goals as goal

pub returns-clause-division : goal.returns-clause-division
returns-clause-division c = Rows.division_cuts

pub returns-clause-least : goal.returns-clause-least
returns-clause-least c = Rows.least_by_minus_one

pub returns-clause-zero : goal.returns-clause-zero
returns-clause-zero c = Rows.zero_divisor

pub returns-clause-reads : goal.returns-clause-reads
returns-clause-reads c = Rows.reads_its_writes

pub returns-clause-sums : goal.returns-clause-sums
returns-clause-sums c = Rows.sum_begins_at_zero

pub returns-clause-adds : goal.returns-clause-adds
returns-clause-adds c = Rows.adds_to_what_it_reads

pub returns-clause-overflow : goal.returns-clause-overflow
returns-clause-overflow c = Rows.sum_overflows
