use Rattle.compiled_code.proofs.Rows as rows
use Rattle.compiled_code.proofs.worked_rows.Goals as goal

pub returns-clause-guarded : goal.returns-clause-guarded
returns-clause-guarded c = rows.guarded

pub returns-clause-leaving : goal.returns-clause-leaving
returns-clause-leaving c = rows.leaving

pub returns-clause-descending : goal.returns-clause-descending
returns-clause-descending c = rows.descending

pub returns-clause-squares : goal.returns-clause-squares
returns-clause-squares c = rows.squares
