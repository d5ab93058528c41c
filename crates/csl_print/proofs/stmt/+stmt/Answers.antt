use Rattle.std.proofs.Common.{rules}
use Rattle.std.proofs.lemmas.Result.{IfOk-equal}
use Rattle.csl_print.proofs.Layouts.{also}
use Rattle.csl_print.proofs.Trees.{tokens_block, tokens_while, tokens_for, tokens_if_none, tokens_if_some, tokens_par}
use Rattle.csl_print.proofs.stmt.+stmt.Goals as goal

pub print_form-returns-in-None : goal.print_form-returns-in-None
print_form-returns-in-None t c = rw (tokens_if_none _ _ _ c.in-If.is c.in-None.is) (search (rules, also))

pub print_form-returns-in_ok-word-in-Some : goal.print_form-returns-in_ok-word-in-Some
print_form-returns-in_ok-word-in-Some t c = rw (tokens_if_some _ _ _ _ c.in-If.is c.in-Some.is) (search (rules, IfOk-equal, also))

pub print_form-returns-in_ok-print_enclosed-in-While : goal.print_form-returns-in_ok-print_enclosed-in-While
print_form-returns-in_ok-print_enclosed-in-While t c = rw (tokens_while _ _ _ c.in-While.is) (search (rules, IfOk-equal, also))

pub print_form-returns-in_ok-mark-in-For-4 : goal.print_form-returns-in_ok-mark-in-For-4
print_form-returns-in_ok-mark-in-For-4 t c = rw (tokens_for _ _ _ _ _ c.in-For.is) (search (rules, IfOk-equal, also))

pub print_form-returns-in-Block : goal.print_form-returns-in-Block
print_form-returns-in-Block t c = rw (tokens_block _ _ c.in-Block.is) (search (rules, IfOk-equal, also))

pub print_form-returns-in_ok-print_routines-in-Par : goal.print_form-returns-in_ok-print_routines-in-Par
print_form-returns-in_ok-print_routines-in-Par t c = rw (tokens_par _ _ c.in-Par.is) (search (rules, IfOk-equal, also))
