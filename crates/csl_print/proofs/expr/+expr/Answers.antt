use Rattle.std.proofs.Common.{rules}
use Rattle.std.proofs.lemmas.Result.{IfOk-equal}
use Rattle.csl_print.proofs.Layouts.{also}
use Rattle.csl_print.proofs.Trees.{tokens_call, tokens_unary, tokens_binary, tokens_paren, tokens_element}
use Rattle.csl_print.proofs.expr.+expr.Goals as goal

pub print_call-returns : goal.print_call-returns
print_call-returns t c = rw (tokens_call _) (search (rules, IfOk-equal, also))

pub print_expr-returns-in_ok-mark-in-Unary : goal.print_expr-returns-in_ok-mark-in-Unary
print_expr-returns-in_ok-mark-in-Unary t c = rw (tokens_unary _ _ _ c.in-Unary.is) (search (rules, IfOk-equal, also))

pub print_expr-returns-in_ok-mark-in-Binary : goal.print_expr-returns-in_ok-mark-in-Binary
print_expr-returns-in_ok-mark-in-Binary t c = rw (tokens_binary _ _ _ _ c.in-Binary.is) (search (rules, IfOk-equal, also))

pub print_expr-returns-in_ok-print_expr-in-Paren : goal.print_expr-returns-in_ok-print_expr-in-Paren
print_expr-returns-in_ok-print_expr-in-Paren t c = rw (tokens_paren _ _ c.in-Paren.is) (search (rules, IfOk-equal, also))

pub print_place-returns-in_ok-print_expr-in-Some : goal.print_place-returns-in_ok-print_expr-in-Some
print_place-returns-in_ok-print_expr-in-Some t c = rw (tokens_element _ _ c.in-Some.is) (search (rules, IfOk-equal, also))
