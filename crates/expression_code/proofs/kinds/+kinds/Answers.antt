use Rattle.std.proofs.Common.{rules}
use Rattle.expression_code.proofs.ListLemmas.{appended}
use Rattle.expression_code.proofs.RowLemmas.{kinds_block, kinds_while, kinds_for, kinds_if_none, kinds_if_some}
use Rattle.expression_code.proofs.kinds.+kinds.Goals as goal

pub push_form_kinds-returns-in-None : goal.push_form_kinds-returns-in-None
push_form_kinds-returns-in-None t c = rw (kinds_if_none _ _ _ c.in-If.is c.in-None.is) (search rules)

pub push_form_kinds-returns-in-Some : goal.push_form_kinds-returns-in-Some
push_form_kinds-returns-in-Some t c = rw (kinds_if_some _ _ _ _ c.in-If.is c.in-Some.is) (search (rules, appended))

pub push_form_kinds-returns-in-While : goal.push_form_kinds-returns-in-While
push_form_kinds-returns-in-While t c = rw (kinds_while _ _ _ c.in-While.is) (search rules)

pub push_form_kinds-returns-in_ok-push_form_kinds-in-For : goal.push_form_kinds-returns-in_ok-push_form_kinds-in-For
push_form_kinds-returns-in_ok-push_form_kinds-in-For t c = rw (kinds_for _ _ _ _ _ c.in-For.is) (search (rules, appended))

pub push_form_kinds-returns-in-Block : goal.push_form_kinds-returns-in-Block
push_form_kinds-returns-in-Block t c = rw (kinds_block _ _ c.in-Block.is) (search rules)
