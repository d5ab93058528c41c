use Rattle.std.proofs.Common.{rules}
use Rattle.expression_code.proofs.ListLemmas.{appended}
use Rattle.compile_steps.proofs.TextLemmas.{texts_block, texts_loop, texts_if_none, texts_if_some}
use Rattle.compile_steps.proofs.texts.+texts.Goals as goal

pub push_form_texts-returns-in-None : goal.push_form_texts-returns-in-None
push_form_texts-returns-in-None t c = rw (texts_if_none _ _ _ c.in-If.is c.in-None.is) (search rules)

pub push_form_texts-returns-in-Some : goal.push_form_texts-returns-in-Some
push_form_texts-returns-in-Some t c = rw (texts_if_some _ _ _ _ c.in-If.is c.in-Some.is) (search (rules, appended))

pub push_form_texts-returns-in-While : goal.push_form_texts-returns-in-While
push_form_texts-returns-in-While t c = rw (texts_loop _ _ c.in-While.is) (search rules)

pub push_form_texts-returns-in-Block : goal.push_form_texts-returns-in-Block
push_form_texts-returns-in-Block t c = rw (texts_block _ _ c.in-Block.is) (search rules)
