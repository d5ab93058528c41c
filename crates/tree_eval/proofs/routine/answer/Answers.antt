use Rattle.std.proofs.Common.{refl}
use Rattle.tree_eval.proofs.Routines.{right_answer}
use Rattle.tree_eval.proofs.routine.answer.Goals as goal

pub returns-clause-answer : goal.returns-clause-answer
returns-clause-answer c = rw c.finish.ensures (right_answer c.args.p.now c.args.opening c.args.fuel c.args.block.now c.args.width c.args.id c.as_slice-3.result.now c.push-2.new.self
    c.statements-went.new.locals c.empty.result c.statements-went.result c.statements-went.new.world
    c.as_slice-3.ensures (rw (c.in_ok-push-2.ensures.ok, c.in_ok-push.ensures.ok, c.new-locals.ensures, c.in_ok-name.ensures, c.in_ok-name-2.ensures, c.as_slice.ensures, c.as_slice-2.ensures, c.int-value.ensures, c.int-value-2.ensures) refl) c.statements-went.ensures.goes c.empty.ensures)
