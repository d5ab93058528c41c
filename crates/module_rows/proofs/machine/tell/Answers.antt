use Rattle.std.proofs.Common.{◌∙◌}
use Rattle.module_rows.proofs.machine.tell.Goals as goal

pub loop-preserved : goal.loop-preserved
loop-preserved c = record {
  may = c.in_ok-more.ensures.may c.if-not-more.false;
  kinds = c.tell_event.ensures.kinds ∙ c.loop.invariant.kinds;
}
