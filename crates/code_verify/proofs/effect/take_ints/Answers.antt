use Rattle.std.proofs.Common.{◌∙◌}
use Rattle.code_verify.proofs.Effects.{int_there}
use Rattle.code_verify.proofs.effect.take_ints.Goals as goal

pub loop-preserved : goal.loop-preserved
loop-preserved c = record { hand = c.loop.invariant.hand ∙ int_there c.args.count c.loop.counter c.loop.kinds.hand c.take_kind.new.kinds.hand c.loop-test.true c.if-not-take_kind.ensures.hand; known = c.if-not-take_kind.ensures.known ∙ c.loop.invariant.known }
