use Rattle.std.proofs.Common.{◌∙◌}
use Rattle.code_verify.proofs.Effects.{item_there, item_missing}
use Rattle.code_verify.proofs.effect.take_items.Goals as goal

pub returns-then-not-take_item-clause-hand : goal.returns-then-not-take_item-clause-hand
returns-then-not-take_item-clause-hand c = c.loop-item.invariant.hand ∙ item_missing c.loop-item.rest.now c.in-Some.others.now c.in-Some.item.now c.loop-item.kinds.hand c.in-Some.ensures.cases.0
    c.if-not-take_item.ensures.hand

pub loop-item-preserved : goal.loop-item-preserved
loop-item-preserved c = record { hand = c.loop-item.invariant.hand ∙ item_there c.loop-item.rest.now c.in-Some.others.now c.in-Some.item.now c.loop-item.kinds.hand c.take_item.new.kinds.hand c.in-Some.ensures.cases.0 c.if-not-take_item.ensures.hand; known = c.if-not-take_item.ensures.known ∙ c.loop-item.invariant.known }
