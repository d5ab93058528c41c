use Rattle.std.proofs.Common.{arith}
use Rattle.write_buffer.proofs.Masks.{next_first, none_in_first, none_more, next_later, none_past, unmarked_past}
use Rattle.write_buffer.proofs.bits.next_set.Goals as goal

pub returns-then-first-count : goal.returns-then-first-count
returns-then-first-count c = λ a later. unmarked_past c.args.masks.now a (omega (arith, c.if-first-count.true))

pub returns-in-Some : goal.returns-in-Some
returns-in-Some c = next_first c.args.masks.now c.args.from c.in-Some.i c.in-Some.ensures

pub loop-p-init : goal.loop-p-init
loop-p-init c = none_in_first c.args.masks.now c.args.from c.in-None.ensures

pub returns-then-masks-p-ne0 : goal.returns-then-masks-p-ne0
returns-then-masks-p-ne0 c = next_later c.args.masks.now c.args.from c.loop-p.p c.lowest.result c.loop-p.invariant (omega arith) c.lowest.ensures

pub loop-p-preserved : goal.loop-p-preserved
loop-p-preserved c = none_more c.args.masks.now c.args.from c.loop-p.p c.loop-p.invariant c.if-masks-p-ne0.false

pub returns : goal.returns
returns c = none_past c.args.masks.now c.args.from c.loop-p.p c.loop-p.invariant (omega arith)
