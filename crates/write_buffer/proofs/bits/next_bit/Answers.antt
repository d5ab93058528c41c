use Rattle.write_buffer.proofs.Masks.{no_next_bit, some_next_bit}
use Rattle.write_buffer.proofs.bits.next_bit.Goals as goal

pub returns-then-rest-eq0 : goal.returns-then-rest-eq0
returns-then-rest-eq0 c = no_next_bit c.args.mask c.args.from c.if-rest-eq0.true

pub returns-else-rest-eq0 : goal.returns-else-rest-eq0
returns-else-rest-eq0 c = some_next_bit c.args.mask c.args.from c.lowest.result c.ranges.mask.fits c.lowest.ensures
