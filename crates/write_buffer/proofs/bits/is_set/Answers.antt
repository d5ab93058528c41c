use Rattle.write_buffer.proofs.Masks.{marked_is}
use Rattle.write_buffer.proofs.bits.is_set.Goals as goal

pub returns : goal.returns
returns c = marked_is c.args.masks.now c.args.a
