use Rattle.std.proofs.Common.{refl}
use Rattle.write_buffer.proofs.Masks.{lowest_is}
use Rattle.write_buffer.proofs.bits.lowest.Goals as goal

pub returns : goal.returns
returns c = lowest_is c.args.mask _ c.requires c.ranges.mask.fits refl
