use Rattle.std.proofs.Common.{arith}
use Rattle.cal_base.proofs.Pieces.{front_full}
use Rattle.cal_base.proofs.host.read_front.Goals as goal

pub returns-clause-bytes : goal.returns-clause-bytes
returns-clause-bytes g c = front_full _ _ _ _ c.loop-buffer.invariant.read (omega arith)
