use Rattle.std.proofs.Common.{length}
use Rattle.write_buffer.proofs.Written.{written_none}
use Rattle.write_buffer.proofs.buffer.WriteBuffer.clear.Goals as goal

pub returns-clause-written : goal.returns-clause-written
returns-clause-written c = λ pool. written_none pool _ (length c.self.inside.marks) c.clear.ensures
