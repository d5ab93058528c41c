use Rattle.write_buffer.proofs.Written.{written_none}
use Rattle.write_buffer.proofs.buffer.WriteBuffer.make.Goals as goal

pub returns-clause-written : goal.returns-clause-written
returns-clause-written c = λ pool. written_none pool _ c.div_ceil-pages.result c.in_ok-marks.ensures
