use Rattle.std.proofs.Common.{vec_len}
use Rattle.write_buffer.proofs.Frames.{IsGiving}
use Rattle.write_buffer.proofs.buffer.give_frames.Given as goal

abbrev pub decreases-loop-frame : goal.decreases-loop-frame
decreases-loop-frame l = vec_len l.frames

abbrev pub invariant-loop-frame : goal.invariant-loop-frame
invariant-loop-frame l = IsGiving l.initial.frames.items l.frames.items l.initial.pool l.pool
