use Rattle.std.proofs.Common.{◌≡◌, ◌≤◌, length}
use Rattle.std.specs.Vec.{vec_capacity}
use Rattle.write_buffer.specs.Buffered.{TakesFrames}
use Rattle.write_buffer.proofs.buffer.take_frames.Given as goal

abbrev pub invariant-frames : goal.invariant-frames
invariant-frames l = record {
  taken : TakesFrames l.initial.pool l.pool l.frames.items;
  count : length l.frames.items ≡ l._i;
  room : l.count ≤ vec_capacity l.frames;
}
