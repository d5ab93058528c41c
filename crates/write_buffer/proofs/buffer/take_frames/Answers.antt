use Rattle.std.proofs.Common.{arith}
use Rattle.frame_pool.proofs.Frames.{none_free}
use Rattle.write_buffer.proofs.Frames.{takes_more}
use Rattle.write_buffer.proofs.buffer.take_frames.Goals as goal

pub unreachable-requires : goal.unreachable-requires
unreachable-requires c =
    omega (arith, none_free c.frames.pool c.in-None.ensures.0, c.requires, c.frames.invariant.taken.count, c.frames.invariant.count)

pub frames-preserved : goal.frames-preserved
frames-preserved c = record {
  taken =
      rw c.push_reserved.ensures.items
      (takes_more c.args.pool.now c.frames.pool c.take.new.self c.frames.frames.items c.in-Some.frame c.frames.invariant.taken c.in-Some.ensures);
  count = omega (arith, c.push_reserved.ensures.len, c.frames.invariant.count, c.push_reserved.new.self.ok.0, c.frames.frames.ok.0);
  room = omega (arith, c.push_reserved.ensures.capacity, c.frames.invariant.room);
}
