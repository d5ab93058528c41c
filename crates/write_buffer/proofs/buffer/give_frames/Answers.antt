use Rattle.write_buffer.proofs.Frames.{gives_more}
use Rattle.write_buffer.proofs.buffer.give_frames.Goals as goal

pub loop-frame-preserved : goal.loop-frame-preserved
loop-frame-preserved c =
    gives_more c.args.frames.items c.loop-frame.frames.items c.pop.new.self.items c.args.pool.now c.loop-frame.pool c.give.new.self c.in-Some.frame c.loop-frame.invariant c.in-Some.ensures.items
    c.requires.apart c.give.ensures.free c.give.ensures.count
