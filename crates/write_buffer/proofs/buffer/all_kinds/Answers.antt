use Rattle.std.proofs.Common.{arith}
use Rattle.write_buffer.proofs.WordKinds.{kinds_by_all}
use Rattle.write_buffer.proofs.buffer.all_kinds.Goals as goal

pub returns : goal.returns
returns c =
    kinds_by_all c.loop-a.kinds.items c.args.image.now.memory (omega (arith, c.loop-a.invariant.size, c.len-words.ensures.words))
    (λ k low. c.loop-a.invariant.so_far k (omega (arith, c.len-words.ensures.words)))
