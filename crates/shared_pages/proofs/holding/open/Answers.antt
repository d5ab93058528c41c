use Rattle.std.proofs.Common.{refl, arith}
use Rattle.frame_pool.proofs.Frames.{none_free}
use Rattle.shared_pages.proofs.holding.open.Goals as goal

pub unreachable-requires : goal.unreachable-requires
unreachable-requires c =
    omega (arith, none_free c.args.pool.now c.in-None.ensures.0, c.requires.backed.room, c.if-is_full.ensures.room refl)
