use Rattle.std.proofs.Common.{refl, sym}
use Rattle.step_board.proofs.Counting.{counted_arrival, counted_as}
use Rattle.step_board.proofs.board.Board.arrive.Goals as goal

pub invariant_of-self : goal.invariant_of-self
invariant_of-self g c =
    counted_as _ _ _ _ _ (counted_arrival c.self.invariant c.args.who c.args.done.now.k c.arrive-verdict.result c.requires.who c.arrive-verdict.ensures.verdict) (sym c.arrive-verdict.ensures.history)
    refl (sym c.add.ensures.total) refl refl
