use Rattle.std.proofs.Common.{sym}
use Rattle.step_board.proofs.Counting.{nothing_entered, counted_as}
use Rattle.step_board.proofs.board.Board.make.Goals as goal

pub invariant_of-result : goal.invariant_of-result
invariant_of-result g c =
    counted_as _ _ _ _ _ (nothing_entered g.N.JobName.job) (sym c.requires.empty) (sym c.open-claims.ensures.total) (sym c.open-arrivals.ensures.total) (sym c.open-held.ensures.total)
    (sym c.open-ends.ensures.total)
