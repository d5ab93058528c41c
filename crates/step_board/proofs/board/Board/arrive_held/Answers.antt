use Rattle.std.proofs.Common.{refl, sym}
use Rattle.step_board.proofs.Counting.{counted_held, counted_as}
use Rattle.step_board.proofs.board.Board.arrive_held.Goals as goal

pub invariant_of-self : goal.invariant_of-self
invariant_of-self g c =
    counted_as _ _ _ _ _ (counted_held c.self.invariant c.args.who c.args.step c.args.k c.arrive_held-verdict.result c.requires.who c.requires.step c.arrive_held-verdict.ensures.verdict)
    (sym c.arrive_held-verdict.ensures.history) refl refl (sym c.add.ensures.total) refl
