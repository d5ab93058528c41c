use Rattle.std.proofs.Common.{refl, sym, ◌∙◌, ap}
use Rattle.step_laws.specs.Turns.{after_claim}
use Rattle.step_board.proofs.Counting.{counted_work, counted_all_done, counted_as}
use Rattle.step_board.proofs.board.Board.claim.Goals as goal

pub invariant_of-self : goal.invariant_of-self
invariant_of-self g c =
    let now = ap (λ x. after_claim c.self.inside.core c.args.who x) (sym c.in-Work.is) ∙ sym c.claim-answer.ensures.history in
    counted_as _ _ _ _ _ (counted_work c.self.invariant c.args.who c.in-Work.field-0 c.requires.who (sym c.claim-answer.ensures.answer ∙ c.in-Work.is)) now (sym c.add.ensures.total) refl refl refl

pub invariant_of-self-in-AllDone : goal.invariant_of-self-in-AllDone
invariant_of-self-in-AllDone g c =
    let now = ap (λ x. after_claim c.self.inside.core c.args.who x) (sym c.in-AllDone.is) ∙ sym c.claim-answer.ensures.history in
    counted_as _ _ _ _ _ (counted_all_done c.self.invariant c.args.who (sym c.claim-answer.ensures.answer ∙ c.in-AllDone.is)) now refl refl refl (sym c.add-in-AllDone.ensures.total)
