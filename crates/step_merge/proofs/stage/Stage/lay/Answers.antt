use Rattle.std.proofs.Common.{length, arith, sym, ap, ◌∙◌, subst, true, SFits, w64, rules}
use Rattle.std.proofs.lemmas.Int.{to_z-of_z}
use Rattle.std.proofs.lemmas.List.{length-set}
use Rattle.step_merge.specs.Steps.{HasRoom, with_write, with_sum}
use Rattle.step_merge.proofs.Laying.{LaidTo, laid_first, laid_entry, laid_all}
use Rattle.step_merge.proofs.stage.Stage.lay.Goals as goal

pub loop-a-init : goal.loop-a-init
loop-a-init g c =
    subst (λ s. LaidTo c.args.self.now s c.args.k (g.U.UpdateWords.update c.args.update.now) 0) (sym c.mark.ensures.marked)
    (laid_first c.args.self.now c.args.k (g.U.UpdateWords.update c.args.update.now) c.requires.in_range c.requires.free
    (ap (λ s. length s.owners) (sym c.mark.ensures.marked) ∙ (c.mark.ensures.owners ∙ ap (λ s. length s.kinds) c.mark.ensures.marked))
    (ap (λ s. length s.values) (sym c.mark.ensures.marked) ∙ (c.mark.ensures.values ∙ ap (λ s. length s.kinds) c.mark.ensures.marked))
    (λ a. subst (λ s. HasRoom s a) c.mark.ensures.marked (c.mark.ensures.room a)))

pub enter-requires-clause-number : goal.enter-requires-clause-number
enter-requires-clause-number g c =
    let laid = ap (λ l. length l) c.loop-a.invariant.1.laid ∙ length-set c.args.self.now.laid c.args.k true in
    omega (arith, laid, c.requires.in_range)

pub enter-requires-clause-room : goal.enter-requires-clause-room
enter-requires-clause-room g c = c.loop-a.invariant.1.room c.in-Some.a c.in-Some.ensures.next.0

pub loop-a-smaller : goal.loop-a-smaller
loop-a-smaller g c = omega (arith, c.in-Some.ensures.next.0, c.self.invariant.words)

pub loop-a-preserved : goal.loop-a-preserved
loop-a-preserved g c =
    let fits : SFits w64 c.in-Some.v = search rules in
    laid_entry c.args.self.now c.loop-a.self c.args.k (g.U.UpdateWords.update c.args.update.now) c.loop-a.from c.in-Some.a c.in-Some.v c.requires.in_range c.in-Some.ensures.next
    (omega (arith, ap (λ s. length s.kinds) c.self.view_is)) c.enter.new.self c.loop-a.invariant
    (λ h. c.enter.ensures.ordinary h ∙ ap (λ x. with_write c.loop-a.self c.args.k c.in-Some.a x) (to_z-of_z w64 c.in-Some.v fits))
    (λ h. c.enter.ensures.tally h ∙ ap (λ x. with_sum c.loop-a.self c.args.k c.in-Some.a x) (to_z-of_z w64 c.in-Some.v fits))

pub returns-then-a-len : goal.returns-then-a-len
returns-then-a-len g c =
    laid_all c.args.self.now c.loop-a.self c.args.k (g.U.UpdateWords.update c.args.update.now) c.loop-a.from c.requires.in_range c.loop-a.invariant
    (λ a le h. c.in-Some.ensures.next.2 a le (omega (arith, ap (λ s. length s.kinds) c.self.view_is)))

pub returns-in_default : goal.returns-in_default
returns-in_default g c =
    laid_all c.args.self.now c.loop-a.self c.args.k (g.U.UpdateWords.update c.args.update.now) c.loop-a.from c.requires.in_range c.loop-a.invariant
    (λ a le h. c.in_default.ensures.next a le)
