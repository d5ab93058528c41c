use Rattle.std.proofs.Common.{sym, subst, refl}
use Rattle.cal_base.specs.declared.answer.Answer.TheVariants.{Fault}
use Rattle.step_merge.specs.Staged.{LaysAt}
use Rattle.step_merge.proofs.Laying.{fault_more}
use Rattle.step_merge.proofs.stage.Stage.lay_fault.Goals as goal

pub returns : goal.returns
returns c =
    subst (λ s. LaysAt c.args.self.now s c.args.k (Fault c.args.cause)) (sym c.fail.ensures)
    (record { kinds = refl; laid = refl; lays = λ answers stands. fault_more c.args.self.now c.args.k c.requires.in_range c.requires.free answers stands c.args.cause })
