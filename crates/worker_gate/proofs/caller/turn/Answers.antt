use Rattle.std.proofs.Common.{refl, sym, subst}
use Rattle.cal_base.specs.declared.step.TheConstants.{CALLER}
use Rattle.worker_gate.proofs.Turns.{claimed_within, took_pair}
use Rattle.worker_gate.specs.Working.{WorkerState, MayWork}
use Rattle.worker_gate.proofs.caller.turn.Goals as goal

pub deliver-requires-clause-number : goal.deliver-requires-clause-number
deliver-requires-clause-number g c = claimed_within g.N.JobName.job c.args.core.now CALLER c.in-Work.k c.in-Work.ensures.answer

pub returns-clause-took : goal.returns-clause-took
returns-clause-took g c =
    took_pair g.N.JobName.job c.args.core.now c.claim.new.self c.deliver.new.core c.in-Work.k c.in-Work.k c.deliver.result c.in-Work.ensures.answer c.in-Work.ensures.history refl
    c.deliver.ensures.verdict c.deliver.ensures.history

pub returns-clause-may : goal.returns-clause-may
returns-clause-may g c =
    let may = c.deliver.ensures.worker.may in
    subst (λ (w : WorkerState). MayWork w c.args.job.now.image.now c.args.job.now.code.now) (sym c.count.ensures) (record { kinds = may.kinds; room = may.room; fits = may.fits })
