use Rattle.std.proofs.Common.{ap, ◌∙◌}
use Rattle.cal_base.specs.declared.step.Verdict.{Verdict}
use Rattle.cal_base.specs.Claims.{verdict_on}
use Rattle.event_world.specs.World.{Delivery, after_arrival}
use Rattle.event_engine.proofs.delivery.Fresh.arrive.Goals as goal

pub returns-clause-history : goal.returns-clause-history
returns-clause-history g c =
    let job = g.N.JobName.job in
    let core = c.args.core.now in
    c.arrive.ensures.history
    ∙ ap (λ (v : Verdict). after_arrival core c.self.inside.who job.number c.self.inside.done.k v) c.arrive.ensures.verdict
    ∙ ap (λ (d : Delivery). after_arrival core d.who d.step d.k (verdict_on job core d.who d.step d.k)) c.self.view_is
