use Rattle.std.proofs.Common.{◌≢◌, sym, ap, ◌∙◌, arith, Some, vec_capacity}
use Rattle.cal_base.specs.declared.step.Verdict.TheVariants.{Full}
use Rattle.step_core.proofs.Arrivals.{within_length, in_table, agree_now, few_arrivals, verdict_agrees, may_arrive, arrival_fits, committed_keeps, not_full}
use Rattle.cal_base.specs.Claims.{verdict_on}
use Rattle.step_core.proofs.state.Core.arrive.Goals as goal

pub commit-verdict-requires-clause-agree : goal.commit-verdict-requires-clause-agree
commit-verdict-requires-clause-agree g c = (_, agree_now _ _ _ _ _ _ _ _ c.self.invariant)

-- an answer of the job has a number of the step
pub commit-verdict-requires-clause-number : goal.commit-verdict-requires-clause-number
commit-verdict-requires-clause-number g c _ = in_table _ _ _ _ _ _ _ _ c.self.invariant _ _ c.args.done.now.is_answer

pub raised-self-inside-requires : goal.raised-self-inside-requires
raised-self-inside-requires g c = few_arrivals _ _ _ _ _ _ _ _ c.self.invariant

pub enter-requires : goal.enter-requires
enter-requires g c =
    let entered : c.commit-verdict.result ≢ Full = not_full c.commit-verdict.result (sym c.is_entered.ensures ∙ c.if-is_entered.true) in
    let may =
    may_arrive _ _ _ _ _ _ _ _ c.self.invariant c.args.self.now c.self.view_is c.args.who c.args.done.now.k c.commit-verdict.result c.requires.who (within_length _ _ _ c.args.done.now.is_answer)
    c.requires.caller
    (sym (c.commit-verdict.ensures.verdict ∙ verdict_agrees _ _ _ _ _ _ _ _ c.self.invariant c.args.who c.args.done.now.k (within_length _ _ _ c.args.done.now.is_answer)))
    entered
    in
    omega (arith, arrival_fits _ _ _ _ _ _ _ _ c.self.invariant c.args.who c.self.inside.number c.args.done.now.k c.commit-verdict.result may, c.self.inside.history.ok.0)

pub invariant_of-self : goal.invariant_of-self
invariant_of-self g c =
    let entered : c.commit-verdict.result ≢ Full = not_full c.commit-verdict.result (sym c.is_entered.ensures ∙ c.if-is_entered.true) in
    let may =
    may_arrive _ _ _ _ _ _ _ _ c.self.invariant c.args.self.now c.self.view_is c.args.who c.args.done.now.k c.commit-verdict.result c.requires.who (within_length _ _ _ c.args.done.now.is_answer)
    c.requires.caller
    (sym (c.commit-verdict.ensures.verdict ∙ verdict_agrees _ _ _ _ _ _ _ _ c.self.invariant c.args.who c.args.done.now.k (within_length _ _ _ c.args.done.now.is_answer)))
    entered
    in
    rw c.enter.ensures.items
    (committed_keeps _ _ _ _ _ _ _ _ c.self.invariant c.args.who c.args.done.now.k c.raised-self-inside.result (vec_capacity c.enter.new.history) c.commit-verdict.result _ c.commit-verdict.new.table
    c.commit-verdict.new.stage may
    (c.args.done.now.is_answer ∙ ap (λ a. Some a) (sym c.delivery_of-what.ensures))
    c.commit-verdict.ensures.commits c.commit-verdict.ensures.agree c.raised-self-inside.ensures.worker c.raised-self-inside.ensures.caller c.enter.ensures.room)

pub returns-then-is_entered-clause-verdict : goal.returns-then-is_entered-clause-verdict
returns-then-is_entered-clause-verdict g c =
    c.commit-verdict.ensures.verdict
    ∙ (verdict_agrees _ _ _ _ _ _ _ _ c.self.invariant c.args.who c.args.done.now.k (within_length _ _ _ c.args.done.now.is_answer)
    ∙ ap (λ h. verdict_on g.N.JobName.job h c.args.who g.N.JobName.job.number c.args.done.now.k) c.self.view_is)
