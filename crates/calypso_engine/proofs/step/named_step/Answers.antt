use Rattle.std.proofs.Common.{◌≡◌, ◌+◌, [], ◌∷◌, sym, ap, subst, ◌∙◌, arith}
use Rattle.std.specs.List.{AllZip}
use Rattle.cal_base.specs.declared.step.WorkerTally.{WorkerTally}
use Rattle.bytecode.specs.declared.module.Module.{Module}
use Rattle.cal_base.specs.History.{History, claims_by, is_caller}
use Rattle.cal_base.specs.Claims.{StepJob, size_of, IsLegal, IsComplete}
use Rattle.cal_base.specs.Pages.{Paged}
use Rattle.step_laws.specs.Caller.{completed}
use Rattle.worker_gate.specs.Working.{MayWork}
use Rattle.worker_gate.specs.Worked.{IsLeft}
use Rattle.worker_gate.proofs.Later.{may_work_later}
use Rattle.routine_executor.proofs.Numbers.{size_is}
use Rattle.calypso_engine.specs.Running.{Counted}
use Rattle.calypso_engine.specs.Teams.{ClaimedMore}
use Rattle.calypso_engine.specs.declared.team.Team.{Team}
use Rattle.calypso_engine.proofs.Teams.{team_few, members_after, members_later, numbers_after}
use Rattle.calypso_engine.proofs.Worked.{step_counted}
use Rattle.calypso_engine.proofs.step.named_step.Goals as goal

pub make-requires-clause-size : goal.make-requires-clause-size
make-requires-clause-size g c =
    sym c.requires.all ∙ sym (ap size_of c.requires.named ∙ size_is c.args.code.now c.args.options.now.fuel (c.args.steps + 1) c.args.image.now.memory c.args.first_block c.args.widths.now
    c.requires.there)

pub work_part-core-requires-clause-size : goal.work_part-core-requires-clause-size
work_part-core-requires-clause-size g c κs within =
    sym c.requires.all ∙ sym (ap size_of c.requires.named ∙ size_is c.args.code.now c.args.options.now.fuel (c.args.steps + 1) c.args.image.now.memory c.args.first_block c.args.widths.now
    c.requires.there)

pub work_part-core-requires-clause-few : goal.work_part-core-requires-clause-few
work_part-core-requires-clause-few g c κs within = team_few c.args.options.now.workers c.args.team.now.workers.items c.requires.team.numbers c.requires.workers

pub returns-clause-closed : goal.returns-clause-closed
returns-clause-closed g c =
    let job = g.N.JobName.job in
    let core = c.work_part-core.result in
    let size = ap size_of c.requires.named ∙ size_is c.args.code.now c.args.options.now.fuel (c.args.steps + 1) c.args.image.now.memory c.args.first_block c.args.widths.now c.requires.there in
    let same = sym c.close.ensures.history in
    let made : completed job core ≡ c.close.result.history.items = sym c.finish.ensures.history ∙ same in
    let team : Team = record { workers = c.work_part-core.new.workers; caller = c.finish.new.worker } in
    let counted =
    step_counted job c.of-job.result.image.now c.of-job.result.code.now core c.args.team.now team c.work_part-core.ensures
    (subst (λ (h : History). ClaimedMore c.args.team.now.caller.tally (claims_by is_caller h) c.finish.new.worker.tally) c.finish.ensures.history c.finish.ensures.tally)
    in
    record {
      whole = record {
        legal = subst (λ (h : History). IsLegal job h) same c.close.ensures.legal;
        complete = subst (λ (h : History). IsComplete job h) same c.finish.ensures.complete;
      };
      left = c.close.ensures.end;
      counted = subst (λ (h : History). Counted (record { job = job; history = h } ∷ []) c.args.team.now team) made counted;
      size = sym c.requires.all ∙ sym size;
    }

pub returns-clause-team : goal.returns-clause-team
returns-clause-team g c =
    let rows = c.args.options.now.script.now in
    let m = c.args.code.now in
    let before = c.args.team.now.workers.items in
    let after = c.work_part-core.new.workers.items in
    let number : g.N.JobName.job.number ≡ c.args.steps + 1 = ap (λ (job : StepJob). job.number) c.requires.named in
    let each : AllZip (IsLeft g.N.JobName.job.number c.args.image.now m) before after =
    subst (λ (image : Paged). AllZip (IsLeft g.N.JobName.job.number image m) before after) c.of-job.ensures.image
    (subst (λ (code : Module). AllZip (IsLeft g.N.JobName.job.number c.of-job.result.image.now code) before after) c.of-job.ensures.code c.work_part-core.ensures.each)
    in
    let size = ap size_of c.requires.named ∙ size_is m c.args.options.now.fuel (c.args.steps + 1) c.args.image.now.memory c.args.first_block c.args.widths.now c.requires.there in
    record {
      members = members_later rows m (c.args.steps + 1) c.args.image.now c.close.new.image c.close.ensures.later after
          (members_after rows m c.args.steps g.N.JobName.job.number c.args.image.now number before after c.requires.team.members each);
      numbers = numbers_after g.N.JobName.job.number c.args.image.now m before after each ∙ c.requires.team.numbers;
      caller = ap (λ (t : WorkerTally). t.who) c.finish.ensures.tally ∙ c.requires.team.caller;
      may =
          may_work_later c.finish.new.worker c.args.image.now c.close.new.image m
          (subst (λ (image : Paged). MayWork c.finish.new.worker image m) c.of-job.ensures.image
          (subst (λ (code : Module). MayWork c.finish.new.worker c.of-job.result.image.now code) c.of-job.ensures.code c.finish.ensures.may))
          c.close.ensures.later;
      claims = omega (arith, ap (λ (t : WorkerTally). t.claims) c.finish.ensures.tally, c.requires.team.claims, c.finish.ensures.few, size, c.requires.all, c.requires.few);
    }
