use Rattle.std.proofs.Common.{◌≡◌, ◌+◌, ◌<◌, ◌++◌, ℕ, List, drop, sym, ap, subst, ◌∙◌, arith}
use Rattle.std.specs.List.{AllByRecursion}
use Rattle.cal_base.specs.declared.step.WorkerTally.{WorkerTally}
use Rattle.bytecode.specs.declared.module.Module.{Module}
use Rattle.cal_base.specs.History.{History}
use Rattle.cal_base.specs.Claims.{StepJob, size_of, IsLegal, IsComplete}
use Rattle.cal_base.specs.Pages.{Paged}
use Rattle.event_world.specs.World.{Mode, Delivery, freed}
use Rattle.worker_gate.specs.Working.{WorkerState, MayWork}
use Rattle.worker_gate.proofs.Later.{may_work_later}
use Rattle.routine_executor.proofs.Numbers.{size_is}
use Rattle.event_engine.specs.Resuming.{resume_in}
use Rattle.event_engine.specs.Scenes.{modes_in, turn_at, Work}
use Rattle.event_engine.proofs.Playing.{whole_step}
use Rattle.event_engine.proofs.Scenes.{members_may, members_worked, members_next, numbers_worked, older_more, older_below, freed_twice}
use Rattle.calypso_engine.proofs.Teams.{team_count, members_later}
use Rattle.event_engine.proofs.play.named_play.Goals as goal

pub make-requires-clause-size : goal.make-requires-clause-size
make-requires-clause-size g c =
    sym c.requires.all ∙ sym (ap size_of c.requires.named ∙ size_is c.args.code.now c.args.options.now.fuel (c.args.steps + 1) c.args.image.now.memory c.args.first_block c.args.widths.now
    c.requires.there)

pub turns_of-requires-clause-count : goal.turns_of-requires-clause-count
turns_of-requires-clause-count g c = team_count c.args.options.now.workers c.args.team.now.workers.items c.requires.team.numbers ∙ c.requires.count

pub turns_of-requires-clause-may : goal.turns_of-requires-clause-may
turns_of-requires-clause-may g c =
    let ws = c.args.team.now.workers.items in
    subst (λ (image : Paged). AllByRecursion (λ (w : WorkerState). MayWork w image c.of-job.result.code.now) ws) (sym c.of-job.ensures.image)
    (subst (λ (code : Module). AllByRecursion (λ (w : WorkerState). MayWork w c.args.image.now code) ws) (sym c.of-job.ensures.code)
    (members_may c.args.options.now.script.now c.args.code.now c.args.image.now c.args.steps ws c.requires.team.members))

pub turns_of-requires-clause-older : goal.turns_of-requires-clause-older
turns_of-requires-clause-older g c =
    subst (λ (ds : List Delivery). AllByRecursion (λ (d : Delivery). d.step < g.N.JobName.job.number) ds) (sym c.as_slice.ensures.value)
    (older_below c.args.steps g.N.JobName.job.number (ap (λ (job : StepJob). job.number) c.requires.named) c.args.scene.now.deliveries.items c.requires.scene.older)

pub keep-requires-clause-older : goal.keep-requires-clause-older
keep-requires-clause-older g c = older_more c.args.steps (c.args.steps + 1) (omega arith) c.args.scene.now.deliveries.items c.requires.scene.older

pub returns-clause-played : goal.returns-clause-played
returns-clause-played g c =
    let job = g.N.JobName.job in
    let scene = c.args.scene.now in
    let events = c.args.events.now in
    let size = ap size_of c.requires.named ∙ size_is c.args.code.now c.args.options.now.fuel (c.args.steps + 1) c.args.image.now.memory c.args.first_block c.args.widths.now c.requires.there in
    let same = sym c.close.ensures.history in
    record {
      whole = record {
        legal = subst (λ (h : History). IsLegal job h) same c.close.ensures.legal;
        complete = subst (λ (h : History). IsComplete job h) same c.finish.ensures.complete;
      };
      left = c.close.ensures.end;
      size = sym c.requires.all ∙ sym size;
      goes =
          whole_step job (modes_in scene.modes) (modes_in c.turns_of.new.modes) (modes_in c.free.new.modes) c.requires.scene.free scene.deliveries.items c.new-fresh.result.items
          c.turns_of.new.fresh.items c.keep.new.deliveries.items
          (drop scene.next events) (drop c.in_ok-next.next events) c.in_ok-core.core c.turns_of.new.core c.close.result.history.items c.in_ok-core.ensures c.new-fresh.ensures.items
          (λ after.
          subst
          (λ (ds : List Delivery).
          resume_in job after (turn_at c.in_ok-core.core scene.modes (ds ++ c.new-fresh.result.items)) (drop scene.next events)
          ≡ resume_in job after (turn_at c.turns_of.new.core c.turns_of.new.modes (ds ++ c.turns_of.new.fresh.items)) (drop c.in_ok-next.next events))
          c.as_slice.ensures.value (c.in_ok-next.ensures.goes after))
          c.in_ok-next.ensures.ends (c.close.ensures.history ∙ c.finish.ensures.history) c.free.ensures
          (c.in_ok-keep.ensures.kept ∙ ap (λ (fs : List Delivery). scene.deliveries.items ++ fs) c.as_slice-2.ensures.value);
    }

pub returns-clause-team : goal.returns-clause-team
returns-clause-team g c =
    let rows = c.args.options.now.script.now in
    let m = c.args.code.now in
    let before = c.args.team.now.workers.items in
    let after = c.turns_of.new.workers.items in
    let work : Work c.args.image.now m before after =
    subst (λ (image : Paged). Work image m before after) c.of-job.ensures.image
    (subst (λ (code : Module). Work c.of-job.result.image.now code before after) c.of-job.ensures.code c.in_ok-next.ensures.work)
    in
    let size = ap size_of c.requires.named ∙ size_is m c.args.options.now.fuel (c.args.steps + 1) c.args.image.now.memory c.args.first_block c.args.widths.now c.requires.there in
    record {
      members =
          members_later rows m (c.args.steps + 1) c.args.image.now c.close.new.image c.close.ensures.later after
          (members_next rows m c.args.image.now c.args.steps (c.args.steps + 1) (omega arith) after (members_worked rows m c.args.image.now c.args.steps before after c.requires.team.members work));
      numbers = numbers_worked rows m c.args.image.now c.args.steps before after work ∙ c.requires.team.numbers;
      caller = ap (λ (t : WorkerTally). t.who) c.finish.ensures.tally ∙ c.requires.team.caller;
      may =
          may_work_later c.finish.new.worker c.args.image.now c.close.new.image m
          (subst (λ (image : Paged). MayWork c.finish.new.worker image m) c.of-job.ensures.image
          (subst (λ (code : Module). MayWork c.finish.new.worker c.of-job.result.image.now code) c.of-job.ensures.code c.finish.ensures.may))
          c.close.ensures.later;
      claims = omega (arith, ap (λ (t : WorkerTally). t.claims) c.finish.ensures.tally, c.requires.team.claims, c.finish.ensures.few, size, c.requires.all, c.requires.few);
    }

pub returns-clause-scene : goal.returns-clause-scene
returns-clause-scene g c = record {
  within = c.in_ok-next.ensures.within;
  free = λ who.
      subst (λ (ms : ℕ → Mode). freed (ms who) ≡ ms who) (sym c.free.ensures) (freed_twice (modes_in c.turns_of.new.modes who));
  older = c.in_ok-keep.ensures.older;
}
