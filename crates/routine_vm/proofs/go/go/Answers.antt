use Rattle.std.proofs.Common.{◌∙◌}
use Rattle.machine_meaning.specs.Machine.{Ends, Traps}
use Rattle.routine_vm.specs.States.{state_of}
use Rattle.routine_vm.proofs.Ready.{fewer, ready_on, ready_still, outcome_on, outcome_at}
use Rattle.routine_vm.proofs.go.go.Goals as goal

pub steps-smaller : goal.steps-smaller
steps-smaller g c =
    fewer c.args.m.now c.requires.verified c.steps.run (g.S.Site.store c.steps.words) c.steps.invariant.ready (state_of c.args.m.now c.step.new.run (g.S.Site.store c.step.new.words))
    c.in-On.ensures.stepped

pub steps-preserved : goal.steps-preserved
steps-preserved g c =
    let i = c.steps.invariant in
    let store = g.S.Site.store c.steps.words in
    let kinds = g.met.S.Site.keeps c.steps.words c.step.new.words c.step.ensures.leads in
    record {
      ready = ready_on c.args.m.now c.requires.verified c.steps.run store i.ready c.step.new.run (g.S.Site.store c.step.new.words) c.in-On.ensures.stepped c.step.ensures.bodies kinds;
      same = i.same ∙ outcome_on c.args.m.now c.requires.verified c.steps.run store i.ready (state_of c.args.m.now c.step.new.run (g.S.Site.store c.step.new.words)) c.in-On.ensures.stepped;
      bodies = λ bottom above. c.step.ensures.bodies bottom (i.bodies bottom above);
      leads = g.met.S.Site.joins c.args.words.now c.steps.words c.step.new.words i.leads c.step.ensures.leads;
    }

pub returns-in-Ends-clause-stopped : goal.returns-in-Ends-clause-stopped
returns-in-Ends-clause-stopped g c =
    let i = c.steps.invariant in
    i.same ∙ outcome_at c.args.m.now c.requires.verified c.steps.run (g.S.Site.store c.steps.words) i.ready (Ends (g.S.Site.store c.step.new.words) c.step.new.run.fuel) c.in-Ends.ensures.stepped
    (λ s' e. cc)

pub returns-in-Traps-clause-stopped : goal.returns-in-Traps-clause-stopped
returns-in-Traps-clause-stopped g c =
    let i = c.steps.invariant in
    i.same ∙ outcome_at c.args.m.now c.requires.verified c.steps.run (g.S.Site.store c.steps.words) i.ready (Traps c.in-Traps.cause (g.S.Site.store c.step.new.words) c.step.new.run.fuel)
    c.in-Traps.ensures.stepped (λ s' e. cc)

pub returns-in-Event-clause-goes_on : goal.returns-in-Event-clause-goes_on
returns-in-Event-clause-goes_on g c =
    let i = c.steps.invariant in
    ready_still c.args.m.now c.requires.verified c.steps.run (g.S.Site.store c.steps.words) i.ready c.step.new.run (g.S.Site.store c.step.new.words) c.in-Event.ensures.stepped.0 c.step.ensures.bodies
