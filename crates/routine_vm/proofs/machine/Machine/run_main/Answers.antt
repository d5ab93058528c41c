use Rattle.std.proofs.Common.{◌≡◌, ◌∙◌, List, map, refl, ap, sym, subst}
use Rattle.cal_base.specs.declared.value.Store.TheVariants.{Main}
use Rattle.bytecode.specs.declared.module.Module.{Module}
use Rattle.code_verify.specs.Rules.{IsVerified}
use Rattle.machine_meaning.specs.Machine.{Ends, Traps}
use Rattle.machine_meaning.specs.Runs.{Comes}
use Rattle.routine_vm.specs.declared.frame.Body.TheVariants as body
use Rattle.routine_vm.specs.declared.frame.Frame.{Frame}
use Rattle.routine_vm.specs.States.{RunsAbove, call_of, state_of, outcome_from}
use Rattle.routine_vm.specs.Held.{Held, main_state, event_at}
use Rattle.routine_vm.proofs.Mains.{alone_at_event, may_from, event_outcome, meaning_of_outcome}
use Rattle.routine_vm.proofs.machine.Machine.run_main.Goals as goal

pub invariant_of-self : goal.invariant_of-self
invariant_of-self c =
    let m = c.module-m.result.now in
    let ok = subst IsVerified (sym c.module-m.ensures.same) c.module-m.ensures.verified in
    let first : RunsAbove m body.Main c.self.inside.run = rw c.self.invariant (ap (λ (h : Held). h.call.body) c.self.view_is ∙ c.requires.may.main) in
    alone_at_event m ok c.go.new.run (Main c.go.new.words.memory) (c.go.ensures.bodies body.Main first) c.in-Event.ensures.stopped.1

pub event-requires-clause-may : goal.event-requires-clause-may
event-requires-clause-may c =
    let m = c.module-m.result.now in
    let ok = subst IsVerified (sym c.module-m.ensures.same) c.module-m.ensures.verified in
    let first : RunsAbove m body.Main c.self.inside.run = rw c.self.invariant (ap (λ (h : Held). h.call.body) c.self.view_is ∙ c.requires.may.main) in
    may_from m ok c.go.new.run c.go.new.words.memory _ c.in-Event.ensures.goes_on (c.go.ensures.bodies body.Main first) c.in-Event.ensures.stopped.1 refl

pub returns-in-Event-clause-event : goal.returns-in-Event-clause-event
returns-in-Event-clause-event c =
    let m = c.module-m.result.now in
    let ok = subst IsVerified (sym c.module-m.ensures.same) c.module-m.ensures.verified in
    let first : RunsAbove m body.Main c.self.inside.run = rw c.self.invariant (ap (λ (h : Held). h.call.body) c.self.view_is ∙ c.requires.may.main) in
    let none = alone_at_event m ok c.go.new.run (Main c.go.new.words.memory) (c.go.ensures.bodies body.Main first) c.in-Event.ensures.stopped.1 in
    let before = c.args.image.now.memory in
    let seen : state_of m c.self.inside.run (Main before) ≡ main_state m c.args.self.now before =
    ap (λ (waiting : List Frame). record { call = call_of m c.self.inside.run.call; callers = map (call_of m) waiting; store = Main before; fuel = c.self.inside.run.fuel }) c.self.invariant
    ∙ ap (λ (h : Held). main_state m h before) c.self.view_is
    in
    let same : outcome_from m (main_state m c.args.self.now before) ≡ outcome_from m (state_of m c.go.new.run (Main c.go.new.words.memory)) = ap (outcome_from m) (sym seen)
    ∙ c.in-Event.ensures.stopped.0 in
    subst (λ (m : Module). outcome_from m (main_state m c.args.self.now before) ≡ Comes (event_at m c.event.result c.event.new.self c.go.new.words.memory)) c.module-m.ensures.same
    (event_outcome m ok (main_state m c.args.self.now before) c.go.new.run c.go.new.words.memory c.event.result c.event.new.self c.in-Event.ensures.goes_on none same
    (c.event.ensures.next c.go.new.words.memory))

pub returns-in-Event-clause-meaning : goal.returns-in-Event-clause-meaning
returns-in-Event-clause-meaning c =
    let m = c.module-m.result.now in
    let ok = subst IsVerified (sym c.module-m.ensures.same) c.module-m.ensures.verified in
    let first : RunsAbove m body.Main c.self.inside.run = rw c.self.invariant (ap (λ (h : Held). h.call.body) c.self.view_is ∙ c.requires.may.main) in
    let none = alone_at_event m ok c.go.new.run (Main c.go.new.words.memory) (c.go.ensures.bodies body.Main first) c.in-Event.ensures.stopped.1 in
    let before = c.args.image.now.memory in
    let seen : state_of m c.self.inside.run (Main before) ≡ main_state m c.args.self.now before =
    ap (λ (waiting : List Frame). record { call = call_of m c.self.inside.run.call; callers = map (call_of m) waiting; store = Main before; fuel = c.self.inside.run.fuel }) c.self.invariant
    ∙ ap (λ (h : Held). main_state m h before) c.self.view_is
    in
    let same : outcome_from m (main_state m c.args.self.now before) ≡ outcome_from m (state_of m c.go.new.run (Main c.go.new.words.memory)) = ap (outcome_from m) (sym seen)
    ∙ c.in-Event.ensures.stopped.0 in
    let outcome = subst (λ (m : Module). outcome_from m (main_state m c.args.self.now before) ≡ Comes (event_at m c.event.result c.event.new.self c.go.new.words.memory)) c.module-m.ensures.same
    (event_outcome m ok (main_state m c.args.self.now before) c.go.new.run c.go.new.words.memory c.event.result c.event.new.self c.in-Event.ensures.goes_on none same
    (c.event.ensures.next c.go.new.words.memory))
    in
    meaning_of_outcome c.args.code.now c.module-m.ensures.verified c.args.self.now c.requires.may before (event_at c.args.code.now c.event.result c.event.new.self c.go.new.words.memory) outcome

pub returns-in-Ends-clause-meaning : goal.returns-in-Ends-clause-meaning
returns-in-Ends-clause-meaning c =
    let m = c.module-m.result.now in
    let before = c.args.image.now.memory in
    let seen : state_of m c.self.inside.run (Main before) ≡ main_state m c.args.self.now before =
    ap (λ (waiting : List Frame). record { call = call_of m c.self.inside.run.call; callers = map (call_of m) waiting; store = Main before; fuel = c.self.inside.run.fuel }) c.self.invariant
    ∙ ap (λ (h : Held). main_state m h before) c.self.view_is
    in
    let outcome = subst (λ (m : Module). outcome_from m (main_state m c.args.self.now before) ≡ Comes (Ends (Main c.go.new.words.memory) c.go.new.run.fuel)) c.module-m.ensures.same
    (ap (outcome_from m) (sym seen) ∙ c.in-Ends.ensures.stopped) in
    meaning_of_outcome c.args.code.now c.module-m.ensures.verified c.args.self.now c.requires.may before (Ends (Main c.go.new.words.memory) c.go.new.run.fuel) outcome

pub returns-in-Traps-clause-meaning : goal.returns-in-Traps-clause-meaning
returns-in-Traps-clause-meaning c =
    let m = c.module-m.result.now in
    let before = c.args.image.now.memory in
    let seen : state_of m c.self.inside.run (Main before) ≡ main_state m c.args.self.now before =
    ap (λ (waiting : List Frame). record { call = call_of m c.self.inside.run.call; callers = map (call_of m) waiting; store = Main before; fuel = c.self.inside.run.fuel }) c.self.invariant
    ∙ ap (λ (h : Held). main_state m h before) c.self.view_is
    in
    let outcome = subst (λ (m : Module). outcome_from m (main_state m c.args.self.now before) ≡ Comes (Traps c.in-Traps.cause (Main c.go.new.words.memory) c.go.new.run.fuel)) c.module-m.ensures.same
    (ap (outcome_from m) (sym seen) ∙ c.in-Traps.ensures.stopped) in
    meaning_of_outcome c.args.code.now c.module-m.ensures.verified c.args.self.now c.requires.may before (Traps c.in-Traps.cause (Main c.go.new.words.memory) c.go.new.run.fuel) outcome
