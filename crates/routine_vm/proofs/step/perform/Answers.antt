use Rattle.std.proofs.Common.{sym}
use Rattle.std.proofs.lemmas.Option.{slice_get_within}
use Rattle.routine_vm.specs.States.{state_of}
use Rattle.routine_vm.proofs.Calls.{arguments_there, call_steps}
use Rattle.routine_vm.proofs.step.perform.Goals as goal

pub call-requires-clause-given : goal.call-requires-clause-given
call-requires-clause-given g c =
    let s = state_of c.args.m.now c.args.run.now (g.S.Site.store c.args.words.now) in
    let f = c.in-Some.function.now in
    arguments_there f s (c.requires.shapes c.in-Call.f f (sym c.in-Some.ensures.value)) (rw (c.in-Call.is, sym c.in-Some.ensures.value) at c.requires.there)

pub returns-in-Some-clause-steps : goal.returns-in-Some-clause-steps
returns-in-Some-clause-steps g c =
    let f = c.in-Some.function.now in
    let found = sym c.in-Some.ensures.value in
    let shape = c.requires.shapes c.in-Call.f f found in
    rw (c.in-Call.is, found) (call_steps c.args.m.now c.in-Call.f f found shape (g.S.Site.store c.args.words.now) c.args.run.now c.call.new.run c.call.result
    (rw (c.in-Call.is, found) at c.requires.there) c.call.ensures.calls)

pub returns-in-Some-clause-bodies : goal.returns-in-Some-clause-bodies
returns-in-Some-clause-bodies g c = λ bottom above. c.call.ensures.bodies c.args.m.now bottom (slice_get_within c.args.m.now.functions c.in-Call.f c.in-Some.function.now (sym c.in-Some.ensures.value))
    above

pub returns-in-Return-clause-bodies : goal.returns-in-Return-clause-bodies
returns-in-Return-clause-bodies g c = λ bottom above. c.leave.ensures.bodies c.args.m.now bottom above
