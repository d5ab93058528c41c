use Rattle.std.proofs.Common.{◌≡◌, Some, sym, ap, subst, ◌∙◌}
use Rattle.std.specs.Prelude.{slice_get}
use Rattle.std.specs.Option.{option_copied}
use Rattle.bytecode.specs.declared.module.Code.{Code}
use Rattle.routine_vm.proofs.Ready.{has_body, instr_there, place_fits, has_room, have_room, next_there}
use Rattle.routine_vm.proofs.go.step.Goals as goal

pub body_code-code-requires : goal.body_code-code-requires
body_code-code-requires g c = has_body c.args.m.now c.requires.verified c.args.run.now (g.S.Site.store c.args.words.now) c.requires.ready

pub perform-requires-clause-there : goal.perform-requires-clause-there
perform-requires-clause-there g c =
    let stands = subst (λ (code : Code). slice_get code.instrs c.args.run.now.call.place ≡ Some c.in-Some.instr.now) c.body_code-code.ensures (sym c.in-Some.ensures.value) in
    next_there c.args.m.now c.requires.verified c.args.run.now (g.S.Site.store c.args.words.now) c.requires.ready c.in-Some.instr.now stands

pub perform-requires-clause-place : goal.perform-requires-clause-place
perform-requires-clause-place g c = place_fits c.args.m.now c.requires.verified c.args.run.now (g.S.Site.store c.args.words.now) c.requires.ready

pub perform-requires-clause-room : goal.perform-requires-clause-room
perform-requires-clause-room g c = has_room c.args.m.now c.requires.verified c.args.run.now (g.S.Site.store c.args.words.now) c.requires.ready

pub perform-requires-clause-callers : goal.perform-requires-clause-callers
perform-requires-clause-callers g c = have_room c.args.m.now c.requires.verified c.args.run.now (g.S.Site.store c.args.words.now) c.requires.ready

pub perform-requires-clause-shapes : goal.perform-requires-clause-shapes
perform-requires-clause-shapes g c = λ f code at. (c.requires.verified.functions f code at).sound.shape

pub unreachable-requires : goal.unreachable-requires
unreachable-requires g c =
    let there = instr_there c.args.m.now c.requires.verified c.args.run.now (g.S.Site.store c.args.words.now) c.requires.ready in
    let stands = subst (λ (code : Code). slice_get code.instrs c.args.run.now.call.place ≡ Some there.0) (sym c.body_code-code.ensures) there.1 in
    let clash = sym stands ∙ sym c.get.ensures.value ∙ ap option_copied c.in-None.is in
    cc
