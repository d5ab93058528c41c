use Rattle.std.proofs.Common.{map, refl, sym, ap, subst, ◌∙◌}
use Rattle.std.proofs.lemmas.Result.{err_from_is_err_and}
use Rattle.cal_base.specs.declared.ends.RunEnd.TheVariants.{Done, MainFault}
use Rattle.cal_base.specs.Main.{Main}
use Rattle.cal_base.specs.Printing.{line_of}
use Rattle.routine_vm.specs.Events.{piece_of}
use Rattle.calypso_engine.specs.Asked.{outside_of}
use Rattle.calypso_engine.specs.Running.{rest_of}
use Rattle.event_engine.specs.Simulating.{resumed, GoesSo}
use Rattle.calypso_engine.specs.declared.event.Standing.{Standing}
use Rattle.calypso_engine.proofs.Falling.{main_falls, step_falls}
use Rattle.calypso_engine.proofs.Logging.{log_holds}
use Rattle.calypso_engine.proofs.Ready.{line_ready, step_may, step_ready, opens_next}
use Rattle.event_engine.proofs.Resuming.{resume_end, resume_line}
use Rattle.event_engine.proofs.Simulating.{line_told, line_front, end_told}
use Rattle.event_engine.proofs.simulation.sim_event.Goals as goal

pub returns-in_err-print-in-Print-clause-goes : goal.returns-in_err-print-in-Print-clause-goes
returns-in_err-print-in-Print-clause-goes g c =
    let o = c.args.options.now in
    let before = c.args.standing.now in
    let scene = c.args.scene.now in
    let events = c.args.events.now in
    let mid : Standing = record { machine = c.run_main.new.self; image = c.run_main.new.image; kept = before.kept; steps = before.steps } in
    let line = line_of (map (piece_of c.args.code.now) mid.machine.items) in
    let p = err_from_is_err_and c.from_residual.result c.from_residual.ensures.1 in
    rw p.1
    (line_front o (resumed (rest_of c.args.code.now o.fuel before) scene events) (resumed (rest_of c.args.code.now o.fuel mid) scene events) line
    (outside_of (g.S.Sink.written c.args.out.now) (g.F.Files.holds c.args.files.now)) (g.S.Sink.written c.print.new.out)
    (ap (λ (r : Main). resumed r scene events) (c.in-Print.ensures.meaning o.fuel before.steps) ∙ resume_line line (rest_of c.args.code.now o.fuel mid) _ _ _)
    (log_holds c.args.files.now g.F.Files.holds g.F.Files.created g.met.F.Files.created_holds o.log c.requires.created) c.in_err-print-in-Print.ensures.err)

pub sim_step-requires-clause-may : goal.sim_step-requires-clause-may
sim_step-requires-clause-may g c =
    let o = c.args.options.now in
    let before = c.args.standing.now in
    let mid : Standing = record { machine = c.run_main.new.self; image = c.run_main.new.image; kept = before.kept; steps = before.steps } in
    step_may c.args.code.now o before c.args.team.now c.requires.ready mid c.in-Par.first_block
    (opens_next c.args.code.now o.fuel c.in-Par.first_block before mid (c.in-Par.ensures.meaning o.fuel before.steps))
    c.run_main.ensures.later refl refl

pub returns-in_ok-print-in-Print-clause-goes : goal.returns-in_ok-print-in-Print-clause-goes
returns-in_ok-print-in-Print-clause-goes g c =
    let o = c.args.options.now in
    let before = c.args.standing.now in
    let scene = c.args.scene.now in
    let events = c.args.events.now in
    let mid : Standing = record { machine = c.run_main.new.self; image = c.run_main.new.image; kept = before.kept; steps = before.steps } in
    let line = line_of (map (piece_of c.args.code.now) mid.machine.items) in
    line_told o (resumed (rest_of c.args.code.now o.fuel before) scene events) (resumed (rest_of c.args.code.now o.fuel mid) scene events) line
    (outside_of (g.S.Sink.written c.args.out.now) (g.F.Files.holds c.args.files.now)) (g.S.Sink.written c.print.new.out)
    (ap (λ (r : Main). resumed r scene events) (c.in-Print.ensures.meaning o.fuel before.steps) ∙ resume_line line (rest_of c.args.code.now o.fuel mid) _ _ _)
    (log_holds c.args.files.now g.F.Files.holds g.F.Files.created g.met.F.Files.created_holds o.log c.requires.created) c.in_ok-print-in-Print.ensures.ok

pub returns-in_ok-print-in-Print-clause-ready : goal.returns-in_ok-print-in-Print-clause-ready
returns-in_ok-print-in-Print-clause-ready g c = λ none.
    let o = c.args.options.now in
    let before = c.args.standing.now in
    let mid : Standing = record { machine = c.run_main.new.self; image = c.run_main.new.image; kept = before.kept; steps = before.steps } in
    line_ready c.args.code.now o before c.args.team.now c.requires.ready mid (line_of (map (piece_of c.args.code.now) mid.machine.items)) (c.in-Print.ensures.meaning o.fuel before.steps)
    c.in-Print.ensures.told.may
    c.run_main.ensures.later refl refl

pub returns-in_ok-print-in-Print-clause-falls : goal.returns-in_ok-print-in-Print-clause-falls
returns-in_ok-print-in-Print-clause-falls g c = λ none.
    main_falls c.args.code.now c.module-verified.ensures.verified c.args.standing.now.machine c.args.standing.now.image.memory _ c.requires.ready.may c.in-Print.ensures.event

pub returns-in-Par-clause-goes : goal.returns-in-Par-clause-goes
returns-in-Par-clause-goes g c =
    let o = c.args.options.now in
    let before = c.args.standing.now in
    let mid : Standing = record { machine = c.run_main.new.self; image = c.run_main.new.image; kept = before.kept; steps = before.steps } in
    subst
    (λ (r : Main). GoesSo o (resumed r c.args.scene.now c.args.events.now) (resumed (rest_of c.args.code.now o.fuel c.sim_step.new.standing) c.sim_step.new.scene c.args.events.now)
    (outside_of (g.S.Sink.written c.args.out.now) (g.F.Files.holds c.args.files.now)) (outside_of (g.S.Sink.written c.sim_step.new.out) (g.F.Files.holds c.sim_step.new.files)) c.sim_step.result)
    (sym (opens_next c.args.code.now o.fuel c.in-Par.first_block before mid (c.in-Par.ensures.meaning o.fuel before.steps))) c.sim_step.ensures.goes

pub returns-in-Par-clause-ready : goal.returns-in-Par-clause-ready
returns-in-Par-clause-ready g c = λ none.
    let o = c.args.options.now in
    let before = c.args.standing.now in
    let mid : Standing = record { machine = c.run_main.new.self; image = c.run_main.new.image; kept = before.kept; steps = before.steps } in
    step_ready c.args.code.now o before c.args.team.now c.requires.ready mid c.sim_step.new.standing c.in-Par.first_block c.sim_step.new.team
    (opens_next c.args.code.now o.fuel c.in-Par.first_block before mid (c.in-Par.ensures.meaning o.fuel before.steps)) refl c.in-Par.ensures.told.may (c.sim_step.ensures.behind none)

pub returns-in-Par-clause-falls : goal.returns-in-Par-clause-falls
returns-in-Par-clause-falls g c = λ none.
    step_falls c.args.code.now c.args.standing.now.machine c.run_main.new.self c.sim_step.new.standing.machine (c.sim_step.ensures.behind none).machine
    (main_falls c.args.code.now c.module-verified.ensures.verified c.args.standing.now.machine c.args.standing.now.image.memory _ c.requires.ready.may c.in-Par.ensures.event)

pub returns-in-Halt-clause-goes : goal.returns-in-Halt-clause-goes
returns-in-Halt-clause-goes g c =
    let o = c.args.options.now in
    let before = c.args.standing.now in
    let scene = c.args.scene.now in
    let events = c.args.events.now in
    end_told o (resumed (rest_of c.args.code.now o.fuel before) scene events) (Done before.steps) (outside_of (g.S.Sink.written c.args.out.now) (g.F.Files.holds c.args.files.now))
    (ap (λ (r : Main). resumed r scene events) (c.in-Halt.ensures.meaning o.fuel before.steps) ∙ resume_end (Done before.steps) _ _ _)
    (log_holds c.args.files.now g.F.Files.holds g.F.Files.created g.met.F.Files.created_holds o.log c.requires.created)

pub returns-in-Fault-clause-goes : goal.returns-in-Fault-clause-goes
returns-in-Fault-clause-goes g c =
    let o = c.args.options.now in
    let before = c.args.standing.now in
    let scene = c.args.scene.now in
    let events = c.args.events.now in
    end_told o (resumed (rest_of c.args.code.now o.fuel before) scene events) (MainFault before.steps c.in-Fault.cause)
    (outside_of (g.S.Sink.written c.args.out.now) (g.F.Files.holds c.args.files.now))
    (ap (λ (r : Main). resumed r scene events) (c.in-Fault.ensures.meaning o.fuel before.steps) ∙ resume_end (MainFault before.steps c.in-Fault.cause) _ _ _)
    (log_holds c.args.files.now g.F.Files.holds g.F.Files.created g.met.F.Files.created_holds o.log c.requires.created)
