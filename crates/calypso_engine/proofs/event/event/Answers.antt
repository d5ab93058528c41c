use Rattle.std.proofs.Common.{Err, map, refl, sym, ap, subst, ◌∙◌}
use Rattle.std.proofs.lemmas.Result.{err_from_is_err_and}
use Rattle.cal_base.specs.declared.ends.RunEnd.TheVariants.{Done, MainFault}
use Rattle.cal_base.specs.Main.{Main}
use Rattle.cal_base.specs.Printing.{line_of}
use Rattle.routine_vm.specs.Events.{piece_of}
use Rattle.calypso_engine.specs.Asked.{outside_of}
use Rattle.calypso_engine.specs.Running.{rest_of, Goes}
use Rattle.calypso_engine.specs.declared.error.RunError.{RunError}
use Rattle.calypso_engine.specs.declared.event.Standing.{Standing}
use Rattle.calypso_engine.proofs.Events.{line_went, line_gave, end_came}
use Rattle.calypso_engine.proofs.Falling.{main_falls, step_falls}
use Rattle.calypso_engine.proofs.Logging.{log_holds}
use Rattle.calypso_engine.proofs.Teams.{team_tallies}
use Rattle.calypso_engine.proofs.Ready.{line_ready, step_may, step_ready, opens_next}
use Rattle.calypso_engine.proofs.event.event.Goals as goal

pub returns-in_err-print-in-Print-clause-goes : goal.returns-in_err-print-in-Print-clause-goes
returns-in_err-print-in-Print-clause-goes g c =
    let o = c.args.options.now in
    let before = c.args.standing.now in
    let mid : Standing = record { machine = c.run_main.new.self; image = c.run_main.new.image; kept = before.kept; steps = before.steps } in
    let p = err_from_is_err_and c.from_residual.result c.from_residual.ensures.1 in
    rw p.1
    (line_gave o (rest_of c.args.code.now o.fuel before) (rest_of c.args.code.now o.fuel mid) before.steps c.requires.ready.numbered (line_of (map (piece_of c.args.code.now) mid.machine.items)) p.0
    (outside_of (g.S.Sink.written c.args.out.now) (g.F.Files.holds c.args.files.now)) (g.S.Sink.written c.print.new.out) (c.in-Print.ensures.meaning o.fuel before.steps)
    (log_holds c.args.files.now g.F.Files.holds g.F.Files.created g.met.F.Files.created_holds o.log c.requires.created) c.in_err-print-in-Print.ensures.err
    (λ none. c.in_err-print-in-Print.ensures.memory (ap (λ (e : RunError). Err e) (sym p.2 ∙ none))))

pub step-requires-clause-may : goal.step-requires-clause-may
step-requires-clause-may g c κs within =
    let o = c.args.options.now in
    let before = c.args.standing.now in
    let mid : Standing = record { machine = c.run_main.new.self; image = c.run_main.new.image; kept = before.kept; steps = before.steps } in
    step_may c.args.code.now o before c.args.team.now c.requires.ready mid c.in-Par.first_block
    (opens_next c.args.code.now o.fuel c.in-Par.first_block before mid (c.in-Par.ensures.meaning o.fuel before.steps))
    c.run_main.ensures.later refl refl

pub returns-in_ok-print-in-Print-clause-goes : goal.returns-in_ok-print-in-Print-clause-goes
returns-in_ok-print-in-Print-clause-goes g c =
    let o = c.args.options.now in
    let before = c.args.standing.now in
    let mid : Standing = record { machine = c.run_main.new.self; image = c.run_main.new.image; kept = before.kept; steps = before.steps } in
    line_went o c.args.code.now (rest_of c.args.code.now o.fuel before) mid c.args.team.now (line_of (map (piece_of c.args.code.now) mid.machine.items))
    (outside_of (g.S.Sink.written c.args.out.now) (g.F.Files.holds c.args.files.now)) (g.S.Sink.written c.print.new.out) (c.in-Print.ensures.meaning o.fuel before.steps)
    (log_holds c.args.files.now g.F.Files.holds g.F.Files.created g.met.F.Files.created_holds o.log c.requires.created) c.in_ok-print-in-Print.ensures.ok

pub returns-in_ok-print-in-Print-clause-ready : goal.returns-in_ok-print-in-Print-clause-ready
returns-in_ok-print-in-Print-clause-ready g c = λ none.
    let o = c.args.options.now in
    let before = c.args.standing.now in
    let mid : Standing = record { machine = c.run_main.new.self; image = c.run_main.new.image; kept = before.kept; steps = before.steps } in
    line_ready c.args.code.now o before c.args.team.now c.requires.ready mid (line_of (map (piece_of c.args.code.now) mid.machine.items)) (c.in-Print.ensures.meaning o.fuel before.steps)
    c.in-Print.ensures.told.may
    c.run_main.ensures.later refl refl

pub returns-in_ok-print-in-Print-clause-falls : goal.returns-in_ok-print-in-Print-clause-falls
returns-in_ok-print-in-Print-clause-falls g c = λ none.
    main_falls c.args.code.now c.module-verified.ensures.verified c.args.standing.now.machine c.args.standing.now.image.memory _ c.requires.ready.may c.in-Print.ensures.event

pub returns-in-Par-clause-goes : goal.returns-in-Par-clause-goes
returns-in-Par-clause-goes g c =
    let o = c.args.options.now in
    let before = c.args.standing.now in
    let mid : Standing = record { machine = c.run_main.new.self; image = c.run_main.new.image; kept = before.kept; steps = before.steps } in
    subst
    (λ (r : Main). Goes c.args.code.now o r c.step.new.standing c.args.team.now c.step.new.team (outside_of (g.S.Sink.written c.args.out.now) (g.F.Files.holds c.args.files.now))
    (outside_of (g.S.Sink.written c.step.new.out) (g.F.Files.holds c.step.new.files)) c.step.result)
    (sym (opens_next c.args.code.now o.fuel c.in-Par.first_block before mid (c.in-Par.ensures.meaning o.fuel before.steps))) c.step.ensures.goes

pub returns-in-Par-clause-ready : goal.returns-in-Par-clause-ready
returns-in-Par-clause-ready g c = λ none.
    let o = c.args.options.now in
    let before = c.args.standing.now in
    let mid : Standing = record { machine = c.run_main.new.self; image = c.run_main.new.image; kept = before.kept; steps = before.steps } in
    step_ready c.args.code.now o before c.args.team.now c.requires.ready mid c.step.new.standing c.in-Par.first_block c.step.new.team
    (opens_next c.args.code.now o.fuel c.in-Par.first_block before mid (c.in-Par.ensures.meaning o.fuel before.steps)) refl c.in-Par.ensures.told.may (c.step.ensures.behind none)

pub returns-in-Par-clause-falls : goal.returns-in-Par-clause-falls
returns-in-Par-clause-falls g c = λ none.
    step_falls c.args.code.now c.args.standing.now.machine c.run_main.new.self c.step.new.standing.machine (c.step.ensures.behind none).machine
    (main_falls c.args.code.now c.module-verified.ensures.verified c.args.standing.now.machine c.args.standing.now.image.memory _ c.requires.ready.may c.in-Par.ensures.event)

pub returns-in-Halt-clause-goes : goal.returns-in-Halt-clause-goes
returns-in-Halt-clause-goes g c =
    let o = c.args.options.now in
    let before = c.args.standing.now in
    end_came o (rest_of c.args.code.now o.fuel before) (Done before.steps) c.args.team.now (outside_of (g.S.Sink.written c.args.out.now) (g.F.Files.holds c.args.files.now))
    (c.in-Halt.ensures.meaning o.fuel before.steps)
    (log_holds c.args.files.now g.F.Files.holds g.F.Files.created g.met.F.Files.created_holds o.log c.requires.created)

pub returns-in-Fault-clause-goes : goal.returns-in-Fault-clause-goes
returns-in-Fault-clause-goes g c =
    let o = c.args.options.now in
    let before = c.args.standing.now in
    end_came o (rest_of c.args.code.now o.fuel before) (MainFault before.steps c.in-Fault.cause) c.args.team.now (outside_of (g.S.Sink.written c.args.out.now) (g.F.Files.holds c.args.files.now))
    (c.in-Fault.ensures.meaning o.fuel before.steps) (log_holds c.args.files.now g.F.Files.holds g.F.Files.created g.met.F.Files.created_holds o.log c.requires.created)

pub returns-in_ok-print-in-Print-clause-tallies : goal.returns-in_ok-print-in-Print-clause-tallies
returns-in_ok-print-in-Print-clause-tallies g c =
    team_tallies c.args.options.now.script.now c.args.options.now.workers c.args.standing.now.steps c.args.standing.now.image c.args.code.now c.args.team.now c.requires.ready.working

pub returns-in-Halt-clause-tallies : goal.returns-in-Halt-clause-tallies
returns-in-Halt-clause-tallies g c =
    team_tallies c.args.options.now.script.now c.args.options.now.workers c.args.standing.now.steps c.args.standing.now.image c.args.code.now c.args.team.now c.requires.ready.working

pub returns-in-Fault-clause-tallies : goal.returns-in-Fault-clause-tallies
returns-in-Fault-clause-tallies g c =
    team_tallies c.args.options.now.script.now c.args.options.now.workers c.args.standing.now.steps c.args.standing.now.image c.args.code.now c.args.team.now c.requires.ready.working
