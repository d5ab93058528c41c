use Rattle.std.proofs.Common.{◌≡◌, sym, ap, ◌∙◌, subst}
use Rattle.command_words.specs.Commands.{run, exec}
use Rattle.command_words.specs.Seen.{command_seen, flags_seen}
use Rattle.calypso_cli.specs.Commands.{IsLoaded, IsWritten}
use Rattle.calypso_cli.specs.Promise.{objects_of, Works}
use Rattle.calypso_cli.specs.Seen.{ending_seen, report_seen}
use Rattle.calypso_cli.proofs.top.carry_out.Goals as goal

pub run_file-requires-clause-load : goal.run_file-requires-clause-load
run_file-requires-clause-load g c κs within =
    let same : run c.as_str.result.now (flags_seen c.in-Run.flags) ≡ command_seen c.args.command.now =
    ap (λ name. run name (flags_seen c.in-Run.flags)) c.as_str.ensures.value ∙ sym (ap command_seen c.in-Run.is) in
    λ name loaded. c.requires.may_use.load name (subst (λ k. IsLoaded k name) same loaded)

pub run_file-requires-clause-write : goal.run_file-requires-clause-write
run_file-requires-clause-write g c κs within =
    let same : run c.as_str.result.now (flags_seen c.in-Run.flags) ≡ command_seen c.args.command.now =
    ap (λ name. run name (flags_seen c.in-Run.flags)) c.as_str.ensures.value ∙ sym (ap command_seen c.in-Run.is) in
    λ name written. c.requires.may_use.write name (subst (λ k. IsWritten k name) same written)

pub returns-in-Run-clause-works : goal.returns-in-Run-clause-works
returns-in-Run-clause-works g c =
    let same : run c.as_str.result.now (flags_seen c.in-Run.flags) ≡ command_seen c.args.command.now =
    ap (λ name. run name (flags_seen c.in-Run.flags)) c.as_str.ensures.value ∙ sym (ap command_seen c.in-Run.is) in
    subst (λ k. Works k
    (objects_of (g.F.Files.holds c.args.files.now) (g.S.Sink.written c.args.out.now) (g.F.Files.faults c.args.files.now) (g.S.Sink.faults c.args.out.now))
    (objects_of (g.F.Files.holds c.run_file.new.files) (g.S.Sink.written c.run_file.new.out) (g.F.Files.faults c.run_file.new.files) (g.S.Sink.faults c.run_file.new.out))
    (ending_seen c.run_file.result.ending) (report_seen c.run_file.result.report)) same (c.run_file.ensures.works)

pub exec_file-requires-clause-load : goal.exec_file-requires-clause-load
exec_file-requires-clause-load g c κs within =
    let same : exec c.as_str-in-Exec.result.now (flags_seen c.in-Exec.flags) ≡ command_seen c.args.command.now =
    ap (λ name. exec name (flags_seen c.in-Exec.flags)) c.as_str-in-Exec.ensures.value ∙ sym (ap command_seen c.in-Exec.is) in
    λ name loaded. c.requires.may_use.load name (subst (λ k. IsLoaded k name) same loaded)

pub exec_file-requires-clause-write : goal.exec_file-requires-clause-write
exec_file-requires-clause-write g c κs within =
    let same : exec c.as_str-in-Exec.result.now (flags_seen c.in-Exec.flags) ≡ command_seen c.args.command.now =
    ap (λ name. exec name (flags_seen c.in-Exec.flags)) c.as_str-in-Exec.ensures.value ∙ sym (ap command_seen c.in-Exec.is) in
    λ name written. c.requires.may_use.write name (subst (λ k. IsWritten k name) same written)

pub returns-in-Exec-clause-works : goal.returns-in-Exec-clause-works
returns-in-Exec-clause-works g c =
    let same : exec c.as_str-in-Exec.result.now (flags_seen c.in-Exec.flags) ≡ command_seen c.args.command.now =
    ap (λ name. exec name (flags_seen c.in-Exec.flags)) c.as_str-in-Exec.ensures.value ∙ sym (ap command_seen c.in-Exec.is) in
    subst (λ k. Works k
    (objects_of (g.F.Files.holds c.args.files.now) (g.S.Sink.written c.args.out.now) (g.F.Files.faults c.args.files.now) (g.S.Sink.faults c.args.out.now))
    (objects_of (g.F.Files.holds c.exec_file.new.files) (g.S.Sink.written c.exec_file.new.out) (g.F.Files.faults c.exec_file.new.files) (g.S.Sink.faults c.exec_file.new.out))
    (ending_seen c.exec_file.result.ending) (report_seen c.exec_file.result.report)) same (c.exec_file.ensures.works)
