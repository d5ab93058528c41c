use Rattle.std.proofs.Common.{◌++◌, ◌+◌, drop, subst, arith, ◌∙◌}
use Rattle.std.specs.List.{flat_map}
use Rattle.cal_base.specs.Contents.{Told, AppendsTo, AppendsPrefixTo}
use Rattle.cal_base.proofs.Pieces.{Told-more}
use Rattle.run_report.specs.Logs.{entry_line, step_log}
use Rattle.run_report.specs.Lines.{Moves}
use Rattle.run_report.proofs.Fronts.{on_err, err_holds}
use Rattle.run_report.proofs.Moving.{moves_on, adds_on, lines_behind, stopped_file}
use Rattle.run_report.proofs.logs.log_lines.Goals as goal

pub returns-in_err-make_room_for_file-clause-err :
    goal.returns-in_err-make_room_for_file-clause-err
returns-in_err-make_room_for_file-clause-err g c =
    err_holds c.from_residual.result
    (stopped_file (g.F.Files.holds c.args.files.now) (g.F.Files.holds c.loop-entry.files) _ c.args.name.now _ c.loop-entry.lines.bytes
    (flat_map entry_line (drop c.loop-entry.entry-index c.args.history.now)) c.loop-entry.invariant.way c.in_err-make_room_for_file.ensures.err)

pub loop-entry-preserved : goal.loop-entry-preserved
loop-entry-preserved g c = record {
  way =
      adds_on _ c.make_room_for_file.new.lines.bytes c.push_entry.new.lines.bytes _ (flat_map entry_line (drop (c.loop-entry.entry-index + 1) c.args.history.now)) _ c.push_entry.ensures.added
      (moves_on _ _ _ c.loop-entry.lines.bytes c.make_room_for_file.new.lines.bytes _
      (λ a b one two. Told-more (g.F.Files.holds c.args.files.now) (g.F.Files.holds c.loop-entry.files) (g.F.Files.holds c.make_room_for_file.new.files) c.args.name.now a b one two)
      (step_log (record { number = c.args.step; size = c.args.n; history = c.args.history.now }))
      (subst (λ l. Moves (λ front. Told (g.F.Files.holds c.args.files.now) (g.F.Files.holds c.loop-entry.files) (AppendsTo c.args.name.now front))
      (step_log (record { number = c.args.step; size = c.args.n; history = c.args.history.now })) (c.loop-entry.lines.bytes ++ l))
      (lines_behind entry_line c.args.history.now c.loop-entry.entry-index _ (omega arith)) c.loop-entry.invariant.way)
      c.in_ok-make_room_for_file.ensures.ok);
  made = c.in_ok-make_room_for_file.ensures.created _ c.loop-entry.invariant.made;
  created = λ name was. c.in_ok-make_room_for_file.ensures.created name (c.loop-entry.invariant.created name was);
  later = omega arith;
}

pub returns-clause-err : goal.returns-clause-err
returns-clause-err g c =
    on_err c.append_all.result
    (λ h. stopped_file (g.F.Files.holds c.args.files.now) (g.F.Files.holds c.loop-entry.files) (g.F.Files.holds c.append_all.new.files) c.args.name.now _ c.loop-entry.lines.bytes
    (flat_map entry_line (drop c.loop-entry.entry-index c.args.history.now)) c.loop-entry.invariant.way
    (subst (λ l. Told (g.F.Files.holds c.loop-entry.files) (g.F.Files.holds c.append_all.new.files) (AppendsPrefixTo c.args.name.now l)) (c.as_bytes.ensures.value ∙ c.as_str.ensures.value) h))
    c.append_all.ensures.err
