use Rattle.std.proofs.Common.{◌++◌, ◌+◌, ◌∙◌, drop, subst, arith, ap, sym, append_assoc}
use Rattle.std.specs.Io.KnownBytes.{Appends}
use Rattle.std.proofs.KnownBytes.{Appends-trans}
use Rattle.cal_base.specs.Contents.{AppendsPrefix}
use Rattle.cal_base.specs.Text.{step_lines, changes_from}
use Rattle.run_report.specs.Lines.{Moves}
use Rattle.run_report.proofs.Fronts.{on_err, err_holds}
use Rattle.run_report.proofs.Moving.{moves_on, changes_behind, stopped}
use Rattle.run_report.proofs.steps.step_lines.Goals as goal

pub returns-in_err-push_change-clause-err : goal.returns-in_err-push_change-clause-err
returns-in_err-push_change-clause-err g c =
    err_holds c.from_residual.result
    (stopped (g.S.Sink.written c.args.out.now) (g.S.Sink.written c.loop-a.out) _ _ c.loop-a.lines.bytes
    (changes_from c.loop-a.a (drop c.loop-a.a c.args.before.now.memory) (drop c.loop-a.a c.args.after.now.memory)) c.loop-a.invariant.way c.in_err-push_change.ensures.err)

pub loop-a-preserved : goal.loop-a-preserved
loop-a-preserved g c = record {
  way =
      moves_on (Appends (g.S.Sink.written c.args.out.now) (g.S.Sink.written c.loop-a.out)) (Appends (g.S.Sink.written c.loop-a.out) (g.S.Sink.written c.push_change.new.out)) _
      (c.loop-a.lines.bytes ++ _) c.push_change.new.lines.bytes (changes_from (c.loop-a.a + 1) (drop (c.loop-a.a + 1) c.args.before.now.memory) (drop (c.loop-a.a + 1) c.args.after.now.memory))
      (λ a b one two. Appends-trans (g.S.Sink.written c.args.out.now) (g.S.Sink.written c.loop-a.out) (g.S.Sink.written c.push_change.new.out) a b one two)
      (step_lines c.args.step c.args.before.now.memory c.args.after.now.memory)
      (subst (λ l. Moves (Appends (g.S.Sink.written c.args.out.now) (g.S.Sink.written c.loop-a.out)) (step_lines c.args.step c.args.before.now.memory c.args.after.now.memory) l)
      (ap (λ l. c.loop-a.lines.bytes ++ l) (changes_behind c.args.before.now.memory c.args.after.now.memory c.loop-a.a (omega arith) c.requires)
      ∙ sym (append_assoc c.loop-a.lines.bytes _ _))
      c.loop-a.invariant.way)
      c.in_ok-push_change.ensures.ok;
  later = omega arith;
}

pub returns-clause-err : goal.returns-clause-err
returns-clause-err g c =
    on_err c.write_all.result
    (λ h. stopped (g.S.Sink.written c.args.out.now) (g.S.Sink.written c.loop-a.out) (g.S.Sink.written c.write_all.new.sink) _ c.loop-a.lines.bytes
    (changes_from c.loop-a.a (drop c.loop-a.a c.args.before.now.memory) (drop c.loop-a.a c.args.after.now.memory)) c.loop-a.invariant.way
    (subst (AppendsPrefix (g.S.Sink.written c.loop-a.out) (g.S.Sink.written c.write_all.new.sink)) (c.as_bytes.ensures.value ∙ c.as_str.ensures.value) h))
    c.write_all.ensures.err
