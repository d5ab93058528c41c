use Rattle.std.proofs.Common.{◌≡◌, false, Result, Ok, Err, OnOk, sym, ◌∙◌}
use Rattle.std.specs.Result.{is_err}
use Rattle.run_report.specs.Logs.{step_log}
use Rattle.calypso_engine.specs.Asked.{log_of}
use Rattle.calypso_engine.proofs.Logging.{logs_whole_front}
use Rattle.calypso_engine.proofs.telling.tell_step.Goals as goal

held_of : {T E P : Type 0} (r : Result T E) → OnOk r P → is_err r ≡ false → P
held_of (Ok value) h e = h
held_of (Err error) h e = absurd (cc)

pub returns-then-is_err-3-clause-log_front : goal.returns-then-is_err-3-clause-log_front
returns-then-is_err-3-clause-log_front g c =
    logs_whole_front (log_of c.args.options.now) (g.F.Files.holds c.args.files.now) (g.F.Files.holds c.log_step.new.files)
    (step_log (record { number = c.args.step; size = c.args.n; history = c.args.closed.now.history.items }))
    (held_of c.log_step.result c.log_step.ensures.ok (sym c.is_err.ensures.value ∙ c.if-is_err.false))
