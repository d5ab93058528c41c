-- What a whole run tells of its steps.
use Rattle.std.specs.Prelude.{◌≡◌, List}
use Rattle.std.specs.declared.option.Option.{Option}
use Rattle.cal_base.specs.declared.step.WorkerTally.{WorkerTally}
use Rattle.cal_base.specs.Claims.{StepJob}
use Rattle.cal_base.specs.Contents.{Contents, Told}
use Rattle.run_report.specs.Logs.{Trace, log_text}
use Rattle.calypso_engine.specs.Asked.{log_of}
use Rattle.calypso_engine.specs.Logs.{Logs}
use Rattle.calypso_engine.specs.Traces.{IsTraceOf, Tallies, in_order, AreTalliesOf, FollowScript, Agree}
use Rattle.calypso_engine.specs.declared.options.RunOptions.{RunOptions}

-- the steps were closed by legal and complete histories, which went to the log where one is named; the tallies follow the script and agree with them
pub record TellsRun (jobs : List StepJob) (options : RunOptions) (report : List WorkerTally) (held holds : Option Contents) : Type 0 where
  pub trace : Trace
  pub tallies : Tallies
  pub traced : IsTraceOf jobs trace
  pub logged : Told held holds (Logs (log_of options) (log_text trace))
  pub order : report ≡ in_order tallies
  pub workers : AreTalliesOf options.workers tallies
  pub follow : FollowScript options.script.now tallies
  pub agree : Agree trace tallies
