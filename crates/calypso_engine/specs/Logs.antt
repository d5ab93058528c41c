-- What a run adds to its log, and what of a log is left where it gives up.
use Rattle.std.specs.Prelude.{ℕ, List, Option, None, Some}
use Rattle.cal_base.specs.Contents.{Contents, Told, SameFiles, AppendsTo, AppendsPrefixTo}
use Rattle.cal_base.specs.Claims.{StepJob}
use Rattle.run_report.specs.Logs.{Trace, log_text}
use Rattle.calypso_engine.specs.Traces.{IsTraceOf}

-- where a log is named the text went to its end, and every other file is as before
abbrev pub Logs : Option (List ℕ) → List ℕ → Contents → Contents → Type 0
Logs None text = SameFiles
Logs (Some name) text = AppendsTo name text

-- where a log is named a front of the text went to its end, and every other file is as before
abbrev pub LogsFront : Option (List ℕ) → List ℕ → Contents → Contents → Type 0
LogsFront None text = SameFiles
LogsFront (Some name) text = AppendsPrefixTo name text

-- the log got a front of the text of some trace of these steps
pub record LogsFrontOf (jobs : List StepJob) (log : Option (List ℕ)) (held holds : Option Contents) : Type 0 where
  pub trace : Trace
  pub traced : IsTraceOf jobs trace
  pub front : Told held holds (LogsFront log (log_text trace))
