-- Traces of steps, and of the steps that main opens.
use Rattle.std.proofs.Common.{◌≡◌, ℕ, suc, List, [], ◌∷◌, ◌++◌, Result, Ok, Err, refl, ap, ◌∙◌}
use Rattle.std.proofs.lemmas.Grind.{flat_map-append}
use Rattle.std.proofs.lemmas.List.{map-append}
use Rattle.cal_base.specs.declared.ends.StepFault.{StepFault}
use Rattle.cal_base.specs.Memory.{Memory}
use Rattle.cal_base.specs.Claims.{StepJob, size_of, meant}
use Rattle.cal_base.specs.Main.{Main, Ends, Shows, Opens, steps_of, steps_behind, IsNumbered}
use Rattle.step_laws.specs.Caller.{completed}
use Rattle.step_laws.specs.Closed.{ClosedStep, Each, IsWhole, jobs_in}
use Rattle.step_laws.proofs.Caller.{caller_completes}
use Rattle.run_report.specs.Logs.{TracedStep, Trace, log_text, step_log}
use Rattle.calypso_engine.specs.Traces.{IsStepOf, IsTraceOf, traced, trace_of}

-- ---- texts of logs

pub log_then : (a b : Trace) → log_text (a ++ b) ≡ log_text a ++ log_text b
log_then a b = flat_map-append step_log a b

pub log_traced : (closed more : List ClosedStep) → log_text (trace_of (closed ++ more)) ≡ log_text (trace_of closed) ++ log_text (trace_of more)
log_traced closed more = ap log_text (map-append traced closed more) ∙ log_then (trace_of closed) (trace_of more)

-- ---- traces

pub traces_then : (jobs more : List StepJob) (a b : Trace) → IsTraceOf jobs a → IsTraceOf more b → IsTraceOf (jobs ++ more) (a ++ b)
traces_then [] more [] b first second = second
traces_then [] more (s ∷ a) b first second = absurd first
traces_then (j ∷ jobs) more [] b first second = absurd first
traces_then (j ∷ jobs) more (s ∷ a) b first second = (first.0, traces_then jobs more a b first.1 second)

pub step_traced : (step : ClosedStep) → IsWhole step → IsStepOf step.job (traced step)
step_traced step whole = record { number = refl; size = refl; legal = whole.legal; complete = whole.complete }

pub closed_traced : (closed : List ClosedStep) → Each IsWhole closed → IsTraceOf (jobs_in closed) (trace_of closed)
closed_traced [] whole = tt
closed_traced (step ∷ closed) whole = (step_traced step whole.0, closed_traced closed whole.1)

-- ---- the steps that main opens have a trace: that in which the caller completes each

abbrev pub HasTrace : List StepJob → Type 0
HasTrace jobs = (trace : Trace) × IsTraceOf jobs trace

pub trace_behind : (r : Result Memory StepFault) (next : Memory → List StepJob) → ((later : Memory) → HasTrace (next later)) → HasTrace (steps_behind r next)
trace_behind (Ok later) next each = each later
trace_behind (Err fault) next each = ([], tt)

pub a_trace : (main : Main) (steps : ℕ) → IsNumbered steps main → HasTrace (steps_of main)
a_trace (Ends ending) steps numbered = ([], tt)
a_trace (Shows line main) steps numbered = a_trace main steps numbered
a_trace (Opens job next) steps numbered =
    let whole = caller_completes job [] tt (record { claims = refl; arrivals = refl }) numbered.1 in
    let rest = trace_behind (meant job) (λ later. steps_of (next later)) (λ later. a_trace (next later) (suc steps) (numbered.2 later)) in
    let step : TracedStep = record { number = job.number; size = size_of job; history = completed job [] } in
    (step ∷ rest.0, (record { number = refl; size = refl; legal = whole.0; complete = whole.1 }, rest.1))
