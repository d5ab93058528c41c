-- What the log holds behind its creation and the run.
use Rattle.std.proofs.Common.{◌≡◌, ◌⊎◌, ◌++◌, List, ℕ, [], Option, Some, None, Bor, IfSome, option_map, refl, sym, ap, ◌∙◌, subst, inl, inr}
use Rattle.std.specs.Prelude.{unwrap_or}
use Rattle.std.specs.Io.{StartsWith}
use Rattle.cal_base.specs.Contents.{Contents, Told, SameFiles, Empties, KeepsOrEmpties, AppendsTo, AppendsPrefixTo}
use Rattle.run_report.specs.Logs.{Trace, log_text}
use Rattle.calypso_engine.specs.Logs.{Logs, LogsFront}
use Rattle.calypso_cli.specs.Steps as step
use Rattle.calypso_cli.specs.Steps.{HoldsLogFront, KeepsLogFront, EmptiesLog, KeepsLog}
use Rattle.calypso_cli.proofs.Written.{told_then, told_as, same_same}

-- the whole text, behind the creation
logs_all : (text : List ℕ) (log : Option (List ℕ)) (m n k : Contents) → EmptiesLog log m n → Logs log text n k → KeepsLog text log m k
logs_all text None m n k h r = same_same m n k h r
logs_all text (Some log) m n k h r = record {
  here = r.here ∙ ap (λ old. Some (unwrap_or old [] ++ text)) h.here;
  others = λ other no. r.others other no ∙ h.others other no;
}

pub log_written : (text : List ℕ) (log : Option (List ℕ)) (a b c : Option Contents) → Told a b (EmptiesLog log) → Told b c (Logs log text) → Told a c (KeepsLog text log)
log_written text log a b c h k = told_then a b c (EmptiesLog log) (Logs log text) (KeepsLog text log) h k (logs_all text log)

-- a front of it
logs_some : (IsTrace : Trace → Type 0) (trace : Trace) → IsTrace trace → (log : Option (List ℕ)) (m n k : Contents) → EmptiesLog log m n → LogsFront log (log_text trace) n k
    → KeepsLogFront IsTrace log m k
logs_some IsTrace trace traced None m n k h r = same_same m n k h r
logs_some IsTrace trace traced (Some log) m n k h r = (
  subst (HoldsLogFront IsTrace (m log)) (sym (r.2.here ∙ ap (λ old. Some (unwrap_or old [] ++ r.0)) h.here)) (step.front trace r.0 traced r.1),
  λ other no. r.2.others other no ∙ h.others other no,
)

pub log_left : (IsTrace : Trace → Type 0) (log : Option (List ℕ)) (a b c : Option Contents) → Told a b (EmptiesLog log) → (trace : Trace) → IsTrace trace → Told b c (LogsFront log (log_text trace))
    → Told a c (KeepsLogFront IsTrace log)
log_left IsTrace log a b c h trace traced front = told_then a b c (EmptiesLog log) (LogsFront log (log_text trace)) (KeepsLogFront IsTrace log) h front (logs_some IsTrace trace traced log)

-- a log that was not created
kept_or_empty : (IsTrace : Trace → Type 0) (log : List ℕ) (m n : Contents) → (n log ≡ m log) ⊎ (n log ≡ Some []) → HoldsLogFront IsTrace (m log) (n log)
kept_or_empty IsTrace log m n (inl e) = subst (HoldsLogFront IsTrace (m log)) (sym e) step.kept
kept_or_empty IsTrace log m n (inr e) = subst (HoldsLogFront IsTrace (m log)) (sym e) step.emptied

not_created : (IsTrace : Trace → Type 0) (log : List ℕ) (m n : Contents) → KeepsOrEmpties log m n → KeepsLogFront IsTrace (Some log) m n
not_created IsTrace log m n h = (kept_or_empty IsTrace log m n h.here, h.others)

pub log_not_created : (IsTrace : Trace → Type 0) (log : List ℕ) (a b : Option Contents) → Told a b (KeepsOrEmpties log) → Told a b (KeepsLogFront IsTrace (Some log))
log_not_created IsTrace log a b h = told_as a b (KeepsOrEmpties log) (KeepsLogFront IsTrace (Some log)) (not_created IsTrace log) h

-- no log was reached
same_front : (IsTrace : Trace → Type 0) (log : Option (List ℕ)) (m n : Contents) → SameFiles m n → KeepsLogFront IsTrace log m n
same_front IsTrace None m n h = h
same_front IsTrace (Some log) m n h = (subst (HoldsLogFront IsTrace (m log)) (sym (h log)) step.kept, λ other no. h other)

pub log_as_before : (IsTrace : Trace → Type 0) (log : Option (List ℕ)) (a b : Option Contents) → Told a b SameFiles → Told a b (KeepsLogFront IsTrace log)
log_as_before IsTrace log a b h = told_as a b SameFiles (KeepsLogFront IsTrace log) (same_front IsTrace log) h

-- a load before all
behind_same : (IsTrace : Trace → Type 0) (log : Option (List ℕ)) (m n k : Contents) → SameFiles m n → KeepsLogFront IsTrace log n k → KeepsLogFront IsTrace log m k
behind_same IsTrace None m n k h r = same_same m n k h r
behind_same IsTrace (Some log) m n k h r = (subst (λ was. HoldsLogFront IsTrace was (k log)) (h log) r.0, λ other no. r.1 other no ∙ h other)

pub front_behind : (IsTrace : Trace → Type 0) (log : Option (List ℕ)) (a b c : Option Contents) → Told a b SameFiles → Told b c (KeepsLogFront IsTrace log) → Told a c (KeepsLogFront IsTrace log)
front_behind IsTrace log a b c h k = told_then a b c SameFiles (KeepsLogFront IsTrace log) (KeepsLogFront IsTrace log) h k (behind_same IsTrace log)

all_behind : (text : List ℕ) (log : Option (List ℕ)) (m n k : Contents) → SameFiles m n → KeepsLog text log n k → KeepsLog text log m k
all_behind text None m n k h r = same_same m n k h r
all_behind text (Some log) m n k h r = record { here = r.here; others = λ other no. r.others other no ∙ h other }

pub whole_behind : (text : List ℕ) (log : Option (List ℕ)) (a b c : Option Contents) → Told a b SameFiles → Told b c (KeepsLog text log) → Told a c (KeepsLog text log)
whole_behind text log a b c h k = told_then a b c SameFiles (KeepsLog text log) (KeepsLog text log) h k (all_behind text log)

-- a log that may be written, by the bytes of its name
pub may_log : (May : List ℕ → Type 0) (log : Option (Bor (List ℕ))) (named : Option (List ℕ)) → option_map (λ name. name.now) log ≡ named → ((name : List ℕ) → named ≡ Some name → May name)
    → IfSome log (λ name. May name.now)
may_log May None named e may = tt
may_log May (Some name) named e may = may name.now (sym e)
