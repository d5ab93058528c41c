-- What a run promises follows from what its log and its work ensure, behind its loads.
use Rattle.std.proofs.Common.{◌≡◌, ◌≤◌, ℕ, List, [], Option, Some, None, refl, sym, ap, ◌∙◌, subst, inl, inr}
use Rattle.std.specs.List.{Contains}
use Rattle.std.specs.Io.{StartsWith}
use Rattle.std.specs.Io.KnownBytes.{Appends}
use Rattle.std.proofs.Math.Seq.{take-length}
use Rattle.cal_base.specs.Causes.{Rose}
use Rattle.cal_base.specs.Contents.{Contents, Told, SameFiles, SameOthers, AppendsPrefix}
use Rattle.fault_script.specs.Rows.{Row}
use Rattle.run_report.specs.Logs.{Trace, log_text}
use Rattle.run_report.proofs.Fronts.{whole_front}
use Rattle.command_words.specs.Commands.{Flags, Command}
use Rattle.calypso_cli.specs.Endings.{files, out, failed, Ending, cannot_write, no_memory, output_failed, kind_of, IsBeforeWork}
use Rattle.calypso_cli.specs.Outcomes.{Sight, creates, Outcome, Work}
use Rattle.calypso_cli.specs.Commands.{IsWritten, WritesOut, CanEnd, ComesTo, Writes, MayReport, Reports, ReportsRun}
use Rattle.calypso_cli.specs.Steps as step
use Rattle.calypso_cli.specs.Steps.{HoldsLogFront, KeepsLogFront, KeepsLog, EndsRun}
use Rattle.calypso_cli.specs.Promise.{Objects, Worked, WasTurnedAway, as_it_comes, for_memory, at_a_file, at_out, Touches, HoldsWritten, HoldsFront, as_before, nothing, front_of, HoldsFronts}
use Rattle.calypso_cli.specs.Promise.{EndsByItself, CanWork, RunsAs, OnSight, Sees, Works}
use Rattle.calypso_cli.proofs.Kept.{itself_not, itself_no_fault, worked_not_away, worked_not_failed, before_not_worked, files_not_out, out_not_files, apart, quiet_not_rose, caused}
use Rattle.calypso_cli.proofs.Written.{told_as, rose_behind}
use Rattle.calypso_cli.proofs.Logged.{front_behind, whole_behind}

-- the text that the log gets, where one is named
abbrev pub text_in : Option (List ℕ) → List ℕ → List ℕ
text_in None text = []
text_in (Some log) text = text

-- what a command comes to, seen from its run: one outcome, which reaches its log; what it writes is its log, and what it reports is of its run
pub record RunsThere (command : Command) (flags : Flags) (rows : List Row) (IsTrace : Trace → Type 0) (work : Work) (told : Option Contents) : Type 0 where
  pub there : Outcome
  pub ends : there.ending ≡ work.ending
  pub text : there.text ≡ work.text
  pub sees : (sight : Sight) → Sees command told sight → told ≡ Some sight.files
  pub comes : (sight : Sight) → told ≡ Some sight.files → ComesTo command sight there
  pub only : (sight : Sight) → told ≡ Some sight.files → (outcome : Outcome) → ComesTo command sight outcome → outcome ≡ there
  pub reached : (log : List ℕ) → flags.log ≡ Some log → Contains there.reached (creates log)
  pub written : (name : List ℕ) → IsWritten command name → flags.log ≡ Some name
  pub is_written : (name : List ℕ) → flags.log ≡ Some name → IsWritten command name
  pub writes : (sight : Sight) → told ≡ Some sight.files → (trace : Trace) → IsTrace trace → Writes command sight trace (text_in flags.log (log_text trace))
  pub reports : (sight : Sight) → told ≡ Some sight.files → (trace : Trace) (report : List ℕ) → IsTrace trace → ReportsRun flags rows trace report → Reports command sight trace report
  pub may_report : (trace : Trace) (report : List ℕ) → ReportsRun flags rows trace report → MayReport command report
  pub writes_out : WritesOut command
  pub can_end : CanEnd command work.ending
  pub worked : Worked work.ending

-- every file but the log is as before
abbrev KeepsOthers : Option (List ℕ) → Contents → Contents → Type 0
KeepsOthers None old new = SameFiles old new
KeepsOthers (Some log) old new = SameOthers log old new

others_of_log : (text : List ℕ) (log : Option (List ℕ)) (m n : Contents) → KeepsLog text log m n → KeepsOthers log m n
others_of_log text None m n h = h
others_of_log text (Some log) m n h = h.others

others_of_front : (IsTrace : Trace → Type 0) (log : Option (List ℕ)) (m n : Contents) → KeepsLogFront IsTrace log m n → KeepsOthers log m n
others_of_front IsTrace None m n h = h
others_of_front IsTrace (Some log) m n h = h.1

-- what is not the log is as before
other_kept : (log : Option (List ℕ)) (m n : Contents) → KeepsOthers log m n → (name : List ℕ) → (log ≡ Some name → ⊥) → n name ≡ m name
other_kept None m n h name apart_so = h name
other_kept (Some log) m n h name apart_so = h name (λ e. apart_so (ap Some (sym e)))

-- the log holds the text
log_held : (text : List ℕ) (log : Option (List ℕ)) (m n : Contents) → KeepsLog text log m n → (name : List ℕ) → log ≡ Some name → n name ≡ Some (text_in log text)
log_held text None m n h name e = absurd (cc)
log_held text (Some log) m n h name e = let same : name ≡ log = cc in ap n same ∙ h.here

module _ (command : Command) (flags : Flags) (rows : List Row) (IsTrace : Trace → Type 0) (work : Work) (before after : Objects) (run : RunsThere command flags rows IsTrace work before.files) where
  touched : (ending : Ending) → (WasTurnedAway ending → ⊥) → (a b : Option Contents) → Told a b (KeepsOthers flags.log) → Told a b (Touches command ending)
  touched ending stays None b h = tt
  touched ending stays (Some m) None h = absurd h
  touched ending stays (Some m) (Some n) h = record {
    others = λ name no. other_kept flags.log m n h name (λ e. no (run.is_written name e));
    turned_away = λ away. absurd (stays away);
  }

  -- the file that is written holds the text
  all_held : (trace : Trace) (sight : Sight) → (o : Option Contents) → Told (Some sight.files) o (KeepsLog (log_text trace) flags.log) → HoldsWritten command o (text_in flags.log (log_text trace))
  all_held trace sight None h = tt
  all_held trace sight (Some contents) h = λ name is. log_held (log_text trace) flags.log sight.files contents h name (run.written name is)

  -- a text that the log may hold
  log_text_written : (sight : Sight) → before.files ≡ Some sight.files → (trace : Trace) → IsTrace trace → (name : List ℕ) → flags.log ≡ Some name → Writes command sight trace (log_text trace)
  log_text_written sight is trace traced name e = subst (λ o. Writes command sight trace (text_in o (log_text trace))) e (run.writes sight is trace traced)

  whole_log : (trace : Trace) → IsTrace trace → (sight : Sight) → before.files ≡ Some sight.files → (o : Option Contents) → Told (Some sight.files) o (KeepsLog (log_text trace) flags.log)
      → HoldsFronts command sight o
  whole_log trace traced sight is None h = tt
  whole_log trace traced sight is (Some contents) h = λ name written.
      let e : flags.log ≡ Some name = run.written name written in
      let held : contents name ≡ Some (log_text trace) = log_held (log_text trace) flags.log sight.files contents h name e ∙ ap (λ o. Some (text_in o (log_text trace))) e in
      subst (HoldsFront command sight name) (sym held) (front_of trace (log_text trace) (log_text trace) (log_text_written sight is trace traced name e) (take-length (log_text trace)))

  -- a front of the log
  one_front : (sight : Sight) → before.files ≡ Some sight.files → (name : List ℕ) → flags.log ≡ Some name → {o : Option (List ℕ)} → HoldsLogFront IsTrace (sight.files name) o
      → HoldsFront command sight name o
  one_front sight is name e step.kept = as_before
  one_front sight is name e step.emptied = nothing
  one_front sight is name e (step.front trace text traced starts) = front_of trace (log_text trace) text (log_text_written sight is trace traced name e) starts

  some_front : (sight : Sight) → before.files ≡ Some sight.files → (contents : Contents) (name : List ℕ) (log : Option (List ℕ)) → log ≡ flags.log → log ≡ Some name
      → KeepsLogFront IsTrace log sight.files contents
      → HoldsFront command sight name (contents name)
  some_front sight is contents name None same e h = absurd (cc)
  some_front sight is contents name (Some log) same e h =
      let here : log ≡ name = cc in
      one_front sight is name (sym same ∙ e) (subst (λ l. HoldsLogFront IsTrace (sight.files l) (contents l)) here h.0)

  fronts : (sight : Sight) → before.files ≡ Some sight.files → (o : Option Contents) → Told (Some sight.files) o (KeepsLogFront IsTrace flags.log) → HoldsFronts command sight o
  fronts sight is None h = tt
  fronts sight is (Some contents) h = λ name written. some_front sight is contents name flags.log refl (run.written name written) h

  can_work : (sight : Sight) → before.files ≡ Some sight.files → CanWork command sight
  can_work sight is = (run.there, run.comes sight is, subst Worked (sym run.ends) run.worked)

  text_of : (outcome : Outcome) → outcome ≡ run.there → work.text ≡ outcome.text
  text_of outcome e = sym (ap (λ o. o.text) e ∙ run.text)

  ending_of : (outcome : Outcome) → outcome ≡ run.there → work.ending ≡ outcome.ending
  ending_of outcome e = sym (ap (λ o. o.ending) e ∙ run.ends)

  -- what is told of the files, where the run gave up
  gave_up : (ending : Ending) → (EndsByItself ending → ⊥) → (Worked ending → ⊥) → Told before.files after.files (KeepsLogFront IsTrace flags.log)
      → ((sight : Sight) → before.files ≡ Some sight.files → (outcome : Outcome) → ComesTo command sight outcome → RunsAs outcome before after ending)
      → (sight : Sight) → Sees command before.files sight → OnSight command sight before after ending []
  gave_up ending not_itself idle left runs sight sees = let is : before.files ≡ Some sight.files = run.sees sight sees in record {
    comes = λ itself. absurd (not_itself itself);
    fails = λ f. can_work sight is;
    wrote = inr (can_work sight is);
    runs = runs sight is;
    tells = λ did. absurd (idle did);
    fronts = fronts sight is after.files (subst (λ a. Told a after.files (KeepsLogFront IsTrace flags.log)) is left);
  }

  -- how the run ended the call
  pub works_run : {ending : Ending} {report : List ℕ} → EndsRun IsTrace work flags rows before after ending report → Works command before after ending report
  works_run (step.ran trace report traced wrote logged reported) = record {
    can_end = run.can_end;
    causes = λ part f. absurd (worked_not_failed (kind_of work.ending) part run.worked f);
    reports = λ did. run.may_report trace report reported;
    silent = λ no. absurd (no run.worked);
    unwritten = λ h. absurd (before_not_worked work.ending h run.worked);
    out_kept = λ h. absurd (h run.writes_out);
    files = touched work.ending (λ away. worked_not_away (kind_of work.ending) run.worked away) before.files after.files
        (told_as before.files after.files (KeepsLog (log_text trace) flags.log) (KeepsOthers flags.log) (others_of_log (log_text trace) flags.log) logged);
    told = λ sight sees. let is : before.files ≡ Some sight.files = run.sees sight sees in
        let here : Told (Some sight.files) after.files (KeepsLog (log_text trace) flags.log) = subst (λ a. Told a after.files (KeepsLog (log_text trace) flags.log)) is logged in
        record {
          comes = λ itself. (run.there, run.comes sight is, sym run.ends);
          fails = λ f. can_work sight is;
          wrote = inr (can_work sight is);
          runs = λ outcome goes. let e : outcome ≡ run.there = run.only sight is outcome goes in
              let whole : Appends before.out after.out outcome.text = subst (Appends before.out after.out) (text_of outcome e) wrote in
              record {
                ends = as_it_comes work.ending (ending_of outcome e);
                text = λ did. whole;
                front = whole_front before.out after.out outcome.text whole;
                complete = λ quiet. inr (ending_of outcome e);
              };
          tells = λ did. record {
            trace = trace;
            text = text_in flags.log (log_text trace);
            writes = run.writes sight is trace traced;
            reports = run.reports sight is trace report traced reported;
            holds = all_held trace sight after.files here;
          };
          fronts = whole_log trace traced sight is after.files here;
        };
  }
  works_run (step.no_room front left) = record {
    can_end = tt;
    causes = λ part f. absurd (cc);
    reports = λ did. absurd (cc);
    silent = λ no. refl;
    unwritten = λ h. absurd h;
    out_kept = λ h. absurd (h run.writes_out);
    files = touched no_memory (λ away. cc) before.files after.files (told_as before.files after.files (KeepsLogFront IsTrace flags.log) (KeepsOthers flags.log) (others_of_front IsTrace flags.log)
        left);
    told = gave_up no_memory (λ itself. itself_not (kind_of no_memory) itself refl) (λ did. cc) left
        (λ sight is outcome goes. record {
          ends = for_memory;
          text = λ did. absurd (cc);
          front = subst (AppendsPrefix before.out after.out) (text_of outcome (run.only sight is outcome goes)) front;
          complete = λ quiet. inl refl;
        });
  }
  works_run (step.out_failed rose front left) = record {
    can_end = run.writes_out;
    causes = λ part f. caused before after out part rose (out_not_files part f);
    reports = λ did. absurd (cc);
    silent = λ no. refl;
    unwritten = λ h. absurd h;
    out_kept = λ h. absurd (h run.writes_out);
    files = touched output_failed (λ away. cc) before.files after.files (told_as before.files after.files (KeepsLogFront IsTrace flags.log) (KeepsOthers flags.log) (others_of_front IsTrace flags.log)
        left);
    told = gave_up output_failed (λ itself. itself_no_fault (failed out) out itself refl) (λ did. cc) left
        (λ sight is outcome goes. let e : outcome ≡ run.there = run.only sight is outcome goes in
        record {
          ends = at_out (subst Worked (ending_of outcome e) run.worked);
          text = λ did. absurd (cc);
          front = subst (AppendsPrefix before.out after.out) (text_of outcome e) front;
          complete = λ quiet. absurd (quiet_not_rose before.out_faults after.out_faults (quiet out) rose);
        });
  }
  works_run (step.log_failed log named rose front left) = record {
    can_end = run.is_written log named;
    causes = λ part f. caused before after files part rose (files_not_out part f);
    reports = λ did. absurd (cc);
    silent = λ no. refl;
    unwritten = λ h. absurd h;
    out_kept = λ h. absurd (h run.writes_out);
    files = touched (cannot_write log) (λ away. cc) before.files after.files (told_as before.files after.files (KeepsLogFront IsTrace flags.log) (KeepsOthers flags.log)
        (others_of_front IsTrace flags.log) left);
    told = gave_up (cannot_write log) (λ itself. itself_no_fault (failed files) files itself refl) (λ did. cc) left
        (λ sight is outcome goes. let e : outcome ≡ run.there = run.only sight is outcome goes in
        record {
          ends = at_a_file (creates log) (subst (λ l. Contains l (creates log)) (sym (ap (λ o. o.reached) e)) (run.reached log named));
          text = λ did. absurd (cc);
          front = subst (AppendsPrefix before.out after.out) (text_of outcome e) front;
          complete = λ quiet. absurd (quiet_not_rose before.file_faults after.file_faults (quiet files) rose);
        });
  }

-- a run behind a load that left the files as they were
pub ends_behind : (IsTrace : Trace → Type 0) (work : Work) (flags : Flags) (rows : List Row) (held : Option Contents) (held_faults : ℕ) (mid after : Objects) → Told held mid.files SameFiles
    → held_faults ≤ mid.file_faults → {ending : Ending} {report : List ℕ} → EndsRun IsTrace work flags rows mid after ending report
    → EndsRun IsTrace work flags rows (record { files = held; out = mid.out; file_faults = held_faults; out_faults = mid.out_faults }) after ending report
ends_behind IsTrace work flags rows held held_faults mid after same later (step.ran trace report traced wrote logged reported) =
    step.ran trace report traced wrote (whole_behind (log_text trace) flags.log held mid.files after.files same logged) reported
ends_behind IsTrace work flags rows held held_faults mid after same later (step.no_room front left) =
    step.no_room front (front_behind IsTrace flags.log held mid.files after.files same left)
ends_behind IsTrace work flags rows held held_faults mid after same later (step.out_failed rose front left) =
    step.out_failed rose front (front_behind IsTrace flags.log held mid.files after.files same left)
ends_behind IsTrace work flags rows held held_faults mid after same later (step.log_failed log named rose front left) =
    step.log_failed log named (rose_behind held_faults mid.file_faults after.file_faults later rose) front (front_behind IsTrace flags.log held mid.files after.files same left)
