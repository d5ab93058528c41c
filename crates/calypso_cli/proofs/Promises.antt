-- The promise of the top call follows from what carrying out the command ensures.
use Rattle.std.proofs.Common.{◌≡◌, ◌⊎◌, ◌≤◌, ◌++◌, ℕ, Bool, true, false, List, [], Option, Some, None, if◌then◌else◌, refl, sym, ap, ◌∙◌, subst, arith, inl, inr, append-nil}
use Rattle.std.proofs.KnownBytes.{Appends-nil}
use Rattle.cal_base.specs.declared.ends.RunEnd.{RunEnd}
use Rattle.cal_base.specs.declared.ends.RunEnd.TheVariants.{Done, MainFault, StepFailed}
use Rattle.cal_base.specs.Contents.{Contents, Told, SameFiles}
use Rattle.csl_meaning.specs.Meaning.{meaning}
use Rattle.bytecode.specs.declared.module.Module.{Module}
use Rattle.command_words.specs.Commands.{Command, check, eval}
use Rattle.calypso_cli.specs.Endings.{Part, files, out, Ending, done, no_command, cannot_load, cannot_write, refused, fault, no_memory, output_failed, script_refused, events_refused, too_long}
use Rattle.calypso_cli.specs.Endings.{module_refused, kind_of, status_of, err_text}
use Rattle.csl_tree.specs.declared.program.Program.{Program}
use Rattle.csl_grammar.specs.Texts.{text_limit}
use Rattle.csl_reader.proofs.OneWay.{read_one_way}
use Rattle.csl_reader.specs.Readings.{IsRead}
use Rattle.csl_reader.specs.Readings as reading
use Rattle.calypso_cli.specs.Steps.{Holds, ReadsAs, IsRefusal, Spells, IsModuleRefusal, StopsLoad, EndsWork}
use Rattle.calypso_cli.specs.Outcomes.{Sight, Outcome, Work, Does}
use Rattle.calypso_cli.specs.Commands.{IsLoaded, LoadsProgram, LoadsModule, CanEnd, RunsProgram, IsRefusedText, IsModule, IsNoModule, module_limit, WithProgram, WithModule, ComesTo, ended, usual_fuel}
use Rattle.calypso_cli.specs.Commands.{run_of, check_of}
use Rattle.calypso_cli.specs.Promise.{Objects, Outside, faults_of, CountsStay, Worked, for_memory, Touches, HoldsFront, as_before, HoldsFronts, Sees, Gets, Works, DoesCommand, DoesNothing}
use Rattle.calypso_cli.specs.Promise.{KeepsPromise, MayUse, MayDo}
use Rattle.calypso_cli.proofs.Kept.{LoadsFirst, LoadsOne, does_stop, does_work, itself_not}
use Rattle.calypso_cli.proofs.Readings.{programs_once, modules_once, one_module}

-- files that no call touched hold what they held
pub same_files : (o : Option Contents) → Told o o SameFiles
same_files None = tt
same_files (Some contents) = λ name. refl

-- a run ends as it can, and did its work
pub run_can_end : (command : Command) → RunsProgram command → (e : RunEnd) → CanEnd command (ended e)
run_can_end command runs (Done steps) = tt
run_can_end command runs (MainFault after cause) = (runs, refl)
run_can_end command runs (StepFailed step failure) = (runs, refl)

pub run_worked : (e : RunEnd) → Worked (ended e)
run_worked (Done steps) = refl
run_worked (MainFault after cause) = refl
run_worked (StepFailed step failure) = refl

-- ---- the commands that load one program

-- a command that loads a program first
pub loads_program : (command : Command) (file : List ℕ) (Next : Sight → Program → Outcome → Type 0)
    → ((sight : Sight) (outcome : Outcome) → ComesTo command sight outcome → WithProgram sight file (Next sight) outcome)
    → ((sight : Sight) (outcome : Outcome) → WithProgram sight file (Next sight) outcome → ComesTo command sight outcome)
    → IsLoaded command file → LoadsProgram command
    → LoadsFirst command file text_limit (λ bytes p. IsRead bytes (reading.accepted p)) IsRefusal IsRefusedText Next
loads_program command file Next comes back loaded_by program = record {
  once = programs_once read_one_way;
  comes = comes;
  back = back;
  loaded_by = loaded_by;
  turns = λ ending h. ap kind_of h.2;
  can_turn = λ ending h. subst (CanEnd command) (sym h.2) program;
}

-- a command that loads a module first
pub loads_module : (command : Command) (file : List ℕ) (Next : Sight → Module → Outcome → Type 0)
    → ((sight : Sight) (outcome : Outcome) → ComesTo command sight outcome → WithModule sight file (Next sight) outcome)
    → ((sight : Sight) (outcome : Outcome) → WithModule sight file (Next sight) outcome → ComesTo command sight outcome)
    → IsLoaded command file → LoadsModule command
    → LoadsFirst command file module_limit IsModule IsModuleRefusal IsNoModule Next
loads_module command file Next comes back loaded_by is_module = record {
  once = modules_once one_module;
  comes = comes;
  back = back;
  loaded_by = loaded_by;
  turns = λ ending h. ap kind_of h;
  can_turn = λ ending h. subst (CanEnd command) (sym h) is_module;
}

-- what is done with the program of a file, and nothing else
abbrev pub WorksOn : Command → List ℕ → (Program → Work) → Type 0
WorksOn command file work = LoadsOne command file text_limit (λ bytes p. IsRead bytes (reading.accepted p)) IsRefusal IsRefusedText work

pub loads_check : (file : List ℕ) → WorksOn (check file) file check_of
loads_check file = record {
  first = loads_program (check file) file (λ sight p. Does (check_of p)) (λ sight outcome h. h) (λ sight outcome h. h) refl tt;
  unwritten = λ name h. h;
  writes = λ sight. refl;
  reports = λ sight. refl;
  may_report = refl;
  writes_out = tt;
  can_work = λ p. tt;
  works = λ p. refl;
}

pub loads_eval : (file : List ℕ) → WorksOn (eval file) file (λ p. run_of false (meaning p usual_fuel))
loads_eval file = record {
  first = loads_program (eval file) file (λ sight p. Does (run_of false (meaning p usual_fuel))) (λ sight outcome h. h) (λ sight outcome h. h) refl tt;
  unwritten = λ name h. h;
  writes = λ sight. refl;
  reports = λ sight. refl;
  may_report = refl;
  writes_out = tt;
  can_work = λ p. run_can_end (eval file) tt (meaning p usual_fuel).ending;
  works = λ p. run_worked (meaning p usual_fuel).ending;
}

-- the load of the program ended the call
pub stops_on : (command : Command) (file : List ℕ) (work : Program → Work) → WorksOn command file work → (before after : Objects) → Told before.files after.files SameFiles → before.out ≡ after.out
    → {ending : Ending} → StopsLoad before.files file text_limit IsRefusal IsRefusedText before.file_faults after.file_faults ending → Works command before after ending []
stops_on command file work one before after same kept stops =
    does_stop command file text_limit (λ bytes p. IsRead bytes (reading.accepted p)) IsRefusal IsRefusedText (λ sight p. Does (work p)) one.first before after same kept stops

-- the work on the program ended the call
pub works_on : (command : Command) (file : List ℕ) (work : Program → Work) → WorksOn command file work → (before after : Objects) → Told before.files after.files SameFiles → (p : Program)
    → Holds before.files file (ReadsAs (reading.accepted p)) → {ending : Ending} → EndsWork (work p) before.out after.out before.out_faults after.out_faults ending
    → Works command before after ending []
works_on command file work one before after same p holds ends =
    does_work command file text_limit (λ bytes p. IsRead bytes (reading.accepted p)) IsRefusal IsRefusedText work one before after same p holds ends

-- ---- nothing was done

old_front : (command : Command) (sight : Sight) (contents : Contents) → Some contents ≡ Some sight.files → (name : List ℕ) → HoldsFront command sight name (contents name)
old_front command sight contents e name = let same : sight.files ≡ contents = cc in subst (λ c. HoldsFront command sight name (c name)) same as_before

old_fronts : (command : Command) (sight : Sight) (told : Option Contents) → Sees command told sight → HoldsFronts command sight told
old_fronts command sight None sees = tt
old_fronts command sight (Some contents) (inl is) = λ name written. old_front command sight contents is name
old_fronts command sight (Some contents) (inr (none, loads_none)) = absurd (cc)

untouched : (command : Command) (ending : Ending) (o : Option Contents) → Told o o (Touches command ending)
untouched command ending None = tt
untouched command ending (Some contents) = record { others = λ name no. refl; turned_away = λ away name. refl }

-- memory was wanted before anything was done
pub works_nothing : (command : Command) (objects : Objects) → Works command objects objects no_memory []
works_nothing command objects = record {
  can_end = tt;
  causes = λ part f. absurd (cc);
  reports = λ did. absurd (cc);
  silent = λ no. refl;
  unwritten = λ h. absurd h;
  out_kept = λ h. Appends-nil objects.out;
  files = untouched command no_memory objects.files;
  told = λ sight sees. record {
    comes = λ itself. absurd (itself_not (kind_of no_memory) itself refl);
    fails = λ f. absurd (cc);
    wrote = inl (Appends-nil objects.out);
    runs = λ outcome goes. record {
      ends = for_memory;
      text = λ did. absurd (cc);
      front = ([], refl, Appends-nil objects.out);
      complete = λ quiet. inl refl;
    };
    tells = λ did. absurd (cc);
    fronts = old_fronts command sight objects.files sees;
  };
}

-- ---- promises

-- no command ends with the status of no command
not_two : (command : Command) (ending : Ending) → CanEnd command ending → status_of ending ≡ 2 → ⊥
not_two command done h two = omega (arith, two)
not_two command no_command h two = h
not_two command (cannot_load name) h two = omega (arith, two)
not_two command (cannot_write name) h two = omega (arith, two)
not_two command (refused at why) h two = omega (arith, two)
not_two command (fault ending) h two = omega (arith, two)
not_two command no_memory h two = omega (arith, two)
not_two command output_failed h two = omega (arith, two)
not_two command script_refused h two = omega (arith, two)
not_two command (events_refused number) h two = omega (arith, two)
not_two command (too_long name) h two = omega (arith, two)
not_two command module_refused h two = omega (arith, two)

same_command : (one two : Command) (o : Option Command) → o ≡ Some one → o ≡ Some two → one ≡ two
same_command one two o e f = cc

not_none : (command : Command) (o : Option Command) → o ≡ Some command → o ≡ None → ⊥
not_none command o e f = cc

does : (command : Command) (before after : Outside) (status : ℕ) (ending : Ending) (report : List ℕ) → Works command before.objects after.objects ending report
    → Gets before.err after.err before.err_faults after.err_faults (err_text ending ++ report) → status ≡ status_of ending → DoesCommand command before after status
does command before after status ending report works line answers = record { ending = ending; report = report; answers = answers; line = line; works = works }

-- the line alone, where nothing is reported
alone : (a b : Option (List ℕ)) (f g : ℕ) (ending : Ending) → Gets a b f g (err_text ending) → Gets a b f g (err_text ending ++ [])
alone a b f g ending line = subst (Gets a b f g) (sym (append-nil (err_text ending))) line

-- no count fell
pub counts_stay : (before after : Outside) → before.objects.file_faults ≤ after.objects.file_faults → before.objects.out_faults ≤ after.objects.out_faults
    → before.err_faults ≤ after.err_faults → CountsStay before after
counts_stay before after a b c = record { parts = by; err = c } where
  by : (part : Part) → faults_of part before.objects ≤ faults_of part after.objects
  by files = a
  by out = b

-- there is a command, and it was carried out
promise_of_command : (given : Option Command) (before after : Outside) (status : ℕ) (command : Command) (ending : Ending) (report : List ℕ) → given ≡ Some command
    → Works command before.objects after.objects ending report → Gets before.err after.err before.err_faults after.err_faults (err_text ending ++ report)
    → status ≡ status_of ending → CountsStay before after → KeepsPromise given before after status
promise_of_command given before after status command ending report is works line answers counts = record {
  only_no_command = λ two. absurd (not_two command ending works.can_end (sym answers ∙ two));
  no_command = λ none. absurd (not_none command given is none);
  nothing = λ none. absurd (not_none command given is none);
  command = λ other also. subst (λ k. DoesCommand k before after status) (same_command command other given is also)
      (does command before after status ending report works line answers);
  counts = counts;
}

-- the same with err changed and nothing else
abbrev pub with_err : Objects → Option (List ℕ) → ℕ → Outside
with_err objects err err_faults = record { objects = objects; err = err; err_faults = err_faults }

nothing_done : (objects : Objects) (before_err after_err : Option (List ℕ)) (before_faults after_faults status : ℕ) (ending : Ending) → (ending ≡ no_command) ⊎ (ending ≡ no_memory)
    → Gets before_err after_err before_faults after_faults (err_text ending) → status ≡ status_of ending
    → DoesNothing (with_err objects before_err before_faults) (with_err objects after_err after_faults) status
nothing_done objects before_err after_err before_faults after_faults status ending why line answers = record {
  ending = ending;
  why = why;
  answers = answers;
  line = line;
  out = Appends-nil objects.out;
  files = same_files objects.files;
}

err_counts : (objects : Objects) (before_err after_err : Option (List ℕ)) (before_faults after_faults : ℕ) → before_faults ≤ after_faults
    → CountsStay (with_err objects before_err before_faults) (with_err objects after_err after_faults)
err_counts objects before_err after_err before_faults after_faults later =
    counts_stay (with_err objects before_err before_faults) (with_err objects after_err after_faults) (omega arith) (omega arith) later

-- there is no command
pub promise_of_none : (given : Option Command) (objects : Objects) (before_err after_err : Option (List ℕ)) (before_faults after_faults status : ℕ) → given ≡ None
    → Gets before_err after_err before_faults after_faults (err_text no_command) → status ≡ 2 → before_faults ≤ after_faults
    → KeepsPromise given (with_err objects before_err before_faults) (with_err objects after_err after_faults) status
promise_of_none given objects before_err after_err before_faults after_faults status none line two later = record {
  only_no_command = λ h. none;
  no_command = λ h. inl two;
  nothing = λ h. nothing_done objects before_err after_err before_faults after_faults status no_command (inl refl) line two;
  command = λ command is. absurd (not_none command given is none);
  counts = err_counts objects before_err after_err before_faults after_faults later;
}

-- memory was wanted to read the words
pub promise_of_no_memory : (given : Option Command) (objects : Objects) (before_err after_err : Option (List ℕ)) (before_faults after_faults status : ℕ)
    → Gets before_err after_err before_faults after_faults (err_text no_memory) → status ≡ 6 → before_faults ≤ after_faults
    → KeepsPromise given (with_err objects before_err before_faults) (with_err objects after_err after_faults) status
promise_of_no_memory given objects before_err after_err before_faults after_faults status line six later = record {
  only_no_command = λ two. absurd (omega (arith, two, six));
  no_command = λ h. inr six;
  nothing = λ h. nothing_done objects before_err after_err before_faults after_faults status no_memory (inr refl) line six;
  command = λ command is. does command (with_err objects before_err before_faults) (with_err objects after_err after_faults) status no_memory [] (works_nothing command objects)
      (alone before_err after_err before_faults after_faults no_memory line) six;
  counts = err_counts objects before_err after_err before_faults after_faults later;
}

-- what a command may use
pub may_use : (may_load may_write : List ℕ → Type 0) (command : Command) → MayDo may_load may_write (Some command) → MayUse may_load may_write command
may_use may_load may_write command may = may command refl

-- a command was carried out, and reported this
pub promise_of_run : (before after : Outside) (status : ℕ) (command : Command) (ending : Ending) (report : List ℕ)
    → Works command before.objects after.objects ending report → Gets before.err after.err before.err_faults after.err_faults (err_text ending ++ report)
    → status ≡ status_of ending → CountsStay before after → KeepsPromise (Some command) before after status
promise_of_run before after status command ending report works line answers counts =
    promise_of_command (Some command) before after status command ending report refl works line answers counts

-- a command was carried out, and reported nothing
pub promise_of_plain : (before after : Outside) (status : ℕ) (command : Command) (ending : Ending)
    → Works command before.objects after.objects ending [] → Gets before.err after.err before.err_faults after.err_faults (err_text ending)
    → status ≡ status_of ending → CountsStay before after → KeepsPromise (Some command) before after status
promise_of_plain before after status command ending works line answers counts =
    promise_of_run before after status command ending [] works (alone before.err after.err before.err_faults after.err_faults ending line) answers counts
