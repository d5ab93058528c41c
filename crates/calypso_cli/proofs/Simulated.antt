-- What `sim` promises follows from what its loads, its log and its work ensure.
use Rattle.std.proofs.Common.{◌≡◌, ◌≤◌, ℕ, false, List, [], length, Option, Some, None, refl, sym, ap, ◌∙◌, subst, arith, inl, inr}
use Rattle.cal_base.specs.Contents.{Contents, Told, SameFiles, AppendsPrefix}
use Rattle.cal_base.specs.Main.{Main, steps_of}
use Rattle.csl_tree.specs.declared.program.Program.{Program}
use Rattle.csl_grammar.specs.Texts.{text_limit}
use Rattle.csl_meaning.specs.Meaning.{main, meaning}
use Rattle.csl_meaning.proofs.Counts.{steps_are_numbered}
use Rattle.csl_reader.specs.Readings as reading
use Rattle.csl_reader.specs.Readings.{IsRead}
use Rattle.csl_reader.proofs.OneWay.{read_one_way}
use Rattle.bytecode.specs.declared.module.Module.{Module}
use Rattle.machine_meaning.specs.Meaning.{machine_main, machine_meaning}
use Rattle.engine_laws.proofs.Units as units
use Rattle.event_world.specs.declared.event.Event.{Event}
use Rattle.event_world.specs.Law.{Each, IsOfWorker}
use Rattle.event_world.specs.World.{world}
use Rattle.event_world.proofs.Meant.{world_is_meant}
use Rattle.event_world.proofs.Courses.{world_is_of_the_meaning}
use Rattle.run_report.specs.Logs.{Trace}
use Rattle.calypso_engine.specs.Traces.{trace_of, IsTraceOf}
use Rattle.event_engine.specs.Simulated.{simulated}
use Rattle.calypso_engine.proofs.Traces.{closed_traced}
use Rattle.command_words.specs.Commands.{sim}
use Rattle.calypso_cli.specs.Endings.{Ending, kind_of}
use Rattle.calypso_cli.specs.Outcomes.{Sight, loads, creates, Outcome, Work, finished, reaching, Loads, loaded, Creates, Does}
use Rattle.calypso_cli.specs.Commands.{IsRefusedText, IsEvents, IsNoEvents, events_limit, WithEvents, ComesTo, run_of, usual_fuel, CanEnd, IsSimulated, HasTrace}
use Rattle.calypso_cli.specs.Steps.{Holds, ReadsAs, IsRefusal, Lists, IsEventsRefusal, StopsLoad, EndsRun, simulation}
use Rattle.calypso_cli.specs.Promise.{Objects, WasTurnedAway, Works}
use Rattle.calypso_cli.proofs.Only.{only_loaded}
use Rattle.calypso_cli.proofs.Readings.{events_once}
use Rattle.calypso_cli.proofs.Kept.{LoadsFirst, held, told_by, does_stop}
use Rattle.calypso_cli.proofs.Promises.{loads_program, run_can_end, run_worked}
use Rattle.calypso_cli.proofs.Ran.{RunsThere, works_run, ends_behind}
use Rattle.calypso_cli.proofs.Runs.{logged, creates_logged, only_logged, logged_ending, logged_text, logged_reached, later_in, writes_log}
use Rattle.calypso_cli.proofs.Scripted.{holds_behind, LoadsSecond, second_stops, stops_behind}

-- ---- the world of the code is the world of the program

pub simulated_trace : (m : Module) (p : Program) (list : List Event) → machine_meaning m usual_fuel ≡ meaning p usual_fuel → steps_of (machine_main m usual_fuel) ≡ steps_of (main p usual_fuel)
    → Each IsOfWorker list → IsSimulated p list (trace_of (simulated m list).closed)
simulated_trace m p list means steps workers =
    let same = world_is_of_the_meaning (machine_main m usual_fuel) (main p usual_fuel) list (units.steps_are_numbered m usual_fuel) (steps_are_numbered p usual_fuel) workers means steps in
    let meant = world_is_meant (main p usual_fuel) list (steps_are_numbered p usual_fuel) workers in
    let is : trace_of (simulated m list).closed ≡ trace_of (world (main p usual_fuel) list).closed = ap (λ run. trace_of run.closed) same in
    record {
      is_world = is;
      traced = subst (λ t. IsTraceOf (steps_of (main p usual_fuel)) t) (sym is)
          (subst (λ jobs. IsTraceOf jobs (trace_of (world (main p usual_fuel) list).closed)) meant.steps (closed_traced (world (main p usual_fuel) list).closed meant.whole));
    }

-- ---- what `sim` comes to

-- the work of a simulation
abbrev pub simulates : Program → Work
simulates p = run_of false (meaning p usual_fuel)

-- what is done behind the load of the program
abbrev pub Plays : (events : List ℕ) (log : Option (List ℕ)) → Sight → Program → Outcome → Type 0
Plays events log sight p outcome = WithEvents sight events (Creates log (Does (simulates p))) outcome

-- `sim` first loads a program
pub first_sim : (file events : List ℕ) (log : Option (List ℕ)) → LoadsFirst (sim file events log) file text_limit (λ bytes p. IsRead bytes (reading.accepted p)) IsRefusal IsRefusedText
    (Plays events log)
first_sim file events log = loads_program (sim file events log) file (Plays events log) (λ sight outcome h. h) (λ sight outcome h. h) (inl refl) tt

-- and then a list of events
second_sim : (file events : List ℕ) (log : Option (List ℕ)) (p : Program)
    → LoadsSecond (sim file events log) (Plays events log) events events_limit IsEvents IsEventsRefusal IsNoEvents p (Creates log (Does (simulates p)))
second_sim file events log p = record {
  once = events_once;
  comes = λ sight later h. h;
  back = λ sight later h. h;
  loaded_by = inr refl;
  turns = λ ending may. ap_kind ending may;
  can_turn = λ ending may. ap_can ending may;
} where
  ap_kind : (ending : Ending) → IsEventsRefusal ending → WasTurnedAway ending
  ap_kind ending (number, is) = ap kind_of is

  ap_can : (ending : Ending) → IsEventsRefusal ending → CanEnd (sim file events log) ending
  ap_can ending (number, is) = subst (CanEnd (sim file events log)) (sym is) tt

module _ (file events : List ℕ) (log : Option (List ℕ)) (told : Option Contents) (p : Program) (list : List Event) (holds : Holds told file (ReadsAs (reading.accepted p)))
    (lists : Holds told events (Lists list)) where
  -- its one outcome
  abbrev behind : Outcome
  behind = reaching (loads events) (logged log (finished (simulates p)))

  comes_there : (sight : Sight) → told ≡ Some sight.files → ComesTo (sim file events log) sight (reaching (loads file) behind)
  comes_there sight is =
      let h = held told sight.files file (ReadsAs (reading.accepted p)) is holds in
      let k = held told sight.files events (Lists list) is lists in
      subst (λ o. Loads file text_limit (λ bytes q. IsRead bytes (reading.accepted q)) IsRefusedText (Plays events log sight) o (reaching (loads file) behind)) (sym h.1)
      (loaded h.0 p behind h.2.0 h.2.1
      (subst (λ o. Loads events events_limit IsEvents IsNoEvents (λ l. Creates log (Does (simulates p))) o behind) (sym k.1)
      (loaded k.0 list (logged log (finished (simulates p))) k.2.0 k.2.1 (creates_logged log (Does (simulates p)) (finished (simulates p)) refl))))

  only_there : (sight : Sight) → told ≡ Some sight.files → (outcome : Outcome) → ComesTo (sim file events log) sight outcome → outcome ≡ reaching (loads file) behind
  only_there sight is outcome goes =
      let h = held told sight.files file (ReadsAs (reading.accepted p)) is holds in
      let k = held told sight.files events (Lists list) is lists in
      let a = only_loaded file text_limit (λ bytes q. IsRead bytes (reading.accepted q)) IsRefusedText (Plays events log sight) (first_sim file events log).once goes h.0 p h.1 h.2.0 h.2.1 in
      let b = only_loaded events events_limit IsEvents IsNoEvents (λ l. Creates log (Does (simulates p))) events_once a.1 k.0 list k.1 k.2.0 k.2.1 in
      a.2 ∙ ap (reaching (loads file)) (b.2 ∙ ap (reaching (loads events)) (only_logged log (simulates p) b.0 b.1))

  has_trace : (sight : Sight) → told ≡ Some sight.files → (trace : Trace) → IsSimulated p list trace → HasTrace (sim file events log) sight trace
  has_trace sight is trace traced =
      let h = held told sight.files file (ReadsAs (reading.accepted p)) is holds in
      let k = held told sight.files events (Lists list) is lists in
      (p, list, (h.0, h.1, h.2.0, h.2.1), (k.0, k.1, k.2.0, k.2.1), traced)

  pub sim_there : RunsThere (sim file events log) (simulation log) [] (IsSimulated p list) (simulates p) told
  sim_there = record {
    there = reaching (loads file) behind;
    ends = logged_ending log (finished (simulates p));
    text = logged_text log (finished (simulates p));
    sees = λ sight sees. told_by (sim file events log) file text_limit (λ bytes q. IsRead bytes (reading.accepted q)) IsRefusal IsRefusedText (Plays events log) (first_sim file events log) told sight
        sees;
    comes = comes_there;
    only = only_there;
    reached = λ name named. later_in (loads file) (creates name) behind.reached
        (later_in (loads events) (creates name) (logged log (finished (simulates p))).reached (logged_reached log (finished (simulates p)) name named));
    written = λ name written. written;
    is_written = λ name named. named;
    writes = λ sight is trace traced. writes_log log (HasTrace (sim file events log) sight) trace (has_trace sight is trace traced);
    reports = λ sight is trace report traced h. h;
    may_report = λ trace report h. h;
    writes_out = tt;
    can_end = run_can_end (sim file events log) tt (meaning p usual_fuel).ending;
    worked = run_worked (meaning p usual_fuel).ending;
  }

-- ---- how the call ends

-- the load of the program ended it
pub sim_stops : (file events : List ℕ) (log : Option (List ℕ)) (before after : Objects) → Told before.files after.files SameFiles → before.out ≡ after.out → {ending : Ending}
    → StopsLoad before.files file text_limit IsRefusal IsRefusedText before.file_faults after.file_faults ending → Works (sim file events log) before after ending []
sim_stops file events log before after same kept stops =
    does_stop (sim file events log) file text_limit (λ bytes p. IsRead bytes (reading.accepted p)) IsRefusal IsRefusedText (Plays events log) (first_sim file events log) before after same kept stops

-- the load of the events ended it
pub sim_refused : (file events : List ℕ) (log : Option (List ℕ)) (before after : Objects) (mid : Option Contents) (mid_faults : ℕ) (p : Program)
    → Holds before.files file (ReadsAs (reading.accepted p))
    → Told before.files mid SameFiles → before.file_faults ≤ mid_faults → Told before.files after.files SameFiles → before.out ≡ after.out → {ending : Ending}
    → StopsLoad mid events events_limit IsEventsRefusal IsNoEvents mid_faults after.file_faults ending → Works (sim file events log) before after ending []
sim_refused file events log before after mid mid_faults p holds so later same kept stops =
    second_stops (sim file events log) file text_limit (λ bytes q. IsRead bytes (reading.accepted q)) IsRefusal IsRefusedText (Plays events log) (first_sim file events log) before after same kept p
    holds
    events events_limit IsEvents IsEventsRefusal IsNoEvents (Creates log (Does (simulates p))) (second_sim file events log p)
    (stops_behind before.files mid events events_limit IsEventsRefusal IsNoEvents before.file_faults mid_faults after.file_faults so later stops)

-- the run did
pub sim_works : (file events : List ℕ) (log : Option (List ℕ)) (held_files : Option Contents) (held_faults : ℕ) (program_files : Option Contents) (mid after : Objects) (p : Program)
    (list : List Event)
    → Holds held_files file (ReadsAs (reading.accepted p)) → Told held_files program_files SameFiles → Holds program_files events (Lists list) → Told held_files mid.files SameFiles
    → held_faults ≤ mid.file_faults → {ending : Ending} → EndsRun (IsSimulated p list) (simulates p) (simulation log) [] mid after ending []
    → Works (sim file events log) (record { files = held_files; out = mid.out; file_faults = held_faults; out_faults = mid.out_faults }) after ending []
sim_works file events log held_files held_faults program_files mid after p list holds so lists same later ends =
    works_run (sim file events log) (simulation log) [] (IsSimulated p list) (simulates p)
    (record { files = held_files; out = mid.out; file_faults = held_faults; out_faults = mid.out_faults }) after
    (sim_there file events log held_files p list holds (holds_behind held_files program_files events (Lists list) so lists))
    (ends_behind (IsSimulated p list) (simulates p) (simulation log) [] held_files held_faults mid after same later ends)
