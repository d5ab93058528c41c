-- What a command comes to that reads a text of its own.
use Rattle.std.proofs.Common.{◌≡◌, ◌⊎◌, ℕ, List, [], false, refl, sym, ap, ◌∙◌, subst, inl, inr}
use Rattle.cal_base.specs.Contents.{Told, SameFiles}
use Rattle.csl_tree.specs.declared.program.Program.{Program}
use Rattle.csl_meaning.specs.Meaning.{meaning}
use Rattle.csl_reader.specs.Readings as reading
use Rattle.csl_reader.specs.Readings.{IsRead}
use Rattle.csl_reader.proofs.OneWay.{read_one_way}
use Rattle.program_gen.specs.Generated.{generated}
use Rattle.command_words.specs.Commands.{selfrun}
use Rattle.calypso_cli.specs.Endings.{Ending, no_memory}
use Rattle.calypso_cli.specs.Outcomes.{Sight, Outcome, Work, finished, Does}
use Rattle.calypso_cli.specs.Commands.{IsRefusedText, CanEnd, FromText, spelled, turned, run_of, usual_fuel}
use Rattle.calypso_cli.proofs.Readings.{programs_once}
use Rattle.calypso_cli.specs.Steps.{EndsWork}
use Rattle.calypso_cli.specs.Promise.{Objects, WasTurnedAway, Works}
use Rattle.calypso_cli.proofs.Promises.{same_files, run_can_end, run_worked, works_nothing}
use Rattle.calypso_cli.proofs.Alone.{ComesAlone, selfrun_nothing, turned_alone, works_alone}

-- a text that spells a program is worked on, and nothing else
pub only_spelled : (bytes : List ℕ) (work : Program → Work) (p : Program) → IsRead bytes (reading.accepted p) → {outcome : Outcome} → FromText bytes (λ q. Does (work q)) outcome
    → outcome ≡ finished (work p)
only_spelled bytes work p is (spelled q outcome r h) = h ∙ ap (λ x. finished (work x)) ((programs_once read_one_way).one bytes q p r is)
only_spelled bytes work p is (turned ending r) = absurd ((programs_once read_one_way).apart bytes p ending is r)

-- a text that is refused
pub only_refused : (bytes : List ℕ) (work : Program → Work) (ending : Ending) → IsRefusedText bytes ending → {outcome : Outcome} → FromText bytes (λ q. Does (work q)) outcome
    → outcome ≡ finished (record { ending = ending; text = [] })
only_refused bytes work ending is (spelled q outcome r h) = absurd ((programs_once read_one_way).apart bytes q ending r is)
only_refused bytes work ending is (turned other r) = ap (λ e. finished (record { ending = e; text = [] })) ((programs_once read_one_way).one_ending bytes other ending r is)

-- in either case there is one outcome
pub one_text : (bytes : List ℕ) (work : Program → Work) {one two : Outcome} → FromText bytes (λ q. Does (work q)) one → FromText bytes (λ q. Does (work q)) two → one ≡ two
one_text bytes work (spelled p outcome r h) other = h ∙ sym (only_spelled bytes work p r other)
one_text bytes work (turned ending r) other = sym (only_refused bytes work ending r other)

-- `selfrun` comes to the run of the program, or to the refusal
pub self_spelled : (number size : ℕ) (p : Program) → IsRead (generated number size) (reading.accepted p) → ComesAlone (selfrun number size) (run_of false (meaning p usual_fuel))
self_spelled number size p is = record {
  comes = λ sight. spelled p (finished (run_of false (meaning p usual_fuel))) is refl;
  only = λ sight outcome goes. only_spelled (generated number size) (λ q. run_of false (meaning q usual_fuel)) p is goes;
  can_end = run_can_end (selfrun number size) tt (meaning p usual_fuel).ending;
}

pub self_refused : (number size : ℕ) (ending : Ending) → IsRefusedText (generated number size) ending → ComesAlone (selfrun number size) (record { ending = ending; text = [] })
self_refused number size ending is = record {
  comes = λ sight. turned ending is;
  only = λ sight outcome goes. only_refused (generated number size) (λ q. run_of false (meaning q usual_fuel)) ending is goes;
  can_end = subst (CanEnd (selfrun number size)) (sym is.3) tt;
}

-- the program was run
pub works_selfrun : (number size : ℕ) (p : Program) → IsRead (generated number size) (reading.accepted p) → (before after : Objects) → Told before.files after.files SameFiles
    → {ending : Ending} → EndsWork (run_of false (meaning p usual_fuel)) before.out after.out before.out_faults after.out_faults ending → Works (selfrun number size) before after ending []
works_selfrun number size p is before after same ends =
    works_alone (selfrun number size) (selfrun_nothing number size) before after same (run_of false (meaning p usual_fuel)) (self_spelled number size p is) (run_worked (meaning p usual_fuel).ending)
    ends

-- it was not
pub stops_selfrun : (number size : ℕ) (objects : Objects) (ending : Ending) → (ending ≡ no_memory) ⊎ IsRefusedText (generated number size) ending
    → Works (selfrun number size) objects objects ending []
stops_selfrun number size objects ending (inl none) = subst (λ e. Works (selfrun number size) objects objects e []) (sym none) (works_nothing (selfrun number size) objects)
stops_selfrun number size objects ending (inr is) =
    turned_alone (selfrun number size) (selfrun_nothing number size) objects objects (same_files objects.files) refl (record { ending = ending; text = [] }) (subst WasTurnedAway (sym is.3) refl)
    (self_refused number size ending is)
