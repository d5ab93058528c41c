-- A text is read as one program, or refused in one way; bytes are one module's.
use Rattle.std.proofs.Common.{◌≡◌, ℕ, List, Option, Some, None, Result, Ok, Err, refl, sym, ap, ◌∙◌}
use Rattle.csl_tree.specs.declared.program.Program.{Program}
use Rattle.csl_reader.specs.declared.refusal.Refusal.{Refusal}
use Rattle.csl_reader.specs.Readings as reading
use Rattle.csl_reader.specs.Readings.{Reading, IsRead}
use Rattle.csl_reader.specs.Laws.{ReadOneWay}
use Rattle.bytecode.specs.Spelling.{spelling}
use Rattle.bytecode.specs.Reading.{module_of}
use Rattle.bytecode.specs.Laws.{OneModulePerBytes}
use Rattle.bytecode.proofs.Numbers.{some_same}
use Rattle.bytecode.proofs.Forms.{module_again}
use Rattle.calypso_cli.specs.Endings.{Ending, refused, events_refused}
use Rattle.event_world.specs.declared.event.Event.{Event}
use Rattle.fault_script.specs.Events.{events_of}
use Rattle.fault_script.specs.Rows.{Row}
use Rattle.fault_script.specs.Scripts.{script_of}
use Rattle.calypso_cli.specs.Commands.{IsRefusedText, IsModule, IsNoModule, IsScript, IsNoScript, IsEvents, IsNoEvents}
use Rattle.calypso_cli.proofs.Only.{ReadsOnce}

same_program : (p q : Program) (a b : Reading) → a ≡ b → a ≡ reading.accepted p → b ≡ reading.accepted q → p ≡ q
same_program p q a b e f g = cc

not_both : (p : Program) (at : ℕ) (why : Refusal) (a b : Reading) → a ≡ b → a ≡ reading.accepted p → b ≡ reading.refused at why → ⊥
not_both p at why a b e f g = cc

-- the ending of a refusal
abbrev ending_of : Ending → Reading → Ending
ending_of other (reading.accepted p) = other
ending_of other (reading.refused at why) = refused at why

-- a text is read as one program, or refused with one ending
pub programs_once : ReadOneWay → ReadsOnce (λ bytes p. IsRead bytes (reading.accepted p)) IsRefusedText
programs_once one_way = record {
  one = λ bytes p q r s. same_program p q (reading.accepted p) (reading.accepted q) (one_way bytes (reading.accepted p) (reading.accepted q) r s) refl refl;
  one_ending = λ bytes e f h k. h.3 ∙ ap (ending_of e) (one_way bytes (reading.refused h.0 h.1) (reading.refused k.0 k.1) h.2 k.2) ∙ sym k.3;
  apart = λ bytes p e r h. not_both p h.0 h.1 (reading.accepted p) (reading.refused h.0 h.1) (one_way bytes (reading.accepted p) (reading.refused h.0 h.1) r h.2) refl refl;
}

-- bytes are one module's, or none's
pub modules_once : OneModulePerBytes → ReadsOnce IsModule IsNoModule
modules_once one_module = record {
  one = λ bytes m n h k. one_module m n h.0 k.0 (sym h.2 ∙ k.2);
  one_ending = λ bytes e f h k. h.1 ∙ sym k.1;
  apart = λ bytes m e h k. k.0 m h;
}

-- no bytes spell two modules
pub one_module : OneModulePerBytes
one_module m n fits_m fits_n e = some_same m n (module_of (spelling m)) (module_again m fits_m) (ap module_of e ∙ module_again n fits_n)

same_rows : (one two : List Row) (o : Option (List Row)) → o ≡ Some one → o ≡ Some two → one ≡ two
same_rows one two o e f = cc

no_rows : (rows : List Row) (o : Option (List Row)) → o ≡ Some rows → o ≡ None → ⊥
no_rows rows o e f = cc

-- bytes are a script in one way, or none
pub scripts_once : ReadsOnce IsScript IsNoScript
scripts_once = record {
  one = λ bytes x y h k. same_rows x y (script_of bytes) h k;
  one_ending = λ bytes e f h k. h.1 ∙ sym k.1;
  apart = λ bytes x e h k. no_rows x (script_of bytes) h k.0;
}

same_events : (one two : List Event) (r : Result (List Event) ℕ) → r ≡ Ok one → r ≡ Ok two → one ≡ two
same_events one two r e f = cc

same_line : (one two : ℕ) (r : Result (List Event) ℕ) → r ≡ Err one → r ≡ Err two → one ≡ two
same_line one two r e f = cc

no_events : (list : List Event) (line : ℕ) (r : Result (List Event) ℕ) → r ≡ Ok list → r ≡ Err line → ⊥
no_events list line r e f = cc

-- bytes list events in one way, or none, and then one line is named
pub events_once : ReadsOnce IsEvents IsNoEvents
events_once = record {
  one = λ bytes x y h k. same_events x y (events_of bytes) h k;
  one_ending = λ bytes e f h k. h.2 ∙ ap events_refused (same_line h.0 k.0 (events_of bytes) h.1 k.1) ∙ sym k.2;
  apart = λ bytes x e h k. no_events x k.0 (events_of bytes) h k.1;
}
