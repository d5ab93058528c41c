-- What `build` promises follows from what its load and its write ensure.
use Rattle.std.proofs.Common.{◌≡◌, ◌⊎◌, ◌≤◌, ℕ, List, [], ◌∷◌, length, Option, Some, None, refl, sym, ap, ◌∙◌, subst, arith, inl, inr}
use Rattle.std.specs.List.{Contains}
use Rattle.std.specs.Io.{StartsWith}
use Rattle.std.specs.Io.KnownBytes.{Appends}
use Rattle.std.proofs.KnownBytes.{Appends-nil}
use Rattle.std.proofs.Math.Seq.{take-length}
use Rattle.cal_base.specs.Causes.{Rose}
use Rattle.cal_base.specs.Contents.{Contents, Told, SameFiles, AppendsPrefix}
use Rattle.csl_tree.specs.declared.program.Program.{Program}
use Rattle.csl_grammar.specs.Texts.{text_limit}
use Rattle.csl_reader.specs.Readings as reading
use Rattle.csl_reader.specs.Readings.{IsRead}
use Rattle.csl_reader.proofs.OneWay.{read_one_way}
use Rattle.command_words.specs.Commands.{build}
use Rattle.calypso_cli.specs.Endings.{files, out, failed, Ending, done, cannot_write, kind_of}
use Rattle.calypso_cli.specs.Outcomes.{Sight, Reach, loads, creates, Outcome, finished, reaching, Loads, loaded, Creates, Does}
use Rattle.calypso_cli.specs.Commands.{IsRefusedText, ComesTo, HoldsProgram, IsBuiltOf, build_of, Writes}
use Rattle.calypso_cli.specs.Steps as step
use Rattle.calypso_cli.specs.Steps.{Holds, ReadsAs, IsRefusal, StopsLoad, HoldsAll, HoldsSome, EndsBuild}
use Rattle.calypso_cli.specs.Promise.{Objects, Sees, as_it_comes, at_a_file, Touches, HoldsWritten, HoldsFront, as_before, front_of, HoldsFronts, Works}
use Rattle.calypso_cli.proofs.Kept.{LoadsFirst, held, itself_no_fault, worked_not_failed, files_not_out, apart, quiet_not_rose, caused, told_by, does_stop}
use Rattle.calypso_cli.proofs.Only.{only_loaded}
use Rattle.calypso_cli.proofs.Promises.{loads_program}
use Rattle.calypso_cli.proofs.Readings.{programs_once}
use Rattle.calypso_cli.proofs.Written.{told_then, same_same, all_behind, some_behind, rose_behind}

abbrev Goes : List ℕ → Sight → Program → Outcome → Type 0
Goes into sight p = Creates (Some into) (Does build_of)

abbrev reads : List ℕ → Program → Type 0
reads bytes p = IsRead bytes (reading.accepted p)

-- what `build` comes to
abbrev there : (file into : List ℕ) → Outcome
there file into = reaching (loads file) (reaching (creates into) (finished build_of))

-- `build` first loads a program
first_build : (file into : List ℕ) → LoadsFirst (build file into) file text_limit reads IsRefusal IsRefusedText (Goes into)
first_build file into = loads_program (build file into) file (Goes into) (λ sight outcome h. h) (λ sight outcome h. h) refl tt

-- its one outcome behind the load
alone : (into : List ℕ) (other : Outcome) → Creates (Some into) (Does build_of) other → other ≡ reaching (creates into) (finished build_of)
alone into other h = h.2 ∙ ap (reaching (creates into)) h.1

all_touched : (file into text : List ℕ) (a b : Option Contents) → Told a b (HoldsAll into text) → Told a b (Touches (build file into) done)
all_touched file into text None b h = tt
all_touched file into text (Some m) None h = absurd h
all_touched file into text (Some m) (Some n) h = record { others = λ name no. h.others name no; turned_away = λ away. absurd (cc) }

some_touched : (file into text : List ℕ) (a b : Option Contents) → Told a b (HoldsSome into text) → Told a b (Touches (build file into) (cannot_write into))
some_touched file into text None b h = tt
some_touched file into text (Some m) None h = absurd h
some_touched file into text (Some m) (Some n) h = record { others = λ name no. h.others name no; turned_away = λ away. absurd (cc) }

second_in : (one two : Reach) → Contains (one ∷ two ∷ []) two
second_in one two = (1, omega arith, refl)

module _ (file into : List ℕ) (before after : Objects) (kept : before.out ≡ after.out) where
  pub build_stop : Told before.files after.files SameFiles → {ending : Ending} → StopsLoad before.files file text_limit IsRefusal IsRefusedText before.file_faults after.file_faults ending
      → Works (build file into) before after ending []
  build_stop same stops = does_stop (build file into) file text_limit reads IsRefusal IsRefusedText (Goes into) (first_build file into) before after same kept stops

  quiet : Appends before.out after.out []
  quiet = subst (λ o. Appends before.out o []) kept (Appends-nil before.out)

  front : (text : List ℕ) → AppendsPrefix before.out after.out text
  front text = ([], refl, quiet)

  is_told : (sight : Sight) → Sees (build file into) before.files sight → before.files ≡ Some sight.files
  is_told sight sees = told_by (build file into) file text_limit reads IsRefusal IsRefusedText (Goes into) (first_build file into) before.files sight sees

  module _ (p : Program) (holds : Holds before.files file (ReadsAs (reading.accepted p))) where
    comes : (sight : Sight) → before.files ≡ Some sight.files → ComesTo (build file into) sight (there file into)
    comes sight is = let h = held before.files sight.files file (ReadsAs (reading.accepted p)) is holds in
        subst (λ o. Loads file text_limit reads IsRefusedText (Goes into sight) o (there file into)) (sym h.1)
        (loaded h.0 p (reaching (creates into) (finished build_of)) h.2.0 h.2.1 (finished build_of, refl, refl))

    is_only : (sight : Sight) → before.files ≡ Some sight.files → (outcome : Outcome) → ComesTo (build file into) sight outcome → outcome ≡ there file into
    is_only sight is outcome goes = let h = held before.files sight.files file (ReadsAs (reading.accepted p)) is holds in
        let k = only_loaded file text_limit reads IsRefusedText (Goes into sight) (programs_once read_one_way) goes h.0 p h.1 h.2.0 h.2.1 in
        k.2 ∙ ap (reaching (loads file)) (alone into k.0 k.1)

    holds_program : (sight : Sight) → before.files ≡ Some sight.files → HoldsProgram sight file p
    holds_program sight is = let h = held before.files sight.files file (ReadsAs (reading.accepted p)) is holds in (h.0, h.1, h.2.0, h.2.1)

    module _ (text : List ℕ) (built : IsBuiltOf p text) where
      writes : (sight : Sight) → before.files ≡ Some sight.files → Writes (build file into) sight [] text
      writes sight is = (p, holds_program sight is, built)

      -- MODULE holds the whole text
      all_held : (sight : Sight) → before.files ≡ Some sight.files → (o : Option Contents) → Told before.files o (HoldsAll into text) → HoldsWritten (build file into) o text
      all_held sight is None h = tt
      all_held sight is (Some contents) h = λ name written.
          let k : HoldsAll into text sight.files contents = subst (λ a. Told a (Some contents) (HoldsAll into text)) is h in
          ap contents written ∙ k.here

      all_fronts : (sight : Sight) → before.files ≡ Some sight.files → (o : Option Contents) → Told before.files o (HoldsAll into text) → HoldsFronts (build file into) sight o
      all_fronts sight is None h = tt
      all_fronts sight is (Some contents) h = λ name written.
          let k : HoldsAll into text sight.files contents = subst (λ a. Told a (Some contents) (HoldsAll into text)) is h in
          subst (HoldsFront (build file into) sight name) (sym (ap contents written ∙ k.here)) (front_of [] text text (writes sight is) (take-length text))

      -- MODULE holds what it held, or a front of the text
      some_front : (sight : Sight) → before.files ≡ Some sight.files → (contents : Contents) (name : List ℕ) → name ≡ into
          → (contents into ≡ sight.files into) ⊎ ((part : List ℕ) × StartsWith text part × (contents into ≡ Some part)) → HoldsFront (build file into) sight name (contents name)
      some_front sight is contents name written (inl e) =
          subst (HoldsFront (build file into) sight name) (sym (ap contents written ∙ e ∙ sym (ap sight.files written))) as_before
      some_front sight is contents name written (inr f) =
          subst (HoldsFront (build file into) sight name) (sym (ap contents written ∙ f.2)) (front_of [] text f.0 (writes sight is) f.1)

      some_fronts : (sight : Sight) → before.files ≡ Some sight.files → (o : Option Contents) → Told before.files o (HoldsSome into text) → HoldsFronts (build file into) sight o
      some_fronts sight is None h = tt
      some_fronts sight is (Some contents) h = λ name written.
          let k : HoldsSome into text sight.files contents = subst (λ a. Told a (Some contents) (HoldsSome into text)) is h in
          some_front sight is contents name written k.here

      build_written : Told before.files after.files (HoldsAll into text) → Works (build file into) before after done []
      build_written h = record {
        can_end = tt;
        causes = λ part f. absurd (worked_not_failed (kind_of done) part refl f);
        reports = λ did. refl;
        silent = λ no. refl;
        unwritten = λ b. quiet;
        out_kept = λ b. quiet;
        files = all_touched file into text before.files after.files h;
        told = λ sight sees. let is : before.files ≡ Some sight.files = is_told sight sees in record {
          comes = λ itself. (there file into, comes sight is, refl);
          fails = λ f. absurd (worked_not_failed (kind_of done) out refl f);
          wrote = inl quiet;
          runs = λ outcome went. let e : outcome ≡ there file into = is_only sight is outcome went in record {
            ends = as_it_comes done (sym (ap (λ o. o.ending) e));
            text = λ did. subst (Appends before.out after.out) (sym (ap (λ o. o.text) e)) quiet;
            front = front outcome.text;
            complete = λ silence. inr (sym (ap (λ o. o.ending) e));
          };
          tells = λ did. record { trace = []; text = text; writes = writes sight is; reports = refl; holds = all_held sight is after.files h };
          fronts = all_fronts sight is after.files h;
        };
      }

      build_not_written : Rose before.file_faults after.file_faults → Told before.files after.files (HoldsSome into text) → Works (build file into) before after (cannot_write into) []
      build_not_written rose h = record {
        can_end = refl;
        causes = λ part f. caused before after files part rose (files_not_out part f);
        reports = λ did. absurd (cc);
        silent = λ no. refl;
        unwritten = λ b. quiet;
        out_kept = λ b. quiet;
        files = some_touched file into text before.files after.files h;
        told = λ sight sees. let is : before.files ≡ Some sight.files = is_told sight sees in record {
          comes = λ itself. absurd (itself_no_fault (failed files) files itself refl);
          fails = λ f. absurd (apart (sym (files_not_out out f)));
          wrote = inl quiet;
          runs = λ outcome went. let e : outcome ≡ there file into = is_only sight is outcome went in record {
            ends = at_a_file (creates into) (subst (λ l. Contains l (creates into)) (sym (ap (λ o. o.reached) e)) (second_in (loads file) (creates into)));
            text = λ did. absurd (cc);
            front = front outcome.text;
            complete = λ silence. absurd (quiet_not_rose before.file_faults after.file_faults (silence files) rose);
          };
          tells = λ did. absurd (cc);
          fronts = some_fronts sight is after.files h;
        };
      }

    -- how the build ended the call, behind its load
    pub build_ends : (mid : Option Contents) (mid_faults : ℕ) → Told before.files mid SameFiles → before.file_faults ≤ mid_faults
        → {ending : Ending} → EndsBuild p into mid after.files mid_faults after.file_faults ending → Works (build file into) before after ending []
    build_ends mid mid_faults same later (step.no_room h) =
        build_stop (told_then before.files mid after.files SameFiles SameFiles SameFiles same h same_same) step.no_room
    build_ends mid mid_faults same later (step.wrote text ending built (step.written h)) =
        build_written text built (told_then before.files mid after.files SameFiles (HoldsAll into text) (HoldsAll into text) same h (all_behind into text))
    build_ends mid mid_faults same later (step.wrote text ending built (step.not_written rose h)) =
        build_not_written text built (rose_behind before.file_faults mid_faults after.file_faults later rose)
        (told_then before.files mid after.files SameFiles (HoldsSome into text) (HoldsSome into text) same h (some_behind into text))
