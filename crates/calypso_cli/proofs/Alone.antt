-- What a command promises that loads no file and writes none follows from what its work ensures.
use Rattle.std.proofs.Common.{◌≡◌, ◌⊎◌, ℕ, List, [], Option, Some, None, refl, sym, ap, ◌∙◌, subst, inl, inr}
use Rattle.std.specs.Io.KnownBytes.{Appends}
use Rattle.std.proofs.KnownBytes.{Appends-nil}
use Rattle.cal_base.specs.Contents.{Contents, Told, SameFiles, AppendsPrefix}
use Rattle.run_report.proofs.Fronts.{whole_front}
use Rattle.command_words.specs.Commands.{Command, gen, selfrun}
use Rattle.calypso_cli.specs.Endings.{out, failed, Ending, no_memory, output_failed, kind_of}
use Rattle.calypso_cli.specs.Outcomes.{Sight, Outcome, Work, finished}
use Rattle.calypso_cli.specs.Commands.{IsWritten, WritesOut, CanEnd, ComesTo, Writes, MayReport, Reports, gen_of}
use Rattle.calypso_cli.specs.Steps as step
use Rattle.calypso_cli.specs.Steps.{EndsWork}
use Rattle.calypso_cli.specs.Promise.{Objects, objects_of, Worked, WasTurnedAway, as_it_comes, for_memory, at_out, HoldsWritten, HoldsFronts, EndsByItself, CanWork, RunsAs, OnSight, Sees, Works}
use Rattle.calypso_cli.proofs.Kept.{touches, itself_not, itself_no_fault, worked_not_failed, worked_not_away, before_not_worked, out_not_files, quiet_not_rose, caused}
use Rattle.calypso_cli.proofs.Promises.{same_files}

-- the command writes no file and reports nothing
pub record WritesNothing (command : Command) : Type 0 where
  pub unwritten : (name : List ℕ) → IsWritten command name → ⊥
  pub writes : (sight : Sight) → Writes command sight [] []
  pub reports : (sight : Sight) → Reports command sight [] []
  pub may_report : MayReport command []
  pub writes_out : WritesOut command

-- the command comes to this work, whatever is seen
pub record ComesAlone (command : Command) (work : Work) : Type 0 where
  pub comes : (sight : Sight) → ComesTo command sight (finished work)
  pub only : (sight : Sight) (outcome : Outcome) → ComesTo command sight outcome → outcome ≡ finished work
  pub can_end : CanEnd command work.ending

module _ (command : Command) (nothing : WritesNothing command) (before after : Objects) (same : Told before.files after.files SameFiles) where
  no_file : (o : Option Contents) → HoldsWritten command o []
  no_file None = tt
  no_file (Some contents) = λ name is. absurd (nothing.unwritten name is)

  no_fronts : (sight : Sight) (o : Option Contents) → HoldsFronts command sight o
  no_fronts sight None = tt
  no_fronts sight (Some contents) = λ name is. absurd (nothing.unwritten name is)

  -- ---- nothing was written

  module _ (kept : before.out ≡ after.out) where
    quiet : Appends before.out after.out []
    quiet = subst (λ o. Appends before.out o []) kept (Appends-nil before.out)

    no_front : (text : List ℕ) → AppendsPrefix before.out after.out text
    no_front text = ([], refl, quiet)

    -- something was turned away
    pub turned_alone : (work : Work) → WasTurnedAway work.ending → ComesAlone command work → Works command before after work.ending []
    turned_alone work away alone = record {
      can_end = alone.can_end;
      causes = λ part f. absurd (itself_no_fault (kind_of work.ending) part (inr away) f);
      reports = λ did. absurd (worked_not_away (kind_of work.ending) did away);
      silent = λ no. refl;
      unwritten = λ h. quiet;
      out_kept = λ h. quiet;
      files = touches command before.files after.files work.ending same;
      told = λ sight sees. record {
        comes = λ itself. (finished work, alone.comes sight, refl);
        fails = λ f. absurd (itself_no_fault (kind_of work.ending) out (inr away) f);
        wrote = inl quiet;
        runs = λ outcome goes. let e : work.ending ≡ outcome.ending = sym (ap (λ o. o.ending) (alone.only sight outcome goes)) in record {
          ends = as_it_comes work.ending e;
          text = λ did. absurd (worked_not_away (kind_of work.ending) did away);
          front = no_front outcome.text;
          complete = λ silence. inr e;
        };
        tells = λ did. absurd (worked_not_away (kind_of work.ending) did away);
        fronts = no_fronts sight after.files;
      };
    }

    -- memory was wanted before the work
    pub memory_alone : Works command before after no_memory []
    memory_alone = record {
      can_end = tt;
      causes = λ part f. absurd (cc);
      reports = λ did. absurd (cc);
      silent = λ no. refl;
      unwritten = λ h. absurd h;
      out_kept = λ h. quiet;
      files = touches command before.files after.files no_memory same;
      told = λ sight sees. record {
        comes = λ itself. absurd (itself_not (kind_of no_memory) itself refl);
        fails = λ f. absurd (cc);
        wrote = inl quiet;
        runs = λ outcome goes. record {
          ends = for_memory;
          text = λ did. absurd (cc);
          front = no_front outcome.text;
          complete = λ silence. inl refl;
        };
        tells = λ did. absurd (cc);
        fronts = no_fronts sight after.files;
      };
    }

  -- ---- the work

  module _ (work : Work) (alone : ComesAlone command work) (worked : Worked work.ending) where
    can_work : (sight : Sight) → CanWork command sight
    can_work sight = (finished work, alone.comes sight, worked)

    on_sight : (ending : Ending)
        → ((sight : Sight) → EndsByItself ending → (outcome : Outcome) × ComesTo command sight outcome × (ending ≡ outcome.ending))
        → ((outcome : Outcome) → outcome ≡ finished work → RunsAs outcome before after ending)
        → (sight : Sight) → Sees command before.files sight → OnSight command sight before after ending []
    on_sight ending comes runs sight sees = record {
      comes = comes sight;
      fails = λ failure. can_work sight;
      wrote = inr (can_work sight);
      runs = λ outcome goes. runs outcome (alone.only sight outcome goes);
      tells = λ did. record { trace = []; text = []; writes = nothing.writes sight; reports = nothing.reports sight; holds = no_file after.files };
      fronts = no_fronts sight after.files;
    }

    pub works_alone : {ending : Ending} → EndsWork work before.out after.out before.out_faults after.out_faults ending → Works command before after ending []
    works_alone (step.whole wrote) = record {
      can_end = alone.can_end;
      causes = λ part failure. absurd (worked_not_failed (kind_of work.ending) part worked failure);
      reports = λ did. nothing.may_report;
      silent = λ no. refl;
      unwritten = λ h. absurd (before_not_worked work.ending h worked);
      out_kept = λ h. absurd (h nothing.writes_out);
      files = touches command before.files after.files work.ending same;
      told = on_sight work.ending (λ sight itself. (finished work, alone.comes sight, refl))
          (λ outcome e. record {
            ends = as_it_comes work.ending (sym (ap (λ o. o.ending) e));
            text = λ did. subst (Appends before.out after.out) (sym (ap (λ o. o.text) e)) wrote;
            front = whole_front before.out after.out outcome.text (subst (Appends before.out after.out) (sym (ap (λ o. o.text) e)) wrote);
            complete = λ silence. inr (sym (ap (λ o. o.ending) e));
          });
    }
    works_alone (step.no_room front) = record {
      can_end = tt;
      causes = λ part failure. absurd (cc);
      reports = λ did. absurd (cc);
      silent = λ no. refl;
      unwritten = λ h. absurd h;
      out_kept = λ h. absurd (h nothing.writes_out);
      files = touches command before.files after.files no_memory same;
      told = on_sight no_memory (λ sight itself. absurd (itself_not (kind_of no_memory) itself refl))
          (λ outcome e. record {
            ends = for_memory;
            text = λ did. absurd (cc);
            front = subst (AppendsPrefix before.out after.out) (sym (ap (λ o. o.text) e)) front;
            complete = λ silence. inl refl;
          });
    }
    works_alone (step.out_failed rose front) = record {
      can_end = nothing.writes_out;
      causes = λ part failure. caused before after out part rose (out_not_files part failure);
      reports = λ did. absurd (cc);
      silent = λ no. refl;
      unwritten = λ h. absurd h;
      out_kept = λ h. absurd (h nothing.writes_out);
      files = touches command before.files after.files output_failed same;
      told = on_sight output_failed (λ sight itself. absurd (itself_no_fault (failed out) out itself refl))
          (λ outcome e. record {
            ends = at_out (subst Worked (sym (ap (λ o. o.ending) e)) worked);
            text = λ did. absurd (cc);
            front = subst (AppendsPrefix before.out after.out) (sym (ap (λ o. o.text) e)) front;
            complete = λ silence. absurd (quiet_not_rose before.out_faults after.out_faults (silence out) rose);
          });
    }

-- ---- `gen`

gen_nothing : (number size : ℕ) → WritesNothing (gen number size)
gen_nothing number size = record { unwritten = λ name h. h; writes = λ sight. refl; reports = λ sight. refl; may_report = refl; writes_out = tt }

gen_alone : (number size : ℕ) → ComesAlone (gen number size) (gen_of number size)
gen_alone number size = record { comes = λ sight. refl; only = λ sight outcome h. h; can_end = tt }

pub works_gen : (number size : ℕ) (told : Option Contents) (file_faults : ℕ) (a b : Option (List ℕ)) (f g : ℕ) {ending : Ending} → EndsWork (gen_of number size) a b f g ending
    → Works (gen number size) (objects_of told a file_faults f) (objects_of told b file_faults g) ending []
works_gen number size told file_faults a b f g ends =
    works_alone (gen number size) (gen_nothing number size) (objects_of told a file_faults f) (objects_of told b file_faults g) (same_files told) (gen_of number size) (gen_alone number size) refl ends

-- ---- `selfrun`

pub selfrun_nothing : (number size : ℕ) → WritesNothing (selfrun number size)
selfrun_nothing number size = record { unwritten = λ name h. h; writes = λ sight. refl; reports = λ sight. refl; may_report = refl; writes_out = tt }
