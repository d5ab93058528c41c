-- What a command promises follows from what its first load and its work ensure.
use Rattle.std.proofs.Common.{◌≡◌, ◌⊎◌, ◌≤◌, ◌<◌, ℕ, List, [], length, Option, Some, None, refl, sym, ap, ◌∙◌, subst, arith, inl, inr}
use Rattle.std.specs.Prelude.{IsSomeAnd}
use Rattle.std.specs.List.{Contains}
use Rattle.std.specs.Io.KnownBytes.{Appends}
use Rattle.std.proofs.KnownBytes.{Appends-nil}
use Rattle.cal_base.specs.Causes.{Rose, IsQuiet}
use Rattle.cal_base.specs.Contents.{Contents, Told, SameFiles, AppendsPrefix}
use Rattle.csl_reader.specs.Readings as reading
use Rattle.csl_reader.specs.Readings.{IsRead}
use Rattle.command_words.specs.Commands.{Command}
use Rattle.calypso_cli.specs.Endings.{Part, files, out, Kind, worked, turned_away, failed, wanted_memory, Ending, done, no_command, cannot_load, cannot_write, refused, fault, no_memory, output_failed}
use Rattle.calypso_cli.specs.Endings.{script_refused, events_refused, too_long, module_refused, kind_of, IsBeforeWork}
use Rattle.calypso_cli.specs.Outcomes.{Sight, loads, Outcome, Work, finished, stopped, reaching, Loads, long, turned, loaded, Does}
use Rattle.calypso_cli.specs.Commands.{IsLoaded, IsWritten, WritesOut, CanEnd, ComesTo, Writes, MayReport, Reports}
use Rattle.calypso_cli.specs.Steps as step
use Rattle.calypso_cli.specs.Steps.{Holds, StopsLoad, EndsWork, whole, out_failed}
use Rattle.calypso_cli.specs.Promise.{Objects, faults_of, Worked, WasTurnedAway, as_it_comes, for_memory, at_a_file, at_out, Touches, HoldsWritten, HoldsFront, as_before, HoldsFronts, EndsByItself}
use Rattle.calypso_cli.specs.Promise.{CanWork, RunsAs, OnSight, Sees, Works}
use Rattle.run_report.proofs.Fronts.{whole_front}
use Rattle.calypso_cli.proofs.Only.{ReadsOnce, only_loaded, only_turned, only_long, is_reached}

-- the bytes that a file holds, where the files tell it
pub held : (told : Option Contents) (contents : Contents) (file : List ℕ) (Fact : List ℕ → Type 0) → told ≡ Some contents → Holds told file Fact
    → (bytes : List ℕ) × (contents file ≡ Some bytes) × Fact bytes
held None contents file Fact e h = absurd (cc)
held (Some others) contents file Fact e h =
    let same : others ≡ contents = cc in
    by (contents file) refl (subst (λ c. IsSomeAnd (c file) Fact) same h) where
      by : (o : Option (List ℕ)) → contents file ≡ o → IsSomeAnd o Fact → (bytes : List ℕ) × (contents file ≡ Some bytes) × Fact bytes
      by None is h = absurd h
      by (Some bytes) is h = (bytes, is, h)

pub quiet_not_rose : (before now : ℕ) → IsQuiet before now → Rose before now → ⊥
quiet_not_rose before now quiet rose = omega (arith, quiet, rose)

-- kinds are apart
pub itself_not : (k : Kind) → k ≡ worked ⊎ k ≡ turned_away → k ≡ wanted_memory → ⊥
itself_not k (inl e) f = cc
itself_not k (inr e) f = cc

pub itself_no_fault : (k : Kind) (part : Part) → k ≡ worked ⊎ k ≡ turned_away → k ≡ failed part → ⊥
itself_no_fault k part (inl e) f = cc
itself_no_fault k part (inr e) f = cc

pub worked_not_away : (k : Kind) → k ≡ worked → k ≡ turned_away → ⊥
worked_not_away k e f = cc

worked_not_memory : (k : Kind) → k ≡ worked → k ≡ wanted_memory → ⊥
worked_not_memory k e f = cc

pub worked_not_failed : (k : Kind) (part : Part) → k ≡ worked → k ≡ failed part → ⊥
worked_not_failed k part e f = cc

pub files_not_out : (part : Part) → failed files ≡ failed part → part ≡ files
files_not_out part e = cc

pub out_not_files : (part : Part) → failed out ≡ failed part → part ≡ out
out_not_files part e = cc

pub apart : files ≡ out → ⊥
apart e = cc

-- nothing was done before out gets anything only where the ending is no work
pub before_not_worked : (e : Ending) → IsBeforeWork e → Worked e → ⊥
before_not_worked done h w = h
before_not_worked no_command h w = cc
before_not_worked (cannot_load name) h w = cc
before_not_worked (cannot_write name) h w = h
before_not_worked (refused at why) h w = cc
before_not_worked (fault ending) h w = h
before_not_worked no_memory h w = h
before_not_worked output_failed h w = h
before_not_worked script_refused h w = cc
before_not_worked (events_refused number) h w = cc
before_not_worked (too_long name) h w = cc
before_not_worked module_refused h w = cc

-- the command first loads a file of at most so many bytes, and then goes on with what it reads
pub record LoadsFirst (command : Command) (file : List ℕ) (limit : ℕ) {X : Type 0} (Reads : List ℕ → X → Type 0) (May : Ending → Type 0) (TurnsAway : List ℕ → Ending → Type 0)
    (Next : Sight → X → Outcome → Type 0) : Type 0 where
  pub once : ReadsOnce Reads TurnsAway
  pub comes : (sight : Sight) (outcome : Outcome) → ComesTo command sight outcome → Loads file limit Reads TurnsAway (Next sight) (sight.files file) outcome
  pub back : (sight : Sight) (outcome : Outcome) → Loads file limit Reads TurnsAway (Next sight) (sight.files file) outcome → ComesTo command sight outcome
  pub loaded_by : IsLoaded command file
  pub turns : (ending : Ending) → May ending → WasTurnedAway ending
  pub can_turn : (ending : Ending) → May ending → CanEnd command ending

-- a count that rose is that of the part that failed
pub caused : (before after : Objects) (part other : Part) → Rose (faults_of part before) (faults_of part after) → other ≡ part → Rose (faults_of other before) (faults_of other after)
caused before after part other rose e = subst (λ p. Rose (faults_of p before) (faults_of p after)) (sym e) rose

-- a command that writes no file, and one whose file is as before
pub touches : (command : Command) (a b : Option Contents) (ending : Ending) → Told a b SameFiles → Told a b (Touches command ending)
touches command None b ending h = tt
touches command (Some m) None ending h = absurd h
touches command (Some m) (Some n) ending h = record { others = λ name no. h name; turned_away = λ r. h }

kept_fronts : (command : Command) (sight : Sight) (a b : Option Contents) → a ≡ Some sight.files → Told a b SameFiles → HoldsFronts command sight b
kept_fronts command sight None b e h = absurd (cc)
kept_fronts command sight (Some m) None e h = absurd h
kept_fronts command sight (Some m) (Some n) e h = λ name written.
    let same : m ≡ sight.files = cc in
    subst (HoldsFront command sight name) (sym (h name ∙ ap (λ c. c name) same)) as_before

-- nothing was written to out
nothing : (a : Option (List ℕ)) (text : List ℕ) → AppendsPrefix a a text
nothing a text = ([], refl, Appends-nil a)

-- ---- a load ends the call

module _ (command : Command) (before after : Objects) (same : Told before.files after.files SameFiles) (kept : before.out ≡ after.out)
    (sees : (sight : Sight) → Sees command before.files sight → before.files ≡ Some sight.files) where
  quiet_out : Appends before.out after.out []
  quiet_out = subst (λ o. Appends before.out o []) kept (Appends-nil before.out)

  no_front : (text : List ℕ) → AppendsPrefix before.out after.out text
  no_front text = subst (λ o. AppendsPrefix before.out o text) kept (nothing before.out text)

  -- what is told of the files, where the command did no work
  on_sight : (ending : Ending) → (Worked ending → ⊥) → (kind_of ending ≡ failed out → ⊥)
      → ((sight : Sight) → before.files ≡ Some sight.files → EndsByItself ending → (outcome : Outcome) × ComesTo command sight outcome × (ending ≡ outcome.ending))
      → ((sight : Sight) → before.files ≡ Some sight.files → (outcome : Outcome) → ComesTo command sight outcome → RunsAs outcome before after ending)
      → (sight : Sight) → Sees command before.files sight → OnSight command sight before after ending []
  on_sight ending idle no_out comes runs sight seen = let is : before.files ≡ Some sight.files = sees sight seen in record {
    comes = comes sight is;
    fails = λ f. absurd (no_out f);
    wrote = inl quiet_out;
    runs = runs sight is;
    tells = λ did. absurd (idle did);
    fronts = kept_fronts command sight before.files after.files is same;
  }

  -- the bytes were turned away, or are too many: the command comes to that
  pub stops_turned : (ending : Ending) → WasTurnedAway ending → CanEnd command ending → (there : Outcome) → there.ending ≡ ending
      → ((sight : Sight) → before.files ≡ Some sight.files → ComesTo command sight there)
      → ((sight : Sight) → before.files ≡ Some sight.files → (outcome : Outcome) → ComesTo command sight outcome → outcome ≡ there)
      → Works command before after ending []
  stops_turned ending away can there ends comes only = record {
    can_end = can;
    causes = λ part f. absurd (itself_no_fault (kind_of ending) part (inr away) f);
    reports = λ did. absurd (worked_not_away (kind_of ending) did away);
    silent = λ no. refl;
    unwritten = λ h. quiet_out;
    out_kept = λ h. quiet_out;
    files = touches command before.files after.files ending same;
    told = on_sight ending (λ did. worked_not_away (kind_of ending) did away) (λ f. itself_no_fault (kind_of ending) out (inr away) f)
        (λ sight is itself. (there, comes sight is, sym ends))
        (λ sight is outcome goes. let e : ending ≡ outcome.ending = sym (ap (λ o. o.ending) (only sight is outcome goes) ∙ ends) in record {
          ends = as_it_comes ending e;
          text = λ did. absurd (worked_not_away (kind_of ending) did away);
          front = no_front outcome.text;
          complete = λ quiet. inr e;
        });
  }

  -- memory was wanted
  pub stops_memory : Works command before after no_memory []
  stops_memory = record {
    can_end = tt;
    causes = λ part f. absurd (cc);
    reports = λ did. absurd (cc);
    silent = λ no. refl;
    unwritten = λ h. quiet_out;
    out_kept = λ h. quiet_out;
    files = touches command before.files after.files no_memory same;
    told = on_sight no_memory (λ did. cc) (λ f. cc) (λ sight is itself. absurd (itself_not (kind_of no_memory) itself refl))
        (λ sight is outcome goes. record {
          ends = for_memory;
          text = λ did. absurd (cc);
          front = no_front outcome.text;
          complete = λ quiet. inl refl;
        });
  }

  -- the file could not be loaded, which the command reaches
  pub stops_unusable : (file : List ℕ) → IsLoaded command file → Rose before.file_faults after.file_faults
      → ((sight : Sight) → before.files ≡ Some sight.files → (outcome : Outcome) → ComesTo command sight outcome → Contains outcome.reached (loads file))
      → Works command before after (cannot_load file) []
  stops_unusable file loaded_by rose reached = record {
    can_end = loaded_by;
    causes = λ part f. caused before after files part rose (files_not_out part f);
    reports = λ did. absurd (cc);
    silent = λ no. refl;
    unwritten = λ h. quiet_out;
    out_kept = λ h. quiet_out;
    files = touches command before.files after.files (cannot_load file) same;
    told = on_sight (cannot_load file) (λ did. cc) (λ f. apart (sym (files_not_out out f))) (λ sight is itself. absurd (itself_no_fault (failed files) files itself refl))
        (λ sight is outcome goes. record {
          ends = at_a_file (loads file) (reached sight is outcome goes);
          text = λ did. absurd (cc);
          front = no_front outcome.text;
          complete = λ quiet. absurd (quiet_not_rose before.file_faults after.file_faults (quiet files) rose);
        });
  }

-- ---- the first load ends the call

module _ (command : Command) (file : List ℕ) (limit : ℕ) {X : Type 0} (Reads : List ℕ → X → Type 0) (May : Ending → Type 0) (TurnsAway : List ℕ → Ending → Type 0)
    (Next : Sight → X → Outcome → Type 0) (first : LoadsFirst command file limit Reads May TurnsAway Next) where
  -- what the command sees is what the files tell
  pub told_by : (told : Option Contents) (sight : Sight) → Sees command told sight → told ≡ Some sight.files
  told_by told sight (inl is) = is
  told_by told sight (inr (none, loads_none)) = absurd (loads_none file first.loaded_by)

  module _ (before after : Objects) (same : Told before.files after.files SameFiles) (kept : before.out ≡ after.out) where
    -- the bytes were turned away, or are too many
    turned_at : (ending : Ending) → WasTurnedAway ending → CanEnd command ending
        → ((sight : Sight) → before.files ≡ Some sight.files → Loads file limit Reads TurnsAway (Next sight) (sight.files file) (stopped file ending))
        → ((sight : Sight) → before.files ≡ Some sight.files → (outcome : Outcome) → Loads file limit Reads TurnsAway (Next sight) (sight.files file) outcome → outcome ≡ stopped file ending)
        → Works command before after ending []
    turned_at ending away can comes only =
        stops_turned command before after same kept (told_by before.files) ending away can (stopped file ending) refl
        (λ sight is. first.back sight (stopped file ending) (comes sight is))
        (λ sight is outcome goes. only sight is outcome (first.comes sight outcome goes))

    -- how the first load ended the call
    pub does_stop : {ending : Ending} → StopsLoad before.files file limit May TurnsAway before.file_faults after.file_faults ending → Works command before after ending []
    does_stop step.no_room = stops_memory command before after same kept (told_by before.files)
    does_stop (step.not_usable rose) =
        stops_unusable command before after same kept (told_by before.files) file first.loaded_by rose
        (λ sight is outcome goes. is_reached file limit Reads TurnsAway (Next sight) first.once (first.comes sight outcome goes))
    does_stop (step.long holds) =
        turned_at (too_long file) refl first.loaded_by
        (λ sight is. let h = held before.files sight.files file (λ bytes. limit < length bytes) is holds in
        subst (λ o. Loads file limit Reads TurnsAway (Next sight) o (stopped file (too_long file))) (sym h.1) (long h.0 h.2))
        (λ sight is outcome goes. let h = held before.files sight.files file (λ bytes. limit < length bytes) is holds in
        only_long file limit Reads TurnsAway (Next sight) first.once goes h.0 h.1 h.2)
    does_stop (step.turned ending may holds) =
        turned_at ending (first.turns ending may) (first.can_turn ending may)
        (λ sight is. let h = held before.files sight.files file (λ bytes. (length bytes ≤ limit) × TurnsAway bytes ending) is holds in
        subst (λ o. Loads file limit Reads TurnsAway (Next sight) o (stopped file ending)) (sym h.1) (turned h.0 ending h.2.0 h.2.1))
        (λ sight is outcome goes. let h = held before.files sight.files file (λ bytes. (length bytes ≤ limit) × TurnsAway bytes ending) is holds in
        only_turned file limit Reads TurnsAway (Next sight) first.once goes h.0 ending h.1 h.2.0 h.2.1)

-- ---- work on what was loaded

-- the command loads one file, does this work on what it reads, and writes no file and no report
pub record LoadsOne (command : Command) (file : List ℕ) (limit : ℕ) {X : Type 0} (Reads : List ℕ → X → Type 0) (May : Ending → Type 0) (TurnsAway : List ℕ → Ending → Type 0) (work : X → Work) : Type 0
  where
    pub first : LoadsFirst command file limit Reads May TurnsAway (λ sight x. Does (work x))
    pub unwritten : (name : List ℕ) → IsWritten command name → ⊥
    pub writes : (sight : Sight) → Writes command sight [] []
    pub reports : (sight : Sight) → Reports command sight [] []
    pub may_report : MayReport command []
    pub writes_out : WritesOut command
    pub can_work : (x : X) → CanEnd command (work x).ending
    pub works : (x : X) → Worked (work x).ending

module _ (command : Command) (file : List ℕ) (limit : ℕ) {X : Type 0} (Reads : List ℕ → X → Type 0) (May : Ending → Type 0) (TurnsAway : List ℕ → Ending → Type 0) (work : X → Work)
    (one : LoadsOne command file limit Reads May TurnsAway work) (before after : Objects) (same : Told before.files after.files SameFiles) where
  no_file : (o : Option Contents) → HoldsWritten command o []
  no_file None = tt
  no_file (Some contents) = λ name is. absurd (one.unwritten name is)

  no_fronts : (sight : Sight) (o : Option Contents) → HoldsFronts command sight o
  no_fronts sight None = tt
  no_fronts sight (Some contents) = λ name is. absurd (one.unwritten name is)

  module _ (x : X) (holds : Holds before.files file (λ bytes. (length bytes ≤ limit) × Reads bytes x)) where
    -- the one outcome
    comes_to : (sight : Sight) → before.files ≡ Some sight.files → ComesTo command sight (reaching (loads file) (finished (work x)))
    comes_to sight is = let h = held before.files sight.files file (λ bytes. (length bytes ≤ limit) × Reads bytes x) is holds in
        one.first.back sight (reaching (loads file) (finished (work x)))
        (subst (λ o. Loads file limit Reads TurnsAway (λ y. Does (work y)) o (reaching (loads file) (finished (work x)))) (sym h.1)
        (loaded h.0 x (finished (work x)) h.2.0 h.2.1 refl))

    -- so out may fail, and may have got something
    can_work : (sight : Sight) → before.files ≡ Some sight.files → CanWork command sight
    can_work sight is = (reaching (loads file) (finished (work x)), comes_to sight is, one.works x)

    only : (sight : Sight) → before.files ≡ Some sight.files → (outcome : Outcome) → ComesTo command sight outcome → outcome ≡ reaching (loads file) (finished (work x))
    only sight is outcome goes =
        let h = held before.files sight.files file (λ bytes. (length bytes ≤ limit) × Reads bytes x) is holds in
        let k = only_loaded file limit Reads TurnsAway (λ y. Does (work y)) one.first.once (one.first.comes sight outcome goes) h.0 x h.1 h.2.0 h.2.1 in
        k.2 ∙ ap (reaching (loads file)) k.1

    -- what is told of the files
    on_sight_of_work : (ending : Ending)
        → ((sight : Sight) → before.files ≡ Some sight.files → EndsByItself ending → (outcome : Outcome) × ComesTo command sight outcome × (ending ≡ outcome.ending))
        → ((sight : Sight) → before.files ≡ Some sight.files → (outcome : Outcome) → ComesTo command sight outcome → RunsAs outcome before after ending)
        → (sight : Sight) → Sees command before.files sight → OnSight command sight before after ending []
    on_sight_of_work ending comes runs sight sees =
        let is : before.files ≡ Some sight.files = told_by command file limit Reads May TurnsAway (λ sight y. Does (work y)) one.first before.files sight sees in
        record {
          comes = comes sight is;
          fails = λ f. can_work sight is;
          wrote = inr (can_work sight is);
          runs = runs sight is;
          tells = λ did. record { trace = []; text = []; writes = one.writes sight; reports = one.reports sight; holds = no_file after.files };
          fronts = no_fronts sight after.files;
        }

    -- how the work ended the call
    pub does_work : {ending : Ending} → EndsWork (work x) before.out after.out before.out_faults after.out_faults ending → Works command before after ending []
    does_work (whole wrote) = record {
      can_end = one.can_work x;
      causes = λ part f. absurd (worked_not_failed (kind_of (work x).ending) part (one.works x) f);
      reports = λ did. one.may_report;
      silent = λ no. refl;
      unwritten = λ h. absurd (before_not_worked (work x).ending h (one.works x));
      out_kept = λ h. absurd (h one.writes_out);
      files = touches command before.files after.files (work x).ending same;
      told = on_sight_of_work (work x).ending (λ sight is itself. (reaching (loads file) (finished (work x)), comes_to sight is, refl))
          (λ sight is outcome goes. let e : outcome ≡ reaching (loads file) (finished (work x)) = only sight is outcome goes in
          record {
            ends = as_it_comes (work x).ending (sym (ap (λ o. o.ending) e));
            text = λ did. subst (Appends before.out after.out) (sym (ap (λ o. o.text) e)) wrote;
            front = whole_front before.out after.out outcome.text (subst (Appends before.out after.out) (sym (ap (λ o. o.text) e)) wrote);
            complete = λ quiet. inr (sym (ap (λ o. o.ending) e));
          });
    }
    does_work (step.no_room front) = record {
      can_end = tt;
      causes = λ part f. absurd (cc);
      reports = λ did. absurd (cc);
      silent = λ no. refl;
      unwritten = λ h. absurd h;
      out_kept = λ h. absurd (h one.writes_out);
      files = touches command before.files after.files no_memory same;
      told = on_sight_of_work no_memory (λ sight is itself. absurd (itself_not (kind_of no_memory) itself refl))
          (λ sight is outcome goes. record {
            ends = for_memory;
            text = λ did. absurd (cc);
            front = subst (AppendsPrefix before.out after.out) (sym (ap (λ o. o.text) (only sight is outcome goes))) front;
            complete = λ quiet. inl refl;
          });
    }
    does_work (out_failed rose front) = record {
      can_end = one.writes_out;
      causes = λ part f. caused before after out part rose (out_not_files part f);
      reports = λ did. absurd (cc);
      silent = λ no. refl;
      unwritten = λ h. absurd h;
      out_kept = λ h. absurd (h one.writes_out);
      files = touches command before.files after.files output_failed same;
      told = on_sight_of_work output_failed (λ sight is itself. absurd (itself_no_fault (failed out) out itself refl))
          (λ sight is outcome goes. let e : outcome ≡ reaching (loads file) (finished (work x)) = only sight is outcome goes in
          record {
            ends = at_out (subst Worked (sym (ap (λ o. o.ending) e)) (one.works x));
            text = λ did. absurd (cc);
            front = subst (AppendsPrefix before.out after.out) (sym (ap (λ o. o.text) e)) front;
            complete = λ quiet. absurd (quiet_not_rose before.out_faults after.out_faults (quiet out) rose);
          });
    }

-- the work was done to its end
pub ends_whole : (work : Work) (a b : Option (List ℕ)) (f g : ℕ) (ending : Ending) → Appends a b work.text → ending ≡ work.ending → EndsWork work a b f g ending
ends_whole work a b f g ending wrote e = subst (EndsWork work a b f g) (sym e) (whole wrote)
