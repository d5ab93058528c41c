-- What a command promises where its second load ends it, and what is known behind a load.
use Rattle.std.proofs.Common.{◌≡◌, ◌≤◌, ◌<◌, ℕ, List, [], length, Option, Some, None, refl, sym, ap, ◌∙◌, subst}
use Rattle.std.specs.Prelude.{IsSomeAnd}
use Rattle.std.specs.List.{Contains}
use Rattle.cal_base.specs.Contents.{Contents, Told, SameFiles}
use Rattle.fault_script.specs.Rows.{Row}
use Rattle.command_words.specs.Commands.{Flags, Command}
use Rattle.calypso_cli.specs.Endings.{Ending, script_refused, too_long, kind_of}
use Rattle.calypso_cli.specs.Outcomes.{Sight, loads, Outcome, Work, stopped, reaching, Loads, long, turned, loaded, Creates, Does}
use Rattle.calypso_cli.specs.Commands.{IsLoaded, CanEnd, ComesTo, IsScript, IsNoScript, script_limit, WithScript}
use Rattle.calypso_cli.specs.Steps as step
use Rattle.calypso_cli.specs.Steps.{Holds, HoldsRows, IsScriptRefusal, StopsLoad, StopsScript}
use Rattle.calypso_cli.specs.Promise.{Objects, WasTurnedAway, Works}
use Rattle.calypso_cli.proofs.Only.{ReadsOnce, only_loaded, only_turned, only_long, is_reached}
use Rattle.calypso_cli.proofs.Readings.{scripts_once}
use Rattle.calypso_cli.proofs.Kept.{LoadsFirst, held, told_by, stops_turned, stops_memory, stops_unusable}
use Rattle.calypso_cli.proofs.Written.{rose_behind}
use Rattle.calypso_cli.proofs.Runs.{Goes, later_in}

-- ---- behind a load that left the files as they were

pub holds_behind : (a b : Option Contents) (file : List ℕ) (Fact : List ℕ → Type 0) → Told a b SameFiles → Holds b file Fact → Holds a file Fact
holds_behind None b file Fact same h = tt
holds_behind (Some m) None file Fact same h = absurd same
holds_behind (Some m) (Some n) file Fact same h = subst (λ o. IsSomeAnd o Fact) (same file) h

pub rows_behind : (a b : Option Contents) (script : Option (List ℕ)) (rows : List Row) → Told a b SameFiles → HoldsRows b script rows → HoldsRows a script rows
rows_behind a b None rows same h = h
rows_behind a b (Some script) rows same h = holds_behind a b script (λ bytes. (length bytes ≤ script_limit) × IsScript bytes rows) same h

pub stops_behind : (a b : Option Contents) (file : List ℕ) (limit : ℕ) (May : Ending → Type 0) (TurnsAway : List ℕ → Ending → Type 0) (before mid after : ℕ) → Told a b SameFiles → before ≤ mid
    → {ending : Ending}
    → StopsLoad b file limit May TurnsAway mid after ending → StopsLoad a file limit May TurnsAway before after ending
stops_behind a b file limit May TurnsAway before mid after same later step.no_room = step.no_room
stops_behind a b file limit May TurnsAway before mid after same later (step.not_usable rose) = step.not_usable (rose_behind before mid after later rose)
stops_behind a b file limit May TurnsAway before mid after same later (step.long holds) = step.long (holds_behind a b file (λ bytes. limit < length bytes) same holds)
stops_behind a b file limit May TurnsAway before mid after same later (step.turned ending may holds) =
    step.turned ending may (holds_behind a b file (λ bytes. (length bytes ≤ limit) × TurnsAway bytes ending) same holds)

-- ---- the second load ends the call

-- behind its first load the command loads a second file of at most so many bytes, whatever it reads of it goes on in the same way
pub record LoadsSecond (command : Command) {X : Type 0} (Next : Sight → X → Outcome → Type 0) (second : List ℕ) (limit : ℕ) {Y : Type 0} (Reads : List ℕ → Y → Type 0) (May : Ending → Type 0)
    (TurnsAway : List ℕ → Ending → Type 0) (x : X) (Rest : Outcome → Type 0) : Type 0 where
  pub once : ReadsOnce Reads TurnsAway
  pub comes : (sight : Sight) (later : Outcome) → Next sight x later → Loads second limit Reads TurnsAway (λ y. Rest) (sight.files second) later
  pub back : (sight : Sight) (later : Outcome) → Loads second limit Reads TurnsAway (λ y. Rest) (sight.files second) later → Next sight x later
  pub loaded_by : IsLoaded command second
  pub turns : (ending : Ending) → May ending → WasTurnedAway ending
  pub can_turn : (ending : Ending) → May ending → CanEnd command ending

module _ (command : Command) (file : List ℕ) (limit : ℕ) {X : Type 0} (Reads : List ℕ → X → Type 0) (May : Ending → Type 0) (TurnsAway : List ℕ → Ending → Type 0) (Next : Sight → X → Outcome → Type 0)
    (first : LoadsFirst command file limit Reads May TurnsAway Next) (before after : Objects)
    (same : Told before.files after.files SameFiles) (kept : before.out ≡ after.out) (x : X) (holds : Holds before.files file (λ bytes. (length bytes ≤ limit) × Reads bytes x))
    (second : List ℕ) (most : ℕ) {Y : Type 0} (ReadsSecond : List ℕ → Y → Type 0) (MaySecond : Ending → Type 0) (TurnsSecond : List ℕ → Ending → Type 0) (Rest : Outcome → Type 0)
    (again : LoadsSecond command Next second most ReadsSecond MaySecond TurnsSecond x Rest) where
  -- what the command comes to behind the first load
  comes_behind : (sight : Sight) → before.files ≡ Some sight.files → (later : Outcome)
      → Loads second most ReadsSecond TurnsSecond (λ y. Rest) (sight.files second) later → ComesTo command sight (reaching (loads file) later)
  comes_behind sight is later h =
      let k = held before.files sight.files file (λ bytes. (length bytes ≤ limit) × Reads bytes x) is holds in
      first.back sight (reaching (loads file) later)
      (subst (λ o. Loads file limit Reads TurnsAway (Next sight) o (reaching (loads file) later)) (sym k.1)
      (loaded k.0 x later k.2.0 k.2.1 (again.back sight later h)))

  only_behind : (sight : Sight) → before.files ≡ Some sight.files → (outcome : Outcome) → ComesTo command sight outcome
      → (later : Outcome) × Loads second most ReadsSecond TurnsSecond (λ y. Rest) (sight.files second) later × (outcome ≡ reaching (loads file) later)
  only_behind sight is outcome goes =
      let k = held before.files sight.files file (λ bytes. (length bytes ≤ limit) × Reads bytes x) is holds in
      let l = only_loaded file limit Reads TurnsAway (Next sight) first.once (first.comes sight outcome goes) k.0 x k.1 k.2.0 k.2.1 in
      (l.0, again.comes sight l.0 l.1, l.2)

  turned_second : (ending : Ending) → WasTurnedAway ending → CanEnd command ending
      → ((sight : Sight) → before.files ≡ Some sight.files → Loads second most ReadsSecond TurnsSecond (λ y. Rest) (sight.files second) (stopped second ending))
      → ((sight : Sight) → before.files ≡ Some sight.files → (later : Outcome)
      → Loads second most ReadsSecond TurnsSecond (λ y. Rest) (sight.files second) later → later ≡ stopped second ending)
      → Works command before after ending []
  turned_second ending away can_so comes only =
      stops_turned command before after same kept (told_by command file limit Reads May TurnsAway Next first before.files) ending away can_so
      (reaching (loads file) (stopped second ending)) refl
      (λ sight is. comes_behind sight is (stopped second ending) (comes sight is))
      (λ sight is outcome goes. let l = only_behind sight is outcome goes in l.2 ∙ ap (reaching (loads file)) (only sight is l.0 l.1))

  pub second_stops : {ending : Ending} → StopsLoad before.files second most MaySecond TurnsSecond before.file_faults after.file_faults ending → Works command before after ending []
  second_stops step.no_room = stops_memory command before after same kept (told_by command file limit Reads May TurnsAway Next first before.files)
  second_stops (step.not_usable rose) =
      stops_unusable command before after same kept (told_by command file limit Reads May TurnsAway Next first before.files) second again.loaded_by rose
      (λ sight is outcome goes. let l = only_behind sight is outcome goes in
      subst (λ o. Contains o.reached (loads second)) (sym l.2)
      (later_in (loads file) (loads second) l.0.reached (is_reached second most ReadsSecond TurnsSecond (λ y. Rest) again.once l.1)))
  second_stops (step.long far) =
      turned_second (too_long second) refl again.loaded_by
      (λ sight is. let h = held before.files sight.files second (λ bytes. most < length bytes) is far in
      subst (λ o. Loads second most ReadsSecond TurnsSecond (λ y. Rest) o (stopped second (too_long second))) (sym h.1) (long h.0 h.2))
      (λ sight is later goes. let h = held before.files sight.files second (λ bytes. most < length bytes) is far in
      only_long second most ReadsSecond TurnsSecond (λ y. Rest) again.once goes h.0 h.1 h.2)
  second_stops (step.turned ending may away) =
      turned_second ending (again.turns ending may) (again.can_turn ending may)
      (λ sight is. let h = held before.files sight.files second (λ bytes. (length bytes ≤ most) × TurnsSecond bytes ending) is away in
      subst (λ o. Loads second most ReadsSecond TurnsSecond (λ y. Rest) o (stopped second ending)) (sym h.1) (turned h.0 ending h.2.0 h.2.1))
      (λ sight is later goes. let h = held before.files sight.files second (λ bytes. (length bytes ≤ most) × TurnsSecond bytes ending) is away in
      only_turned second most ReadsSecond TurnsSecond (λ y. Rest) again.once goes h.0 ending h.1 h.2.0 h.2.1)

-- ---- the script ends the call

module _ (flags : Flags) {X : Type 0} (work : X → Work) (command : Command) (file : List ℕ) (limit : ℕ) (Reads : List ℕ → X → Type 0) (May : Ending → Type 0)
    (TurnsAway : List ℕ → Ending → Type 0) (first : LoadsFirst command file limit Reads May TurnsAway (Goes flags work)) (before after : Objects)
    (same : Told before.files after.files SameFiles) (kept : before.out ≡ after.out) (x : X) (holds : Holds before.files file (λ bytes. (length bytes ≤ limit) × Reads bytes x))
    (can : (name : List ℕ) → flags.script ≡ Some name → CanEnd command script_refused) where
  loads_script : (script : List ℕ) → flags.script ≡ Some script → IsLoaded command script
      → LoadsSecond command (Goes flags work) script script_limit IsScript IsScriptRefusal IsNoScript x (Creates flags.log (Does (work x)))
  loads_script script named loaded_by = record {
    once = scripts_once;
    comes = λ sight later h. subst (λ o. WithScript sight o (Creates flags.log (Does (work x))) later) named h;
    back = λ sight later h. subst (λ o. WithScript sight o (Creates flags.log (Does (work x))) later) (sym named) h;
    loaded_by = loaded_by;
    turns = λ ending may. ap kind_of may;
    can_turn = λ ending may. subst (CanEnd command) (sym may) (can script named);
  }

  -- the same by the options, behind the first load
  pub script_ends : (mid : Option Contents) (mid_faults : ℕ) → Told before.files mid SameFiles → before.file_faults ≤ mid_faults → ((name : List ℕ) → flags.script ≡ Some name → IsLoaded command name)
      → (script : Option (List ℕ)) → flags.script ≡ script → {ending : Ending} → StopsScript mid script mid_faults after.file_faults ending → Works command before after ending []
  script_ends mid mid_faults so later loads_it None e stops = absurd stops
  script_ends mid mid_faults so later loads_it (Some script) e stops =
      second_stops command file limit Reads May TurnsAway (Goes flags work) first before after same kept x holds script script_limit IsScript IsScriptRefusal IsNoScript
      (Creates flags.log (Does (work x)))
      (loads_script script e (loads_it script e))
      (stops_behind before.files mid script script_limit IsScriptRefusal IsNoScript before.file_faults mid_faults after.file_faults so later stops)
