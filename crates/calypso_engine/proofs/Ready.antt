-- Main may go on behind each event.
use Rattle.std.proofs.Common.{◌≡◌, ℕ, suc, ◌+◌, ◌≤◌, Bool, true, false, List, Option, Some, None, refl, sym, ap, subst, ◌∙◌, arith}
use Rattle.cal_base.specs.Memory.{Memory, kinds_of}
use Rattle.cal_base.specs.Main.{Main, Shows, Opens, IsNumbered}
use Rattle.cal_base.specs.Pages.{Paged, IsLater}
use Rattle.bytecode.specs.declared.module.Module.{Module}
use Rattle.machine_meaning.specs.Machine.{State}
use Rattle.machine_meaning.specs.Runs.{main_beginning}
use Rattle.machine_meaning.specs.Meaning.{main_of, machine_main}
use Rattle.routine_vm.specs.Held.{Held, main_state, MayGoOn}
use Rattle.engine_laws.specs.Steps.{TakesUnits, step_job}
use Rattle.engine_laws.proofs.Units.{steps_are_numbered, steps_take_units}
use Rattle.std.specs.List.{AllByRecursion}
use Rattle.fault_script.specs.Rows.{Row}
use Rattle.worker_gate.proofs.Later.{may_work_later}
use Rattle.calypso_engine.specs.Kept.{HasRoom}
use Rattle.calypso_engine.specs.Running.{rest_of, opening_here, IsReady}
use Rattle.calypso_engine.specs.Stepping.{MayStep, IsBehind, IsFirst}
use Rattle.calypso_engine.specs.Teams.{IsMember, IsTeam}
use Rattle.calypso_engine.specs.declared.team.Team.{Team}
use Rattle.calypso_engine.specs.declared.event.Standing.{Standing}
use Rattle.calypso_engine.specs.declared.options.RunOptions.{RunOptions}
use Rattle.calypso_engine.proofs.Events.{rest_behind}
use Rattle.calypso_engine.proofs.Teams.{members_later}

-- the team may still work on a later image
team_later : (rows : List Row) (workers steps now : ℕ) (image later : Paged) (m : Module) (team : Team) → now ≡ steps → IsLater image later → IsTeam rows workers steps image m team
    → IsTeam rows workers now later m team
team_later rows workers steps now image later m team same is all = record {
  members = subst (λ (k : ℕ). AllByRecursion (IsMember rows k later m) team.workers.items) (sym same) (members_later rows m steps image later is team.workers.items all.members);
  numbers = all.numbers;
  caller = all.caller;
  may = may_work_later team.caller image later m all.may is;
  claims = omega (arith, all.claims, same);
}

room_later : (steps : Bool) (before later : Memory) (kept : Option Paged) → HasRoom steps before kept → kinds_of later ≡ kinds_of before → HasRoom steps later kept
room_later false before later None room kinds = room
room_later false before later (Some copy) room kinds = room
room_later true before later None room kinds = room
room_later true before later (Some copy) room kinds = room ∙ sym kinds

module _ (m : Module) (o : RunOptions) (before : Standing) (team : Team) (ready : IsReady m o before team) where
  -- behind a line
  pub line_ready : (after : Standing) (line : List ℕ) → rest_of m o.fuel before ≡ Shows line (rest_of m o.fuel after) → MayGoOn m after.machine → IsLater before.image after.image
      → after.kept ≡ before.kept → after.steps ≡ before.steps
      → IsReady m o after team
  line_ready after line is may later kept steps = record {
    may = may;
    working = team_later o.script.now o.workers before.steps after.steps before.image after.image m team steps later ready.working;
    room = subst (λ (copy : Option Paged). HasRoom o.steps after.image.memory copy) (sym kept) (room_later o.steps before.image.memory after.image.memory before.kept ready.room later.kinds);
    numbered = subst (λ (k : ℕ). IsNumbered k (rest_of m o.fuel after)) (sym steps) (subst (λ (r : Main). IsNumbered before.steps r) is ready.numbered);
    left = ready.left;
    units = subst (λ (r : Main). TakesUnits ready.left r) is ready.units;
    counted = omega (arith, ready.counted, steps);
    limit = ready.limit;
    few = ready.few;
  }

  -- a step may be opened
  pub step_may : (mid : Standing) (first : ℕ) → rest_of m o.fuel before ≡ opening_here m o.fuel first mid → IsLater before.image mid.image → mid.kept ≡ before.kept → mid.steps ≡ before.steps
      → MayStep m o first mid team
  step_may mid first is later kept steps = record {
    working = team_later o.script.now o.workers before.steps mid.steps before.image mid.image m team steps later ready.working;
    workers = ready.few;
    few = omega (arith, ready.counted, ready.limit, steps);
    room = subst (λ (copy : Option Paged). HasRoom o.steps mid.image.memory copy) (sym kept) (room_later o.steps before.image.memory mid.image.memory before.kept ready.room later.kinds);
    numbered = subst (λ (k : ℕ). IsNumbered k (opening_here m o.fuel first mid)) (sym steps) (subst (λ (r : Main). IsNumbered before.steps r) is ready.numbered);
  }

  -- behind a step
  pub step_ready : (mid after : Standing) (first : ℕ) (new : Team) → rest_of m o.fuel before ≡ opening_here m o.fuel first mid → mid.steps ≡ before.steps → MayGoOn m mid.machine
      → IsBehind m o mid after new → IsReady m o after new
  step_ready mid after first new is same may behind =
      let numbered : IsNumbered before.steps (opening_here m o.fuel first mid) = subst (λ (r : Main). IsNumbered before.steps r) is ready.numbered in
      let units : TakesUnits ready.left (opening_here m o.fuel first mid) = subst (λ (r : Main). TakesUnits ready.left r) is ready.units in
      let rest = rest_behind m o.fuel mid after after.image.memory behind.machine behind.steps refl in
      let number : suc before.steps ≡ after.steps = omega (arith, behind.steps, same) in
      record {
        may = subst (λ (h : Held). MayGoOn m h) (sym behind.machine) may;
        working = behind.working;
        room = behind.room;
        numbered = subst (λ (k : ℕ). IsNumbered k (rest_of m o.fuel after)) number (subst (λ (r : Main). IsNumbered (suc before.steps) r) rest (numbered.2 after.image.memory));
        left = units.0;
        units = subst (λ (r : Main). TakesUnits units.0 r) rest (units.2 after.image.memory);
        counted = omega (arith, ready.counted, units.1, number);
        limit = ready.limit;
        few = ready.few;
      }

-- the next step has the next number
pub opens_next : (m : Module) (fuel first : ℕ) (before mid : Standing)
    → rest_of m fuel before ≡ Opens (step_job m fuel (suc mid.steps) mid.image.memory first mid.machine.widths) (λ later. main_of m fuel (suc mid.steps) (main_state m mid.machine later))
    → rest_of m fuel before ≡ opening_here m fuel first mid
opens_next m fuel first before mid is =
    let up : suc mid.steps ≡ mid.steps + 1 = omega arith in
    subst (λ (k : ℕ). rest_of m fuel before ≡ Opens (step_job m fuel k mid.image.memory first mid.machine.widths) (λ later. main_of m fuel k (main_state m mid.machine later))) up is

-- ---- at first

module _ (m : Module) (o : RunOptions) (s : Standing) (first : IsFirst m o s) where
  -- what is left is main
  pub first_rest : rest_of m o.fuel s ≡ machine_main m o.fuel
  first_rest =
      ap (λ (k : ℕ). main_of m o.fuel k (main_state m s.machine s.image.memory)) first.steps
      ∙ ap (λ (t : State). main_of m o.fuel 0 t) (first.begins s.image.memory ∙ ap (λ (memory : Memory). main_beginning m memory o.fuel) first.memory)

  pub first_ready : (team : Team) → o.workers ≤ 32 → IsTeam o.script.now o.workers 0 s.image m team → IsReady m o s team
  first_ready team few working = record {
    may = first.may;
    working = subst (λ (steps : ℕ). IsTeam o.script.now o.workers steps s.image m team) (sym first.steps) working;
    room = first.room;
    numbered = subst (λ (r : Main). IsNumbered s.steps r) (sym first_rest) (subst (λ (k : ℕ). IsNumbered k (machine_main m o.fuel)) (sym first.steps) (steps_are_numbered m o.fuel));
    left = o.fuel;
    units = subst (λ (r : Main). TakesUnits o.fuel r) (sym first_rest) (steps_take_units m o.fuel);
    counted = omega (arith, first.steps);
    limit = first.limit;
    few = few;
  }
