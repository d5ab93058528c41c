-- Steps of the code: when a step may be opened, and where the run stands behind it.
use Rattle.std.specs.Prelude.{◌≡◌, ℕ, ◌+◌, ◌≤◌, ◌<◌, ◌^◌}
use Rattle.cal_base.specs.Main.{IsNumbered}
use Rattle.bytecode.specs.declared.module.Module.{Module}
use Rattle.cal_base.specs.Memory.{Memory}
use Rattle.machine_meaning.specs.Meaning.{module_memory}
use Rattle.machine_meaning.specs.Runs.{main_beginning}
use Rattle.routine_vm.specs.Held.{main_state, MayGoOn}
use Rattle.calypso_engine.specs.Kept.{HasRoom}
use Rattle.calypso_engine.specs.Running.{opening_here}
use Rattle.calypso_engine.specs.Teams.{IsTeam}
use Rattle.calypso_engine.specs.declared.team.Team.{Team}
use Rattle.calypso_engine.specs.declared.event.Standing.{Standing}
use Rattle.calypso_engine.specs.declared.options.RunOptions.{RunOptions}

-- the team may work; there is room for the words; steps are numbered
pub record MayStep (m : Module) (options : RunOptions) (first : ℕ) (s : Standing) (team : Team) : Type 0 where
  pub working : IsTeam options.script.now options.workers s.steps s.image m team
  pub workers : options.workers ≤ 32
  pub few : s.steps < 2 ^ 32
  pub room : HasRoom options.steps s.image.memory s.kept
  pub numbered : IsNumbered s.steps (opening_here m options.fuel first s)

-- the step was completed, and the team may go on
pub record IsBehind (m : Module) (options : RunOptions) (before after : Standing) (team : Team) : Type 0 where
  pub working : IsTeam options.script.now options.workers after.steps after.image m team
  pub room : HasRoom options.steps after.image.memory after.kept
  pub steps : after.steps ≡ before.steps + 1
  pub machine : after.machine ≡ before.machine

-- main has just begun, on the module's memory
pub record IsFirst (m : Module) (options : RunOptions) (s : Standing) : Type 0 where
  pub steps : s.steps ≡ 0
  pub memory : s.image.memory ≡ module_memory m
  pub room : HasRoom options.steps s.image.memory s.kept
  pub may : MayGoOn m s.machine
  pub begins : (memory : Memory) → main_state m s.machine memory ≡ main_beginning m memory options.fuel
  pub limit : options.fuel < 2 ^ 32
