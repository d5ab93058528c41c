-- What the workers of a run over events are at, and what they delivered, as the world sees it.
use Rattle.std.specs.Prelude.{◌≡◌, ℕ, ◌<◌, ◌≤◌, List, slice_index_or}
use Rattle.std.specs.List.{AllByRecursion, AllZip}
use Rattle.bytecode.specs.declared.module.Module.{Module}
use Rattle.cal_base.specs.History.{History}
use Rattle.cal_base.specs.Pages.{Paged}
use Rattle.event_world.specs.World as world
use Rattle.worker_gate.specs.Working.{WorkerState, Executes}
use Rattle.event_engine.specs.declared.scene.Mode.{Mode}
use Rattle.event_engine.specs.declared.scene.Mode.TheVariants as mode
use Rattle.event_engine.specs.declared.scene.Scene.{Scene}

-- what a worker is at
abbrev pub mode_of : Mode → world.Mode
mode_of mode.Idle = world.Idle
mode_of (mode.Busy k) = world.Busy k
mode_of mode.Stopped = world.Stopped

-- what each worker is at, by its number
abbrev pub modes_in : List Mode → ℕ → world.Mode
modes_in modes who = mode_of (slice_index_or modes who mode.Idle)

-- an open step: its history so far, what the workers are at, and the deliveries
abbrev pub turn_at : History → List Mode → List world.Delivery → world.Turn
turn_at history modes deliveries = record { history = history; modes = modes_in modes; deliveries = deliveries }

-- a worker that is busy is at a number below this one
abbrev pub IsAtBelow : ℕ → world.Mode → Type 0
IsAtBelow n world.Idle = Unit {0}
IsAtBelow n (world.Busy k) = k < n
IsAtBelow n world.Stopped = Unit {0}

-- so are all workers
abbrev pub AreAtBelow : ℕ → List Mode → Type 0
AreAtBelow n modes = (who : ℕ) → IsAtBelow n (modes_in modes who)

-- none is busy
abbrev pub AreFree : List Mode → Type 0
AreFree modes = (who : ℕ) → world.freed (modes_in modes who) ≡ modes_in modes who

-- workers worked: each may have executed and fetched
abbrev pub Work : Paged → Module → List WorkerState → List WorkerState → Type 0
Work image m before after = AllZip (λ b a. Executes b a image m) before after

-- between two steps: so many events were applied, no worker is busy, and what was delivered is of a completed step
pub record IsScene (events steps : ℕ) (scene : Scene) : Type 0 where
  pub within : scene.next ≤ events
  pub free : AreFree scene.modes
  pub older : AllByRecursion (λ (d : world.Delivery). d.step ≤ steps) scene.deliveries.items
