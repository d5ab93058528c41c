-- What was told of a run over events.
use Rattle.std.specs.Prelude.{◌≡◌, ℕ, List, Option, Some, None, Result, Ok, Err, drop}
use Rattle.cal_base.specs.declared.ends.RunEnd.{RunEnd}
use Rattle.cal_base.specs.Claims.{StepJob, size_of, meant, merged}
use Rattle.cal_base.specs.Contents.{AppendsPrefix, Told}
use Rattle.cal_base.specs.Main.{Main, Opens, Event as Shown}
use Rattle.cal_base.specs.Memory.{Memory}
use Rattle.cal_base.specs.Text.{text_of}
use Rattle.event_world.specs.declared.event.Event.{Event}
use Rattle.event_world.specs.World.{Run, Over, closing}
use Rattle.run_report.specs.Logs.{log_text}
use Rattle.step_laws.specs.Closed.{ClosedStep, IsWhole}
use Rattle.step_core.specs.Calls.{IsEnd}
use Rattle.step_core.specs.declared.state.Closed.{Closed}
use Rattle.calypso_engine.specs.Asked.{log_of, Outside}
use Rattle.calypso_engine.specs.Logs.{LogsFront}
use Rattle.event_engine.specs.Resuming.{behind, resume}
use Rattle.calypso_engine.specs.Running.{Tells}
use Rattle.calypso_engine.specs.Traces.{trace_of}
use Rattle.event_engine.specs.Scenes.{modes_in}
use Rattle.event_engine.specs.declared.scene.Scene.{Scene}
use Rattle.calypso_engine.specs.declared.error.RunError.{RunError}
use Rattle.calypso_engine.specs.declared.options.RunOptions.{RunOptions}

-- main goes on where the workers stand so, over the events that were not applied
abbrev pub resumed : Main → Scene → List Event → Run
resumed main scene events = resume main (modes_in scene.modes) scene.deliveries.items (drop scene.next events)

-- a part of the run was told, and this is left of it
pub record ToldPart (options : RunOptions) (run rest : Run) (was now : Outside) : Type 0 where
  pub shown : List Shown
  pub closed : List ClosedStep
  pub is : run ≡ behind shown closed rest
  pub told : Tells options shown closed was now

-- the run came to this end, and all of it was told
pub record ToldAll (options : RunOptions) (run : Run) (ending : RunEnd) (was now : Outside) : Type 0 where
  pub phase : run.phase ≡ Over ending
  pub told : Tells options run.shown run.closed was now

-- out got a front of the run's text, and the log one of that of its histories
pub record ToldFront (options : RunOptions) (run : Run) (was now : Outside) : Type 0 where
  pub front : AppendsPrefix was.out now.out (text_of options.steps run.shown)
  pub logged : Told was.files now.files (LogsFront (log_of options) (log_text (trace_of run.closed)))

-- the run went on, so that the rest is left, or came to its end, or was given up
abbrev pub GoesSo : RunOptions → (run rest : Run) → Outside → Outside → Result (Option RunEnd) RunError → Type 0
GoesSo options run rest was now (Ok None) = ToldPart options run rest was now
GoesSo options run rest was now (Ok (Some ending)) = ToldAll options run ending was now
GoesSo options run rest was now (Err error) = ToldFront options run was now

-- the run came to its end, or was given up
abbrev pub ComesSo : RunOptions → Run → Outside → Outside → Result RunEnd RunError → Type 0
ComesSo options run was now (Ok ending) = ToldAll options run ending was now
ComesSo options run was now (Err error) = ToldFront options run was now

-- the step of n routines was closed: the world closes it by the same history and goes on so, and it leaves this memory or ended in its fault
pub record WasPlayed (job : StepJob) (n : ℕ) (events : List Event) (old new : Scene) (memory : Memory) (closed : Closed) : Type 0 where
  pub whole : IsWhole (record { job = job; history = closed.history.items })
  pub left : IsEnd (meant job) memory closed.result
  pub size : n ≡ size_of job
  pub goes : (next : Memory → Main) → resumed (Opens job next) old events ≡ closing job closed.history.items
      (merged job closed.history.items) (λ later. resumed (next later) new events)
