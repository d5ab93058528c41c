-- What is left of a run over events, from some moment on.
use Rattle.std.specs.Prelude.{ℕ, List, ◌++◌, if◌then◌else◌}
use Rattle.cal_base.specs.Memory.{Memory}
use Rattle.cal_base.specs.Claims.{StepJob}
use Rattle.cal_base.specs.Main.{Main, Event as Shown}
use Rattle.step_laws.specs.Closed.{ClosedStep}
use Rattle.event_world.specs.declared.event.Event.{Event}
use Rattle.event_world.specs.World.{Mode, Delivery, Run, State, Turn, is_complete, run_on, settled, freed, apply_all, finish_in}

-- a run with this shown and closed before it
abbrev pub behind : List Shown → List ClosedStep → Run → Run
behind shown closed run = record { shown = shown ++ run.shown; closed = closed ++ run.closed; phase = run.phase }

-- the whole run of a state: these events are applied, and the caller completes the rest
abbrev pub run_from : List Event → State → Run
run_from events state =
    let last = apply_all events state in
    record {
      shown = last.run.shown ++ (finish_in last.run.phase).shown;
      closed = last.run.closed ++ (finish_in last.run.phase).closed;
      phase = (finish_in last.run.phase).phase;
    }

-- main goes on, where the workers are at this and this was delivered
unfoldable pub resume : Main → (ℕ → Mode) → List Delivery → List Event → Run
resume main modes deliveries events = run_from events (record { run = run_on main; modes = modes; deliveries = deliveries })

-- a step that main opened goes on
unfoldable pub resume_in : StepJob → (Memory → Main) → Turn → List Event → Run
resume_in job next turn events =
    run_from events (record {
      run = settled job next turn.history;
      modes = if is_complete job turn.history then (λ w. freed (turn.modes w)) else turn.modes;
      deliveries = turn.deliveries;
    })
