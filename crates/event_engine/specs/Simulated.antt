-- A run over a list of events.
use Rattle.std.specs.Prelude.{List}
use Rattle.bytecode.specs.declared.module.Module.{Module}
use Rattle.event_world.specs.declared.event.Event.{Event}
use Rattle.event_world.specs.World.{Run, world}
use Rattle.machine_meaning.specs.Meaning.{machine_main}
use Rattle.event_engine.specs.declared.simulation.TheConstants.{SIM_FUEL}

-- what the module's program does where its workers do what the events say, and the caller does the rest
abbrev pub simulated : Module → List Event → Run
simulated m events = world (machine_main m SIM_FUEL) events
