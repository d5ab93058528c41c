-- The world of every list of events has the program's meaning.
use Rattle.std.specs.Prelude.{◌≡◌, ◌<◌, List}
use Rattle.cal_base.specs.declared.step.TheConstants.{CALLER}
use Rattle.event_world.specs.declared.event.Event.{Event}
use Rattle.event_world.specs.declared.event.Event.TheVariants as event
use Rattle.cal_base.specs.Main.{Main, meaning_of, steps_of, IsNumbered}
pub use Rattle.step_laws.specs.Caller.{NoCaller, CallerCompletes}
pub use Rattle.step_laws.specs.Closed.{Each, IsWhole, jobs_in}
use Rattle.event_world.specs.World.{Over, world}

-- the event is of a worker
abbrev pub IsOfWorker : Event → Type 0
IsOfWorker (event.Claim who) = who < CALLER
IsOfWorker (event.Fetch who page) = who < CALLER
IsOfWorker (event.Finish who) = who < CALLER
IsOfWorker (event.Arrive number) = Unit {0}
IsOfWorker (event.Stop who) = who < CALLER

-- what the world is: the program's meaning, by a legal and complete history of each step that the meaning opens
pub record IsMeant (main : Main) (events : List Event) : Type 0 where
  pub shown : (world main events).shown ≡ (meaning_of main).events
  pub ending : (world main events).phase ≡ Over (meaning_of main).ending
  pub steps : jobs_in (world main events).closed ≡ steps_of main
  pub whole : Each IsWhole (world main events).closed

-- whatever the workers do, the world has the program's meaning
abbrev pub WorldIsMeant : Type 0
WorldIsMeant = (main : Main) (events : List Event) → IsNumbered 0 main → Each IsOfWorker events → IsMeant main events

-- the world depends on what the program means and on the steps that it opens alone: programs that have these in common have the same world
abbrev pub WorldIsOfTheMeaning : Type 0
WorldIsOfTheMeaning =
    (one other : Main) (events : List Event) → IsNumbered 0 one → IsNumbered 0 other → Each IsOfWorker events
    → meaning_of one ≡ meaning_of other → steps_of one ≡ steps_of other
    → world one events ≡ world other events
