use Rattle.std.proofs.Common.{◌≡◌, ◌≤◌, ◌++◌, drop, length}
use Rattle.cal_base.specs.Claims.{size_of}
use Rattle.cal_base.specs.Main.{Main}
use Rattle.cal_base.specs.Memory.{Memory}
use Rattle.step_laws.specs.Caller.{NoCaller}
use Rattle.event_engine.specs.Resuming.{resume_in}
use Rattle.event_engine.specs.Scenes.{turn_at, AreAtBelow, Work}
use Rattle.event_engine.proofs.play.turns.Given as goal

-- the events so far were applied
abbrev pub invariant-loop-next : goal.invariant-loop-next
invariant-loop-next g l = record {
  within : l.next ≤ length l.events;
  goes :
      (after : Memory → Main)
      → resume_in g.N.JobName.job after (turn_at l.initial.core l.initial.modes (l.older ++ l.initial.fresh.items)) (drop l.from l.events)
      ≡ resume_in g.N.JobName.job after (turn_at l.core l.modes (l.older ++ l.fresh.items)) (drop l.next l.events);
  work : Work l.job.image.now l.job.code.now l.initial.workers l.workers;
  below : AreAtBelow (size_of g.N.JobName.job) l.modes;
  alone : NoCaller l.core;
}
