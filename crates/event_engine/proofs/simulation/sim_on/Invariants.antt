use Rattle.std.proofs.Common.{◌≤◌, [], IfSome, length}
use Rattle.cal_base.specs.Contents.{StaysTrue}
use Rattle.machine_meaning.specs.Runs.{most_steps}
use Rattle.routine_vm.specs.Held.{main_state}
use Rattle.calypso_engine.specs.Asked.{outside_of}
use Rattle.calypso_engine.specs.Running.{rest_of, IsReady}
use Rattle.event_engine.specs.Scenes.{IsScene}
use Rattle.event_engine.specs.Simulating.{resumed, ToldPart}
use Rattle.event_engine.proofs.simulation.sim_on.Given as goal

-- main may go on, and the run up to here was told
abbrev pub invariant-events : goal.invariant-events
invariant-events g l = record {
  ready : IsReady l.code l.options l.standing l.team;
  scene : IsScene (length l.events) l.standing.steps l.scene;
  made : IfSome l.options.log (λ name. g.F.Files.created l.files name.now);
  told :
      ToldPart l.options (resumed (rest_of l.code l.options.fuel l.initial.standing) l.initial.scene l.events) (resumed (rest_of l.code l.options.fuel l.standing) l.scene l.events)
      (outside_of (g.S.Sink.written l.initial.out) (g.F.Files.holds l.initial.files)) (outside_of (g.S.Sink.written l.out) (g.F.Files.holds l.files));
  created : StaysTrue (g.F.Files.created l.initial.files) (g.F.Files.created l.files);
  files_later : g.F.Files.faults l.initial.files ≤ g.F.Files.faults l.files;
  out_later : g.S.Sink.faults l.initial.out ≤ g.S.Sink.faults l.out;
}

abbrev pub decreases-events : goal.decreases-events
decreases-events g l = most_steps l.code (main_state l.code l.standing.machine [])
