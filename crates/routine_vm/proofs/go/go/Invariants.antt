use Rattle.std.proofs.Common.{◌≡◌}
use Rattle.machine_meaning.specs.Runs.{most_steps}
use Rattle.routine_vm.specs.declared.frame.Body.{Body}
use Rattle.routine_vm.specs.States.{RunsAbove, state_of, outcome_from}
use Rattle.routine_vm.specs.Ready.{IsReady}
use Rattle.routine_vm.proofs.go.go.Given as goal

-- what runs is ready, and comes to what it came to at first
abbrev pub invariant-steps : goal.invariant-steps
invariant-steps g l = record {
  ready : IsReady l.m l.run (g.S.Site.store l.words);
  same : outcome_from l.m (state_of l.m l.fn.run (g.S.Site.store l.fn.words)) ≡ outcome_from l.m (state_of l.m l.run (g.S.Site.store l.words));
  bodies : (bottom : Body) → RunsAbove l.m bottom l.fn.run → RunsAbove l.m bottom l.run;
  leads : g.S.Site.leads l.fn.words l.words;
}

abbrev pub decreases-steps : goal.decreases-steps
decreases-steps g l = most_steps l.m (state_of l.m l.run (g.S.Site.store l.words))
