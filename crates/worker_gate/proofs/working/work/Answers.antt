use Rattle.std.proofs.Common.{◌≡◌, true, sym, ◌∙◌, ap}
use Rattle.cal_base.specs.declared.step.WorkerTally.{WorkerTally}
use Rattle.worker_gate.proofs.Counting.{late_stopped, ends_stopped, plus_none, still_may}
use Rattle.worker_gate.proofs.working.work.Goals as goal

pub returns-then-tally-clause-held : goal.returns-then-tally-clause-held
returns-then-tally-clause-held g c =
    let stopped : c.args.worker.now.tally.stopped ≡ true = sym (ap (λ (t : WorkerTally). t.stopped) c.tally-tally.ensures.tally) ∙ c.if-tally.true in
    plus_none _ _ (late_stopped c.args.worker.now stopped)

pub returns-then-tally-clause-ends : goal.returns-then-tally-clause-ends
returns-then-tally-clause-ends g c =
    let stopped : c.args.worker.now.tally.stopped ≡ true = sym (ap (λ (t : WorkerTally). t.stopped) c.tally-tally.ensures.tally) ∙ c.if-tally.true in
    plus_none _ _ (ends_stopped c.args.worker.now stopped)

pub turns-requires-clause-may : goal.turns-requires-clause-may
turns-requires-clause-may g c κs within = still_may _ _ c.args.worker.now c.begin.new.worker _ _ c.begin.ensures.worker c.requires.may
