use Rattle.std.proofs.Common.{◌+◌, sym, ◌∙◌, ap}
use Rattle.worker_gate.specs.Working.{WorkerState}
use Rattle.worker_gate.proofs.Counting.{late_some, late_none, plus_none}
use Rattle.worker_gate.proofs.working.begin.Goals as goal

pub returns-in_default-clause-shares : goal.returns-in_default-clause-shares
returns-in_default-clause-shares g c =
    let s = c.args.shares.now in
    let none = late_none c.args.worker.now (ap (λ (x : WorkerState). x.holds) (sym c.begin_step.ensures) ∙ c.in_default.ensures.held) in
    let e = plus_none s.held _ none in
    λ i. record s { held = e i }

pub returns-clause-shares : goal.returns-clause-shares
returns-clause-shares g c =
    let s = c.args.shares.now in
    let one = late_some c.args.worker.now c.in-Some.held.step c.requires.goes_on (ap (λ (x : WorkerState). x.holds) (sym c.begin_step.ensures) ∙ c.in-Some.ensures.held) in
    c.arrive_held.ensures.shares ∙ (λ i. record s { held = s.held + (sym one) i })
