use Rattle.std.proofs.Common.{◌≡◌, ◌≤◌, ◌∙◌, ap, arith}
use Rattle.cal_base.specs.declared.step.Claimed.{Claimed}
use Rattle.cal_base.specs.Claims.{StepJob}
use Rattle.step_board.specs.Amounts.{Amounts, with_claim}
use Rattle.worker_gate.specs.Working.{WorkerState}
use Rattle.worker_gate.proofs.Turns.{claimed_within}
use Rattle.worker_gate.proofs.Counting.{counts_end, other_claim, plus, plus_same, ends_going, ends_stopped, left_same, left_stopped, left_acted, still_may}
use Rattle.worker_gate.proofs.working.turn.Goals as goal

pub returns-in_default : goal.returns-in_default
returns-in_default g c =
    let w = c.args.worker.now in
    let a = c.args.shares.now in
    let now = c.claim-answer.ensures.shares ∙ other_claim a c.claim-answer.result c.in_default.not-Work in
    record {
      counts = counts_end w.tally a _ now;
      held = ap (λ (x : Amounts). x.held) now;
      on = λ no. cc;
      off = λ yes. plus _ _ _ 1 (ap (λ (x : Amounts). x.ends) now) (ends_going w c.requires.goes_on);
      left = left_same w (c.tally-tally.ensures.follows c.requires.who) c.requires.holds c.requires.may;
    }

pub returns-in_default-note_claim-clause-off : goal.returns-in_default-note_claim-clause-off
returns-in_default-note_claim-clause-off g c = λ yes.
    let here = ap (λ (x : Amounts). x.ends) (c.claim-answer.ensures.shares ∙ ap (λ (x : Claimed). with_claim c.args.shares.now x) c.in-Work.is) in
    plus_same _ _ _ here (ends_stopped c.note_claim.new.self (ap (λ (x : WorkerState). x.tally.stopped) c.in_default-note_claim.ensures.noted))

pub returns-in_default-note_claim-clause-left : goal.returns-in_default-note_claim-clause-left
returns-in_default-note_claim-clause-left g c =
    left_stopped c.args.worker.now c.note_claim.new.self c.in_default-note_claim.ensures.noted c.in_default-note_claim.ensures.follows c.requires.holds c.requires.may c.requires.goes_on

pub execute_and_deliver-requires-clause-number : goal.execute_and_deliver-requires-clause-number
execute_and_deliver-requires-clause-number g c κs within = claimed_within g.N.JobName.job c.deref_mut.result.now c.tally-tally.result.who c.in-Work.k c.in-Work.ensures.answer

pub execute_and_deliver-requires-clause-may : goal.execute_and_deliver-requires-clause-may
execute_and_deliver-requires-clause-may g c κs within = still_may _ _ c.args.worker.now c.note_claim.new.self _ _ c.in-Some.ensures.noted c.requires.may

pub returns-clause-left : goal.returns-clause-left
returns-clause-left g c =
    let number : g.N.JobName.job.number ≡ c.args.job.now.step = ap (λ (j : StepJob). j.number) c.args.job.now.named in
    let le : c.args.job.now.step ≤ g.N.JobName.job.number = omega (arith, number) in
    left_acted c.args.worker.now c.note_claim.new.self c.execute_and_deliver.new.worker c.hold_by.new.self c.in-Some.act c.args.job.now.step
    c.in-Some.ensures.noted c.in-Some.ensures.follows c.execute_and_deliver.ensures.worker c.hold_by.ensures le c.requires.holds c.requires.goes_on
