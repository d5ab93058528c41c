use Rattle.std.proofs.Common.{◌≡◌, ◌≤◌, ◌<◌, ℕ, Option, IfSome, sym, ap, subst, ◌∙◌}
use Rattle.cal_base.specs.declared.step.TheConstants.{CALLER}
use Rattle.cal_base.specs.declared.step.WorkerTally.{WorkerTally}
use Rattle.fault_script.specs.Rows.{Row, row_of}
use Rattle.worker_gate.specs.Working.{first_tally}
use Rattle.calypso_engine.proofs.Beginning.{row_number}
use Rattle.calypso_engine.proofs.team.make_worker.Goals as goal

pub returns : goal.returns
returns c =
    let rows = c.args.options.now.script.now in
    let who = c.args.who in
    let worker = c.in_ok-worker.worker in
    let number : c.in_ok-row.row.number ≡ who = ap (λ (r : Row). r.number) c.in_ok-row.ensures ∙ row_number rows who in
    let tally : worker.tally ≡ first_tally who = c.in_ok-worker.ensures.tally ∙ ap first_tally number in
    let is_who : worker.tally.who ≡ who = ap (λ (t : WorkerTally). t.who) tally in
    let below : worker.tally.who < CALLER = subst (λ (n : ℕ). n < CALLER) (sym is_who) c.requires.who in
    record {
      member = record {
        number = below;
        row = c.in_ok-worker.ensures.row ∙ c.in_ok-row.ensures ∙ ap (λ (n : ℕ). row_of rows n) (sym is_who);
        follows = c.tally-done.ensures.follows below;
        holds = subst (λ (o : Option ℕ). IfSome o (λ step. step ≤ 0)) (sym c.in_ok-worker.ensures.holds) tt;
        may = c.in_ok-worker.ensures.may;
      };
      tally = tally;
    }
