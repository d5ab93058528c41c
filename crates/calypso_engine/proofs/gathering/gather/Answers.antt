use Rattle.std.proofs.Common.{◌+◌, ◌≤◌, length, sum_by, sym, ap, ◌∙◌}
use Rattle.step_board.specs.Amounts.{Amounts}
use Rattle.cal_base.specs.Claims.{size_of}
use Rattle.worker_gate.specs.Worked.{late, ends, total}
use Rattle.calypso_engine.proofs.Teams.{late_few}
use Rattle.calypso_engine.proofs.Worked.{share_claims, share_few, share_arrivals, share_ends, share_held, current_is}
use Rattle.calypso_engine.proofs.gathering.gather.Goals as goal

pub unwrap-requires : goal.unwrap-requires
unwrap-requires g c =
    let parts = c.work_all-shares.ensures.work.parts ∙ ap (λ (x : Amounts). x.parts) c.make-board.ensures.shares in (
      parts ∙ sym c.requires.claims.2 ∙ c.requires.claims.1,
      parts ∙ sym c.requires.arrivals.2 ∙ c.requires.arrivals.1,
      parts ∙ sym c.requires.held.2 ∙ c.requires.held.1,
      parts ∙ sym c.requires.ends.2 ∙ c.requires.ends.1,
    )

pub returns : goal.returns
returns g c =
    let w = c.work_all-shares.ensures.work in
    let u = c.unwrap.ensures in
    let fresh = c.make-board.ensures.shares in
    let s = c.work_all-shares.result in
    let z = c.make-board.result.1 in
    let before = c.args.workers.now.items in
    let after = c.work_all-shares.new.workers.items in
    let lates : sum_by late before ≤ 32 = share_held (sum_by late before) (length before) (late_few before) c.requires.few in
    let few =
    share_few (size_of g.N.JobName.job) s.claims s.arrivals s.held z.claims z.arrivals z.held (total (λ t. t.claims) before) (total (λ t. t.claims) after) (sum_by late before) w.claims
    (ap (λ (x : Amounts). x.claims) fresh) w.few
    (ap (λ (x : Amounts). x.arrivals) fresh) u.few w.held (ap (λ (x : Amounts). x.held) fresh) lates
    in
    record {
      legal = u.legal;
      alone = u.alone;
      claims = share_claims _ s.claims z.claims (total (λ t. t.claims) before) (total (λ t. t.claims) after) u.claims w.claims (ap (λ (x : Amounts). x.claims) fresh);
      arrivals =
          share_arrivals _ s.arrivals z.arrivals (total (λ t. t.lost) after + total (λ t. t.held) after) (total (λ t. t.executed) before + total (λ t. t.repeated) before)
          (total (λ t. t.executed) after + total (λ t. t.repeated) after) (total (λ t. t.lost) before + total (λ t. t.held) before) (current_is c.unwrap.result ∙ (u.arrivals few).1) w.arrivals
          (ap (λ (x : Amounts). x.arrivals) fresh);
      waits = λ on. u.ends (share_ends s.ends z.ends (sum_by ends after) w.ends (ap (λ (x : Amounts). x.ends) fresh) on);
      each = w.each;
    }
