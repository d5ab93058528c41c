use Rattle.std.proofs.Common.{rules, ◌≡◌, length, sym, subst, ◌∙◌, inl, inr}
use Rattle.std.specs.Prelude.{◌⊎◌}
use Rattle.cal_base.specs.History.{History}
use Rattle.cal_base.specs.Claims.{size_of}
use Rattle.calypso_engine.specs.Teams.{Gathered}
use Rattle.calypso_engine.proofs.Teams.{members_left}
use Rattle.calypso_engine.proofs.Worked.{none_gathered}
use Rattle.calypso_engine.proofs.gathering.work_part.Goals as goal
use Rattle.calypso_engine.proofs.gathering.work_part.Goals.{then-n-eq0-via-then-n-eq0, then-n-eq0-via-else-n-eq0+then-is_empty}

pub returns-then-n-eq0 : goal.returns-then-n-eq0
returns-then-n-eq0 g c =
    let ws = c.args.workers.now.items in
    let job = c.args.job.now in
    let nobody : (size_of g.N.JobName.job ≡ 0) ⊎ (length ws ≡ 0) = elim c.then-n-eq0.branch [
      | then-n-eq0-via-then-n-eq0 w ↦ inl (sym c.requires.size ∙ w.if-n-eq0.true)
      | then-n-eq0-via-else-n-eq0+then-is_empty w ↦ let none : length ws ≡ 0 = search rules in inr none
    ] in
    subst (λ (h : History). Gathered g.N.JobName.job job.image.now job.code.now h ws ws) (sym c.requires.empty)
    (none_gathered g.N.JobName.job job.image.now job.code.now ws nobody (members_left c.args.options.now.script.now job.code.now c.args.steps g.N.JobName.job.number job.image.now c.requires.number ws
    c.requires.members))
