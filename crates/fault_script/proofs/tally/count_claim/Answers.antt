use Rattle.fault_script.proofs.Counts.{few, goes_by}
use Rattle.std.proofs.Common.{ap, sym, ◌∙◌, Some}
use Rattle.fault_script.specs.Acts.{counted_as}
use Rattle.fault_script.proofs.tally.count_claim.Goals as goal

pub count_executed-requires-clause-lost : goal.count_executed-requires-clause-lost
count_executed-requires-clause-lost c = rw c.requires.follows.lost (few _ _ c.act-act.ensures.row.lose)

pub count_executed-requires-clause-repeated : goal.count_executed-requires-clause-repeated
count_executed-requires-clause-repeated c = rw c.requires.follows.repeated (few _ _ c.act-act.ensures.row.repeat)

pub count_executed-requires-clause-held : goal.count_executed-requires-clause-held
count_executed-requires-clause-held c = rw c.requires.follows.held (few _ _ c.act-act.ensures.row.hold)

pub returns-clause-follows : goal.returns-clause-follows
returns-clause-follows c =
    let acts = c.count_executed.ensures ∙ ap (λ act. counted_as c.args.tally.now (Some act)) c.act-act.ensures.act in
    rw acts (goes_by c.args.row.now c.args.tally.now c.act-act.ensures.row c.requires.follows c.requires.goes_on (sym c.has_stopped.ensures ∙ c.if-has_stopped.false))
