use Rattle.std.proofs.Common.{sym}
use Rattle.code_verify.proofs.Lists.{held_past, held_next}
use Rattle.code_verify.proofs.tallies.holds_tally.Goals as goal

pub returns-in-None : goal.returns-in-None
returns-in-None c = (λ no. absurd cc, λ held. absurd (held_past c.args.tallies.now c.requires c.args.first c.args.count c.binary_search.result c.binary_search.ensures.position c.in-Err.place c.in-Err.is (sym c.in-None.ensures) held))

pub returns-in-Some : goal.returns-in-Some
returns-in-Some c = held_next c.args.tallies.now c.requires c.args.first c.args.count c.binary_search.result c.binary_search.ensures.position c.in-Err.place c.in-Err.is c.in-Some.next.now
    (sym c.in-Some.ensures) c.is_within.result c.is_within.ensures
