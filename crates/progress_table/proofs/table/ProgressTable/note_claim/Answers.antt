use Rattle.std.proofs.Common.{◌≡◌, ◌<◌, ◌≤◌, length, get_or, ap, arith}
use Rattle.std.specs.List.{sum}
use Rattle.std.proofs.lemmas.List.Sums.{get_or-le-sum_by}
use Rattle.progress_table.proofs.Tables.{least_within, claim_at}
use Rattle.progress_table.proofs.table.ProgressTable.note_claim.Goals as goal

pub index-requires : goal.index-requires
index-requires c = omega (arith, least_within _ _ _ _ _ c.self.view_is c.self.invariant c.args.k c.requires.least, c.self.invariant.ring.nexts)

pub index_mut-requires : goal.index_mut-requires
index_mut-requires c = omega (arith, least_within _ _ _ _ _ c.self.view_is c.self.invariant c.args.k c.requires.least)

pub overflow_add-index_mut : goal.overflow_add-index_mut
overflow_add-index_mut c =
    let within : c.args.k < length c.self.inside.claims.items = least_within _ _ _ _ _ c.self.view_is c.self.invariant c.args.k c.requires.least in
    let le : get_or c.self.inside.claims.items c.args.k c.index_mut.result.now ≤ sum c.self.inside.claims.items = get_or-le-sum_by (λ y. y) c.self.inside.claims.items c.args.k c.index_mut.result.now
    within in
    record { fits = omega (arith, le, c.requires.room, ap (λ t. sum t.claims) c.self.view_is, c.index_mut.ensures.value) }

pub invariant_of-self : goal.invariant_of-self
invariant_of-self c =
    let size : c.len-n.result ≡ length c.self.inside.claims.items = omega arith in
    claim_at _ _ _ _ _ c.self.view_is c.self.invariant c.args.k c.requires.least c.len-n.result _ _ _ _ size c.index.ensures c.index-2.ensures c.index_mut.ensures.value c.turned-cursor.ensures
