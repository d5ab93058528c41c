use Rattle.std.proofs.Common.{◌≡◌, replicate, false, rules}
use Rattle.progress_table.proofs.Tables.{made_table}
use Rattle.progress_table.proofs.table.ProgressTable.make.Goals as goal

pub invariant_of-result : goal.invariant_of-result
invariant_of-result c =
    let claims : c.in_ok-vec.field-0.items ≡ replicate c.args.n 0 = search rules in
    let done : c.in_ok-vec-2.field-0.items ≡ replicate c.args.n false = search rules in
    rw (claims, done)
    (made_table c.args.n c.in_ok-next.next.items c.in_ok-prev.prev.items c.requires c.in_ok-next.ensures.size c.in_ok-prev.ensures.size c.in_ok-next.ensures.each c.in_ok-next.ensures.end
    c.in_ok-prev.ensures.first c.in_ok-prev.ensures.each)
