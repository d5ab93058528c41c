use Rattle.std.proofs.Common.{◌≡◌, length, arith}
use Rattle.progress_table.proofs.Tables.{before_there, after_there, drop_at}
use Rattle.progress_table.proofs.table.ProgressTable.drop_last.Goals as goal

pub index_mut-requires : goal.index_mut-requires
index_mut-requires c = omega (arith, before_there _ _ _ _ _ c.self.view_is c.self.invariant c.args.k _ _ c.requires.wanted c.index-before.ensures c.index-after.ensures)

pub index_mut-requires-2 : goal.index_mut-requires-2
index_mut-requires-2 c = omega (arith, after_there _ _ _ _ _ c.self.view_is c.self.invariant c.args.k _ _ c.requires.wanted c.index-before.ensures c.index-after.ensures)

pub invariant_of-self : goal.invariant_of-self
invariant_of-self c =
    let size : c.len-n.result ≡ length c.self.inside.claims.items = omega arith in
    drop_at _ _ _ _ _ c.self.view_is c.self.invariant c.args.k _ _ c.requires.wanted c.index-before.ensures c.index-after.ensures c.len-n.result _ _ size c.index.ensures
    c.cursor_after-self-inside.ensures c.requires.last
