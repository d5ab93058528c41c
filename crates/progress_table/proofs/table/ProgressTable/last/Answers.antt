use Rattle.std.proofs.Common.{◌≡◌, length, arith}
use Rattle.progress_table.proofs.Tables.{last_at}
use Rattle.progress_table.proofs.table.ProgressTable.last.Goals as goal

pub returns : goal.returns
returns c =
    let size : c.len.result ≡ length c.self.inside.claims.items = omega arith in
    last_at _ _ _ _ _ c.self.view_is c.self.invariant c.len.result _ size c.index.ensures
