use Rattle.std.proofs.Common.{◌≡◌, min}
use Rattle.progress_table.proofs.table.ProgressTable.cut_above.Given as goal

-- what was dropped so far is at or above k
abbrev pub invariant-loop-last : goal.invariant-loop-last
invariant-loop-last l = record {
  claims : l.self.claims ≡ l.fn.self.claims;
  done : l.self.done ≡ l.fn.self.done;
  bound : min l.self.bound l.k ≡ min l.fn.self.bound l.k;
}

abbrev pub decreases-loop-last : goal.decreases-loop-last
decreases-loop-last l = l.self.bound
