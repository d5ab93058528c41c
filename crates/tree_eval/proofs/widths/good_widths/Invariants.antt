use Rattle.std.proofs.Common.{◌≡◌, ◌≤◌, drop, sum}
use Rattle.cal_base.specs.Widths.{naturals, unless_too_many}
use Rattle.tree_eval.proofs.Lines.{joined}
use Rattle.tree_eval.proofs.widths.good_widths.Given as goal

-- the widths so far, and those of the rest
abbrev pub invariant-loop-number : goal.invariant-loop-number
invariant-loop-number l = record {
  rest : unless_too_many (joined l.widths (naturals (drop l.number-index l.numbers))) ≡ unless_too_many (naturals l.fn.numbers);
  sums : l.total ≡ sum l.widths;
  bound : l.total ≤ 65536;
}
