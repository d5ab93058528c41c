use Rattle.std.proofs.Common.{◌≡◌, ◌+◌, ◌++◌, length, drop}
use Rattle.expression_code.specs.Lists.{codes_of, sizes_of}
use Rattle.expression_code.proofs.values.+write.Given as goal

-- the code so far, and that of the rest behind it, which is as long as before
abbrev pub invariant-push_values-loop-e : goal.invariant-push_values-loop-e
invariant-push_values-loop-e l = record {
  code : l.instrs ++ codes_of l.names l.scope.slots (drop l.e-index l.args) (length l.instrs)
      ≡ l.fn.instrs ++ codes_of l.fn.names l.fn.scope.slots l.fn.args (length l.fn.instrs);
  long : length l.instrs + sizes_of (drop l.e-index l.args) ≡ length l.fn.instrs + sizes_of l.fn.args;
}
