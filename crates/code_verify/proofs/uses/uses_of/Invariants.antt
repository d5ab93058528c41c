use Rattle.std.proofs.Common.{◌≤◌, ◌-◌, length}
use Rattle.code_verify.specs.Tests.{TellsUses}
use Rattle.code_verify.proofs.uses.uses_of.Given as goal

abbrev pub invariant-loop-function : goal.invariant-loop-function
invariant-loop-function l = record {
  tells : TellsUses l.m l.uses (length l.uses);
  within : length l.uses ≤ length l.m.functions;
}

abbrev pub decreases-loop-function : goal.decreases-loop-function
decreases-loop-function l = length l.m.functions - length l.uses
