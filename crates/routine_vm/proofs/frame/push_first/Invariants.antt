use Rattle.std.proofs.Common.{◌≡◌, ◌++◌, take, map}
use Rattle.machine_meaning.specs.Machine.{first_value}
use Rattle.routine_vm.proofs.frame.push_first.Given as goal

-- what is appended so far
abbrev pub invariant-loop-kind : goal.invariant-loop-kind
invariant-loop-kind l = l.locals ≡ l.fn.locals ++ map first_value (take l.kind-index l.kinds)
