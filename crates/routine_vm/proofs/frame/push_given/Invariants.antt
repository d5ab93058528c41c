use Rattle.std.proofs.Common.{◌≡◌, ◌++◌, take}
use Rattle.routine_vm.proofs.frame.push_given.Given as goal

-- what is appended so far
abbrev pub invariant-loop-v : goal.invariant-loop-v
invariant-loop-v l = l.locals ≡ l.fn.locals ++ take l.v-index l.given
