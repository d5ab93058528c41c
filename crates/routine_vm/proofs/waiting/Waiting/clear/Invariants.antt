use Rattle.std.proofs.Common.{◌≡◌, ◌≤◌, ◌+◌, vec_len}
use Rattle.std.specs.Vec.{vec_capacity}
use Rattle.routine_vm.proofs.waiting.Waiting.clear.Given as goal

-- the frames are as many, and there is room for them
abbrev pub invariant-loop-frame : goal.invariant-loop-frame
invariant-loop-frame l =
    (64 ≤ vec_capacity l.self-inside.waiting) × (64 ≤ vec_capacity l.self-inside.reserve) × (vec_len l.self-inside.waiting + vec_len l.self-inside.reserve ≡ 64)

abbrev pub decreases-loop-frame : goal.decreases-loop-frame
decreases-loop-frame l = vec_len l.self-inside.waiting
