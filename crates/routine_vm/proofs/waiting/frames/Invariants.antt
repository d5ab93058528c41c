use Rattle.std.proofs.Common.{◌≡◌, ◌≤◌, vec_len}
use Rattle.std.specs.Vec.{vec_capacity}
use Rattle.routine_vm.proofs.waiting.frames.Given as goal

-- a frame a turn, and room for all
abbrev pub invariant-loop : goal.invariant-loop
invariant-loop l = (vec_len l.frames ≡ l.counter) × (64 ≤ vec_capacity l.frames)
