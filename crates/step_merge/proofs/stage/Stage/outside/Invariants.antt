use Rattle.std.proofs.Common.{◌≡◌, ◌<◌, ℕ, false}
use Rattle.step_merge.specs.Steps.{left_by, is_outside_word}
use Rattle.step_merge.proofs.stage.Stage.outside.Given as goal

-- no word so far is a total outside 64 bits
abbrev pub invariant-loop-a : goal.invariant-loop-a
invariant-loop-a l = (i : ℕ) → i < l.a → is_outside_word (left_by l.self) l.image.memory i ≡ false
