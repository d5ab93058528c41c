-- The visible locals of a body, and how many locals it has declared.
use Rattle.std.specs.Prelude.{ℕ}
use Rattle.compiled_code.specs.Slots.{Slots}

pub record Scoped : Type 0 where
  pub slots : Slots
  pub next : ℕ
