-- What the words of a declaration hold at first.
use Rattle.std.specs.Prelude.{ℕ, zero, suc, ℤ, pos, List, [], ◌∷◌}
use Rattle.csl_tree.specs.declared.program.Valued.{Valued}

-- the stated value at this place, and else 0
abbrev pub stated_value : List Valued → ℕ → ℤ
stated_value [] at = pos 0
stated_value (v ∷ values) zero = v.number
stated_value (v ∷ values) (suc at) = stated_value values at
