use Rattle.std.proofs.Common.{◌≡◌, ◌≤◌, ◌++◌, ◌-◌, ℕ, List}
use Rattle.std.specs.List.{flat_map, range_with_len}
use Rattle.std.specs.Fmt.{decimal}
use Rattle.program_gen.specs.Generated.{first_value, next_value}
use Rattle.program_gen.proofs.program.push_values.Given as goal

-- the values of the words below this one
pub record Written (number : ℕ) (initial now : List ℕ) (i : ℕ) : Type 0 where
  pub least : 1 ≤ i
  pub most : i ≤ 256
  pub text : now ≡ (initial ++ decimal (first_value number 0)) ++ flat_map (next_value number) (range_with_len 1 (i - 1))

abbrev pub invariant-loop-i : goal.invariant-loop-i
invariant-loop-i l = Written l.number l.fn.text.items l.text.items l.i
