use Rattle.std.proofs.Common.{◌≡◌, ◌≤◌, ◌++◌}
use Rattle.std.specs.List.{flat_map, range_with_len}
use Rattle.program_gen.specs.Generated.{step_line}
use Rattle.program_gen.proofs.program.push_steps.Given as goal

-- the lines of the steps so far
abbrev pub invariant-loop-j : goal.invariant-loop-j
invariant-loop-j l = (l.j ≤ l.size) × (l.text.items ≡ l.initial.text.items ++ flat_map (step_line l.number) (range_with_len 1 l.j))
