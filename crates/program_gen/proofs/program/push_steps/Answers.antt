use Rattle.std.proofs.Common.{◌≡◌, ◌+◌, arith, ap, ◌++◌, ◌∙◌}
use Rattle.std.specs.List.{flat_map, range_with_len}
use Rattle.program_gen.specs.Generated.{step_line, steps}
use Rattle.program_gen.proofs.Ranges.{one_more}
use Rattle.program_gen.proofs.program.push_steps.Goals as goal

pub loop-j-preserved : goal.loop-j-preserved
loop-j-preserved c = (
  omega arith,
  one_more (step_line c.args.number) 1 c.loop-j.j (c.loop-j.j + 1) (c.loop-j.j + 1) c.args.text.now.items c.loop-j.text.items c.push_step.new.text.items (omega arith) (omega arith)
      c.loop-j.invariant.1 c.in_ok-push_step.ensures,
)

pub returns : goal.returns
unfolding steps
returns c =
    let all : c.loop-j.j ≡ c.args.size = omega (arith, c.loop-j-test.false, c.loop-j.invariant.0) in
    c.loop-j.invariant.1 ∙ ap (λ n. c.args.text.now.items ++ flat_map (step_line c.args.number) (range_with_len 1 n)) all
