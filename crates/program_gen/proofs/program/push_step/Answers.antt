use Rattle.std.proofs.Common.{◌++◌, ap, ◌∙◌}
use Rattle.std.specs.Fmt.{decimal}
use Rattle.program_gen.specs.Generated.{step_line}
use Rattle.program_gen.proofs.Ranges.{five}
use Rattle.program_gen.proofs.program.push_step.Goals as goal

pub returns : goal.returns
unfolding step_line
returns c =
    five c.args.text.now.items _ _ _ _ _ c.extend_from_slice.new.self.items c.push_number.new.text.items c.extend_from_slice-2.new.self.items c.push_number-2.new.text.items
    c.extend_from_slice-3.new.self.items
    c.in_ok-extend_from_slice.ensures.items
    (c.in_ok-push_number.ensures ∙ ap (λ n. c.extend_from_slice.new.self.items ++ decimal n) c.distance.ensures)
    c.in_ok-extend_from_slice-2.ensures.items
    (c.in_ok-push_number-2.ensures ∙ ap (λ n. c.extend_from_slice-2.new.self.items ++ decimal n) c.addend.ensures)
    c.in_ok-extend_from_slice-3.ensures.items
