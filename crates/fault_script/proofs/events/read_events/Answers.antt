use Rattle.std.proofs.Common.{◌+◌, [], sym, ap, ◌∙◌, arith}
use Rattle.std.specs.List.{cons_option}
use Rattle.fault_script.specs.Events.{lines_of, told_by}
use Rattle.fault_script.proofs.EventLists.{listed, behind, right_line, behind_more}
use Rattle.fault_script.proofs.events.read_events.Goals as goal

pub loop-rest-preserved : goal.loop-rest-preserved
loop-rest-preserved c =
    let line = c.first_line.result.0.now in
    let rest = lines_of c.first_line.result.1.now in
    let before = c.loop-rest.list.items in
    let number = c.loop-rest.number in
    record {
      room = omega (arith, c.loop-rest.invariant.room, c.first_line.ensures.shorter);
      told =
          ap (λ l. behind l (number + 1) (listed rest)) c.in_ok-add_line.ensures.added
          ∙ sym (behind_more before (cons_option (told_by line) []) number (listed rest))
          ∙ ap (λ r. behind before number r) (sym (right_line line rest c.in_ok-add_line.ensures.right))
          ∙ ap (λ ls. behind before number (listed ls)) (sym c.first_line.ensures.line)
          ∙ c.loop-rest.invariant.told;
    }
