use Rattle.std.proofs.Common.{◌+◌, ◌++◌, List, ℕ, drop, map, ap, ◌∙◌}
use Rattle.cal_base.specs.Printing.{line_of}
use Rattle.routine_vm.specs.Events.{piece_of}
use Rattle.calypso_engine.proofs.Lines.{piece_more, pieces_end}
use Rattle.calypso_engine.proofs.line.line_of.Goals as goal

pub loop-i-preserved : goal.loop-i-preserved
loop-i-preserved c =
    let items = c.args.machine.now.items in
    ap (λ (t : List ℕ). t ++ line_of (map (piece_of c.args.code.now) (drop (c.loop-i.i + 1) items))) c.in_ok-add_item.ensures
    ∙ piece_more (piece_of c.args.code.now) items c.args.items c.loop-i.i c.item-item.result c.loop-i.line.items c.requires c.loop-i-test.true c.item-item.ensures
    ∙ c.loop-i.invariant

pub returns : goal.returns
returns c =
    c.in_ok-push.ensures.items
    ∙ pieces_end (piece_of c.args.code.now) c.args.machine.now.items c.args.items c.loop-i.i c.loop-i.line.items c.requires c.loop-i-test.false c.loop-i.invariant
