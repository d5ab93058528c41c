use Rattle.std.proofs.Common.{arith, ◌∙◌, ap, length}
use Rattle.expression_code.proofs.SizeLemmas.{items_next_text, items_next_value}
use Rattle.expression_code.proofs.Codes.{items_value, items_text, ends_at}
use Rattle.expression_code.proofs.values.push_items.Goals as goal
use Rattle.expression_code.proofs.values.push_items.Goals.{in-Text, in-Value+in_ok-push_value-in-Value}

pub push_value-requires : goal.push_value-requires
push_value-requires c =
    omega (arith, c.requires, c.loop-item.invariant.long, items_next_value c.args.items.now c.loop-item.item-index c.item-item.result c.in-Value.e (omega arith) c.item-item.is c.in-Value.is)

pub loop-item-preserved : goal.loop-item-preserved
loop-item-preserved c = elim c.match-item.branch [
  | in-Text w ↦ record {
    code = items_text c.args.names.now c.args.scope.now.slots c.args.items.now c.loop-item.item-index c.item-item.result _ c.loop-item.instrs c.match-item.instrs _ (omega arith) c.item-item.is
        w.in-Text.is w.instrs-is c.loop-item.invariant.code;
    long =
        let next = items_next_text c.args.items.now c.loop-item.item-index c.item-item.result _ (omega arith) c.item-item.is w.in-Text.is in
        omega (arith, c.loop-item.invariant.long, next, ap length w.instrs-is);
  }
  | in-Value+in_ok-push_value-in-Value w ↦ record {
    code = items_value c.args.names.now c.args.scope.now.slots c.args.items.now c.loop-item.item-index c.item-item.result _ c.loop-item.instrs c.match-item.instrs _ (omega arith) c.item-item.is
        w.in-Value.is (w.instrs-is ∙ w.in_ok-push_value-in-Value.ensures) c.loop-item.invariant.code;
    long =
        let next = items_next_value c.args.items.now c.loop-item.item-index c.item-item.result w.in-Value.e (omega arith) c.item-item.is w.in-Value.is in
        let longer = ends_at c.args.names.now c.args.scope.now.slots w.in-Value.e c.loop-item.instrs c.match-item.instrs (w.instrs-is ∙ w.in_ok-push_value-in-Value.ensures) in
        omega (arith, c.loop-item.invariant.long, next, longer);
  }
]
