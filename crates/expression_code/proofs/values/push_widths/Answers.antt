use Rattle.std.proofs.Common.{arith}
use Rattle.csl_tree.specs.declared.program.RoutineBlock.{out-RoutineBlock}
use Rattle.expression_code.proofs.Codes.{widths_next, ends_at}
use Rattle.expression_code.proofs.SizeLemmas.{widths_size_next}
use Rattle.expression_code.proofs.values.push_widths.Goals as goal

pub push_value-requires : goal.push_value-requires
push_value-requires c =
    omega (arith, c.requires, c.loop-block.invariant.long, widths_size_next c.args.blocks.now c.loop-block.block-index c.block-item.result (omega arith) c.block-item.is)

pub loop-block-preserved : goal.loop-block-preserved
loop-block-preserved c = record {
  code = widths_next c.args.names.now c.args.scope.now.slots c.args.blocks.now c.loop-block.block-index c.block-item.result c.loop-block.instrs c.push_value.new.instrs _ (omega arith) c.block-item.is
      c.in_ok-push_value.ensures c.loop-block.invariant.code;
  long =
      omega (
        arith,
        c.loop-block.invariant.long,
        widths_size_next c.args.blocks.now c.loop-block.block-index c.block-item.result (omega arith) c.block-item.is,
        ends_at c.args.names.now c.args.scope.now.slots (out-RoutineBlock c.block-item.result).width c.loop-block.instrs c.push_value.new.instrs c.in_ok-push_value.ensures,
      );
}
