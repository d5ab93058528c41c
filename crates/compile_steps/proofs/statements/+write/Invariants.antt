use Rattle.std.proofs.Common.{◌+◌, ◌*◌, drop}
use Rattle.expression_code.specs.declared.writer.Writer.{Writer}
use Rattle.expression_code.specs.Lists.{StatementsAre, AllArmsAre}
use Rattle.compile_steps.specs.Writing.{AllFit, ArmsFit, AllMeasured, ArmsMeasured, WroteAll, WroteArms}
use Rattle.compile_steps.proofs.statements.+write.Given as goal

-- the rest has the shape that its code asks for, fits and is measured, and with its code behind what is written so far all of it is written
abbrev pub invariant-push_all-loop-s : goal.invariant-push_all-loop-s
invariant-push_all-loop-s l = record {
  shape : StatementsAre l.names (drop l.s-index l.body);
  room : AllFit l.names (drop l.s-index l.body) l.w;
  measured : AllMeasured l.names (drop l.s-index l.body) l.w;
  rest : (new : Writer) → WroteAll l.names (drop l.s-index l.body) (record { on_break = l.on_break; on_continue = l.on_continue }) l.w new
      → WroteAll l.fn.names l.fn.body (record { on_break = l.fn.on_break; on_continue = l.fn.on_continue }) l.fn.w new;
}

abbrev pub invariant-push_arms-loop-arm : goal.invariant-push_arms-loop-arm
invariant-push_arms-loop-arm l = record {
  shape : AllArmsAre l.names (drop l.arm-index l.arms);
  room : ArmsFit l.names (drop l.arm-index l.arms) l.w;
  measured : ArmsMeasured l.names (drop l.arm-index l.arms) l.w;
  rest : (new : Writer) → WroteArms l.names (drop l.arm-index l.arms) (record { on_break = l.on_break; on_continue = l.on_continue }) l.end l.w new
      → WroteArms l.fn.names l.fn.arms (record { on_break = l.fn.on_break; on_continue = l.fn.on_continue }) l.fn.end l.fn.w new;
}

-- ---- each call goes down the tree, or hands a part of the same statement on

abbrev pub decreases-push_form : goal.decreases-push_form
decreases-push_form l = 4 * goal.size-push_form l

abbrev pub decreases-push_arms : goal.decreases-push_arms
decreases-push_arms l = 4 * goal.size-push_arms l

abbrev pub decreases-push_all : goal.decreases-push_all
decreases-push_all l = 4 * goal.size-push_all l + 1

abbrev pub decreases-push_block : goal.decreases-push_block
decreases-push_block l = 4 * goal.size-push_block l + 2

abbrev pub decreases-push_while : goal.decreases-push_while
decreases-push_while l = 4 * goal.size-push_while l + 3

abbrev pub decreases-push_last : goal.decreases-push_last
decreases-push_last l = 4 * goal.size-push_last l + 3
