use Rattle.std.proofs.Common.{arith, ap}
use Rattle.compiled_code.specs.Sizes.{size_of}
use Rattle.expression_code.proofs.Codes.{ends_at}
use Rattle.expression_code.proofs.SizeLemmas.{size_element}
use Rattle.compile_steps.proofs.Written.{set_wrote}
use Rattle.compile_steps.proofs.statements.push_set.Goals as goal

pub returns-in_ok-push-in-Some : goal.returns-in_ok-push-in-Some
returns-in_ok-push-in-Some c =
    set_wrote c.args.names.now c.args.place.now c.args.value.now c.in-Some.i c.get.result.now c.area-area.result c.unwrap_or.result c.args.w.now c.push_value-in-Some.new.instrs
    c.push_value-in-Some-2.new.instrs c.push-in-Some.new.self
    c.in-Some.is c.get.ensures c.area-area.ensures c.unwrap_or.ensures c.in_ok-push_value-in-Some.ensures c.in_ok-push_value-in-Some-2.ensures c.in_ok-push-in-Some.ensures.ok

pub push_value-requires-in-Some : goal.push_value-requires-in-Some
push_value-requires-in-Some c = omega (arith, c.requires, size_element _ _ c.in-Some.is, ap size_of c.get.ensures)

pub push_value-requires-in-Some-2 : goal.push_value-requires-in-Some-2
push_value-requires-in-Some-2 c =
    omega (
      arith,
      c.requires,
      size_element _ _ c.in-Some.is,
      ap size_of c.get.ensures,
      ends_at c.args.names.now c.args.w.now.scope.slots c.get.result.now c.args.w.now.instrs c.push_value-in-Some.new.instrs c.in_ok-push_value-in-Some.ensures,
    )
