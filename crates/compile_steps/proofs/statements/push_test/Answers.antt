use Rattle.std.proofs.Common.{◌∙◌, ◌+◌, ap, arith, refl}
use Rattle.expression_code.proofs.Codes.{ends_at}
use Rattle.compile_steps.proofs.Written.{test_wrote}
use Rattle.compile_steps.proofs.statements.push_test.Goals as goal

pub length_of-begin-requires : goal.length_of-begin-requires
length_of-begin-requires c =
    let ends = ends_at c.args.names.now c.args.w.now.scope.slots c.args.test.now c.args.w.now.instrs c.push_value.new.instrs c.in_ok-push_value.ensures in
    omega (arith, c.requires, c.len-2.ensures, ends)

pub overflow_add-begin : goal.overflow_add-begin
overflow_add-begin c =
    let ends = ends_at c.args.names.now c.args.w.now.scope.slots c.args.test.now c.args.w.now.instrs c.push_value.new.instrs c.in_ok-push_value.ensures in
    omega (arith, c.requires, c.length_of-begin.ensures, c.len-2.ensures, ends)

pub overflow_add-behind : goal.overflow_add-behind
overflow_add-behind c =
    let ends = ends_at c.args.names.now c.args.w.now.scope.slots c.args.test.now c.args.w.now.instrs c.push_value.new.instrs c.in_ok-push_value.ensures in
    omega (arith, c.requires, c.length_of-begin.ensures, c.len-2.ensures, ends)

pub overflow_add-out : goal.overflow_add-out
overflow_add-out c =
    let ends = ends_at c.args.names.now c.args.w.now.scope.slots c.args.test.now c.args.w.now.instrs c.push_value.new.instrs c.in_ok-push_value.ensures in
    omega (arith, c.requires, c.length_of-begin.ensures, c.len-2.ensures, ends)

pub overflow_add-out-2 : goal.overflow_add-out-2
overflow_add-out-2 c =
    let ends = ends_at c.args.names.now c.args.w.now.scope.slots c.args.test.now c.args.w.now.instrs c.push_value.new.instrs c.in_ok-push_value.ensures in
    omega (arith, c.requires, c.length_of-begin.ensures, c.len-2.ensures, ends)

pub returns : goal.returns
returns c =
    let begin = c.length_of-begin.result + 1 in
    let behind = begin + c.args.inside in
    test_wrote _ _ c.args.inside c.args.more c.length_of-test_at.result behind (behind + c.args.more + 1) _ c.push_value.new.instrs _
    (c.length_of-test_at.ensures ∙ c.len.ensures) c.in_ok-push_value.ensures
    (ap (λ n. n + 1 + c.args.inside) (c.length_of-begin.ensures ∙ c.len-2.ensures))
    refl
    c.in_ok-push.ensures.ok
