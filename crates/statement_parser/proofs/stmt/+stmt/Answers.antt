use Rattle.std.proofs.Common.{Some, refl, ◌≡◌, ◌∙◌, ap, arith, List, length, [], ◌∷◌, ◌++◌}
use Rattle.std.proofs.lemmas.Result.{err_from_is_err_and}
use Rattle.csl_tree.specs.declared.token.Token.{Token}
use Rattle.csl_tree.specs.declared.program.Arm.{Arm}
use Rattle.csl_tree.specs.declared.program.RoutineBlock.{RoutineBlock}
use Rattle.csl_tree.specs.declared.program.Form.TheVariants as form
use Rattle.csl_grammar.specs.Programs.{stmt, arm, SpellsStmt}
use Rattle.expression_parser.specs.Reading.{behind, stops_anywhere}
use Rattle.statement_parser.specs.Statements.{NoElse}
use Rattle.expression_parser.proofs.Sequence.{Passes, passed, passed_error, passes_through}
use Rattle.expression_parser.proofs.Steps.{from_first}
use Rattle.expression_parser.proofs.Single.{ended_behind}
use Rattle.expression_parser.proofs.Then.{then_first, then_second, then_found, then_answers, then_passes, tok_found, tok_err, ret_found, until_done, until_err, until_more}
use Rattle.statement_parser.proofs.Nested as d
use Rattle.expression_parser.proofs.Sequence.{passes_behind}
use Rattle.statement_parser.proofs.stmt.+stmt.Goals as goal

from_err : (tokens : List Token) (first : Token) (rest : List Token) → tokens ≡ first ∷ rest → Passes (behind first SpellsStmt) SpellsStmt NoElse rest tokens
from_err tokens first rest split = passes_behind SpellsStmt NoElse first rest tokens split

pub block-returns-in_err-rest-clause-answer : goal.block-returns-in_err-rest-clause-answer
block-returns-in_err-rest-clause-answer t c =
    let p = err_from_is_err_and c.from_residual.result c.from_residual.ensures.1 in
    rw (p.1, p.2) (passed_error _ _ stops_anywhere _ c.args.tokens.now _ (d.block_same c.args.tokens.now) (then_first d.block_opening c.args.tokens.now _ (tok_err _ _ _ c.in_err-rest.ensures.answer)))

pub block-returns-clause-answer : goal.block-returns-clause-answer
block-returns-clause-answer t c =
    passed _ _ stops_anywhere _ c.args.tokens.now _ _ (d.block_same c.args.tokens.now) (then_answers d.block_opening _ c.args.tokens.now _ _ _ (tok_found c.in_ok-rest.ensures.answer)
    c.statements.ensures.answer)

pub statements-more-init : goal.statements-more-init
statements-more-init t c =
    record { ended = c.requires; no_longer = omega arith; passes = rw c.new-body.ensures (record { found = λ r x f. f; refused = λ at r. r }) }

pub statements-returns-in_err-s-clause-answer : goal.statements-returns-in_err-s-clause-answer
statements-returns-in_err-s-clause-answer t c =
    let p = err_from_is_err_and c.from_residual.result c.from_residual.ensures.1 in
    rw (p.1, p.2) (passed_error _ _ stops_anywhere _ c.args.tokens.now _ c.more.invariant.passes
    (until_err d.stmts_repeated c.more.body c.more.rest.now _ c.in-Some.ensures.1 (rw c.in-Some.ensures.0 at c.in_err-s.ensures.answer)))

pub statements-more-preserved : goal.statements-more-preserved
statements-more-preserved t c =
    record {
      ended = c.in_ok-s.ensures.answer.ended;
      no_longer = omega (arith, c.in_ok-s.ensures.shorter, c.more.invariant.no_longer, ap (λ (x : List Token). length x) c.in-Some.ensures.0);
      passes = rw c.in_ok-push.ensures.ok (passes_through (until_more d.stmts_repeated c.more.body c.more.rest.now _ _ c.in-Some.ensures.1 (rw c.in-Some.ensures.0 at c.in_ok-s.ensures.answer))
          c.more.invariant.passes);
    }

pub statements-returns-clause-answer : goal.statements-returns-clause-answer
statements-returns-clause-answer t c =
    c.more.invariant.passes.found _ _ (until_done d.stmts_repeated c.more.body c.more.rest.now _ _ c.more.invariant.ended c.front.ensures
    (cc (c.front.ensures, c.in_default.ensures.2, c.in_default.ensures.3)))

pub statement-returns-in-Named-clause-answer : goal.statement-returns-in-Named-clause-answer
statement-returns-in-Named-clause-answer t c =
    from_first SpellsStmt NoElse _ c.args.tokens.now _ _ _ c.front.ensures c.named.ensures.answer

pub statement-returns-in_err-body-clause-answer : goal.statement-returns-in_err-body-clause-answer
statement-returns-in_err-body-clause-answer t c =
    let p = err_from_is_err_and c.from_residual.result c.from_residual.ensures.1 in
    rw (p.1, p.2) (passed_error _ _ NoElse _ c.args.tokens.now _ (from_err c.args.tokens.now _ _ c.front.ensures)
    (passed_error _ _ NoElse _ _ _ (d.inner_same _ _ (c.if-is_mark.ensures.0 refl)) (then_first (d.inner_follows (λ body. stmt c.front.result.0.now.at (form.Block body))) _ _
    c.in_err-body.ensures.answer)))

pub statement-returns-then-is_mark-clause-answer : goal.statement-returns-then-is_mark-clause-answer
statement-returns-then-is_mark-clause-answer t c =
    from_first SpellsStmt NoElse _ c.args.tokens.now _ _ _ c.front.ensures (passed _ _ NoElse _ _ _ _ (d.inner_same _ _ (c.if-is_mark.ensures.0 refl))
    (then_answers (d.inner_follows (λ body. stmt c.front.result.0.now.at (form.Block body))) _ _ _ _ _ c.in_ok-body.ensures.answer c.not_else.ensures.answer))

pub statement-returns-in-Some-clause-answer : goal.statement-returns-in-Some-clause-answer
statement-returns-in-Some-clause-answer t c =
    from_first SpellsStmt NoElse _ c.args.tokens.now _ _ _ c.front.ensures c.nested.ensures.answer

pub statement-returns-clause-answer : goal.statement-returns-clause-answer
statement-returns-clause-answer t c =
    rw c.front.ensures c.leaf.ensures.answer

pub nested-returns-in-If-clause-answer : goal.nested-returns-in-If-clause-answer
nested-returns-in-If-clause-answer t c =
    passed _ _ NoElse _ c.args.tokens.now _ _ (d.if_same c.args.first.now c.args.tokens.now (rw c.in-If.is at c.requires.kind)) c.choice.ensures.answer

pub nested-returns-in-While-clause-answer : goal.nested-returns-in-While-clause-answer
nested-returns-in-While-clause-answer t c =
    passed _ _ NoElse _ c.args.tokens.now _ _ (d.while_same c.args.first.now c.args.tokens.now (rw c.in-While.is at c.requires.kind)) c.while_loop.ensures.answer

pub nested-returns-in-For-clause-answer : goal.nested-returns-in-For-clause-answer
nested-returns-in-For-clause-answer t c =
    passed _ _ NoElse _ c.args.tokens.now _ _ (d.for_same c.args.first.now c.args.tokens.now (rw c.in-For.is at c.requires.kind)) c.for_loop.ensures.answer

pub nested-returns-in_err-blocks-in-Parallel-clause-answer : goal.nested-returns-in_err-blocks-in-Parallel-clause-answer
nested-returns-in_err-blocks-in-Parallel-clause-answer t c =
    let p = err_from_is_err_and c.from_residual.result c.from_residual.ensures.1 in
    rw (p.1, p.2) (passed_error _ _ NoElse _ c.args.tokens.now _ (d.step_same c.args.first.now c.args.tokens.now (rw c.in-Parallel.is at c.requires.kind))
    (then_first (d.step_follows (λ rs. stmt c.args.first.now.at (form.Par rs))) _ _ c.in_err-blocks-in-Parallel.ensures.answer))

pub nested-returns-in_ok-blocks-in-Parallel-clause-answer : goal.nested-returns-in_ok-blocks-in-Parallel-clause-answer
nested-returns-in_ok-blocks-in-Parallel-clause-answer t c =
    passed _ _ NoElse _ c.args.tokens.now _ _ (d.step_same c.args.first.now c.args.tokens.now (rw c.in-Parallel.is at c.requires.kind))
    (then_answers (d.step_follows (λ rs. stmt c.args.first.now.at (form.Par rs))) _ _ _ _ _ c.in_ok-blocks-in-Parallel.ensures.answer c.ended.ensures.answer)

pub choice-returns-in_err-one-clause-answer : goal.choice-returns-in_err-one-clause-answer
choice-returns-in_err-one-clause-answer t c =
    let p = err_from_is_err_and c.from_residual.result c.from_residual.ensures.1 in
    rw (p.1, p.2) (then_first (d.arm_follows c.args.first.now) c.args.tokens.now _ c.in_err-one.ensures.answer)

pub choice-more-init : goal.choice-more-init
choice-more-init t c =
    record {
      ended = c.in_ok-one.ensures.answer.ended;
      shorter = omega (arith, c.in_ok-one.ensures.shorter);
      passes = rw (c.in_ok-push.ensures.ok ∙ ap (λ (x : List Arm). x ++ c.in_ok-one.one ∷ []) c.new-arms.ensures)
          (then_passes (d.arm_follows c.args.first.now) c.args.tokens.now _ _ c.in_ok-one.ensures.answer);
    }

pub choice-returns-in_err-body-clause-answer : goal.choice-returns-in_err-body-clause-answer
choice-returns-in_err-body-clause-answer t c =
    let p = err_from_is_err_and c.from_residual-in_err-body.result c.from_residual-in_err-body.ensures.1 in
    rw (p.1, p.2) (passed_error _ _ NoElse _ c.args.tokens.now _ c.more.invariant.passes (passed_error _ _ NoElse _ _ _
    (d.last_next c.args.first.now c.in-Some.ensures.0 c.more.arms c.more.rest.now c.in-Some.behind.now _ _ c.in-Some.ensures.1.0 c.in-Some.ensures.1.1 c.front.ensures
    (λ h. cc (c.if-is_word.ensures.1 h))) (then_first (d.body_follows (λ body. stmt c.args.first.now.at (form.If c.more.arms (Some body))) NoElse) _ _ c.in_err-body.ensures.answer)))

pub choice-returns-else-is_word-clause-answer : goal.choice-returns-else-is_word-clause-answer
choice-returns-else-is_word-clause-answer t c =
    passed _ _ NoElse _ c.args.tokens.now _ _ c.more.invariant.passes (passed _ _ NoElse _ _ _ _
    (d.last_next c.args.first.now c.in-Some.ensures.0 c.more.arms c.more.rest.now c.in-Some.behind.now _ _ c.in-Some.ensures.1.0 c.in-Some.ensures.1.1 c.front.ensures
    (λ h. cc (c.if-is_word.ensures.1 h))) (then_answers (d.body_follows (λ body. stmt c.args.first.now.at (form.If c.more.arms (Some body))) NoElse) _ _ _ _ _ c.in_ok-body.ensures.answer
    c.not_else.ensures.answer))

pub choice-returns-in_err-another-clause-answer : goal.choice-returns-in_err-another-clause-answer
choice-returns-in_err-another-clause-answer t c =
    let p = err_from_is_err_and c.from_residual-in_err-another.result c.from_residual-in_err-another.ensures.1 in
    rw (p.1, p.2) (passed_error _ _ NoElse _ c.args.tokens.now _ c.more.invariant.passes (passed_error _ _ NoElse _ _ _
    (d.another_next c.args.first.now c.in-Some.ensures.0 c.more.arms c.more.rest.now c.in-Some.behind.now _ _ c.more.invariant.ended c.in-Some.ensures.1.0 c.in-Some.ensures.1.1
    (ended_behind c.more.rest.now _ _ c.more.invariant.ended c.in-Some.ensures.1.0 (λ h. cc (c.in-Some.ensures.1.1, h))) c.front.ensures (c.if-is_word.ensures.0 refl))
    (then_first (d.more_arms c.args.first.now c.more.arms) _ _ c.in_err-another.ensures.answer)))

pub choice-more-preserved : goal.choice-more-preserved
choice-more-preserved t c =
    record {
      ended = c.in_ok-another.ensures.answer.ended;
      shorter = omega (arith, c.in_ok-another.ensures.shorter, c.more.invariant.shorter, ap (λ (x : List Token). length x) c.in-Some.ensures.1.0, ap (λ (x : List Token). length x) c.front.ensures);
      passes = rw c.in_ok-push-2.ensures.ok (passes_through (then_passes (d.more_arms c.args.first.now c.more.arms) _ _ _ c.in_ok-another.ensures.answer)
          (passes_through (d.another_next c.args.first.now c.in-Some.ensures.0 c.more.arms c.more.rest.now c.in-Some.behind.now _ _ c.more.invariant.ended c.in-Some.ensures.1.0 c.in-Some.ensures.1.1
          (ended_behind c.more.rest.now _ _ c.more.invariant.ended c.in-Some.ensures.1.0 (λ h. cc (c.in-Some.ensures.1.1, h))) c.front.ensures (c.if-is_word.ensures.0 refl)) c.more.invariant.passes));
    }

pub choice-returns-clause-answer : goal.choice-returns-clause-answer
choice-returns-clause-answer t c =
    c.more.invariant.passes.found _ _ (d.arms_done c.args.first.now c.more.arms c.more.rest.now c.more.invariant.ended c.in_default.ensures)

pub arm-returns-in_err-rest-clause-answer : goal.arm-returns-in_err-rest-clause-answer
arm-returns-in_err-rest-clause-answer t c =
    let p = err_from_is_err_and c.from_residual.result c.from_residual.ensures.1 in
    rw (p.1, p.2) (passed_error _ _ stops_anywhere _ c.args.tokens.now _ (d.arm_same c.args.tokens.now)
    (then_first (d.opening_body (λ test body. arm test body) stops_anywhere) _ _ (tok_err _ _ _ c.in_err-rest.ensures.answer)))

pub arm-returns-in_err-test-clause-answer : goal.arm-returns-in_err-test-clause-answer
arm-returns-in_err-test-clause-answer t c =
    let p = err_from_is_err_and c.from_residual-in_err-test.result c.from_residual-in_err-test.ensures.1 in
    rw (p.1, p.2) (passed_error _ _ stops_anywhere _ c.args.tokens.now _ (d.arm_same c.args.tokens.now)
    (then_second (d.opening_body (λ test body. arm test body) stops_anywhere) _ _ _ _ (tok_found c.in_ok-rest.ensures.answer)
    (then_first (d.test_body (λ test body. arm test body) stops_anywhere) _ _ c.in_err-test.ensures.answer)))

pub arm-returns-in_err-rest-2-clause-answer : goal.arm-returns-in_err-rest-2-clause-answer
arm-returns-in_err-rest-2-clause-answer t c =
    let p = err_from_is_err_and c.from_residual-in_err-rest-2.result c.from_residual-in_err-rest-2.ensures.1 in
    rw (p.1, p.2) (passed_error _ _ stops_anywhere _ c.args.tokens.now _ (d.arm_same c.args.tokens.now)
    (then_second (d.opening_body (λ test body. arm test body) stops_anywhere) _ _ _ _ (tok_found c.in_ok-rest.ensures.answer)
    (then_second (d.test_body (λ test body. arm test body) stops_anywhere) _ _ _ _ c.in_ok-test.ensures.answer
    (then_first (d.closing_body (λ body. arm c.in_ok-test.test body) stops_anywhere) _ _ (tok_err _ _ _ c.in_err-rest-2.ensures.answer)))))

pub arm-returns-in_err-body-clause-answer : goal.arm-returns-in_err-body-clause-answer
arm-returns-in_err-body-clause-answer t c =
    let p = err_from_is_err_and c.from_residual-in_err-body.result c.from_residual-in_err-body.ensures.1 in
    rw (p.1, p.2) (passed_error _ _ stops_anywhere _ c.args.tokens.now _ (d.arm_same c.args.tokens.now)
    (then_second (d.opening_body (λ test body. arm test body) stops_anywhere) _ _ _ _ (tok_found c.in_ok-rest.ensures.answer)
    (then_second (d.test_body (λ test body. arm test body) stops_anywhere) _ _ _ _ c.in_ok-test.ensures.answer
    (then_second (d.closing_body (λ body. arm c.in_ok-test.test body) stops_anywhere) _ _ _ _ (tok_found c.in_ok-rest-2.ensures.answer)
    (then_first (d.body_follows (λ body. arm c.in_ok-test.test body) stops_anywhere) _ _ c.in_err-body.ensures.answer)))))

pub arm-returns-clause-answer : goal.arm-returns-clause-answer
arm-returns-clause-answer t c =
    (d.arm_same c.args.tokens.now).found _ _ (then_found (d.opening_body (λ test body. arm test body) stops_anywhere) _ _ _ _ _ (tok_found c.in_ok-rest.ensures.answer)
    (then_found (d.test_body (λ test body. arm test body) stops_anywhere) _ _ _ _ _ c.in_ok-test.ensures.answer
    (then_found (d.closing_body (λ body. arm c.in_ok-test.test body) stops_anywhere) _ _ _ _ _ (tok_found c.in_ok-rest-2.ensures.answer)
    (then_found (d.body_follows (λ body. arm c.in_ok-test.test body) stops_anywhere) _ _ _ _ _ c.in_ok-body.ensures.answer (ret_found _ stops_anywhere _ tt c.in_ok-body.ensures.answer.ended)))))

pub while_loop-returns-in_err-rest-clause-answer : goal.while_loop-returns-in_err-rest-clause-answer
while_loop-returns-in_err-rest-clause-answer t c =
    let p = err_from_is_err_and c.from_residual.result c.from_residual.ensures.1 in
    rw (p.1, p.2) (then_first (d.opening_body (λ test body. stmt c.args.first.now.at (form.While test body)) NoElse) _ _ (tok_err _ _ _ c.in_err-rest.ensures.answer))

pub while_loop-returns-in_err-test-clause-answer : goal.while_loop-returns-in_err-test-clause-answer
while_loop-returns-in_err-test-clause-answer t c =
    let p = err_from_is_err_and c.from_residual-in_err-test.result c.from_residual-in_err-test.ensures.1 in
    rw (p.1, p.2) (then_second (d.opening_body (λ test body. stmt c.args.first.now.at (form.While test body)) NoElse) _ _ _ _ (tok_found c.in_ok-rest.ensures.answer)
    (then_first (d.test_body (λ test body. stmt c.args.first.now.at (form.While test body)) NoElse) _ _ c.in_err-test.ensures.answer))

pub while_loop-returns-in_err-rest-2-clause-answer : goal.while_loop-returns-in_err-rest-2-clause-answer
while_loop-returns-in_err-rest-2-clause-answer t c =
    let p = err_from_is_err_and c.from_residual-in_err-rest-2.result c.from_residual-in_err-rest-2.ensures.1 in
    rw (p.1, p.2) (then_second (d.opening_body (λ test body. stmt c.args.first.now.at (form.While test body)) NoElse) _ _ _ _ (tok_found c.in_ok-rest.ensures.answer)
    (then_second (d.test_body (λ test body. stmt c.args.first.now.at (form.While test body)) NoElse) _ _ _ _ c.in_ok-test.ensures.answer
    (then_first (d.closing_body (λ body. stmt c.args.first.now.at (form.While c.in_ok-test.test body)) NoElse) _ _ (tok_err _ _ _ c.in_err-rest-2.ensures.answer))))

pub while_loop-returns-in_err-body-clause-answer : goal.while_loop-returns-in_err-body-clause-answer
while_loop-returns-in_err-body-clause-answer t c =
    let p = err_from_is_err_and c.from_residual-in_err-body.result c.from_residual-in_err-body.ensures.1 in
    rw (p.1, p.2) (then_second (d.opening_body (λ test body. stmt c.args.first.now.at (form.While test body)) NoElse) _ _ _ _ (tok_found c.in_ok-rest.ensures.answer)
    (then_second (d.test_body (λ test body. stmt c.args.first.now.at (form.While test body)) NoElse) _ _ _ _ c.in_ok-test.ensures.answer
    (then_second (d.closing_body (λ body. stmt c.args.first.now.at (form.While c.in_ok-test.test body)) NoElse) _ _ _ _ (tok_found c.in_ok-rest-2.ensures.answer)
    (then_first (d.body_follows (λ body. stmt c.args.first.now.at (form.While c.in_ok-test.test body)) NoElse) _ _ c.in_err-body.ensures.answer))))

pub while_loop-returns-clause-answer : goal.while_loop-returns-clause-answer
while_loop-returns-clause-answer t c =
    then_answers (d.opening_body (λ test body. stmt c.args.first.now.at (form.While test body)) NoElse) _ _ _ _ _ (tok_found c.in_ok-rest.ensures.answer)
    (then_answers (d.test_body (λ test body. stmt c.args.first.now.at (form.While test body)) NoElse) _ _ _ _ _ c.in_ok-test.ensures.answer
    (then_answers (d.closing_body (λ body. stmt c.args.first.now.at (form.While c.in_ok-test.test body)) NoElse) _ _ _ _ _ (tok_found c.in_ok-rest-2.ensures.answer)
    (then_answers (d.body_follows (λ body. stmt c.args.first.now.at (form.While c.in_ok-test.test body)) NoElse) _ _ _ _ _ c.in_ok-body.ensures.answer c.not_else.ensures.answer)))

pub for_loop-returns-in_err-rest-clause-answer : goal.for_loop-returns-in_err-rest-clause-answer
for_loop-returns-in_err-rest-clause-answer t c =
    let p = err_from_is_err_and c.from_residual.result c.from_residual.ensures.1 in
    rw (p.1, p.2) (then_first (d.for_opening (λ begun test next body. stmt c.args.first.now.at (form.For begun test next body))) _ _ (tok_err _ _ _ c.in_err-rest.ensures.answer))

pub for_loop-returns-in_err-begun-clause-answer : goal.for_loop-returns-in_err-begun-clause-answer
for_loop-returns-in_err-begun-clause-answer t c =
    let p = err_from_is_err_and c.from_residual-in_err-begun.result c.from_residual-in_err-begun.ensures.1 in
    rw (p.1, p.2) (then_second (d.for_opening (λ begun test next body. stmt c.args.first.now.at (form.For begun test next body))) _ _ _ _ (tok_found c.in_ok-rest.ensures.answer)
    (then_first (d.for_start (λ begun test next body. stmt c.args.first.now.at (form.For begun test next body))) _ _ c.in_err-begun.ensures.answer))

pub for_loop-returns-in_err-rest-2-clause-answer : goal.for_loop-returns-in_err-rest-2-clause-answer
for_loop-returns-in_err-rest-2-clause-answer t c =
    let p = err_from_is_err_and c.from_residual-in_err-rest-2.result c.from_residual-in_err-rest-2.ensures.1 in
    rw (p.1, p.2) (then_second (d.for_opening (λ begun test next body. stmt c.args.first.now.at (form.For begun test next body))) _ _ _ _ (tok_found c.in_ok-rest.ensures.answer)
    (then_second (d.for_start (λ begun test next body. stmt c.args.first.now.at (form.For begun test next body))) _ _ _ _ c.in_ok-begun.ensures.answer
    (then_first (d.for_one (λ test next body. stmt c.args.first.now.at (form.For c.in_ok-begun.begun test next body))) _ _ (tok_err _ _ _ c.in_err-rest-2.ensures.answer))))

pub for_loop-returns-in_err-test-clause-answer : goal.for_loop-returns-in_err-test-clause-answer
for_loop-returns-in_err-test-clause-answer t c =
    let p = err_from_is_err_and c.from_residual-in_err-test.result c.from_residual-in_err-test.ensures.1 in
    rw (p.1, p.2) (then_second (d.for_opening (λ begun test next body. stmt c.args.first.now.at (form.For begun test next body))) _ _ _ _ (tok_found c.in_ok-rest.ensures.answer)
    (then_second (d.for_start (λ begun test next body. stmt c.args.first.now.at (form.For begun test next body))) _ _ _ _ c.in_ok-begun.ensures.answer
    (then_second (d.for_one (λ test next body. stmt c.args.first.now.at (form.For c.in_ok-begun.begun test next body))) _ _ _ _ (tok_found c.in_ok-rest-2.ensures.answer)
    (then_first (d.for_test (λ test next body. stmt c.args.first.now.at (form.For c.in_ok-begun.begun test next body))) _ _ c.in_err-test.ensures.answer))))

pub for_loop-returns-in_err-rest-3-clause-answer : goal.for_loop-returns-in_err-rest-3-clause-answer
for_loop-returns-in_err-rest-3-clause-answer t c =
    let p = err_from_is_err_and c.from_residual-in_err-rest-3.result c.from_residual-in_err-rest-3.ensures.1 in
    rw (p.1, p.2) (then_second (d.for_opening (λ begun test next body. stmt c.args.first.now.at (form.For begun test next body))) _ _ _ _ (tok_found c.in_ok-rest.ensures.answer)
    (then_second (d.for_start (λ begun test next body. stmt c.args.first.now.at (form.For begun test next body))) _ _ _ _ c.in_ok-begun.ensures.answer
    (then_second (d.for_one (λ test next body. stmt c.args.first.now.at (form.For c.in_ok-begun.begun test next body))) _ _ _ _ (tok_found c.in_ok-rest-2.ensures.answer)
    (then_second (d.for_test (λ test next body. stmt c.args.first.now.at (form.For c.in_ok-begun.begun test next body))) _ _ _ _ c.in_ok-test.ensures.answer
    (then_first (d.for_two (λ next body. stmt c.args.first.now.at (form.For c.in_ok-begun.begun c.in_ok-test.test next body))) _ _ (tok_err _ _ _ c.in_err-rest-3.ensures.answer))))))

pub for_loop-returns-in_err-step-clause-answer : goal.for_loop-returns-in_err-step-clause-answer
for_loop-returns-in_err-step-clause-answer t c =
    let p = err_from_is_err_and c.from_residual-in_err-step.result c.from_residual-in_err-step.ensures.1 in
    rw (p.1, p.2) (then_second (d.for_opening (λ begun test next body. stmt c.args.first.now.at (form.For begun test next body))) _ _ _ _ (tok_found c.in_ok-rest.ensures.answer)
    (then_second (d.for_start (λ begun test next body. stmt c.args.first.now.at (form.For begun test next body))) _ _ _ _ c.in_ok-begun.ensures.answer
    (then_second (d.for_one (λ test next body. stmt c.args.first.now.at (form.For c.in_ok-begun.begun test next body))) _ _ _ _ (tok_found c.in_ok-rest-2.ensures.answer)
    (then_second (d.for_test (λ test next body. stmt c.args.first.now.at (form.For c.in_ok-begun.begun test next body))) _ _ _ _ c.in_ok-test.ensures.answer
    (then_second (d.for_two (λ next body. stmt c.args.first.now.at (form.For c.in_ok-begun.begun c.in_ok-test.test next body))) _ _ _ _ (tok_found c.in_ok-rest-3.ensures.answer)
    (then_first (d.for_next (λ next body. stmt c.args.first.now.at (form.For c.in_ok-begun.begun c.in_ok-test.test next body))) _ _ c.in_err-step.ensures.answer))))))

pub for_loop-returns-in_err-rest-4-clause-answer : goal.for_loop-returns-in_err-rest-4-clause-answer
for_loop-returns-in_err-rest-4-clause-answer t c =
    let p = err_from_is_err_and c.from_residual-in_err-rest-4.result c.from_residual-in_err-rest-4.ensures.1 in
    rw (p.1, p.2) (then_second (d.for_opening (λ begun test next body. stmt c.args.first.now.at (form.For begun test next body))) _ _ _ _ (tok_found c.in_ok-rest.ensures.answer)
    (then_second (d.for_start (λ begun test next body. stmt c.args.first.now.at (form.For begun test next body))) _ _ _ _ c.in_ok-begun.ensures.answer
    (then_second (d.for_one (λ test next body. stmt c.args.first.now.at (form.For c.in_ok-begun.begun test next body))) _ _ _ _ (tok_found c.in_ok-rest-2.ensures.answer)
    (then_second (d.for_test (λ test next body. stmt c.args.first.now.at (form.For c.in_ok-begun.begun test next body))) _ _ _ _ c.in_ok-test.ensures.answer
    (then_second (d.for_two (λ next body. stmt c.args.first.now.at (form.For c.in_ok-begun.begun c.in_ok-test.test next body))) _ _ _ _ (tok_found c.in_ok-rest-3.ensures.answer)
    (then_second (d.for_next (λ next body. stmt c.args.first.now.at (form.For c.in_ok-begun.begun c.in_ok-test.test next body))) _ _ _ _ c.in_ok-step.ensures.answer
    (then_first (d.for_body (λ body. stmt c.args.first.now.at (form.For c.in_ok-begun.begun c.in_ok-test.test c.in_ok-step.step body))) _ _ (tok_err _ _ _ c.in_err-rest-4.ensures.answer))))))))

pub for_loop-returns-in_err-body-clause-answer : goal.for_loop-returns-in_err-body-clause-answer
for_loop-returns-in_err-body-clause-answer t c =
    let p = err_from_is_err_and c.from_residual-in_err-body.result c.from_residual-in_err-body.ensures.1 in
    rw (p.1, p.2) (then_second (d.for_opening (λ begun test next body. stmt c.args.first.now.at (form.For begun test next body))) _ _ _ _ (tok_found c.in_ok-rest.ensures.answer)
    (then_second (d.for_start (λ begun test next body. stmt c.args.first.now.at (form.For begun test next body))) _ _ _ _ c.in_ok-begun.ensures.answer
    (then_second (d.for_one (λ test next body. stmt c.args.first.now.at (form.For c.in_ok-begun.begun test next body))) _ _ _ _ (tok_found c.in_ok-rest-2.ensures.answer)
    (then_second (d.for_test (λ test next body. stmt c.args.first.now.at (form.For c.in_ok-begun.begun test next body))) _ _ _ _ c.in_ok-test.ensures.answer
    (then_second (d.for_two (λ next body. stmt c.args.first.now.at (form.For c.in_ok-begun.begun c.in_ok-test.test next body))) _ _ _ _ (tok_found c.in_ok-rest-3.ensures.answer)
    (then_second (d.for_next (λ next body. stmt c.args.first.now.at (form.For c.in_ok-begun.begun c.in_ok-test.test next body))) _ _ _ _ c.in_ok-step.ensures.answer
    (then_second (d.for_body (λ body. stmt c.args.first.now.at (form.For c.in_ok-begun.begun c.in_ok-test.test c.in_ok-step.step body))) _ _ _ _ (tok_found c.in_ok-rest-4.ensures.answer)
    (then_first (d.body_follows (λ body. stmt c.args.first.now.at (form.For c.in_ok-begun.begun c.in_ok-test.test c.in_ok-step.step body)) NoElse) _ _ c.in_err-body.ensures.answer))))))))

pub for_loop-returns-clause-answer : goal.for_loop-returns-clause-answer
for_loop-returns-clause-answer t c =
    then_answers (d.for_opening (λ begun test next body. stmt c.args.first.now.at (form.For begun test next body))) _ _ _ _ _ (tok_found c.in_ok-rest.ensures.answer)
    (then_answers (d.for_start (λ begun test next body. stmt c.args.first.now.at (form.For begun test next body))) _ _ _ _ _ c.in_ok-begun.ensures.answer
    (then_answers (d.for_one (λ test next body. stmt c.args.first.now.at (form.For c.in_ok-begun.begun test next body))) _ _ _ _ _ (tok_found c.in_ok-rest-2.ensures.answer)
    (then_answers (d.for_test (λ test next body. stmt c.args.first.now.at (form.For c.in_ok-begun.begun test next body))) _ _ _ _ _ c.in_ok-test.ensures.answer
    (then_answers (d.for_two (λ next body. stmt c.args.first.now.at (form.For c.in_ok-begun.begun c.in_ok-test.test next body))) _ _ _ _ _ (tok_found c.in_ok-rest-3.ensures.answer)
    (then_answers (d.for_next (λ next body. stmt c.args.first.now.at (form.For c.in_ok-begun.begun c.in_ok-test.test next body))) _ _ _ _ _ c.in_ok-step.ensures.answer
    (then_answers (d.for_body (λ body. stmt c.args.first.now.at (form.For c.in_ok-begun.begun c.in_ok-test.test c.in_ok-step.step body))) _ _ _ _ _ (tok_found c.in_ok-rest-4.ensures.answer)
    (then_answers (d.body_follows (λ body. stmt c.args.first.now.at (form.For c.in_ok-begun.begun c.in_ok-test.test c.in_ok-step.step body)) NoElse) _ _ _ _ _ c.in_ok-body.ensures.answer
    ((rw (c.in_ok-first_part.ensures, c.in_ok-next.ensures) at c.not_else.ensures.answer)))))))))

pub routines-returns-in_err-one-clause-answer : goal.routines-returns-in_err-one-clause-answer
routines-returns-in_err-one-clause-answer t c =
    let p = err_from_is_err_and c.from_residual.result c.from_residual.ensures.1 in
    rw (p.1, p.2) (then_first d.first_routine c.args.tokens.now _ c.in_err-one.ensures.answer)

pub routines-more-init : goal.routines-more-init
routines-more-init t c =
    record {
      ended = c.in_ok-one.ensures.answer.ended;
      shorter = omega (arith, c.in_ok-one.ensures.shorter);
      passes = rw (c.in_ok-push.ensures.ok ∙ ap (λ (x : List RoutineBlock). x ++ c.in_ok-one.one ∷ []) c.new-blocks.ensures)
          (then_passes d.first_routine c.args.tokens.now _ _ c.in_ok-one.ensures.answer);
    }

pub routines-returns-in_err-another-clause-answer : goal.routines-returns-in_err-another-clause-answer
routines-returns-in_err-another-clause-answer t c =
    let p = err_from_is_err_and c.from_residual-in_err-another.result c.from_residual-in_err-another.ensures.1 in
    rw (p.1, p.2) (passed_error _ _ stops_anywhere _ c.args.tokens.now _ c.more.invariant.passes
    (until_err d.routines_repeated c.more.blocks c.more.rest.now _ c.in-Some.ensures.1 (rw c.in-Some.ensures.0 at c.in_err-another.ensures.answer)))

pub routines-more-preserved : goal.routines-more-preserved
routines-more-preserved t c =
    record {
      ended = c.in_ok-another.ensures.answer.ended;
      shorter = omega (arith, c.in_ok-another.ensures.shorter, c.more.invariant.shorter, ap (λ (x : List Token). length x) c.in-Some.ensures.0);
      passes = rw c.in_ok-push-2.ensures.ok (passes_through (until_more d.routines_repeated c.more.blocks c.more.rest.now _ _ c.in-Some.ensures.1
          (rw c.in-Some.ensures.0 at c.in_ok-another.ensures.answer))
          c.more.invariant.passes);
    }

pub routines-returns-clause-answer : goal.routines-returns-clause-answer
routines-returns-clause-answer t c =
    c.more.invariant.passes.found _ _ (until_done d.routines_repeated c.more.blocks c.more.rest.now _ _ c.more.invariant.ended c.front.ensures
    (cc (c.front.ensures, c.in_default.ensures.2, c.in_default.ensures.3)))

pub routine-returns-in_err-first-clause-answer : goal.routine-returns-in_err-first-clause-answer
routine-returns-in_err-first-clause-answer t c =
    let p = err_from_is_err_and c.from_residual.result c.from_residual.ensures.1 in
    rw (p.1, p.2) (passed_error _ _ stops_anywhere _ c.args.tokens.now _ (d.routine_same c.args.tokens.now) (then_first d.routine_word _ _ (tok_err _ _ _ c.in_err-first.ensures.answer)))

pub routine-returns-in_err-rest-clause-answer : goal.routine-returns-in_err-rest-clause-answer
routine-returns-in_err-rest-clause-answer t c =
    let p = err_from_is_err_and c.from_residual-in_err-rest.result c.from_residual-in_err-rest.ensures.1 in
    rw (p.1, p.2) (passed_error _ _ stops_anywhere _ c.args.tokens.now _ (d.routine_same c.args.tokens.now)
    (then_second d.routine_word _ _ _ _ (tok_found c.in_ok-first.ensures.answer) (then_first (d.routine_opening c.in_ok-first.first.now) _ _ (tok_err _ _ _ c.in_err-rest.ensures.answer))))

pub routine-returns-in_err-width-clause-answer : goal.routine-returns-in_err-width-clause-answer
routine-returns-in_err-width-clause-answer t c =
    let p = err_from_is_err_and c.from_residual-in_err-width.result c.from_residual-in_err-width.ensures.1 in
    rw (p.1, p.2) (passed_error _ _ stops_anywhere _ c.args.tokens.now _ (d.routine_same c.args.tokens.now)
    (then_second d.routine_word _ _ _ _ (tok_found c.in_ok-first.ensures.answer) (then_second (d.routine_opening c.in_ok-first.first.now) _ _ _ _ (tok_found c.in_ok-rest.ensures.answer)
    (then_first (d.width_follows c.in_ok-first.first.now) _ _ c.in_err-width.ensures.answer))))

pub routine-returns-in_err-rest-2-clause-answer : goal.routine-returns-in_err-rest-2-clause-answer
routine-returns-in_err-rest-2-clause-answer t c =
    let p = err_from_is_err_and c.from_residual-in_err-rest-2.result c.from_residual-in_err-rest-2.ensures.1 in
    rw (p.1, p.2) (passed_error _ _ stops_anywhere _ c.args.tokens.now _ (d.routine_same c.args.tokens.now)
    (then_second d.routine_word _ _ _ _ (tok_found c.in_ok-first.ensures.answer) (then_second (d.routine_opening c.in_ok-first.first.now) _ _ _ _ (tok_found c.in_ok-rest.ensures.answer)
    (then_second (d.width_follows c.in_ok-first.first.now) _ _ _ _ c.in_ok-width.ensures.answer
    (then_first (d.width_closing c.in_ok-first.first.now c.in_ok-width.width) _ _ (tok_err _ _ _ c.in_err-rest-2.ensures.answer))))))

pub routine-returns-in_err-names-clause-answer : goal.routine-returns-in_err-names-clause-answer
routine-returns-in_err-names-clause-answer t c =
    let p = err_from_is_err_and c.from_residual-in_err-names.result c.from_residual-in_err-names.ensures.1 in
    rw (p.1, p.2) (passed_error _ _ stops_anywhere _ c.args.tokens.now _ (d.routine_same c.args.tokens.now)
    (then_second d.routine_word _ _ _ _ (tok_found c.in_ok-first.ensures.answer) (then_second (d.routine_opening c.in_ok-first.first.now) _ _ _ _ (tok_found c.in_ok-rest.ensures.answer)
    (then_second (d.width_follows c.in_ok-first.first.now) _ _ _ _ c.in_ok-width.ensures.answer
    (then_second (d.width_closing c.in_ok-first.first.now c.in_ok-width.width) _ _ _ _ (tok_found c.in_ok-rest-2.ensures.answer)
    (then_first (d.names_follow (d.routine_as c.in_ok-first.first.now c.in_ok-width.width)) _ _ c.in_err-names.ensures.answer))))))

pub routine-returns-in_err-body-clause-answer : goal.routine-returns-in_err-body-clause-answer
routine-returns-in_err-body-clause-answer t c =
    let p = err_from_is_err_and c.from_residual-in_err-body.result c.from_residual-in_err-body.ensures.1 in
    rw (p.1, p.2) (passed_error _ _ stops_anywhere _ c.args.tokens.now _ (d.routine_same c.args.tokens.now)
    (then_second d.routine_word _ _ _ _ (tok_found c.in_ok-first.ensures.answer) (then_second (d.routine_opening c.in_ok-first.first.now) _ _ _ _ (tok_found c.in_ok-rest.ensures.answer)
    (then_second (d.width_follows c.in_ok-first.first.now) _ _ _ _ c.in_ok-width.ensures.answer
    (then_second (d.width_closing c.in_ok-first.first.now c.in_ok-width.width) _ _ _ _ (tok_found c.in_ok-rest-2.ensures.answer)
    (then_second (d.names_follow (d.routine_as c.in_ok-first.first.now c.in_ok-width.width)) _ _ _ _ c.in_ok-names.ensures.answer
    (then_first (d.body_follows (λ body. d.routine_as c.in_ok-first.first.now c.in_ok-width.width (c.in_ok-names.names.0.now, c.in_ok-names.names.1.now) body) stops_anywhere) _ _
    c.in_err-body.ensures.answer)))))))

pub routine-returns-clause-answer : goal.routine-returns-clause-answer
routine-returns-clause-answer t c =
    rw (c.in_ok-copy_of.ensures, c.in_ok-copy_of-2.ensures) ((d.routine_same c.args.tokens.now).found _ _
    (then_found d.routine_word _ _ _ _ _ (tok_found c.in_ok-first.ensures.answer) (then_found (d.routine_opening c.in_ok-first.first.now) _ _ _ _ _ (tok_found c.in_ok-rest.ensures.answer)
    (then_found (d.width_follows c.in_ok-first.first.now) _ _ _ _ _ c.in_ok-width.ensures.answer
    (then_found (d.width_closing c.in_ok-first.first.now c.in_ok-width.width) _ _ _ _ _ (tok_found c.in_ok-rest-2.ensures.answer)
    (then_found (d.names_follow (d.routine_as c.in_ok-first.first.now c.in_ok-width.width)) _ _ _ _ _ c.in_ok-names.ensures.answer
    (then_found (d.body_follows (λ body. d.routine_as c.in_ok-first.first.now c.in_ok-width.width (c.in_ok-names.names.0.now, c.in_ok-names.names.1.now) body) stops_anywhere) _ _ _ _ _
    c.in_ok-body.ensures.answer (ret_found _ stops_anywhere _ tt c.in_ok-body.ensures.answer.ended))))))))
