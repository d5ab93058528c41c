use Rattle.std.proofs.Common.{rules, arith, refl, ◌∙◌, ◌-◌, Ok, Err}
use Rattle.statement_eval.proofs.Equations.{stops_first, gives_first, value_unary, value_binary, value_paren, read_item, result_is, appends_first, changed_item_of, sets_stop, sets_next, sets_alone}
use Rattle.statement_eval.proofs.Equations.{value_appended, value_stops, next_item}
use Rattle.std.proofs.lemmas.Result.{err_from_is_err_and, IfOk-at_ok}
use Rattle.statement_eval.specs.Lists.{values_of}
use Rattle.csl_meaning.specs.Effect.{calls_to}
use Rattle.statement_eval.proofs.Sizes.{in_unary, in_left, in_right, in_paren, in_read, in_call_of, in_place, in_call, one_value, one_of, in_return, in_call_statement, in_function, in_if, in_while, in_for}
use Rattle.statement_eval.proofs.Sizes.{in_first, in_assert, in_change_index, in_declare, in_block, one_arm, in_last}
use Rattle.std.proofs.Common.{sym, ap, subst, ◌≤◌, length, Some}
use Rattle.std.specs.Option.{option_copied}
use Rattle.csl_meaning.specs.Value.{value_of}
use Rattle.csl_meaning.specs.Effect.{scoped, statements, nowhere, loop, effect, after_body, step_of}
use Rattle.csl_meaning.specs.Runs.{◌>>=◌, and_then}
use Rattle.statement_eval.specs.Follows.{Goes}
use Rattle.csl_tree.specs.declared.program.Stmt.{Stmt}
use Rattle.statement_eval.proofs.Loops.{effect_if, effect_while, effect_block, effect_for, first_stops, loop_stops, loop_gives, again, test_stops, test_false, turn_stops, turn_gives, to_step, step_stops}
use Rattle.statement_eval.proofs.Loops.{unit_stops, unit_taken}
use Rattle.statement_eval.proofs.Calls.{too_deep, no_function, body_stops, body_gives, found, found_none, begun, run_on}
use Rattle.statement_eval.proofs.stmt.+eval.Goals as goal

pub value-returns-in-Paren-clause-follows : goal.value-returns-in-Paren-clause-follows
value-returns-in-Paren-clause-follows t c = rw (value_paren _ _ _ _ _ _ c.in-Paren.is) (search rules)

pub value-returns-in_err-x-in-Unary-clause-follows : goal.value-returns-in_err-x-in-Unary-clause-follows
value-returns-in_err-x-in-Unary-clause-follows t c = rw (value_unary _ _ _ _ _ _ _ c.in-Unary.is) (search (rules, stops_first))

pub value-returns-in_ok-x-in-Unary-clause-follows : goal.value-returns-in_ok-x-in-Unary-clause-follows
value-returns-in_ok-x-in-Unary-clause-follows t c = rw (value_unary _ _ _ _ _ _ _ c.in-Unary.is) (search (rules, gives_first))

pub value-returns-in_err-x-in-Binary-clause-follows : goal.value-returns-in_err-x-in-Binary-clause-follows
value-returns-in_err-x-in-Binary-clause-follows t c = rw (value_binary _ _ _ _ _ _ _ _ c.in-Binary.is) (search (rules, stops_first))

pub value-returns-in-Some-clause-follows : goal.value-returns-in-Some-clause-follows
value-returns-in-Some-clause-follows t c = rw (value_binary _ _ _ _ _ _ _ _ c.in-Binary.is) (search (rules, gives_first))

pub value-returns-in_err-y-in-Binary-clause-follows : goal.value-returns-in_err-y-in-Binary-clause-follows
value-returns-in_err-y-in-Binary-clause-follows t c = rw (value_binary _ _ _ _ _ _ _ _ c.in-Binary.is) (search (rules, gives_first, stops_first))

pub value-returns-in_ok-y-in-Binary-clause-follows : goal.value-returns-in_ok-y-in-Binary-clause-follows
value-returns-in_ok-y-in-Binary-clause-follows t c = rw (value_binary _ _ _ _ _ _ _ _ c.in-Binary.is) (search (rules, gives_first))

pub read-returns-in_err-x-in-Some-clause-follows : goal.read-returns-in_err-x-in-Some-clause-follows
read-returns-in_err-x-in-Some-clause-follows t c = rw (read_item _ _ _ _ _ _ c.in-Some.is) (search (rules, stops_first))

pub call_of-returns-in_err-values-clause-follows : goal.call_of-returns-in_err-values-clause-follows
call_of-returns-in_err-values-clause-follows t c = rw (result_is _ _ _ _ _) (search (rules, stops_first))

pub call_of-returns-in_err-take_unit-clause-follows : goal.call_of-returns-in_err-take_unit-clause-follows
call_of-returns-in_err-take_unit-clause-follows t c = rw (result_is _ _ _ _ _, ← c.as_slice.ensures)
    (appends_first _ _ _ _ _ _ _ c.new-given.ensures c.in_ok-values.ensures.follows (search (rules, stops_first)))

pub call_of-returns-clause-follows : goal.call_of-returns-clause-follows
call_of-returns-clause-follows t c = rw (result_is _ _ _ _ _, ← c.as_slice.ensures) (appends_first _ _ _ _ _ _ _ c.new-given.ensures c.in_ok-values.ensures.follows (search (rules, gives_first)))

pub values-returns-in_err-v-clause-follows : goal.values-returns-in_err-v-clause-follows
values-returns-in_err-v-clause-follows t c =
    let p = err_from_is_err_and c.from_residual.result c.from_residual.ensures.1 in
    rw (p.1, p.2) (value_stops c.args.p.now (calls_to c.args.p.now c.args.levels) c.args.locals.now _ _ _ c.args.given.now c.loop-e.given c.loop-e.given _ _ _ c.args.world.now
    (values_of c.args.p.now (calls_to c.args.p.now c.args.levels) c.args.locals.now c.args.all.now) (next_item c.args.all.now c.loop-e.e-index c.e-item.result (omega arith) c.e-item.is)
    c.in_err-v.ensures.follows c.loop-e.invariant.0)

pub values-loop-e-preserved : goal.values-loop-e-preserved
values-loop-e-preserved t c =
    ((rw (IfOk-at_ok _ c.in_ok-push.was c.push.ensures.ok) (value_appended c.args.p.now (calls_to c.args.p.now c.args.levels) c.args.locals.now _ _ _ _ _ _ _ (next_item c.args.all.now c.loop-e.e-index c.e-item.result (omega arith) c.e-item.is) c.in_ok-v.ensures.follows ∙ c.loop-e.invariant.0)), (omega (arith, c.loop-e.invariant.1.0, c.value.ensures.fuel), c.value.ensures.stays ∙ c.loop-e.invariant.1.1))

pub run_call-returns-then-levels-eq0-clause-follows : goal.run_call-returns-then-levels-eq0-clause-follows
run_call-returns-then-levels-eq0-clause-follows t c = too_deep _ _ _ _ _ c.if-levels-eq0.true

-- ---- each call goes down

pub value-read-requires : goal.value-read-requires
value-read-requires t c = (omega (arith, c.decreases, in_read _ _ c.in-Read.is), c.requires)

pub value-call_of-requires : goal.value-call_of-requires
value-call_of-requires t c = (omega (arith, c.decreases, in_call_of _ _ c.in-CallOf.is), c.requires)

pub value-value-requires : goal.value-value-requires
value-value-requires t c = rw c.get.ensures (omega (arith, c.decreases, in_unary _ _ _ c.in-Unary.is), c.requires)

pub value-value-requires-in-Binary : goal.value-value-requires-in-Binary
value-value-requires-in-Binary t c = rw c.get-in-Binary.ensures (omega (arith, c.decreases, in_left _ _ _ _ c.in-Binary.is), c.requires)

pub value-value-requires-in-Binary-2 : goal.value-value-requires-in-Binary-2
value-value-requires-in-Binary-2 t c = rw c.get-in-Binary-2.ensures (omega (arith, c.decreases, in_right _ _ _ _ c.in-Binary.is), c.requires)

pub value-value-requires-in-Paren : goal.value-value-requires-in-Paren
value-value-requires-in-Paren t c = rw c.get-in-Paren.ensures (omega (arith, c.decreases, in_paren _ _ c.in-Paren.is), c.requires)

pub read-value-requires : goal.read-value-requires
read-value-requires t c = rw c.get.ensures (omega (arith, c.decreases, in_place _ _ c.in-Some.is), c.requires)

pub call_of-values-requires : goal.call_of-values-requires
call_of-values-requires t c = (rw c.as_slice.ensures (omega (arith, c.decreases, in_call c.args.call.now)), c.requires)

pub values-value-requires : goal.values-value-requires
values-value-requires t c = (omega (arith, c.decreases, one_value c.args.all.now c.loop-e.e-index c.e-item.result (omega arith) c.e-item.is), c.requires)

pub statements-statement-requires : goal.statements-statement-requires
statements-statement-requires t c = (omega (arith, c.decreases, one_of c.args.all.now c.loop-s.s-index c.s-item.result (omega arith) c.s-item.is), c.requires)

pub statement-value-requires : goal.statement-value-requires
statement-value-requires t c = (omega (arith, c.decreases, in_return _ _ _ c.in-Return.is c.in-Some.is), c.requires)

pub statement-call_of-requires : goal.statement-call_of-requires
statement-call_of-requires t c = (omega (arith, c.decreases, in_call_statement _ _ c.in-CallOf.is), c.requires)

pub run_call-statements-requires : goal.run_call-statements-requires
run_call-statements-requires t c =
    (rw c.as_slice-in-Some.ensures (omega (arith, c.decreases, in_function c.args.p.now c.args.levels c.args.name.now c.in-Some.f.now (omega arith) (found c.args.p.now.functions c.args.p.now.functions c.args.name.now c.in-Some.f.now refl c.in-Some.ensures))), c.requires)

-- ---- a call

pub run_call-returns-in_err-e-in-Some-clause-follows : goal.run_call-returns-in_err-e-in-Some-clause-follows
run_call-returns-in_err-e-in-Some-clause-follows t c =
    let p = err_from_is_err_and c.from_residual-in_err-e-in-Some.result c.from_residual-in_err-e-in-Some.ensures.1 in
    rw (p.1, p.2) (body_stops c.args.p.now c.args.name.now c.args.given.now c.args.world.now c.args.levels c.in-Some.f.now c.in_ok-locals-in-Some.locals c.statements.new.locals
    c.in_err-e-in-Some.field-0.0 c.statements.new.world
    (omega arith) (found c.args.p.now.functions c.args.p.now.functions c.args.name.now c.in-Some.f.now refl c.in-Some.ensures)
    (begun c.as_slice.result.now c.in-Some.f.now.params c.in_ok-locals-in-Some.locals c.args.given.now c.as_slice.ensures c.in_ok-locals-in-Some.ensures)
    (run_on c.args.p.now (calls_to c.args.p.now (c.args.levels - 1)) c.as_slice-in-Some.result.now c.in-Some.f.now.body c.in_ok-locals-in-Some.locals c.statements.new.locals c.args.world.now
    c.statements.new.world (Err c.in_err-e-in-Some.field-0.0) c.as_slice-in-Some.ensures c.in_err-e-in-Some.ensures.goes))

pub run_call-returns-in-None-clause-follows : goal.run_call-returns-in-None-clause-follows
run_call-returns-in-None-clause-follows t c =
    no_function c.args.p.now c.args.name.now c.args.given.now c.args.world.now c.args.levels (omega arith)
    (found_none c.args.p.now.functions c.args.p.now.functions c.args.name.now refl c.in-None.ensures)

pub run_call-returns-in_ok-e-in-Some-clause-follows : goal.run_call-returns-in_ok-e-in-Some-clause-follows
run_call-returns-in_ok-e-in-Some-clause-follows t c =
    rw c.given_back.ensures (body_gives c.args.p.now c.args.name.now c.args.given.now c.args.world.now c.args.levels c.in-Some.f.now c.in_ok-locals-in-Some.locals c.statements.new.locals
    c.in_ok-e-in-Some.e c.statements.new.world
    (omega arith) (found c.args.p.now.functions c.args.p.now.functions c.args.name.now c.in-Some.f.now refl c.in-Some.ensures)
    (begun c.as_slice.result.now c.in-Some.f.now.params c.in_ok-locals-in-Some.locals c.args.given.now c.as_slice.ensures c.in_ok-locals-in-Some.ensures)
    (run_on c.args.p.now (calls_to c.args.p.now (c.args.levels - 1)) c.as_slice-in-Some.result.now c.in-Some.f.now.body c.in_ok-locals-in-Some.locals c.statements.new.locals c.args.world.now
    c.statements.new.world (Ok c.in_ok-e-in-Some.e) c.as_slice-in-Some.ensures c.in_ok-e-in-Some.ensures.goes))

pub choose-value-requires : goal.choose-value-requires
choose-value-requires t c = (omega (arith, c.decreases, one_arm c.args.arms.now c.loop-arm.arm-index c.arm-item.result (omega arith) c.arm-item.is), c.requires)

pub choose-block-requires : goal.choose-block-requires
choose-block-requires t c = (omega (arith, c.decreases, one_arm c.args.arms.now c.loop-arm.arm-index c.arm-item.result (omega arith) c.arm-item.is), c.requires)

pub choose-block-requires-in-Some : goal.choose-block-requires-in-Some
choose-block-requires-in-Some t c = (omega (arith, c.decreases, in_last _ _ c.in-Some.is), c.requires)

pub statement-choose-requires : goal.statement-choose-requires
statement-choose-requires t c = (rw c.as_slice.ensures (omega (arith, c.decreases, in_if _ _ _ c.in-If.is)), c.requires)

pub statement-turns-requires : goal.statement-turns-requires
statement-turns-requires t c = (omega (arith, c.decreases, in_while _ _ _ c.in-While.is), c.requires)

pub statement-statement-requires : goal.statement-statement-requires
statement-statement-requires t c = (rw c.get.ensures (omega (arith, c.decreases, in_first _ _ _ _ _ c.in-For.is)), c.requires)

pub statement-turns-requires-in-For : goal.statement-turns-requires-in-For
statement-turns-requires-in-For t c = (rw c.get-in-For.ensures (omega (arith, c.decreases, in_for _ _ _ _ _ c.in-For.is)), c.requires)

pub statement-block-requires : goal.statement-block-requires
statement-block-requires t c = (omega (arith, c.decreases, in_block _ _ c.in-Block.is), c.requires)

pub statement-value-requires-in-Assert : goal.statement-value-requires-in-Assert
statement-value-requires-in-Assert t c = (omega (arith, c.decreases, in_assert _ _ c.in-Assert.is), c.requires)

pub statement-value-requires-in-Declare : goal.statement-value-requires-in-Declare
statement-value-requires-in-Declare t c = (omega (arith, c.decreases, in_declare _ _ _ _ c.in-Declare.is), c.requires)

-- ---- statements

pub statement-returns-in-If-clause-goes : goal.statement-returns-in-If-clause-goes
statement-returns-in-If-clause-goes t c = rw (effect_if c.args.p.now (calls_to c.args.p.now c.args.levels) nowhere _ _ _ _ _ c.in-If.is, ← c.as_slice.ensures) (search rules)

pub statement-returns-in-While-clause-goes : goal.statement-returns-in-While-clause-goes
statement-returns-in-While-clause-goes t c = rw (effect_while _ _ nowhere _ _ _ _ _ c.in-While.is) (search rules)

pub statement-returns-in-Block-clause-goes : goal.statement-returns-in-Block-clause-goes
statement-returns-in-Block-clause-goes t c = rw (effect_block _ _ nowhere _ _ _ _ c.in-Block.is) (search rules)

pub statement-returns-in_err-statement-in-For-clause-goes : goal.statement-returns-in_err-statement-in-For-clause-goes
statement-returns-in_err-statement-in-For-clause-goes t c =
    let p = err_from_is_err_and c.from_residual-in_err-statement-in-For.result c.from_residual-in_err-statement-in-For.ensures.1 in
    rw (p.1, p.2) (subst (λ o. Goes o (Err c.in_err-statement-in-For.field-0.0) c.statement.new.locals c.statement.new.world)
    (sym (effect_for c.args.p.now (calls_to c.args.p.now c.args.levels) nowhere c.args.s.now.form c.in-For.first c.in-For.test c.in-For.next c.in-For.body c.args.locals.now c.args.world.now
    c.in-For.is))
    (first_stops c.args.p.now (calls_to c.args.p.now c.args.levels) nowhere (loop (λ inner. value_of c.args.p.now (calls_to c.args.p.now c.args.levels) inner c.in-For.test)
    (scoped (statements c.args.p.now (calls_to c.args.p.now c.args.levels) nowhere c.in-For.body)) (step_of c.args.p.now (calls_to c.args.p.now c.args.levels) nowhere (Some c.in-For.next)))
    (length c.args.locals.now) (effect c.args.p.now (calls_to c.args.p.now c.args.levels) nowhere c.in-For.first.form c.args.locals.now c.args.world.now) c.statement.new.locals
    c.statement.new.locals c.statement.new.world c.in_err-statement-in-For.field-0.0 (subst
    (λ (x : Stmt). Goes (effect c.args.p.now (calls_to c.args.p.now c.args.levels) nowhere x.form c.args.locals.now c.args.world.now) (Err c.in_err-statement-in-For.field-0.0)
    c.statement.new.locals c.statement.new.world) c.get.ensures c.in_err-statement-in-For.ensures.goes)))

pub statement-returns-in_err-e-in-For-clause-goes : goal.statement-returns-in_err-e-in-For-clause-goes
statement-returns-in_err-e-in-For-clause-goes t c =
    let p = err_from_is_err_and c.from_residual-in_err-e-in-For.result c.from_residual-in_err-e-in-For.ensures.1 in
    rw (p.1, p.2) (subst (λ o. Goes o (Err c.in_err-e-in-For.field-0.0) c.turns-in-For.new.locals c.turns-in-For.new.world)
    (sym (effect_for c.args.p.now (calls_to c.args.p.now c.args.levels) nowhere c.args.s.now.form c.in-For.first c.in-For.test c.in-For.next c.in-For.body c.args.locals.now c.args.world.now
    c.in-For.is))
    (loop_stops c.args.p.now (calls_to c.args.p.now c.args.levels) nowhere (loop (λ inner. value_of c.args.p.now (calls_to c.args.p.now c.args.levels) inner c.in-For.test)
    (scoped (statements c.args.p.now (calls_to c.args.p.now c.args.levels) nowhere c.in-For.body)) (step_of c.args.p.now (calls_to c.args.p.now c.args.levels) nowhere (Some c.in-For.next)))
    (length c.args.locals.now) (effect c.args.p.now (calls_to c.args.p.now c.args.levels) nowhere c.in-For.first.form c.args.locals.now c.args.world.now) c.in_ok-statement-in-For.field-0
    c.statement.new.locals c.turns-in-For.new.locals c.turns-in-For.new.locals c.statement.new.world c.turns-in-For.new.world c.in_err-e-in-For.field-0.0
    (subst (λ (x : Stmt). Goes (effect c.args.p.now (calls_to c.args.p.now c.args.levels) nowhere x.form c.args.locals.now c.args.world.now) (Ok c.in_ok-statement-in-For.field-0)
    c.statement.new.locals c.statement.new.world) c.get.ensures c.in_ok-statement-in-For.ensures.goes)
    (subst (λ (x : Stmt). Goes (loop (λ inner. value_of c.args.p.now (calls_to c.args.p.now c.args.levels) inner c.in-For.test)
    (scoped (statements c.args.p.now (calls_to c.args.p.now c.args.levels) nowhere c.in-For.body)) (step_of c.args.p.now (calls_to c.args.p.now c.args.levels) nowhere (Some x))
    c.statement.new.locals c.statement.new.world) (Err c.in_err-e-in-For.field-0.0) c.turns-in-For.new.locals c.turns-in-For.new.world) c.get-in-For.ensures c.in_err-e-in-For.ensures.goes)))

pub statement-returns-in_ok-e-in-For-clause-goes : goal.statement-returns-in_ok-e-in-For-clause-goes
statement-returns-in_ok-e-in-For-clause-goes t c =
    (effect_for c.args.p.now (calls_to c.args.p.now c.args.levels) nowhere c.args.s.now.form c.in-For.first c.in-For.test c.in-For.next c.in-For.body c.args.locals.now c.args.world.now c.in-For.is)
    ∙ loop_gives c.args.p.now (calls_to c.args.p.now c.args.levels) nowhere (loop (λ inner. value_of c.args.p.now (calls_to c.args.p.now c.args.levels) inner c.in-For.test)
    (scoped (statements c.args.p.now (calls_to c.args.p.now c.args.levels) nowhere c.in-For.body)) (step_of c.args.p.now (calls_to c.args.p.now c.args.levels) nowhere (Some c.in-For.next)))
    (length c.args.locals.now) (effect c.args.p.now (calls_to c.args.p.now c.args.levels) nowhere c.in-For.first.form c.args.locals.now c.args.world.now) c.in_ok-statement-in-For.field-0
    c.in_ok-e-in-For.e c.statement.new.locals c.turns-in-For.new.locals c.keep.new.locals c.statement.new.world c.turns-in-For.new.world
    (subst (λ (x : Stmt). Goes (effect c.args.p.now (calls_to c.args.p.now c.args.levels) nowhere x.form c.args.locals.now c.args.world.now) (Ok c.in_ok-statement-in-For.field-0)
    c.statement.new.locals c.statement.new.world) c.get.ensures c.in_ok-statement-in-For.ensures.goes)
    (subst (λ (x : Stmt). Goes (loop (λ inner. value_of c.args.p.now (calls_to c.args.p.now c.args.levels) inner c.in-For.test)
    (scoped (statements c.args.p.now (calls_to c.args.p.now c.args.levels) nowhere c.in-For.body)) (step_of c.args.p.now (calls_to c.args.p.now c.args.levels) nowhere (Some x))
    c.statement.new.locals c.statement.new.world) (Ok c.in_ok-e-in-For.e) c.turns-in-For.new.locals c.turns-in-For.new.world) c.get-in-For.ensures c.in_ok-e-in-For.ensures.goes)
    (rw (← c.len-outer.ensures) c.keep.ensures)

-- ---- the turns of a loop

pub turns-returns-in_err-v-clause-goes : goal.turns-returns-in_err-v-clause-goes
turns-returns-in_err-v-clause-goes t c =
    let p = err_from_is_err_and c.from_residual.result c.from_residual.ensures.1 in
    rw (p.1, p.2) (subst (λ o. Goes o (Err c.in_err-v.field-0.0) c.loop-v.locals c.value.new.world) c.loop-v.invariant.0.1.1
    (test_stops (λ inner. value_of c.args.p.now (calls_to c.args.p.now c.args.levels) inner c.args.test.now)
    (scoped (statements c.args.p.now (calls_to c.args.p.now c.args.levels) nowhere c.args.body.now))
    (step_of c.args.p.now (calls_to c.args.p.now c.args.levels) nowhere (option_copied c.args.next)) c.loop-v.invariant.0.0 c.loop-v.locals c.loop-v.locals c.loop-v.world c.value.new.world
    c.in_err-v.field-0.0 c.in_err-v.ensures.follows))

pub turns-returns-then-not-truth_in-clause-goes : goal.turns-returns-then-not-truth_in-clause-goes
turns-returns-then-not-truth_in-clause-goes t c =
    sym c.loop-v.invariant.0.1.1 ∙ test_false (λ inner. value_of c.args.p.now (calls_to c.args.p.now c.args.levels) inner c.args.test.now)
    (scoped (statements c.args.p.now (calls_to c.args.p.now c.args.levels) nowhere c.args.body.now))
    (step_of c.args.p.now (calls_to c.args.p.now c.args.levels) nowhere (option_copied c.args.next)) c.loop-v.invariant.0.0 c.loop-v.locals c.loop-v.world c.value.new.world c.in_ok-v.v
    c.in_ok-v.ensures.follows (sym c.if-not-truth_in.ensures)

pub turns-returns-in_err-block-clause-goes : goal.turns-returns-in_err-block-clause-goes
turns-returns-in_err-block-clause-goes t c =
    let p = err_from_is_err_and c.from_residual-in_err-block.result c.from_residual-in_err-block.ensures.1 in
    rw (p.1, p.2) (subst (λ o. Goes o (Err c.in_err-block.field-0.0) c.block.new.locals c.block.new.world) c.loop-v.invariant.0.1.1
    (turn_stops (λ inner. value_of c.args.p.now (calls_to c.args.p.now c.args.levels) inner c.args.test.now)
    (scoped (statements c.args.p.now (calls_to c.args.p.now c.args.levels) nowhere c.args.body.now))
    (step_of c.args.p.now (calls_to c.args.p.now c.args.levels) nowhere (option_copied c.args.next)) c.loop-v.invariant.0.0 c.loop-v.locals c.block.new.locals c.block.new.locals c.loop-v.world
    c.value.new.world c.block.new.world c.in_ok-v.v c.in_err-block.field-0.0 c.in_ok-v.ensures.follows (sym c.if-not-truth_in.ensures) c.in_err-block.ensures.goes))

pub turns-returns-in-Break-clause-goes : goal.turns-returns-in-Break-clause-goes
turns-returns-in-Break-clause-goes t c =
    sym c.loop-v.invariant.0.1.1 ∙ turn_gives (λ inner. value_of c.args.p.now (calls_to c.args.p.now c.args.levels) inner c.args.test.now)
    (scoped (statements c.args.p.now (calls_to c.args.p.now c.args.levels) nowhere c.args.body.now))
    (step_of c.args.p.now (calls_to c.args.p.now c.args.levels) nowhere (option_copied c.args.next)) c.loop-v.invariant.0.0 c.loop-v.locals c.loop-v.world c.value.new.world c.block.new.world
    c.in_ok-v.v (c.in_ok-block.field-0, c.block.new.locals) c.in_ok-v.ensures.follows (sym c.if-not-truth_in.ensures) c.in_ok-block.ensures.goes
    ∙ ap (λ e. after_body (e, c.block.new.locals) (λ inner. (step_of c.args.p.now (calls_to c.args.p.now c.args.levels) nowhere (option_copied c.args.next)) inner >>= again
    (λ inner. value_of c.args.p.now (calls_to c.args.p.now c.args.levels) inner c.args.test.now) (scoped (statements c.args.p.now (calls_to c.args.p.now c.args.levels) nowhere c.args.body.now))
    (step_of c.args.p.now (calls_to c.args.p.now c.args.levels) nowhere (option_copied c.args.next)) c.loop-v.invariant.0.0) c.block.new.world) c.in-Break.is

pub turns-returns-in-Return-clause-goes : goal.turns-returns-in-Return-clause-goes
turns-returns-in-Return-clause-goes t c =
    sym c.loop-v.invariant.0.1.1 ∙ turn_gives (λ inner. value_of c.args.p.now (calls_to c.args.p.now c.args.levels) inner c.args.test.now)
    (scoped (statements c.args.p.now (calls_to c.args.p.now c.args.levels) nowhere c.args.body.now))
    (step_of c.args.p.now (calls_to c.args.p.now c.args.levels) nowhere (option_copied c.args.next)) c.loop-v.invariant.0.0 c.loop-v.locals c.loop-v.world c.value.new.world c.block.new.world
    c.in_ok-v.v (c.in_ok-block.field-0, c.block.new.locals) c.in_ok-v.ensures.follows (sym c.if-not-truth_in.ensures) c.in_ok-block.ensures.goes
    ∙ ap (λ e. after_body (e, c.block.new.locals) (λ inner. (step_of c.args.p.now (calls_to c.args.p.now c.args.levels) nowhere (option_copied c.args.next)) inner >>= again
    (λ inner. value_of c.args.p.now (calls_to c.args.p.now c.args.levels) inner c.args.test.now) (scoped (statements c.args.p.now (calls_to c.args.p.now c.args.levels) nowhere c.args.body.now))
    (step_of c.args.p.now (calls_to c.args.p.now c.args.levels) nowhere (option_copied c.args.next)) c.loop-v.invariant.0.0) c.block.new.world) c.in-Return.is

pub turns-returns-in_err-step-clause-goes : goal.turns-returns-in_err-step-clause-goes
turns-returns-in_err-step-clause-goes t c =
    let p = err_from_is_err_and c.from_residual-in_err-step.result c.from_residual-in_err-step.ensures.1 in
    rw (p.1, p.2) (step_stops (λ inner. value_of c.args.p.now (calls_to c.args.p.now c.args.levels) inner c.args.test.now)
    (scoped (statements c.args.p.now (calls_to c.args.p.now c.args.levels) nowhere c.args.body.now))
    (step_of c.args.p.now (calls_to c.args.p.now c.args.levels) nowhere (option_copied c.args.next)) c.loop-v.invariant.0.0 c.block.new.locals c.step.new.locals c.step.new.locals _
    c.block.new.world c.step.new.world c.in_err-step.field-0.0 (sym (sym (to_step (λ inner. value_of c.args.p.now (calls_to c.args.p.now c.args.levels) inner c.args.test.now)
    (scoped (statements c.args.p.now (calls_to c.args.p.now c.args.levels) nowhere c.args.body.now))
    (step_of c.args.p.now (calls_to c.args.p.now c.args.levels) nowhere (option_copied c.args.next)) c.loop-v.invariant.0.0 c.loop-v.locals c.block.new.locals c.loop-v.world c.value.new.world
    c.block.new.world c.in_ok-v.v c.in_ok-block.field-0 c.in_ok-v.ensures.follows (sym c.if-not-truth_in.ensures) c.in_ok-block.ensures.goes c.in-Normal.is) ∙ c.loop-v.invariant.0.1.1))
    c.in_err-step.ensures.follows)

pub turns-returns-in_err-take_unit-clause-goes : goal.turns-returns-in_err-take_unit-clause-goes
turns-returns-in_err-take_unit-clause-goes t c =
    let p = err_from_is_err_and c.from_residual-in_err-take_unit.result c.from_residual-in_err-take_unit.ensures.1 in
    let le : c.step.new.world.fuel ≤ c.loop-v.invariant.0.0 = omega (arith, c.loop-v.invariant.0.1.0, c.value.ensures.fuel, c.block.ensures.fuel, c.step.ensures.fuel) in
    rw (p.1, p.2) (subst (λ o. Goes o (Err c.in_err-take_unit.field-0.0) c.step.new.locals c.take_unit.new.world)
    (sym (ap (λ o. and_then o (again (λ inner. value_of c.args.p.now (calls_to c.args.p.now c.args.levels) inner c.args.test.now)
    (scoped (statements c.args.p.now (calls_to c.args.p.now c.args.levels) nowhere c.args.body.now))
    (step_of c.args.p.now (calls_to c.args.p.now c.args.levels) nowhere (option_copied c.args.next)) c.loop-v.invariant.0.0)) c.in_ok-step.ensures.follows)
    ∙ (sym (to_step (λ inner. value_of c.args.p.now (calls_to c.args.p.now c.args.levels) inner c.args.test.now)
    (scoped (statements c.args.p.now (calls_to c.args.p.now c.args.levels) nowhere c.args.body.now))
    (step_of c.args.p.now (calls_to c.args.p.now c.args.levels) nowhere (option_copied c.args.next)) c.loop-v.invariant.0.0 c.loop-v.locals c.block.new.locals c.loop-v.world c.value.new.world
    c.block.new.world c.in_ok-v.v c.in_ok-block.field-0 c.in_ok-v.ensures.follows (sym c.if-not-truth_in.ensures) c.in_ok-block.ensures.goes c.in-Normal.is) ∙ c.loop-v.invariant.0.1.1))
    (unit_stops (λ inner. value_of c.args.p.now (calls_to c.args.p.now c.args.levels) inner c.args.test.now)
    (scoped (statements c.args.p.now (calls_to c.args.p.now c.args.levels) nowhere c.args.body.now))
    (step_of c.args.p.now (calls_to c.args.p.now c.args.levels) nowhere (option_copied c.args.next)) c.loop-v.invariant.0.0 c.step.new.locals c.step.new.locals c.step.new.world
    c.take_unit.new.world c.in_err-take_unit.field-0.0 le c.in_err-take_unit.ensures.follows))

pub turns-loop-v-preserved : goal.turns-loop-v-preserved
turns-loop-v-preserved t c =
    let le : c.step.new.world.fuel ≤ c.loop-v.invariant.0.0 = omega (arith, c.loop-v.invariant.0.1.0, c.value.ensures.fuel, c.block.ensures.fuel, c.step.ensures.fuel) in
    let u = unit_taken (λ inner. value_of c.args.p.now (calls_to c.args.p.now c.args.levels) inner c.args.test.now)
    (scoped (statements c.args.p.now (calls_to c.args.p.now c.args.levels) nowhere c.args.body.now))
    (step_of c.args.p.now (calls_to c.args.p.now c.args.levels) nowhere (option_copied c.args.next)) c.loop-v.invariant.0.0 c.step.new.locals c.step.new.world c.take_unit.new.world le
    c.in_ok-take_unit.ensures.follows c.in_ok-take_unit.ensures.fuel in (
      (u.0, (u.1.0, u.1.1 ∙ sym (ap (λ o. and_then o (again (λ inner. value_of c.args.p.now (calls_to c.args.p.now c.args.levels) inner c.args.test.now) (scoped (statements c.args.p.now (calls_to c.args.p.now c.args.levels) nowhere c.args.body.now)) (step_of c.args.p.now (calls_to c.args.p.now c.args.levels) nowhere (option_copied c.args.next)) c.loop-v.invariant.0.0)) c.in_ok-step.ensures.follows) ∙ (sym (to_step (λ inner. value_of c.args.p.now (calls_to c.args.p.now c.args.levels) inner c.args.test.now) (scoped (statements c.args.p.now (calls_to c.args.p.now c.args.levels) nowhere c.args.body.now)) (step_of c.args.p.now (calls_to c.args.p.now c.args.levels) nowhere (option_copied c.args.next)) c.loop-v.invariant.0.0 c.loop-v.locals c.block.new.locals c.loop-v.world c.value.new.world c.block.new.world c.in_ok-v.v c.in_ok-block.field-0 c.in_ok-v.ensures.follows (sym c.if-not-truth_in.ensures) c.in_ok-block.ensures.goes c.in-Normal.is) ∙ c.loop-v.invariant.0.1.1))),
      (omega (arith, c.loop-v.invariant.1.0, c.value.ensures.fuel, c.block.ensures.fuel, c.step.ensures.fuel, c.in_ok-take_unit.ensures.fuel), c.take_unit.ensures.stays ∙ c.step.ensures.stays ∙ c.block.ensures.stays ∙ c.value.ensures.stays ∙ c.loop-v.invariant.1.1),
    )

pub read-returns-in-None-item_at-clause-follows : goal.read-returns-in-None-item_at-clause-follows
read-returns-in-None-item_at-clause-follows t c = rw (read_item _ _ _ _ _ _ c.in-Some.is) (search (rules, gives_first))

pub read-returns-in-Some-item_at-clause-follows : goal.read-returns-in-Some-item_at-clause-follows
read-returns-in-Some-item_at-clause-follows t c = rw (read_item _ _ _ _ _ _ c.in-Some.is) (search (rules, gives_first))

-- ---- a place is changed

pub change-value-requires-in-Some : goal.change-value-requires-in-Some
change-value-requires-in-Some t c = (rw c.get.ensures (omega (arith, c.decreases, in_change_index _ _ c.args.e.now c.in-Some.is)), c.requires)

pub change-returns-in_err-index-in-Some-clause-follows : goal.change-returns-in_err-index-in-Some-clause-follows
change-returns-in_err-index-in-Some-clause-follows t c = rw (changed_item_of _ _ _ _ _ _ _ _ c.in-Some.is) (search (rules, sets_stop))

pub change-returns-in_err-v-in-Some-clause-follows : goal.change-returns-in_err-v-in-Some-clause-follows
change-returns-in_err-v-in-Some-clause-follows t c = rw (changed_item_of _ _ _ _ _ _ _ _ c.in-Some.is) (search (rules, sets_next, sets_stop))

pub change-returns-in_ok-v-in-Some-clause-follows : goal.change-returns-in_ok-v-in-Some-clause-follows
change-returns-in_ok-v-in-Some-clause-follows t c = rw (changed_item_of _ _ _ _ _ _ _ _ c.in-Some.is) (search (rules, sets_next, sets_alone))
