use Rattle.std.proofs.Common.{arith, ◌∙◌, ◌+◌, sym, ap, subst, take, drop, length, ◌≤◌, List, Option, Some, Err}
use Rattle.std.proofs.lemmas.Result.{err_from_is_err_and}
use Rattle.std.specs.Option.{option_copied}
use Rattle.csl_tree.specs.declared.program.Arm.{Arm, out-Arm}
use Rattle.csl_tree.specs.declared.program.Stmt.{Stmt}
use Rattle.csl_tree.specs.declared.program.RoutineBlock.{RoutineBlock}
use Rattle.csl_meaning.specs.declared.state.Ending.{Ending}
use Rattle.csl_meaning.specs.declared.state.Ending.TheVariants as ending
use Rattle.csl_meaning.specs.Value.{value_of}
use Rattle.csl_meaning.specs.Effect.{calls_to, most_levels, statements, scoped, Went, Stepping, loop, turns, effect, step_of, after_body}
use Rattle.csl_meaning.specs.Meaning.{in_main}
use Rattle.csl_meaning.specs.Runs.{Outcome, Gives}
use Rattle.statement_eval.specs.Lists.{chosen, last_block}
use Rattle.tree_eval.specs.Told.{Told, Tells, TellsLocals}
use Rattle.statement_eval.proofs.Equations.{next_item}
use Rattle.statement_eval.proofs.Loops.{effect_if, effect_while, effect_block, effect_for, effect_par, plain_is, again}
use Rattle.statement_eval.proofs.Sizes.{one_of, in_if, in_while, in_for, in_first, in_block, one_arm}
use Rattle.tree_eval.proofs.Telling.{told_nothing, told_then}
use Rattle.tree_eval.proofs.Mains.{tells_after, block_stops, block_gives, first_stops, first_goes_on, first_ends, arm_stops, arm_true, arm_false, last_some, drop_end, step_told, step_halts}
use Rattle.tree_eval.proofs.Mains.{for_first_stops, for_loop_stops, for_gives, turn_test_stops, turn_test_false, turn_body_stops, turn_body, turn_to_step, back, back_stops, back_gives, unit_halts}
use Rattle.tree_eval.proofs.Mains.{unit_told}
use Rattle.tree_eval.proofs.main_stmt.+main.Goals as goal

pub main_statement-main_choose-requires : goal.main_statement-main_choose-requires
main_statement-main_choose-requires g t c = λ _ within. (rw c.as_slice.ensures (omega (arith, c.decreases, in_if _ _ _ c.in-If.is)), (within, (c.requires.fits, c.requires.main)))

pub main_statement-main_turns-requires : goal.main_statement-main_turns-requires
main_statement-main_turns-requires g t c = λ _ within. (omega (arith, c.decreases, in_while _ _ _ c.in-While.is), (within, (c.requires.fits, c.requires.main)))

pub main_statement-main_statement-requires : goal.main_statement-main_statement-requires
main_statement-main_statement-requires g t c = λ _ within. (rw c.get.ensures (omega (arith, c.decreases, in_first _ _ _ _ _ c.in-For.is)), (within, (c.requires.fits, c.requires.main)))

pub main_statement-main_turns-requires-in-For : goal.main_statement-main_turns-requires-in-For
main_statement-main_turns-requires-in-For g t c = λ _ within. (rw c.get-in-For.ensures (omega (arith, c.decreases, in_for _ _ _ _ _ c.in-For.is)), (within, (c.requires.fits, c.in_ok-main_statement-in-For.ensures.goes_on.main)))

pub main_statement-main_block-requires : goal.main_statement-main_block-requires
main_statement-main_block-requires g t c = λ _ within. (omega (arith, c.decreases, in_block _ _ c.in-Block.is), (within, (c.requires.fits, c.requires.main)))

pub main_statements-main_statement-requires : goal.main_statements-main_statement-requires
main_statements-main_statement-requires g t c = λ _ within. (omega (arith, c.decreases, one_of c.args.all.now c.loop-s.s-index c.s-item.result (omega arith) c.s-item.is), (within, (c.requires.fits, c.loop-s.invariant.main)))

pub main_choose-main_block-requires : goal.main_choose-main_block-requires
main_choose-main_block-requires g t c = λ _ within. (omega (arith, c.decreases, one_arm c.args.arms.now c.loop-arm.arm-index c.arm-item.result (omega arith) c.arm-item.is), (within, (c.requires.fits, c.in_ok-v.ensures.goes_on.main)))

pub main_block-returns-in_err-e-clause-tells : goal.main_block-returns-in_err-e-clause-tells
main_block-returns-in_err-e-clause-tells g t c =
    let p = err_from_is_err_and c.from_residual.result c.from_residual.ensures.1 in
    rw (p.1, p.2) (block_stops c.args.p.now (calls_to c.args.p.now most_levels) (in_main c.args.p.now c.args.fuel) c.as_slice.result.now c.args.body.now _ c.args.locals.now
    c.main_statements.new.locals c.main_statements.new.locals c.args.world.now c.main_statements.new.world (g.S.Sink.written c.args.out.now) (g.S.Sink.written c.main_statements.new.out)
    c.as_slice.ensures c.in_err-e.ensures.tells)

pub main_block-returns-clause-tells : goal.main_block-returns-clause-tells
main_block-returns-clause-tells g t c =
    block_gives c.args.p.now (calls_to c.args.p.now most_levels) (in_main c.args.p.now c.args.fuel) c.as_slice.result.now c.args.body.now c.in_ok-e.e c.args.locals.now c.main_statements.new.locals
    c.keep.new.locals c.args.world.now c.main_statements.new.world (g.S.Sink.written c.args.out.now) (g.S.Sink.written c.main_statements.new.out) c.as_slice.ensures
    (c.keep.ensures ∙ ap (λ n. take n c.main_statements.new.locals) c.len-outer.ensures) c.in_ok-e.ensures.tells

pub main_statements-loop-s-init : goal.main_statements-loop-s-init
main_statements-loop-s-init g t c = record { told = told_nothing (statements c.args.p.now (calls_to c.args.p.now most_levels) (in_main c.args.p.now c.args.fuel) c.args.all.now c.args.locals.now c.args.world.now) (g.S.Sink.written c.args.out.now); later = omega arith; main = c.requires.main; fuel = omega arith }

pub main_statements-returns-in_err-other-clause-tells : goal.main_statements-returns-in_err-other-clause-tells
main_statements-returns-in_err-other-clause-tells g t c =
    let p = err_from_is_err_and c.from_residual.result c.from_residual.ensures.1 in
    rw (p.1, p.2) (tells_after (statements c.args.p.now (calls_to c.args.p.now most_levels) (in_main c.args.p.now c.args.fuel) c.args.all.now c.args.locals.now c.args.world.now)
    (statements c.args.p.now (calls_to c.args.p.now most_levels) (in_main c.args.p.now c.args.fuel) (drop c.loop-s.s-index c.args.all.now) c.loop-s.locals c.loop-s.world)
    (Err c.in_err-other.field-0.0) c.main_statement.new.locals c.main_statement.new.world (g.S.Sink.written c.args.out.now) (g.S.Sink.written c.loop-s.out)
    (g.S.Sink.written c.main_statement.new.out) c.loop-s.invariant.told
    (first_stops c.args.p.now (calls_to c.args.p.now most_levels) (in_main c.args.p.now c.args.fuel) (drop c.loop-s.s-index c.args.all.now) (drop (c.loop-s.s-index + 1) c.args.all.now) c.s-item.result
    _ c.loop-s.locals c.main_statement.new.locals c.main_statement.new.locals c.loop-s.world c.main_statement.new.world (g.S.Sink.written c.loop-s.out) (g.S.Sink.written c.main_statement.new.out)
    (next_item c.args.all.now c.loop-s.s-index c.s-item.result (omega arith) c.s-item.is) c.in_err-other.ensures.tells))

pub main_statements-returns-in_default : goal.main_statements-returns-in_default
main_statements-returns-in_default g t c = record {
  tells = told_then (statements c.args.p.now (calls_to c.args.p.now most_levels) (in_main c.args.p.now c.args.fuel) c.args.all.now c.args.locals.now c.args.world.now)
      (statements c.args.p.now (calls_to c.args.p.now most_levels) (in_main c.args.p.now c.args.fuel) (drop c.loop-s.s-index c.args.all.now) c.loop-s.locals c.loop-s.world)
      (Gives (c.in_ok-other.other, c.main_statement.new.locals) c.main_statement.new.world) (g.S.Sink.written c.args.out.now) (g.S.Sink.written c.loop-s.out)
      (g.S.Sink.written c.main_statement.new.out) c.loop-s.invariant.told
      (first_ends c.args.p.now (calls_to c.args.p.now most_levels) (in_main c.args.p.now c.args.fuel) (drop c.loop-s.s-index c.args.all.now) (drop (c.loop-s.s-index + 1) c.args.all.now)
      c.s-item.result c.in_ok-other.other c.loop-s.locals c.main_statement.new.locals c.loop-s.world c.main_statement.new.world (g.S.Sink.written c.loop-s.out)
      (g.S.Sink.written c.main_statement.new.out) (next_item c.args.all.now c.loop-s.s-index c.s-item.result (omega arith) c.s-item.is) c.in_default.not-Normal c.in_ok-other.ensures.tells);
  later = omega (arith, c.loop-s.invariant.later, c.main_statement.ensures.later);
  failed = tt;
  goes_on = record { main = c.in_ok-other.ensures.goes_on.main; fuel = omega (arith, c.loop-s.invariant.fuel, c.in_ok-other.ensures.goes_on.fuel) };
}

pub main_statements-loop-s-preserved : goal.main_statements-loop-s-preserved
main_statements-loop-s-preserved g t c = record {
  told = told_then (statements c.args.p.now (calls_to c.args.p.now most_levels) (in_main c.args.p.now c.args.fuel) c.args.all.now c.args.locals.now c.args.world.now)
      (statements c.args.p.now (calls_to c.args.p.now most_levels) (in_main c.args.p.now c.args.fuel) (drop c.loop-s.s-index c.args.all.now) c.loop-s.locals c.loop-s.world)
      (statements c.args.p.now (calls_to c.args.p.now most_levels) (in_main c.args.p.now c.args.fuel) (drop (c.loop-s.s-index + 1) c.args.all.now) c.main_statement.new.locals
      c.main_statement.new.world) (g.S.Sink.written c.args.out.now) (g.S.Sink.written c.loop-s.out) (g.S.Sink.written c.main_statement.new.out) c.loop-s.invariant.told
      (first_goes_on c.args.p.now (calls_to c.args.p.now most_levels) (in_main c.args.p.now c.args.fuel) (drop c.loop-s.s-index c.args.all.now) (drop (c.loop-s.s-index + 1) c.args.all.now)
      c.s-item.result c.in_ok-other.other c.loop-s.locals c.main_statement.new.locals c.loop-s.world c.main_statement.new.world (g.S.Sink.written c.loop-s.out)
      (g.S.Sink.written c.main_statement.new.out) (next_item c.args.all.now c.loop-s.s-index c.s-item.result (omega arith) c.s-item.is) c.in-Normal.is c.in_ok-other.ensures.tells);
  later = omega (arith, c.loop-s.invariant.later, c.main_statement.ensures.later);
  main = c.in_ok-other.ensures.goes_on.main;
  fuel = omega (arith, c.loop-s.invariant.fuel, c.in_ok-other.ensures.goes_on.fuel);
}

pub main_choose-loop-arm-init : goal.main_choose-loop-arm-init
main_choose-loop-arm-init g t c = record { told = told_nothing (chosen c.args.p.now (calls_to c.args.p.now most_levels) (in_main c.args.p.now c.args.fuel) c.args.arms.now (last_block c.args.p.now (calls_to c.args.p.now most_levels) (in_main c.args.p.now c.args.fuel) c.args.last.now) c.args.locals.now c.args.world.now) (g.S.Sink.written c.args.out.now); later = omega arith; main = c.requires.main; fuel = omega arith }

pub main_choose-returns-in_err-v-clause-tells : goal.main_choose-returns-in_err-v-clause-tells
main_choose-returns-in_err-v-clause-tells g t c =
    let p = err_from_is_err_and c.from_residual.result c.from_residual.ensures.1 in
    rw (p.1, p.2) (tells_after (chosen c.args.p.now (calls_to c.args.p.now most_levels) (in_main c.args.p.now c.args.fuel) c.args.arms.now
    (last_block c.args.p.now (calls_to c.args.p.now most_levels) (in_main c.args.p.now c.args.fuel) c.args.last.now) c.args.locals.now c.args.world.now)
    (chosen c.args.p.now (calls_to c.args.p.now most_levels) (in_main c.args.p.now c.args.fuel) (drop c.loop-arm.arm-index c.args.arms.now)
    (last_block c.args.p.now (calls_to c.args.p.now most_levels) (in_main c.args.p.now c.args.fuel) c.args.last.now) c.loop-arm.locals c.loop-arm.world) (Err c.in_err-v.field-0.0)
    c.loop-arm.locals c.main_value.new.world (g.S.Sink.written c.args.out.now) (g.S.Sink.written c.loop-arm.out) (g.S.Sink.written c.loop-arm.out) c.loop-arm.invariant.told
    (arm_stops c.args.p.now (calls_to c.args.p.now most_levels) (in_main c.args.p.now c.args.fuel) (drop c.loop-arm.arm-index c.args.arms.now) (drop (c.loop-arm.arm-index + 1) c.args.arms.now)
    c.arm-item.result (last_block c.args.p.now (calls_to c.args.p.now most_levels) (in_main c.args.p.now c.args.fuel) c.args.last.now) _ c.loop-arm.locals c.loop-arm.locals c.loop-arm.world
    c.main_value.new.world (g.S.Sink.written c.loop-arm.out) (g.S.Sink.written c.loop-arm.out) (next_item c.args.arms.now c.loop-arm.arm-index c.arm-item.result (omega arith) c.arm-item.is)
    (c.in_err-v.ensures.tells (g.S.Sink.written c.loop-arm.out))))

pub main_choose-returns-then-truth_in-clause-tells : goal.main_choose-returns-then-truth_in-clause-tells
main_choose-returns-then-truth_in-clause-tells g t c =
    tells_after (chosen c.args.p.now (calls_to c.args.p.now most_levels) (in_main c.args.p.now c.args.fuel) c.args.arms.now
    (last_block c.args.p.now (calls_to c.args.p.now most_levels) (in_main c.args.p.now c.args.fuel) c.args.last.now) c.args.locals.now c.args.world.now)
    (scoped (statements c.args.p.now (calls_to c.args.p.now most_levels) (in_main c.args.p.now c.args.fuel) (out-Arm c.arm-item.result).body) c.loop-arm.locals c.main_value.new.world)
    c.main_block.result c.main_block.new.locals c.main_block.new.world (g.S.Sink.written c.args.out.now) (g.S.Sink.written c.loop-arm.out) (g.S.Sink.written c.main_block.new.out)
    (told_then (chosen c.args.p.now (calls_to c.args.p.now most_levels) (in_main c.args.p.now c.args.fuel) c.args.arms.now
    (last_block c.args.p.now (calls_to c.args.p.now most_levels) (in_main c.args.p.now c.args.fuel) c.args.last.now) c.args.locals.now c.args.world.now)
    (chosen c.args.p.now (calls_to c.args.p.now most_levels) (in_main c.args.p.now c.args.fuel) (drop c.loop-arm.arm-index c.args.arms.now)
    (last_block c.args.p.now (calls_to c.args.p.now most_levels) (in_main c.args.p.now c.args.fuel) c.args.last.now) c.loop-arm.locals c.loop-arm.world)
    (scoped (statements c.args.p.now (calls_to c.args.p.now most_levels) (in_main c.args.p.now c.args.fuel) (out-Arm c.arm-item.result).body) c.loop-arm.locals c.main_value.new.world)
    (g.S.Sink.written c.args.out.now) (g.S.Sink.written c.loop-arm.out) (g.S.Sink.written c.loop-arm.out) c.loop-arm.invariant.told
    (arm_true c.args.p.now (calls_to c.args.p.now most_levels) (in_main c.args.p.now c.args.fuel) (drop c.loop-arm.arm-index c.args.arms.now) (drop (c.loop-arm.arm-index + 1) c.args.arms.now)
    c.arm-item.result (last_block c.args.p.now (calls_to c.args.p.now most_levels) (in_main c.args.p.now c.args.fuel) c.args.last.now) c.in_ok-v.v c.loop-arm.locals c.loop-arm.world
    c.main_value.new.world (g.S.Sink.written c.loop-arm.out) (g.S.Sink.written c.loop-arm.out) (next_item c.args.arms.now c.loop-arm.arm-index c.arm-item.result (omega arith) c.arm-item.is)
    (sym c.truth_in.ensures ∙ c.if-truth_in.true) (c.in_ok-v.ensures.tells (g.S.Sink.written c.loop-arm.out))))
    c.main_block.ensures.tells

pub main_choose-loop-arm-preserved : goal.main_choose-loop-arm-preserved
main_choose-loop-arm-preserved g t c = record {
  told = told_then (chosen c.args.p.now (calls_to c.args.p.now most_levels) (in_main c.args.p.now c.args.fuel) c.args.arms.now
      (last_block c.args.p.now (calls_to c.args.p.now most_levels) (in_main c.args.p.now c.args.fuel) c.args.last.now) c.args.locals.now c.args.world.now)
      (chosen c.args.p.now (calls_to c.args.p.now most_levels) (in_main c.args.p.now c.args.fuel) (drop c.loop-arm.arm-index c.args.arms.now)
      (last_block c.args.p.now (calls_to c.args.p.now most_levels) (in_main c.args.p.now c.args.fuel) c.args.last.now) c.loop-arm.locals c.loop-arm.world)
      (chosen c.args.p.now (calls_to c.args.p.now most_levels) (in_main c.args.p.now c.args.fuel) (drop (c.loop-arm.arm-index + 1) c.args.arms.now)
      (last_block c.args.p.now (calls_to c.args.p.now most_levels) (in_main c.args.p.now c.args.fuel) c.args.last.now) c.loop-arm.locals c.main_value.new.world) (g.S.Sink.written c.args.out.now)
      (g.S.Sink.written c.loop-arm.out) (g.S.Sink.written c.loop-arm.out) c.loop-arm.invariant.told
      (arm_false c.args.p.now (calls_to c.args.p.now most_levels) (in_main c.args.p.now c.args.fuel) (drop c.loop-arm.arm-index c.args.arms.now) (drop (c.loop-arm.arm-index + 1) c.args.arms.now)
      c.arm-item.result (last_block c.args.p.now (calls_to c.args.p.now most_levels) (in_main c.args.p.now c.args.fuel) c.args.last.now) c.in_ok-v.v c.loop-arm.locals c.loop-arm.world
      c.main_value.new.world (g.S.Sink.written c.loop-arm.out) (g.S.Sink.written c.loop-arm.out) (next_item c.args.arms.now c.loop-arm.arm-index c.arm-item.result (omega arith) c.arm-item.is)
      (sym c.truth_in.ensures ∙ c.if-truth_in.false) (c.in_ok-v.ensures.tells (g.S.Sink.written c.loop-arm.out)));
  later = c.loop-arm.invariant.later;
  main = c.in_ok-v.ensures.goes_on.main;
  fuel = omega (arith, c.loop-arm.invariant.fuel, c.in_ok-v.ensures.goes_on.fuel);
}

pub main_choose-returns-in-Some-clause-tells : goal.main_choose-returns-in-Some-clause-tells
main_choose-returns-in-Some-clause-tells g t c =
    tells_after (chosen c.args.p.now (calls_to c.args.p.now most_levels) (in_main c.args.p.now c.args.fuel) c.args.arms.now
    (last_block c.args.p.now (calls_to c.args.p.now most_levels) (in_main c.args.p.now c.args.fuel) c.args.last.now) c.args.locals.now c.args.world.now)
    (scoped (statements c.args.p.now (calls_to c.args.p.now most_levels) (in_main c.args.p.now c.args.fuel) c.in-Some.body) c.loop-arm.locals c.loop-arm.world) c.main_block-in-Some.result
    c.main_block-in-Some.new.locals c.main_block-in-Some.new.world (g.S.Sink.written c.args.out.now) (g.S.Sink.written c.loop-arm.out) (g.S.Sink.written c.main_block-in-Some.new.out)
    (told_then (chosen c.args.p.now (calls_to c.args.p.now most_levels) (in_main c.args.p.now c.args.fuel) c.args.arms.now
    (last_block c.args.p.now (calls_to c.args.p.now most_levels) (in_main c.args.p.now c.args.fuel) c.args.last.now) c.args.locals.now c.args.world.now)
    (chosen c.args.p.now (calls_to c.args.p.now most_levels) (in_main c.args.p.now c.args.fuel) (drop c.loop-arm.arm-index c.args.arms.now)
    (last_block c.args.p.now (calls_to c.args.p.now most_levels) (in_main c.args.p.now c.args.fuel) c.args.last.now) c.loop-arm.locals c.loop-arm.world)
    (scoped (statements c.args.p.now (calls_to c.args.p.now most_levels) (in_main c.args.p.now c.args.fuel) c.in-Some.body) c.loop-arm.locals c.loop-arm.world) (g.S.Sink.written c.args.out.now)
    (g.S.Sink.written c.loop-arm.out) (g.S.Sink.written c.loop-arm.out) c.loop-arm.invariant.told
    (last_some c.args.p.now (calls_to c.args.p.now most_levels) (in_main c.args.p.now c.args.fuel) (drop c.loop-arm.arm-index c.args.arms.now) c.args.last.now c.in-Some.body c.loop-arm.locals
    c.loop-arm.world (g.S.Sink.written c.loop-arm.out) (drop_end c.args.arms.now c.loop-arm.arm-index (omega arith)) c.in-Some.is))
    c.main_block-in-Some.ensures.tells

pub main_step-returns-in-None-clause-tells : goal.main_step-returns-in-None-clause-tells
main_step-returns-in-None-clause-tells g t c = rw (ap option_copied c.in-None.is) (told_nothing (Gives c.args.locals.now c.args.world.now) (g.S.Sink.written c.args.out.now))

pub main_step-returns-in_err-main_statement-in-Some-clause-tells : goal.main_step-returns-in_err-main_statement-in-Some-clause-tells
main_step-returns-in_err-main_statement-in-Some-clause-tells g t c =
    let p = err_from_is_err_and c.from_residual.result c.from_residual.ensures.1 in
    rw (p.1, p.2) (subst (λ (x : Option Stmt). TellsLocals (step_of c.args.p.now (calls_to c.args.p.now most_levels) (in_main c.args.p.now c.args.fuel) x c.args.locals.now c.args.world.now)
    (Err c.in_err-main_statement-in-Some.field-0.0) c.main_statement.new.locals c.main_statement.new.world (g.S.Sink.written c.args.out.now) (g.S.Sink.written c.main_statement.new.out))
    (sym (ap option_copied c.in-Some.is))
    (step_halts c.args.p.now (calls_to c.args.p.now most_levels) (in_main c.args.p.now c.args.fuel) c.in-Some.s.now c.in_err-main_statement-in-Some.field-0.0 c.args.locals.now
    c.main_statement.new.locals c.main_statement.new.locals c.args.world.now c.main_statement.new.world (g.S.Sink.written c.args.out.now) (g.S.Sink.written c.main_statement.new.out)
    c.in_err-main_statement-in-Some.ensures.tells))

pub main_step-returns-in_ok-main_statement-in-Some-clause-tells : goal.main_step-returns-in_ok-main_statement-in-Some-clause-tells
main_step-returns-in_ok-main_statement-in-Some-clause-tells g t c =
    rw (ap option_copied c.in-Some.is) (step_told c.args.p.now (calls_to c.args.p.now most_levels) (in_main c.args.p.now c.args.fuel) c.in-Some.s.now c.in_ok-main_statement-in-Some.field-0
    c.args.locals.now c.main_statement.new.locals c.args.world.now c.main_statement.new.world (g.S.Sink.written c.args.out.now) (g.S.Sink.written c.main_statement.new.out)
    c.in_ok-main_statement-in-Some.ensures.tells)

pub main_statement-returns-in-If-clause-tells : goal.main_statement-returns-in-If-clause-tells
main_statement-returns-in-If-clause-tells g t c =
    subst (λ (o : Outcome Went). Tells o c.main_choose.result c.main_choose.new.locals c.main_choose.new.world (g.S.Sink.written c.args.out.now) (g.S.Sink.written c.main_choose.new.out))
    (sym (effect_if c.args.p.now (calls_to c.args.p.now most_levels) (in_main c.args.p.now c.args.fuel) c.args.s.now.form c.in-If.arms c.in-If.last c.args.locals.now c.args.world.now c.in-If.is))
    (subst (λ (x : List Arm). Tells (chosen c.args.p.now (calls_to c.args.p.now most_levels) (in_main c.args.p.now c.args.fuel) x
    (last_block c.args.p.now (calls_to c.args.p.now most_levels) (in_main c.args.p.now c.args.fuel) c.in-If.last) c.args.locals.now c.args.world.now) c.main_choose.result c.main_choose.new.locals
    c.main_choose.new.world (g.S.Sink.written c.args.out.now) (g.S.Sink.written c.main_choose.new.out)) c.as_slice.ensures c.main_choose.ensures.tells)

pub main_statement-returns-in-While-clause-tells : goal.main_statement-returns-in-While-clause-tells
main_statement-returns-in-While-clause-tells g t c =
    subst (λ (o : Outcome Went). Tells o c.main_turns.result c.main_turns.new.locals c.main_turns.new.world (g.S.Sink.written c.args.out.now) (g.S.Sink.written c.main_turns.new.out))
    (sym (effect_while c.args.p.now (calls_to c.args.p.now most_levels) (in_main c.args.p.now c.args.fuel) c.args.s.now.form c.in-While.test c.in-While.body c.args.locals.now c.args.world.now
    c.in-While.is)) (c.main_turns.ensures.tells)

pub main_statement-returns-in-Block-clause-tells : goal.main_statement-returns-in-Block-clause-tells
main_statement-returns-in-Block-clause-tells g t c =
    subst (λ (o : Outcome Went). Tells o c.main_block.result c.main_block.new.locals c.main_block.new.world (g.S.Sink.written c.args.out.now) (g.S.Sink.written c.main_block.new.out))
    (sym (effect_block c.args.p.now (calls_to c.args.p.now most_levels) (in_main c.args.p.now c.args.fuel) c.args.s.now.form c.in-Block.body c.args.locals.now c.args.world.now c.in-Block.is))
    (c.main_block.ensures.tells)

pub main_statement-returns-in-Par-clause-tells : goal.main_statement-returns-in-Par-clause-tells
main_statement-returns-in-Par-clause-tells g t c =
    subst (λ (o : Outcome Went). Tells o c.parbegin.result c.args.locals.now c.parbegin.new.world (g.S.Sink.written c.args.out.now) (g.S.Sink.written c.args.out.now))
    (sym (effect_par c.args.p.now (calls_to c.args.p.now most_levels) (in_main c.args.p.now c.args.fuel) c.args.s.now.form c.in-Par.blocks c.args.locals.now c.args.world.now c.in-Par.is))
    (subst (λ (x : List RoutineBlock). Tells (in_main c.args.p.now c.args.fuel (Stepping x) c.args.locals.now c.args.world.now) c.parbegin.result c.args.locals.now c.parbegin.new.world
    (g.S.Sink.written c.args.out.now) (g.S.Sink.written c.args.out.now)) c.as_slice-in-Par.ensures (c.parbegin.ensures.tells (g.S.Sink.written c.args.out.now)))

pub main_statement-returns-in-Declare-clause-tells : goal.main_statement-returns-in-Declare-clause-tells
main_statement-returns-in-Declare-clause-tells g t c =
    subst (λ (o : Outcome Went). Tells o c.plain_statement.result c.plain_statement.new.locals c.plain_statement.new.world (g.S.Sink.written c.args.out.now) (g.S.Sink.written c.args.out.now))
    (sym (plain_is c.args.p.now (calls_to c.args.p.now most_levels) (in_main c.args.p.now c.args.fuel) c.args.s.now.form c.args.locals.now c.args.world.now c.in-Declare.is))
    (c.plain_statement.ensures.tells (g.S.Sink.written c.args.out.now))

pub main_statement-returns-in_err-main_statement-in-For-clause-tells : goal.main_statement-returns-in_err-main_statement-in-For-clause-tells
main_statement-returns-in_err-main_statement-in-For-clause-tells g t c =
    let p = err_from_is_err_and c.from_residual.result c.from_residual.ensures.1 in
    rw (p.1, p.2) (
    subst (λ (o : Outcome Went). Tells o (Err c.in_err-main_statement-in-For.field-0.0) c.main_statement.new.locals c.main_statement.new.world (g.S.Sink.written c.args.out.now)
    (g.S.Sink.written c.main_statement.new.out)) (sym (effect_for c.args.p.now (calls_to c.args.p.now most_levels) (in_main c.args.p.now c.args.fuel) c.args.s.now.form c.in-For.first c.in-For.test
    c.in-For.next c.in-For.body c.args.locals.now c.args.world.now c.in-For.is)) (for_first_stops c.args.p.now (calls_to c.args.p.now most_levels) (in_main c.args.p.now c.args.fuel)
    (loop (λ l. value_of c.args.p.now (calls_to c.args.p.now most_levels) l c.in-For.test)
    (scoped (statements c.args.p.now (calls_to c.args.p.now most_levels) (in_main c.args.p.now c.args.fuel) c.in-For.body))
    (step_of c.args.p.now (calls_to c.args.p.now most_levels) (in_main c.args.p.now c.args.fuel) (Some c.in-For.next))) (length c.args.locals.now)
    (effect c.args.p.now (calls_to c.args.p.now most_levels) (in_main c.args.p.now c.args.fuel) c.in-For.first.form c.args.locals.now c.args.world.now) c.in_err-main_statement-in-For.field-0.0
    c.main_statement.new.locals c.main_statement.new.locals c.main_statement.new.world (g.S.Sink.written c.args.out.now) (g.S.Sink.written c.main_statement.new.out)
    (subst (λ (x : Stmt). Tells (effect c.args.p.now (calls_to c.args.p.now most_levels) (in_main c.args.p.now c.args.fuel) x.form c.args.locals.now c.args.world.now)
    (Err c.in_err-main_statement-in-For.field-0.0) c.main_statement.new.locals c.main_statement.new.world (g.S.Sink.written c.args.out.now) (g.S.Sink.written c.main_statement.new.out))
    c.get.ensures c.in_err-main_statement-in-For.ensures.tells)))

pub main_statement-returns-in_err-e-in-For-clause-tells : goal.main_statement-returns-in_err-e-in-For-clause-tells
main_statement-returns-in_err-e-in-For-clause-tells g t c =
    let p = err_from_is_err_and c.from_residual-in_err-e-in-For.result c.from_residual-in_err-e-in-For.ensures.1 in
    rw (p.1, p.2) (
    subst (λ (o : Outcome Went). Tells o (Err c.in_err-e-in-For.field-0.0) c.main_turns-in-For.new.locals c.main_turns-in-For.new.world (g.S.Sink.written c.args.out.now)
    (g.S.Sink.written c.main_turns-in-For.new.out)) (sym (effect_for c.args.p.now (calls_to c.args.p.now most_levels) (in_main c.args.p.now c.args.fuel) c.args.s.now.form c.in-For.first
    c.in-For.test c.in-For.next c.in-For.body c.args.locals.now c.args.world.now c.in-For.is))
    (for_loop_stops c.args.p.now (calls_to c.args.p.now most_levels) (in_main c.args.p.now c.args.fuel)
    (loop (λ l. value_of c.args.p.now (calls_to c.args.p.now most_levels) l c.in-For.test)
    (scoped (statements c.args.p.now (calls_to c.args.p.now most_levels) (in_main c.args.p.now c.args.fuel) c.in-For.body))
    (step_of c.args.p.now (calls_to c.args.p.now most_levels) (in_main c.args.p.now c.args.fuel) (Some c.in-For.next))) (length c.args.locals.now)
    (effect c.args.p.now (calls_to c.args.p.now most_levels) (in_main c.args.p.now c.args.fuel) c.in-For.first.form c.args.locals.now c.args.world.now) c.in_ok-main_statement-in-For.field-0
    c.in_err-e-in-For.field-0.0 c.main_statement.new.locals c.main_turns-in-For.new.locals c.main_turns-in-For.new.locals c.main_statement.new.world c.main_turns-in-For.new.world
    (g.S.Sink.written c.args.out.now) (g.S.Sink.written c.main_statement.new.out) (g.S.Sink.written c.main_turns-in-For.new.out)
    (subst (λ (x : Stmt). Told (effect c.args.p.now (calls_to c.args.p.now most_levels) (in_main c.args.p.now c.args.fuel) x.form c.args.locals.now c.args.world.now)
    (Gives (c.in_ok-main_statement-in-For.field-0, c.main_statement.new.locals) c.main_statement.new.world) (g.S.Sink.written c.args.out.now) (g.S.Sink.written c.main_statement.new.out))
    c.get.ensures c.in_ok-main_statement-in-For.ensures.tells) (subst (λ (x : Stmt). Tells
    (loop (λ l. value_of c.args.p.now (calls_to c.args.p.now most_levels) l c.in-For.test)
    (scoped (statements c.args.p.now (calls_to c.args.p.now most_levels) (in_main c.args.p.now c.args.fuel) c.in-For.body))
    (step_of c.args.p.now (calls_to c.args.p.now most_levels) (in_main c.args.p.now c.args.fuel) (Some x)) c.main_statement.new.locals c.main_statement.new.world) (Err c.in_err-e-in-For.field-0.0)
    c.main_turns-in-For.new.locals c.main_turns-in-For.new.world (g.S.Sink.written c.main_statement.new.out) (g.S.Sink.written c.main_turns-in-For.new.out)) c.get-in-For.ensures
    c.in_err-e-in-For.ensures.tells)))

pub main_statement-returns-in_ok-e-in-For-clause-tells : goal.main_statement-returns-in_ok-e-in-For-clause-tells
main_statement-returns-in_ok-e-in-For-clause-tells g t c =
    subst (λ (o : Outcome Went). Told o (Gives (c.in_ok-e-in-For.e, c.keep.new.locals) c.main_turns-in-For.new.world) (g.S.Sink.written c.args.out.now) (g.S.Sink.written c.main_turns-in-For.new.out))
    (sym (effect_for c.args.p.now (calls_to c.args.p.now most_levels) (in_main c.args.p.now c.args.fuel) c.args.s.now.form c.in-For.first c.in-For.test c.in-For.next c.in-For.body
    c.args.locals.now c.args.world.now c.in-For.is))
    (for_gives c.args.p.now (calls_to c.args.p.now most_levels) (in_main c.args.p.now c.args.fuel)
    (loop (λ l. value_of c.args.p.now (calls_to c.args.p.now most_levels) l c.in-For.test)
    (scoped (statements c.args.p.now (calls_to c.args.p.now most_levels) (in_main c.args.p.now c.args.fuel) c.in-For.body))
    (step_of c.args.p.now (calls_to c.args.p.now most_levels) (in_main c.args.p.now c.args.fuel) (Some c.in-For.next))) (length c.args.locals.now)
    (effect c.args.p.now (calls_to c.args.p.now most_levels) (in_main c.args.p.now c.args.fuel) c.in-For.first.form c.args.locals.now c.args.world.now) c.in_ok-main_statement-in-For.field-0
    c.in_ok-e-in-For.e c.main_statement.new.locals c.main_turns-in-For.new.locals c.keep.new.locals c.main_statement.new.world c.main_turns-in-For.new.world (g.S.Sink.written c.args.out.now)
    (g.S.Sink.written c.main_statement.new.out) (g.S.Sink.written c.main_turns-in-For.new.out)
    (subst (λ (x : Stmt). Told (effect c.args.p.now (calls_to c.args.p.now most_levels) (in_main c.args.p.now c.args.fuel) x.form c.args.locals.now c.args.world.now)
    (Gives (c.in_ok-main_statement-in-For.field-0, c.main_statement.new.locals) c.main_statement.new.world) (g.S.Sink.written c.args.out.now) (g.S.Sink.written c.main_statement.new.out))
    c.get.ensures c.in_ok-main_statement-in-For.ensures.tells) (subst (λ (x : Stmt). Told
    (loop (λ l. value_of c.args.p.now (calls_to c.args.p.now most_levels) l c.in-For.test)
    (scoped (statements c.args.p.now (calls_to c.args.p.now most_levels) (in_main c.args.p.now c.args.fuel) c.in-For.body))
    (step_of c.args.p.now (calls_to c.args.p.now most_levels) (in_main c.args.p.now c.args.fuel) (Some x)) c.main_statement.new.locals c.main_statement.new.world)
    (Gives (c.in_ok-e-in-For.e, c.main_turns-in-For.new.locals) c.main_turns-in-For.new.world) (g.S.Sink.written c.main_statement.new.out) (g.S.Sink.written c.main_turns-in-For.new.out))
    c.get-in-For.ensures c.in_ok-e-in-For.ensures.tells) (c.keep.ensures ∙ ap (λ n. take n c.main_turns-in-For.new.locals) c.len-outer.ensures))

pub main_turns-loop-v-init : goal.main_turns-loop-v-init
main_turns-loop-v-init g t c = record { bound = c.args.world.now.fuel; enough = omega arith; told = told_nothing (loop (λ inner. value_of c.args.p.now (calls_to c.args.p.now most_levels) inner c.args.test.now) (scoped (statements c.args.p.now (calls_to c.args.p.now most_levels) (in_main c.args.p.now c.args.fuel) c.args.body.now)) (step_of c.args.p.now (calls_to c.args.p.now most_levels) (in_main c.args.p.now c.args.fuel) (option_copied c.args.next)) c.args.locals.now c.args.world.now) (g.S.Sink.written c.args.out.now); later = omega arith; main = c.requires.main; fuel = omega arith }

pub main_turns-returns-in_err-v-clause-tells : goal.main_turns-returns-in_err-v-clause-tells
main_turns-returns-in_err-v-clause-tells g t c =
    let p = err_from_is_err_and c.from_residual.result c.from_residual.ensures.1 in
    rw (p.1, p.2) (tells_after (loop (λ inner. value_of c.args.p.now (calls_to c.args.p.now most_levels) inner c.args.test.now)
    (scoped (statements c.args.p.now (calls_to c.args.p.now most_levels) (in_main c.args.p.now c.args.fuel) c.args.body.now))
    (step_of c.args.p.now (calls_to c.args.p.now most_levels) (in_main c.args.p.now c.args.fuel) (option_copied c.args.next)) c.args.locals.now c.args.world.now)
    (turns c.loop-v.invariant.bound (λ inner. value_of c.args.p.now (calls_to c.args.p.now most_levels) inner c.args.test.now)
    (scoped (statements c.args.p.now (calls_to c.args.p.now most_levels) (in_main c.args.p.now c.args.fuel) c.args.body.now))
    (step_of c.args.p.now (calls_to c.args.p.now most_levels) (in_main c.args.p.now c.args.fuel) (option_copied c.args.next)) c.loop-v.locals c.loop-v.world) (Err c.in_err-v.field-0.0)
    c.loop-v.locals c.main_value.new.world (g.S.Sink.written c.args.out.now) (g.S.Sink.written c.loop-v.out) (g.S.Sink.written c.loop-v.out) c.loop-v.invariant.told
    (turn_test_stops (λ inner. value_of c.args.p.now (calls_to c.args.p.now most_levels) inner c.args.test.now)
    (scoped (statements c.args.p.now (calls_to c.args.p.now most_levels) (in_main c.args.p.now c.args.fuel) c.args.body.now))
    (step_of c.args.p.now (calls_to c.args.p.now most_levels) (in_main c.args.p.now c.args.fuel) (option_copied c.args.next)) c.loop-v.invariant.bound c.in_err-v.field-0.0 c.loop-v.locals
    c.loop-v.locals c.loop-v.world c.main_value.new.world (g.S.Sink.written c.loop-v.out) (g.S.Sink.written c.loop-v.out) (c.in_err-v.ensures.tells (g.S.Sink.written c.loop-v.out))))

pub main_turns-returns-then-not-truth_in-clause-tells : goal.main_turns-returns-then-not-truth_in-clause-tells
main_turns-returns-then-not-truth_in-clause-tells g t c =
    told_then (loop (λ inner. value_of c.args.p.now (calls_to c.args.p.now most_levels) inner c.args.test.now)
    (scoped (statements c.args.p.now (calls_to c.args.p.now most_levels) (in_main c.args.p.now c.args.fuel) c.args.body.now))
    (step_of c.args.p.now (calls_to c.args.p.now most_levels) (in_main c.args.p.now c.args.fuel) (option_copied c.args.next)) c.args.locals.now c.args.world.now)
    (turns c.loop-v.invariant.bound (λ inner. value_of c.args.p.now (calls_to c.args.p.now most_levels) inner c.args.test.now)
    (scoped (statements c.args.p.now (calls_to c.args.p.now most_levels) (in_main c.args.p.now c.args.fuel) c.args.body.now))
    (step_of c.args.p.now (calls_to c.args.p.now most_levels) (in_main c.args.p.now c.args.fuel) (option_copied c.args.next)) c.loop-v.locals c.loop-v.world)
    (Gives (ending.Normal, c.loop-v.locals) c.main_value.new.world) (g.S.Sink.written c.args.out.now) (g.S.Sink.written c.loop-v.out) (g.S.Sink.written c.loop-v.out) c.loop-v.invariant.told
    (turn_test_false (λ inner. value_of c.args.p.now (calls_to c.args.p.now most_levels) inner c.args.test.now)
    (scoped (statements c.args.p.now (calls_to c.args.p.now most_levels) (in_main c.args.p.now c.args.fuel) c.args.body.now))
    (step_of c.args.p.now (calls_to c.args.p.now most_levels) (in_main c.args.p.now c.args.fuel) (option_copied c.args.next)) c.loop-v.invariant.bound c.in_ok-v.v c.loop-v.locals c.loop-v.world
    c.main_value.new.world (g.S.Sink.written c.loop-v.out) (g.S.Sink.written c.loop-v.out) (sym c.if-not-truth_in.ensures) (c.in_ok-v.ensures.tells (g.S.Sink.written c.loop-v.out)))

pub main_turns-returns-in_err-main_block-clause-tells : goal.main_turns-returns-in_err-main_block-clause-tells
main_turns-returns-in_err-main_block-clause-tells g t c =
    let p = err_from_is_err_and c.from_residual-in_err-main_block.result c.from_residual-in_err-main_block.ensures.1 in
    rw (p.1, p.2) (tells_after (loop (λ inner. value_of c.args.p.now (calls_to c.args.p.now most_levels) inner c.args.test.now)
    (scoped (statements c.args.p.now (calls_to c.args.p.now most_levels) (in_main c.args.p.now c.args.fuel) c.args.body.now))
    (step_of c.args.p.now (calls_to c.args.p.now most_levels) (in_main c.args.p.now c.args.fuel) (option_copied c.args.next)) c.args.locals.now c.args.world.now)
    (turns c.loop-v.invariant.bound (λ inner. value_of c.args.p.now (calls_to c.args.p.now most_levels) inner c.args.test.now)
    (scoped (statements c.args.p.now (calls_to c.args.p.now most_levels) (in_main c.args.p.now c.args.fuel) c.args.body.now))
    (step_of c.args.p.now (calls_to c.args.p.now most_levels) (in_main c.args.p.now c.args.fuel) (option_copied c.args.next)) c.loop-v.locals c.loop-v.world) (Err c.in_err-main_block.field-0.0)
    c.main_block.new.locals c.main_block.new.world (g.S.Sink.written c.args.out.now) (g.S.Sink.written c.loop-v.out) (g.S.Sink.written c.main_block.new.out) c.loop-v.invariant.told
    (turn_body_stops (λ inner. value_of c.args.p.now (calls_to c.args.p.now most_levels) inner c.args.test.now)
    (scoped (statements c.args.p.now (calls_to c.args.p.now most_levels) (in_main c.args.p.now c.args.fuel) c.args.body.now))
    (step_of c.args.p.now (calls_to c.args.p.now most_levels) (in_main c.args.p.now c.args.fuel) (option_copied c.args.next)) c.loop-v.invariant.bound c.in_ok-v.v c.in_err-main_block.field-0.0
    c.loop-v.locals c.main_block.new.locals c.main_block.new.locals c.loop-v.world c.main_value.new.world c.main_block.new.world (g.S.Sink.written c.loop-v.out) (g.S.Sink.written c.loop-v.out)
    (g.S.Sink.written c.main_block.new.out) (sym c.if-not-truth_in.ensures) (c.in_ok-v.ensures.tells (g.S.Sink.written c.loop-v.out)) c.in_err-main_block.ensures.tells))

pub main_turns-returns-in-Break-clause-tells : goal.main_turns-returns-in-Break-clause-tells
main_turns-returns-in-Break-clause-tells g t c =
    told_then (loop (λ inner. value_of c.args.p.now (calls_to c.args.p.now most_levels) inner c.args.test.now)
    (scoped (statements c.args.p.now (calls_to c.args.p.now most_levels) (in_main c.args.p.now c.args.fuel) c.args.body.now))
    (step_of c.args.p.now (calls_to c.args.p.now most_levels) (in_main c.args.p.now c.args.fuel) (option_copied c.args.next)) c.args.locals.now c.args.world.now)
    (turns c.loop-v.invariant.bound (λ inner. value_of c.args.p.now (calls_to c.args.p.now most_levels) inner c.args.test.now)
    (scoped (statements c.args.p.now (calls_to c.args.p.now most_levels) (in_main c.args.p.now c.args.fuel) c.args.body.now))
    (step_of c.args.p.now (calls_to c.args.p.now most_levels) (in_main c.args.p.now c.args.fuel) (option_copied c.args.next)) c.loop-v.locals c.loop-v.world)
    (Gives (ending.Normal, c.main_block.new.locals) c.main_block.new.world) (g.S.Sink.written c.args.out.now) (g.S.Sink.written c.loop-v.out) (g.S.Sink.written c.main_block.new.out)
    c.loop-v.invariant.told
    (subst (λ (e : Ending). Told (turns c.loop-v.invariant.bound (λ inner. value_of c.args.p.now (calls_to c.args.p.now most_levels) inner c.args.test.now)
    (scoped (statements c.args.p.now (calls_to c.args.p.now most_levels) (in_main c.args.p.now c.args.fuel) c.args.body.now))
    (step_of c.args.p.now (calls_to c.args.p.now most_levels) (in_main c.args.p.now c.args.fuel) (option_copied c.args.next)) c.loop-v.locals c.loop-v.world)
    (after_body (e, c.main_block.new.locals) (back (λ inner. value_of c.args.p.now (calls_to c.args.p.now most_levels) inner c.args.test.now)
    (scoped (statements c.args.p.now (calls_to c.args.p.now most_levels) (in_main c.args.p.now c.args.fuel) c.args.body.now))
    (step_of c.args.p.now (calls_to c.args.p.now most_levels) (in_main c.args.p.now c.args.fuel) (option_copied c.args.next)) c.loop-v.invariant.bound) c.main_block.new.world)
    (g.S.Sink.written c.loop-v.out) (g.S.Sink.written c.main_block.new.out)) c.in-Break.is
    (turn_body (λ inner. value_of c.args.p.now (calls_to c.args.p.now most_levels) inner c.args.test.now)
    (scoped (statements c.args.p.now (calls_to c.args.p.now most_levels) (in_main c.args.p.now c.args.fuel) c.args.body.now))
    (step_of c.args.p.now (calls_to c.args.p.now most_levels) (in_main c.args.p.now c.args.fuel) (option_copied c.args.next)) c.loop-v.invariant.bound c.in_ok-v.v c.in_ok-main_block.field-0
    c.loop-v.locals c.main_block.new.locals c.loop-v.world c.main_value.new.world c.main_block.new.world (g.S.Sink.written c.loop-v.out) (g.S.Sink.written c.loop-v.out)
    (g.S.Sink.written c.main_block.new.out) (sym c.if-not-truth_in.ensures) (c.in_ok-v.ensures.tells (g.S.Sink.written c.loop-v.out)) c.in_ok-main_block.ensures.tells))

pub main_turns-returns-in-Return-clause-tells : goal.main_turns-returns-in-Return-clause-tells
main_turns-returns-in-Return-clause-tells g t c =
    told_then (loop (λ inner. value_of c.args.p.now (calls_to c.args.p.now most_levels) inner c.args.test.now)
    (scoped (statements c.args.p.now (calls_to c.args.p.now most_levels) (in_main c.args.p.now c.args.fuel) c.args.body.now))
    (step_of c.args.p.now (calls_to c.args.p.now most_levels) (in_main c.args.p.now c.args.fuel) (option_copied c.args.next)) c.args.locals.now c.args.world.now)
    (turns c.loop-v.invariant.bound (λ inner. value_of c.args.p.now (calls_to c.args.p.now most_levels) inner c.args.test.now)
    (scoped (statements c.args.p.now (calls_to c.args.p.now most_levels) (in_main c.args.p.now c.args.fuel) c.args.body.now))
    (step_of c.args.p.now (calls_to c.args.p.now most_levels) (in_main c.args.p.now c.args.fuel) (option_copied c.args.next)) c.loop-v.locals c.loop-v.world)
    (Gives (ending.Return c.in-Return.v, c.main_block.new.locals) c.main_block.new.world) (g.S.Sink.written c.args.out.now) (g.S.Sink.written c.loop-v.out) (g.S.Sink.written c.main_block.new.out)
    c.loop-v.invariant.told
    (subst (λ (e : Ending). Told (turns c.loop-v.invariant.bound (λ inner. value_of c.args.p.now (calls_to c.args.p.now most_levels) inner c.args.test.now)
    (scoped (statements c.args.p.now (calls_to c.args.p.now most_levels) (in_main c.args.p.now c.args.fuel) c.args.body.now))
    (step_of c.args.p.now (calls_to c.args.p.now most_levels) (in_main c.args.p.now c.args.fuel) (option_copied c.args.next)) c.loop-v.locals c.loop-v.world)
    (after_body (e, c.main_block.new.locals) (back (λ inner. value_of c.args.p.now (calls_to c.args.p.now most_levels) inner c.args.test.now)
    (scoped (statements c.args.p.now (calls_to c.args.p.now most_levels) (in_main c.args.p.now c.args.fuel) c.args.body.now))
    (step_of c.args.p.now (calls_to c.args.p.now most_levels) (in_main c.args.p.now c.args.fuel) (option_copied c.args.next)) c.loop-v.invariant.bound) c.main_block.new.world)
    (g.S.Sink.written c.loop-v.out) (g.S.Sink.written c.main_block.new.out)) c.in-Return.is
    (turn_body (λ inner. value_of c.args.p.now (calls_to c.args.p.now most_levels) inner c.args.test.now)
    (scoped (statements c.args.p.now (calls_to c.args.p.now most_levels) (in_main c.args.p.now c.args.fuel) c.args.body.now))
    (step_of c.args.p.now (calls_to c.args.p.now most_levels) (in_main c.args.p.now c.args.fuel) (option_copied c.args.next)) c.loop-v.invariant.bound c.in_ok-v.v c.in_ok-main_block.field-0
    c.loop-v.locals c.main_block.new.locals c.loop-v.world c.main_value.new.world c.main_block.new.world (g.S.Sink.written c.loop-v.out) (g.S.Sink.written c.loop-v.out)
    (g.S.Sink.written c.main_block.new.out) (sym c.if-not-truth_in.ensures) (c.in_ok-v.ensures.tells (g.S.Sink.written c.loop-v.out)) c.in_ok-main_block.ensures.tells))

pub main_turns-returns-in_err-main_step-clause-tells : goal.main_turns-returns-in_err-main_step-clause-tells
main_turns-returns-in_err-main_step-clause-tells g t c =
    let p = err_from_is_err_and c.from_residual-in_err-main_step.result c.from_residual-in_err-main_step.ensures.1 in
    rw (p.1, p.2) (tells_after (loop (λ inner. value_of c.args.p.now (calls_to c.args.p.now most_levels) inner c.args.test.now)
    (scoped (statements c.args.p.now (calls_to c.args.p.now most_levels) (in_main c.args.p.now c.args.fuel) c.args.body.now))
    (step_of c.args.p.now (calls_to c.args.p.now most_levels) (in_main c.args.p.now c.args.fuel) (option_copied c.args.next)) c.args.locals.now c.args.world.now)
    (turns c.loop-v.invariant.bound (λ inner. value_of c.args.p.now (calls_to c.args.p.now most_levels) inner c.args.test.now)
    (scoped (statements c.args.p.now (calls_to c.args.p.now most_levels) (in_main c.args.p.now c.args.fuel) c.args.body.now))
    (step_of c.args.p.now (calls_to c.args.p.now most_levels) (in_main c.args.p.now c.args.fuel) (option_copied c.args.next)) c.loop-v.locals c.loop-v.world) (Err c.in_err-main_step.field-0.0)
    c.main_step.new.locals c.main_step.new.world (g.S.Sink.written c.args.out.now) (g.S.Sink.written c.loop-v.out) (g.S.Sink.written c.main_step.new.out) c.loop-v.invariant.told
    (tells_after (turns c.loop-v.invariant.bound (λ inner. value_of c.args.p.now (calls_to c.args.p.now most_levels) inner c.args.test.now)
    (scoped (statements c.args.p.now (calls_to c.args.p.now most_levels) (in_main c.args.p.now c.args.fuel) c.args.body.now))
    (step_of c.args.p.now (calls_to c.args.p.now most_levels) (in_main c.args.p.now c.args.fuel) (option_copied c.args.next)) c.loop-v.locals c.loop-v.world)
    (back (λ inner. value_of c.args.p.now (calls_to c.args.p.now most_levels) inner c.args.test.now)
    (scoped (statements c.args.p.now (calls_to c.args.p.now most_levels) (in_main c.args.p.now c.args.fuel) c.args.body.now))
    (step_of c.args.p.now (calls_to c.args.p.now most_levels) (in_main c.args.p.now c.args.fuel) (option_copied c.args.next)) c.loop-v.invariant.bound c.main_block.new.locals
    c.main_block.new.world) (Err c.in_err-main_step.field-0.0) c.main_step.new.locals c.main_step.new.world (g.S.Sink.written c.loop-v.out) (g.S.Sink.written c.main_block.new.out)
    (g.S.Sink.written c.main_step.new.out) (turn_to_step (λ inner. value_of c.args.p.now (calls_to c.args.p.now most_levels) inner c.args.test.now)
    (scoped (statements c.args.p.now (calls_to c.args.p.now most_levels) (in_main c.args.p.now c.args.fuel) c.args.body.now))
    (step_of c.args.p.now (calls_to c.args.p.now most_levels) (in_main c.args.p.now c.args.fuel) (option_copied c.args.next)) c.loop-v.invariant.bound c.in_ok-v.v c.in_ok-main_block.field-0
    c.loop-v.locals c.main_block.new.locals c.loop-v.world c.main_value.new.world c.main_block.new.world (g.S.Sink.written c.loop-v.out) (g.S.Sink.written c.loop-v.out)
    (g.S.Sink.written c.main_block.new.out) (sym c.if-not-truth_in.ensures) (c.in_ok-v.ensures.tells (g.S.Sink.written c.loop-v.out)) c.in_ok-main_block.ensures.tells c.in-Normal.is)
    (back_stops (λ inner. value_of c.args.p.now (calls_to c.args.p.now most_levels) inner c.args.test.now)
    (scoped (statements c.args.p.now (calls_to c.args.p.now most_levels) (in_main c.args.p.now c.args.fuel) c.args.body.now))
    (step_of c.args.p.now (calls_to c.args.p.now most_levels) (in_main c.args.p.now c.args.fuel) (option_copied c.args.next)) c.loop-v.invariant.bound c.in_err-main_step.field-0.0
    c.main_block.new.locals c.main_step.new.locals c.main_step.new.locals c.main_block.new.world c.main_step.new.world (g.S.Sink.written c.main_block.new.out)
    (g.S.Sink.written c.main_step.new.out) c.in_err-main_step.ensures.tells)))

pub main_turns-loop-v-preserved : goal.main_turns-loop-v-preserved
main_turns-loop-v-preserved g t c =
    let le : c.main_step.new.world.fuel ≤ c.loop-v.invariant.bound = omega (arith, c.loop-v.invariant.enough, c.in_ok-v.ensures.goes_on.fuel, c.in_ok-main_block.ensures.goes_on.fuel, c.in_ok-main_step.ensures.goes_on.fuel) in
    let so_far : Told (loop (λ inner. value_of c.args.p.now (calls_to c.args.p.now most_levels) inner c.args.test.now)
    (scoped (statements c.args.p.now (calls_to c.args.p.now most_levels) (in_main c.args.p.now c.args.fuel) c.args.body.now))
    (step_of c.args.p.now (calls_to c.args.p.now most_levels) (in_main c.args.p.now c.args.fuel) (option_copied c.args.next)) c.args.locals.now c.args.world.now)
    (again (λ inner. value_of c.args.p.now (calls_to c.args.p.now most_levels) inner c.args.test.now)
    (scoped (statements c.args.p.now (calls_to c.args.p.now most_levels) (in_main c.args.p.now c.args.fuel) c.args.body.now))
    (step_of c.args.p.now (calls_to c.args.p.now most_levels) (in_main c.args.p.now c.args.fuel) (option_copied c.args.next)) c.loop-v.invariant.bound c.main_step.new.locals c.main_step.new.world)
    (g.S.Sink.written c.args.out.now) (g.S.Sink.written c.main_step.new.out) = told_then
    (loop (λ inner. value_of c.args.p.now (calls_to c.args.p.now most_levels) inner c.args.test.now)
    (scoped (statements c.args.p.now (calls_to c.args.p.now most_levels) (in_main c.args.p.now c.args.fuel) c.args.body.now))
    (step_of c.args.p.now (calls_to c.args.p.now most_levels) (in_main c.args.p.now c.args.fuel) (option_copied c.args.next)) c.args.locals.now c.args.world.now)
    (turns c.loop-v.invariant.bound (λ inner. value_of c.args.p.now (calls_to c.args.p.now most_levels) inner c.args.test.now)
    (scoped (statements c.args.p.now (calls_to c.args.p.now most_levels) (in_main c.args.p.now c.args.fuel) c.args.body.now))
    (step_of c.args.p.now (calls_to c.args.p.now most_levels) (in_main c.args.p.now c.args.fuel) (option_copied c.args.next)) c.loop-v.locals c.loop-v.world)
    (again (λ inner. value_of c.args.p.now (calls_to c.args.p.now most_levels) inner c.args.test.now)
    (scoped (statements c.args.p.now (calls_to c.args.p.now most_levels) (in_main c.args.p.now c.args.fuel) c.args.body.now))
    (step_of c.args.p.now (calls_to c.args.p.now most_levels) (in_main c.args.p.now c.args.fuel) (option_copied c.args.next)) c.loop-v.invariant.bound c.main_step.new.locals c.main_step.new.world)
    (g.S.Sink.written c.args.out.now) (g.S.Sink.written c.loop-v.out) (g.S.Sink.written c.main_step.new.out) c.loop-v.invariant.told
    (told_then (turns c.loop-v.invariant.bound (λ inner. value_of c.args.p.now (calls_to c.args.p.now most_levels) inner c.args.test.now)
    (scoped (statements c.args.p.now (calls_to c.args.p.now most_levels) (in_main c.args.p.now c.args.fuel) c.args.body.now))
    (step_of c.args.p.now (calls_to c.args.p.now most_levels) (in_main c.args.p.now c.args.fuel) (option_copied c.args.next)) c.loop-v.locals c.loop-v.world)
    (back (λ inner. value_of c.args.p.now (calls_to c.args.p.now most_levels) inner c.args.test.now)
    (scoped (statements c.args.p.now (calls_to c.args.p.now most_levels) (in_main c.args.p.now c.args.fuel) c.args.body.now))
    (step_of c.args.p.now (calls_to c.args.p.now most_levels) (in_main c.args.p.now c.args.fuel) (option_copied c.args.next)) c.loop-v.invariant.bound c.main_block.new.locals
    c.main_block.new.world) (again (λ inner. value_of c.args.p.now (calls_to c.args.p.now most_levels) inner c.args.test.now)
    (scoped (statements c.args.p.now (calls_to c.args.p.now most_levels) (in_main c.args.p.now c.args.fuel) c.args.body.now))
    (step_of c.args.p.now (calls_to c.args.p.now most_levels) (in_main c.args.p.now c.args.fuel) (option_copied c.args.next)) c.loop-v.invariant.bound c.main_step.new.locals c.main_step.new.world)
    (g.S.Sink.written c.loop-v.out) (g.S.Sink.written c.main_block.new.out) (g.S.Sink.written c.main_step.new.out)
    (turn_to_step (λ inner. value_of c.args.p.now (calls_to c.args.p.now most_levels) inner c.args.test.now)
    (scoped (statements c.args.p.now (calls_to c.args.p.now most_levels) (in_main c.args.p.now c.args.fuel) c.args.body.now))
    (step_of c.args.p.now (calls_to c.args.p.now most_levels) (in_main c.args.p.now c.args.fuel) (option_copied c.args.next)) c.loop-v.invariant.bound c.in_ok-v.v c.in_ok-main_block.field-0
    c.loop-v.locals c.main_block.new.locals c.loop-v.world c.main_value.new.world c.main_block.new.world (g.S.Sink.written c.loop-v.out) (g.S.Sink.written c.loop-v.out)
    (g.S.Sink.written c.main_block.new.out) (sym c.if-not-truth_in.ensures) (c.in_ok-v.ensures.tells (g.S.Sink.written c.loop-v.out)) c.in_ok-main_block.ensures.tells c.in-Normal.is)
    (back_gives (λ inner. value_of c.args.p.now (calls_to c.args.p.now most_levels) inner c.args.test.now)
    (scoped (statements c.args.p.now (calls_to c.args.p.now most_levels) (in_main c.args.p.now c.args.fuel) c.args.body.now))
    (step_of c.args.p.now (calls_to c.args.p.now most_levels) (in_main c.args.p.now c.args.fuel) (option_copied c.args.next)) c.loop-v.invariant.bound c.main_block.new.locals
    c.main_step.new.locals c.main_block.new.world c.main_step.new.world (g.S.Sink.written c.main_block.new.out) (g.S.Sink.written c.main_step.new.out) c.in_ok-main_step.ensures.tells)) in
    let u = unit_told (λ inner. value_of c.args.p.now (calls_to c.args.p.now most_levels) inner c.args.test.now)
    (scoped (statements c.args.p.now (calls_to c.args.p.now most_levels) (in_main c.args.p.now c.args.fuel) c.args.body.now))
    (step_of c.args.p.now (calls_to c.args.p.now most_levels) (in_main c.args.p.now c.args.fuel) (option_copied c.args.next)) c.loop-v.invariant.bound c.main_step.new.locals c.main_step.new.world
    c.main_unit.new.world (g.S.Sink.written c.main_step.new.out) (g.S.Sink.written c.main_step.new.out) le c.in_ok-main_unit.ensures.fuel
    (c.in_ok-main_unit.ensures.tells (g.S.Sink.written c.main_step.new.out)) in
    record {
      bound = u.0;
      enough = u.1;
      told = told_then (loop (λ inner. value_of c.args.p.now (calls_to c.args.p.now most_levels) inner c.args.test.now)
          (scoped (statements c.args.p.now (calls_to c.args.p.now most_levels) (in_main c.args.p.now c.args.fuel) c.args.body.now))
          (step_of c.args.p.now (calls_to c.args.p.now most_levels) (in_main c.args.p.now c.args.fuel) (option_copied c.args.next)) c.args.locals.now c.args.world.now)
          (again (λ inner. value_of c.args.p.now (calls_to c.args.p.now most_levels) inner c.args.test.now)
          (scoped (statements c.args.p.now (calls_to c.args.p.now most_levels) (in_main c.args.p.now c.args.fuel) c.args.body.now))
          (step_of c.args.p.now (calls_to c.args.p.now most_levels) (in_main c.args.p.now c.args.fuel) (option_copied c.args.next)) c.loop-v.invariant.bound c.main_step.new.locals
          c.main_step.new.world) (turns u.0 (λ inner. value_of c.args.p.now (calls_to c.args.p.now most_levels) inner c.args.test.now)
          (scoped (statements c.args.p.now (calls_to c.args.p.now most_levels) (in_main c.args.p.now c.args.fuel) c.args.body.now))
          (step_of c.args.p.now (calls_to c.args.p.now most_levels) (in_main c.args.p.now c.args.fuel) (option_copied c.args.next)) c.main_step.new.locals c.main_unit.new.world)
          (g.S.Sink.written c.args.out.now) (g.S.Sink.written c.main_step.new.out) (g.S.Sink.written c.main_step.new.out) so_far u.2;
      later = omega (arith, c.loop-v.invariant.later, c.main_block.ensures.later, c.main_step.ensures.later);
      main = c.in_ok-main_unit.ensures.goes_on.main;
      fuel = omega (arith, c.loop-v.invariant.fuel, c.in_ok-v.ensures.goes_on.fuel, c.in_ok-main_block.ensures.goes_on.fuel, c.in_ok-main_step.ensures.goes_on.fuel, c.in_ok-main_unit.ensures.goes_on.fuel);
    }

pub main_turns-returns-in_err-main_unit-clause-tells : goal.main_turns-returns-in_err-main_unit-clause-tells
main_turns-returns-in_err-main_unit-clause-tells g t c =
    let le : c.main_step.new.world.fuel ≤ c.loop-v.invariant.bound = omega (arith, c.loop-v.invariant.enough, c.in_ok-v.ensures.goes_on.fuel, c.in_ok-main_block.ensures.goes_on.fuel, c.in_ok-main_step.ensures.goes_on.fuel) in
    let so_far : Told (loop (λ inner. value_of c.args.p.now (calls_to c.args.p.now most_levels) inner c.args.test.now)
    (scoped (statements c.args.p.now (calls_to c.args.p.now most_levels) (in_main c.args.p.now c.args.fuel) c.args.body.now))
    (step_of c.args.p.now (calls_to c.args.p.now most_levels) (in_main c.args.p.now c.args.fuel) (option_copied c.args.next)) c.args.locals.now c.args.world.now)
    (again (λ inner. value_of c.args.p.now (calls_to c.args.p.now most_levels) inner c.args.test.now)
    (scoped (statements c.args.p.now (calls_to c.args.p.now most_levels) (in_main c.args.p.now c.args.fuel) c.args.body.now))
    (step_of c.args.p.now (calls_to c.args.p.now most_levels) (in_main c.args.p.now c.args.fuel) (option_copied c.args.next)) c.loop-v.invariant.bound c.main_step.new.locals c.main_step.new.world)
    (g.S.Sink.written c.args.out.now) (g.S.Sink.written c.main_step.new.out) = told_then
    (loop (λ inner. value_of c.args.p.now (calls_to c.args.p.now most_levels) inner c.args.test.now)
    (scoped (statements c.args.p.now (calls_to c.args.p.now most_levels) (in_main c.args.p.now c.args.fuel) c.args.body.now))
    (step_of c.args.p.now (calls_to c.args.p.now most_levels) (in_main c.args.p.now c.args.fuel) (option_copied c.args.next)) c.args.locals.now c.args.world.now)
    (turns c.loop-v.invariant.bound (λ inner. value_of c.args.p.now (calls_to c.args.p.now most_levels) inner c.args.test.now)
    (scoped (statements c.args.p.now (calls_to c.args.p.now most_levels) (in_main c.args.p.now c.args.fuel) c.args.body.now))
    (step_of c.args.p.now (calls_to c.args.p.now most_levels) (in_main c.args.p.now c.args.fuel) (option_copied c.args.next)) c.loop-v.locals c.loop-v.world)
    (again (λ inner. value_of c.args.p.now (calls_to c.args.p.now most_levels) inner c.args.test.now)
    (scoped (statements c.args.p.now (calls_to c.args.p.now most_levels) (in_main c.args.p.now c.args.fuel) c.args.body.now))
    (step_of c.args.p.now (calls_to c.args.p.now most_levels) (in_main c.args.p.now c.args.fuel) (option_copied c.args.next)) c.loop-v.invariant.bound c.main_step.new.locals c.main_step.new.world)
    (g.S.Sink.written c.args.out.now) (g.S.Sink.written c.loop-v.out) (g.S.Sink.written c.main_step.new.out) c.loop-v.invariant.told
    (told_then (turns c.loop-v.invariant.bound (λ inner. value_of c.args.p.now (calls_to c.args.p.now most_levels) inner c.args.test.now)
    (scoped (statements c.args.p.now (calls_to c.args.p.now most_levels) (in_main c.args.p.now c.args.fuel) c.args.body.now))
    (step_of c.args.p.now (calls_to c.args.p.now most_levels) (in_main c.args.p.now c.args.fuel) (option_copied c.args.next)) c.loop-v.locals c.loop-v.world)
    (back (λ inner. value_of c.args.p.now (calls_to c.args.p.now most_levels) inner c.args.test.now)
    (scoped (statements c.args.p.now (calls_to c.args.p.now most_levels) (in_main c.args.p.now c.args.fuel) c.args.body.now))
    (step_of c.args.p.now (calls_to c.args.p.now most_levels) (in_main c.args.p.now c.args.fuel) (option_copied c.args.next)) c.loop-v.invariant.bound c.main_block.new.locals
    c.main_block.new.world) (again (λ inner. value_of c.args.p.now (calls_to c.args.p.now most_levels) inner c.args.test.now)
    (scoped (statements c.args.p.now (calls_to c.args.p.now most_levels) (in_main c.args.p.now c.args.fuel) c.args.body.now))
    (step_of c.args.p.now (calls_to c.args.p.now most_levels) (in_main c.args.p.now c.args.fuel) (option_copied c.args.next)) c.loop-v.invariant.bound c.main_step.new.locals c.main_step.new.world)
    (g.S.Sink.written c.loop-v.out) (g.S.Sink.written c.main_block.new.out) (g.S.Sink.written c.main_step.new.out)
    (turn_to_step (λ inner. value_of c.args.p.now (calls_to c.args.p.now most_levels) inner c.args.test.now)
    (scoped (statements c.args.p.now (calls_to c.args.p.now most_levels) (in_main c.args.p.now c.args.fuel) c.args.body.now))
    (step_of c.args.p.now (calls_to c.args.p.now most_levels) (in_main c.args.p.now c.args.fuel) (option_copied c.args.next)) c.loop-v.invariant.bound c.in_ok-v.v c.in_ok-main_block.field-0
    c.loop-v.locals c.main_block.new.locals c.loop-v.world c.main_value.new.world c.main_block.new.world (g.S.Sink.written c.loop-v.out) (g.S.Sink.written c.loop-v.out)
    (g.S.Sink.written c.main_block.new.out) (sym c.if-not-truth_in.ensures) (c.in_ok-v.ensures.tells (g.S.Sink.written c.loop-v.out)) c.in_ok-main_block.ensures.tells c.in-Normal.is)
    (back_gives (λ inner. value_of c.args.p.now (calls_to c.args.p.now most_levels) inner c.args.test.now)
    (scoped (statements c.args.p.now (calls_to c.args.p.now most_levels) (in_main c.args.p.now c.args.fuel) c.args.body.now))
    (step_of c.args.p.now (calls_to c.args.p.now most_levels) (in_main c.args.p.now c.args.fuel) (option_copied c.args.next)) c.loop-v.invariant.bound c.main_block.new.locals
    c.main_step.new.locals c.main_block.new.world c.main_step.new.world (g.S.Sink.written c.main_block.new.out) (g.S.Sink.written c.main_step.new.out) c.in_ok-main_step.ensures.tells)) in
    let p = err_from_is_err_and c.from_residual-in_err-main_unit.result c.from_residual-in_err-main_unit.ensures.1 in
    rw (p.1, p.2) (tells_after (loop (λ inner. value_of c.args.p.now (calls_to c.args.p.now most_levels) inner c.args.test.now)
    (scoped (statements c.args.p.now (calls_to c.args.p.now most_levels) (in_main c.args.p.now c.args.fuel) c.args.body.now))
    (step_of c.args.p.now (calls_to c.args.p.now most_levels) (in_main c.args.p.now c.args.fuel) (option_copied c.args.next)) c.args.locals.now c.args.world.now)
    (again (λ inner. value_of c.args.p.now (calls_to c.args.p.now most_levels) inner c.args.test.now)
    (scoped (statements c.args.p.now (calls_to c.args.p.now most_levels) (in_main c.args.p.now c.args.fuel) c.args.body.now))
    (step_of c.args.p.now (calls_to c.args.p.now most_levels) (in_main c.args.p.now c.args.fuel) (option_copied c.args.next)) c.loop-v.invariant.bound c.main_step.new.locals c.main_step.new.world)
    (Err c.in_err-main_unit.field-0.0) c.main_step.new.locals c.main_unit.new.world (g.S.Sink.written c.args.out.now) (g.S.Sink.written c.main_step.new.out) (g.S.Sink.written c.main_step.new.out)
    so_far
    (unit_halts (λ inner. value_of c.args.p.now (calls_to c.args.p.now most_levels) inner c.args.test.now)
    (scoped (statements c.args.p.now (calls_to c.args.p.now most_levels) (in_main c.args.p.now c.args.fuel) c.args.body.now))
    (step_of c.args.p.now (calls_to c.args.p.now most_levels) (in_main c.args.p.now c.args.fuel) (option_copied c.args.next)) c.loop-v.invariant.bound c.in_err-main_unit.field-0.0
    c.main_step.new.locals c.main_step.new.locals c.main_step.new.world c.main_unit.new.world (g.S.Sink.written c.main_step.new.out) (g.S.Sink.written c.main_step.new.out) le
    (c.in_err-main_unit.ensures.tells (g.S.Sink.written c.main_step.new.out))))
