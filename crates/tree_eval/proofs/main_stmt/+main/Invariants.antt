use Rattle.std.proofs.Common.{◌≤◌, ℕ, ◌+◌, suc, drop}
use Rattle.csl_meaning.specs.Value as spec
use Rattle.csl_meaning.specs.Effect as effects
use Rattle.csl_meaning.specs.Effect.{calls_to, most_levels}
use Rattle.csl_meaning.specs.Meaning.{in_main}
use Rattle.std.specs.Option.{option_copied}
use Rattle.statement_eval.specs.Lists.{chosen, last_block}
use Rattle.tree_eval.specs.Told.{Told}
use Rattle.tree_eval.specs.Worlds.{IsMain}
use Rattle.statement_eval.proofs.Sizes.{form_weight, body_weight, expr_weight, arms_list_weight, last_body_weight, step_weight}
use Rattle.tree_eval.proofs.main_stmt.+main.Given as goal

abbrev pub decreases-main_statement : goal.decreases-main_statement
decreases-main_statement g l = suc (form_weight l.s.now.form)

abbrev pub decreases-main_statements : goal.decreases-main_statements
decreases-main_statements g l = suc (body_weight l.all.now)

abbrev pub decreases-main_choose : goal.decreases-main_choose
decreases-main_choose g l = suc (suc (arms_list_weight l.arms.now + last_body_weight l.last.now))

abbrev pub decreases-main_block : goal.decreases-main_block
decreases-main_block g l = suc (suc (body_weight l.body.now))

abbrev pub decreases-main_turns : goal.decreases-main_turns
decreases-main_turns g l = suc (suc (suc (expr_weight l.test.now + (body_weight l.body.now + step_weight (option_copied l.next)))))

abbrev pub decreases-main_step : goal.decreases-main_step
decreases-main_step g l = suc (suc (step_weight (option_copied l.next)))

-- what was told so far, and then what the rest tells
abbrev pub invariant-main_statements-loop-s : goal.invariant-main_statements-loop-s
invariant-main_statements-loop-s g l = record {
  told : Told
      (effects.statements l.fn.p (calls_to l.fn.p most_levels) (in_main l.fn.p l.fn.fuel) l.fn.all l.fn.locals l.fn.world)
      (effects.statements l.p (calls_to l.p most_levels) (in_main l.p l.fuel) (drop l.s-index l.all) l.locals l.world)
      (g.S.Sink.written l.fn.out) (g.S.Sink.written l.out);
  later : g.S.Sink.faults l.fn.out ≤ g.S.Sink.faults l.out;
  main : IsMain l.world;
  fuel : l.world.fuel ≤ l.fn.world.fuel;
}

-- the arms that are left decide
abbrev pub invariant-main_choose-loop-arm : goal.invariant-main_choose-loop-arm
invariant-main_choose-loop-arm g l = record {
  told : Told
      (chosen l.fn.p (calls_to l.fn.p most_levels) (in_main l.fn.p l.fn.fuel) l.fn.arms (last_block l.fn.p (calls_to l.fn.p most_levels) (in_main l.fn.p l.fn.fuel) l.fn.last) l.fn.locals l.fn.world)
      (chosen l.p (calls_to l.p most_levels) (in_main l.p l.fuel) (drop l.arm-index l.arms) (last_block l.p (calls_to l.p most_levels) (in_main l.p l.fuel) l.last) l.locals l.world)
      (g.S.Sink.written l.fn.out) (g.S.Sink.written l.out);
  later : g.S.Sink.faults l.fn.out ≤ g.S.Sink.faults l.out;
  main : IsMain l.world;
  fuel : l.world.fuel ≤ l.fn.world.fuel;
}

-- the loop is what it is from here on, with at least as many turns as there is fuel
abbrev pub invariant-main_turns-loop-v : goal.invariant-main_turns-loop-v
invariant-main_turns-loop-v g l = record {
  bound : ℕ;
  enough : l.world.fuel ≤ bound;
  told : Told
      (effects.loop (λ inner. spec.value_of l.fn.p (calls_to l.fn.p most_levels) inner l.fn.test)
      (effects.scoped (effects.statements l.fn.p (calls_to l.fn.p most_levels) (in_main l.fn.p l.fn.fuel) l.fn.body))
      (effects.step_of l.fn.p (calls_to l.fn.p most_levels) (in_main l.fn.p l.fn.fuel) (option_copied l.fn.next)) l.fn.locals l.fn.world)
      (effects.turns bound (λ inner. spec.value_of l.p (calls_to l.p most_levels) inner l.test) (effects.scoped (effects.statements l.p (calls_to l.p most_levels) (in_main l.p l.fuel) l.body))
      (effects.step_of l.p (calls_to l.p most_levels) (in_main l.p l.fuel) (option_copied l.next)) l.locals l.world)
      (g.S.Sink.written l.fn.out) (g.S.Sink.written l.out);
  later : g.S.Sink.faults l.fn.out ≤ g.S.Sink.faults l.out;
  main : IsMain l.world;
  fuel : l.world.fuel ≤ l.fn.world.fuel;
}

abbrev pub decreases-main_turns-loop-v : goal.decreases-main_turns-loop-v
decreases-main_turns-loop-v g l = l.world.fuel
