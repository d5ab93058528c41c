use Rattle.std.proofs.Common.{◌≡◌, ◌≤◌, ℕ, ◌+◌, suc, drop, ◌++◌}
use Rattle.csl_meaning.specs.Value as spec
use Rattle.csl_meaning.specs.Effect as effects
use Rattle.csl_meaning.specs.Runs.{◌>>=◌, pure}
use Rattle.std.specs.Option.{option_copied}
use Rattle.statement_eval.specs.Lists.{values_of, chosen, last_block}
use Rattle.statement_eval.specs.Follows.{stays}
use Rattle.statement_eval.proofs.Sizes.{measure, form_weight, body_weight, expr_weight, arms_list_weight, last_body_weight, step_weight, node_weight, place_weight, call_weight, values_weight}
use Rattle.statement_eval.proofs.stmt.+eval.Given as goal

abbrev pub decreases-value : goal.decreases-value
decreases-value l = measure l.p.now l.levels (suc (node_weight l.e.now.node))

abbrev pub decreases-read : goal.decreases-read
decreases-read l = measure l.p.now l.levels (suc (place_weight l.place.now))

abbrev pub decreases-call_of : goal.decreases-call_of
decreases-call_of l = measure l.p.now l.levels (suc (call_weight l.call.now))

abbrev pub decreases-values : goal.decreases-values
decreases-values l = measure l.p.now l.levels (suc (values_weight l.all.now))

abbrev pub decreases-run_call : goal.decreases-run_call
decreases-run_call l = measure l.p.now l.levels 0

abbrev pub decreases-statement : goal.decreases-statement
decreases-statement l = measure l.p.now l.levels (suc (form_weight l.s.now.form))

abbrev pub decreases-statements : goal.decreases-statements
decreases-statements l = measure l.p.now l.levels (suc (body_weight l.all.now))

-- what the rest does is what the whole does
abbrev pub invariant-statements-loop-s : goal.invariant-statements-loop-s
invariant-statements-loop-s l =
    (effects.statements l.p (effects.calls_to l.p l.levels) effects.nowhere (drop l.s-index l.all) l.locals l.world
    ≡ effects.statements l.fn.p (effects.calls_to l.fn.p l.fn.levels) effects.nowhere l.fn.all l.fn.locals l.fn.world)
    × ((l.world.fuel ≤ l.fn.world.fuel) × (stays l.world ≡ stays l.fn.world))

-- what is given so far, and the values of the rest
abbrev pub invariant-values-loop-e : goal.invariant-values-loop-e
invariant-values-loop-e l =
    ((values_of l.p (effects.calls_to l.p l.levels) l.locals (drop l.e-index l.all) >>= (λ vs. pure (l.given ++ vs))) l.world
    ≡ (values_of l.fn.p (effects.calls_to l.fn.p l.fn.levels) l.fn.locals l.fn.all >>= (λ vs. pure (l.fn.given ++ vs))) l.fn.world)
    × ((l.world.fuel ≤ l.fn.world.fuel) × (stays l.world ≡ stays l.fn.world))

abbrev pub decreases-choose : goal.decreases-choose
decreases-choose l = measure l.p.now l.levels (suc (suc (arms_list_weight l.arms.now + last_body_weight l.last.now)))

abbrev pub decreases-block : goal.decreases-block
decreases-block l = measure l.p.now l.levels (suc (suc (body_weight l.body.now)))

abbrev pub decreases-turns : goal.decreases-turns
decreases-turns l = measure l.p.now l.levels (suc (suc (suc (expr_weight l.test.now + (body_weight l.body.now + step_weight (option_copied l.next))))))

abbrev pub decreases-step : goal.decreases-step
decreases-step l = measure l.p.now l.levels (suc (suc (step_weight (option_copied l.next))))

-- the arms that are left decide
abbrev pub invariant-choose-loop-arm : goal.invariant-choose-loop-arm
invariant-choose-loop-arm l =
    (chosen l.p (effects.calls_to l.p l.levels) effects.nowhere (drop l.arm-index l.arms) (last_block l.p (effects.calls_to l.p l.levels) effects.nowhere l.last) l.locals l.world
    ≡ chosen l.fn.p (effects.calls_to l.fn.p l.fn.levels) effects.nowhere l.fn.arms (last_block l.fn.p (effects.calls_to l.fn.p l.fn.levels) effects.nowhere l.fn.last) l.fn.locals l.fn.world)
    × ((l.world.fuel ≤ l.fn.world.fuel) × (stays l.world ≡ stays l.fn.world))

-- the loop is what it is from here on, with at least as many turns as there is fuel
abbrev pub invariant-turns-loop-v : goal.invariant-turns-loop-v
invariant-turns-loop-v l =
    ((n : ℕ) × ((l.world.fuel ≤ n)
    × (effects.turns n (λ inner. spec.value_of l.p (effects.calls_to l.p l.levels) inner l.test) (effects.scoped (effects.statements l.p (effects.calls_to l.p l.levels) effects.nowhere l.body))
    (effects.step_of l.p (effects.calls_to l.p l.levels) effects.nowhere (option_copied l.next)) l.locals l.world
    ≡ effects.loop (λ inner. spec.value_of l.fn.p (effects.calls_to l.fn.p l.fn.levels) inner l.fn.test)
    (effects.scoped (effects.statements l.fn.p (effects.calls_to l.fn.p l.fn.levels) effects.nowhere l.fn.body))
    (effects.step_of l.fn.p (effects.calls_to l.fn.p l.fn.levels) effects.nowhere (option_copied l.fn.next)) l.fn.locals l.fn.world)))
    × ((l.world.fuel ≤ l.fn.world.fuel) × (stays l.world ≡ stays l.fn.world))

abbrev pub decreases-turns-loop-v : goal.decreases-turns-loop-v
decreases-turns-loop-v l = l.world.fuel

abbrev pub decreases-change : goal.decreases-change
decreases-change l = measure l.p.now l.levels (suc (suc (place_weight l.place.now + expr_weight l.e.now)))
