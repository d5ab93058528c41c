-- What a call of a function does, by the number of levels.
use Rattle.std.proofs.Common.{◌≡◌, ℕ, zero, suc, ◌-◌, ◌<◌, refl, sym, ap, ◌∙◌, subst, arith, List, Some, None, Result, Ok, Err, map}
use Rattle.cal_base.specs.declared.ends.Cause.TheVariants.{TooDeep}
use Rattle.csl_tree.specs.declared.program.Program.{Program}
use Rattle.csl_tree.specs.declared.program.Function.{Function}
use Rattle.csl_tree.specs.declared.program.Param.{Param}
use Rattle.csl_tree.specs.declared.program.Stmt.{Stmt}
use Rattle.csl_meaning.specs.Value.{Calls}
use Rattle.cal_base.specs.declared.value.Val.{Val}
use Rattle.csl_meaning.specs.declared.state.World.{World}
use Rattle.csl_meaning.specs.declared.state.Ending.{Ending}
use Rattle.csl_meaning.specs.Locals.{Locals, bound}
use Rattle.csl_meaning.specs.Runs.{Gives, Stops, and_then, pure}
use Rattle.csl_meaning.specs.Effect.{calls_to, run_function, function_named, statements, nowhere, given_back}
use Rattle.statement_eval.specs.declared.halt.Halt.{Halt}
use Rattle.statement_eval.specs.declared.halt.Halt.TheVariants.{Cause, NoMemory}
use Rattle.statement_eval.specs.Follows.{Follows, Goes}

module _ (p : Program) (name : List ℕ) (given : List Val) (w : World) where
  pub too_deep : (levels : ℕ) → levels ≡ 0 → calls_to p levels name given w ≡ Stops TooDeep w
  unfolding calls_to
  too_deep zero e = refl
  too_deep (suc n) e = absurd (omega arith)

  -- one level down
  level_is : (levels : ℕ) → 0 < levels → calls_to p levels name given w ≡ run_function p (calls_to p (levels - 1)) (function_named p.functions name) given w
  unfolding calls_to
  level_is zero some = absurd (omega arith)
  level_is (suc n) some =
      let one : suc n - 1 ≡ n = omega arith in
      ap (λ m. run_function p (calls_to p m) (function_named p.functions name) given w) (sym one)

  pub no_function : (levels : ℕ) → 0 < levels → None ≡ function_named p.functions name → calls_to p levels name given w ≡ Gives None w
  no_function levels some e =
      level_is levels some ∙ ap (λ f. run_function p (calls_to p (levels - 1)) f given w) (sym e)

  body_is : (levels : ℕ) (f : Function) (begun : Locals) → 0 < levels → Some f ≡ function_named p.functions name → begun ≡ bound (map (λ q. q.name.text) f.params) given
      → calls_to p levels name given w ≡ and_then (statements p (calls_to p (levels - 1)) nowhere f.body begun w) (λ went. pure (given_back went.0))
  body_is levels f begun some e b =
      level_is levels some
      ∙ ap (λ g. run_function p (calls_to p (levels - 1)) g given w) (sym e)
      ∙ ap (λ l. and_then (statements p (calls_to p (levels - 1)) nowhere f.body l w) (λ went. pure (given_back went.0))) (sym b)

  pub body_stops : (levels : ℕ) (f : Function) (begun l : Locals) (h : Halt) (w' : World) → 0 < levels → Some f ≡ function_named p.functions name
      → begun ≡ bound (map (λ q. q.name.text) f.params) given
      → Goes (statements p (calls_to p (levels - 1)) nowhere f.body begun w) (Err h) l w' → Follows (calls_to p levels name given w) (Err h) w'
  body_stops levels f begun l NoMemory w' some e b goes = tt
  body_stops levels f begun l (Cause c) w' some e b goes =
      body_is levels f begun some e b ∙ ap (λ o. and_then o (λ went. pure (given_back went.0))) goes

  pub body_gives : (levels : ℕ) (f : Function) (begun l : Locals) (e : Ending) (w' : World) → 0 < levels → Some f ≡ function_named p.functions name
      → begun ≡ bound (map (λ q. q.name.text) f.params) given
      → Goes (statements p (calls_to p (levels - 1)) nowhere f.body begun w) (Ok e) l w' → calls_to p levels name given w ≡ Gives (given_back e) w'
  body_gives levels f begun l e w' some is b goes =
      body_is levels f begun some is b ∙ ap (λ o. and_then o (λ went. pure (given_back went.0))) goes

-- ---- what the code looked up

pub found : (all list : List Function) (name : List ℕ) (f : Function) → all ≡ list → Some f ≡ function_named all name → Some f ≡ function_named list name
found all list name f same e = subst (λ (l : List Function). Some f ≡ function_named l name) same e

pub found_none : (all list : List Function) (name : List ℕ) → all ≡ list → None ≡ function_named all name → None ≡ function_named list name
found_none all list name same e = subst (λ (l : List Function). None ≡ function_named l name) same e

pub begun : (params list : List Param) (locals : Locals) (given : List Val) → params ≡ list → locals ≡ bound (map (λ q. q.name.text) params) given → locals ≡ bound (map (λ q. q.name.text) list) given
begun params list locals given same e = subst (λ (l : List Param). locals ≡ bound (map (λ q. q.name.text) l) given) same e

pub run_on : (p : Program) (calls : Calls) (body list : List Stmt) (before after : Locals) (w w' : World) (r : Result Ending Halt) → body ≡ list
    → Goes (statements p calls nowhere body before w) r after w' → Goes (statements p calls nowhere list before w) r after w'
run_on p calls body list before after w w' r same g = subst (λ (l : List Stmt). Goes (statements p calls nowhere l before w) r after w') same g
