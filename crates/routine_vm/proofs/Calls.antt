-- Calls of functions.
use Rattle.std.proofs.Common.{◌≡◌, ℕ, zero, suc, ◌≤◌, ◌==◌, Bool, true, false, cond, List, [], ◌∷◌, length, take, drop, reverse, map, Option, Some, None, refl, ap, ◌∙◌, arith}
use Rattle.std.specs.Prelude.{IsSome, slice_get}
use Rattle.std.proofs.lemmas.List.{length-map, length-reverse, length-take-le}
use Rattle.std.proofs.lemmas.Option.{get_or_from_slice_get}
use Rattle.cal_base.specs.declared.ends.Cause.TheVariants.{TooDeep}
use Rattle.cal_base.specs.declared.value.Val.{Val}
use Rattle.cal_base.specs.declared.value.Store.{Store}
use Rattle.bytecode.specs.declared.instr.Instr.TheVariants as i
use Rattle.bytecode.specs.declared.module.Code.{Code}
use Rattle.bytecode.specs.declared.module.Module.{Module}
use Rattle.cal_terms.specs.declared.types.Ty.{Ty}
use Rattle.code_verify.specs.Kinds.{same_kind}
use Rattle.code_verify.specs.Rules.{HasShape}
use Rattle.machine_meaning.specs.Machine.{◌>>=◌, kind_of, split, State, On, Traps, calls, spends, enters, begun, on_with, most_callers}
use Rattle.routine_vm.specs.declared.frame.Body.TheVariants.{Function}
use Rattle.routine_vm.specs.declared.frame.Frame.{Frame}
use Rattle.routine_vm.specs.declared.run.Run.{Run}
use Rattle.routine_vm.specs.declared.run.Led.{Led}
use Rattle.routine_vm.specs.States.{code_of, call_of, state_of}
use Rattle.routine_vm.specs.Steps.{Steps, Enters, Calls}
use Rattle.routine_vm.proofs.There.{bind_there}

abbrev with_first : Val → Option (List Val × List Val) → Option (List Val × List Val)
with_first v o = o >>= (λ parts. Some (v ∷ parts.0, parts.1))

split_long : (ks : List Ty) (vs : List Val) → IsSome (split ks vs) → length ks ≤ length vs
split_long [] vs h = omega arith
split_long (k ∷ ks) [] h = absurd cc
split_long (k ∷ ks) (v ∷ vs) h = told (same_kind k (kind_of v)) (λ there. split_long ks vs there) h
  where
    told : (b : Bool) → (IsSome (split ks vs) → length ks ≤ length vs) → IsSome (cond b (with_first v (split ks vs)) None) → suc (length ks) ≤ suc (length vs)
    told true more h = let le = more (bind_there (split ks vs) _ h) in omega (arith, le)
    told false more h = absurd cc

split_found : (ks : List Ty) (vs : List Val) → IsSome (split ks vs) → split ks vs ≡ Some (take (length ks) vs, drop (length ks) vs)
split_found [] vs h = refl
split_found (k ∷ ks) [] h = absurd cc
split_found (k ∷ ks) (v ∷ vs) h = told (same_kind k (kind_of v)) (λ there. split_found ks vs there) h
  where
    told : (b : Bool) → (IsSome (split ks vs) → split ks vs ≡ Some (take (length ks) vs, drop (length ks) vs)) → IsSome (cond b (with_first v (split ks vs)) None)
        → cond b (with_first v (split ks vs)) None ≡ Some (v ∷ take (length ks) vs, drop (length ks) vs)
    told true more h = ap (with_first v) (more (bind_there (split ks vs) _ h))
    told false more h = absurd cc

kinds_long : (f : Code) → HasShape f → length (reverse (take f.params f.locals)) ≡ f.params
kinds_long f shape = length-reverse (take f.params f.locals) ∙ length-take-le f.params f.locals shape.has_params

-- a function that can be called finds its arguments
pub arguments_there : (f : Code) (s : State) → HasShape f → IsSome (calls (Some f) s) → f.params ≤ length s.call.operands
arguments_there f s shape h =
    let le = split_long (reverse (take f.params f.locals)) s.call.operands (bind_there (split (reverse (take f.params f.locals)) s.call.operands) _ h) in
    let long = kinds_long f shape in
    omega (arith, le, long)

module _ (m : Module) (n : ℕ) (f : Code) (found : slice_get m.functions n ≡ Some f) (shape : HasShape f) (store : Store) where
  code_is : code_of m (Function n) ≡ f
  code_is = get_or_from_slice_get m.functions n f m.main found

  module _ (call : Frame) (waiting : List Frame) where
    abbrev run_of : ℕ → Run
    run_of fuel = record { call = call; waiting = waiting; fuel = fuel }

    abbrev more_of : ℕ → State
    more_of fuel = on_with (state_of m (run_of fuel) store) (drop f.params call.operands)

    entered : (fuel left : ℕ) (to : Led) (later : Run) (b : Bool) → Enters n f (run_of fuel) to later left b
        → Steps (i.Call n) (Some (cond b (Traps TooDeep store left) (On (record (more_of fuel)
        { call = begun f (reverse (take f.params call.operands)); callers = (more_of fuel).call ∷ map (call_of m) waiting; fuel = left })))) (state_of m (run_of fuel) store) to
        (state_of m later store)
    entered fuel left to later true h = rw (h.0, h.1) refl
    entered fuel left to later false h = rw (h.0, h.1, code_is) refl

    -- the call as it is made
    called : (fuel : ℕ) (to : Led) (later : Run) → Calls n f (run_of fuel) to later
        → Steps (i.Call n) (Some (spends (more_of fuel) fuel (enters f (reverse (take f.params call.operands))))) (state_of m (run_of fuel) store) to (state_of m later store)
    called zero to later h = rw (h.0, h.1) refl
    called (suc left) to later h = rw (length-map waiting (call_of m)) (entered (suc left) left to later (length waiting == most_callers) h)

  -- the step of the call
  pub call_steps : (run later : Run) (to : Led) → IsSome (calls (Some f) (state_of m run store)) → Calls n f run to later
      → Steps (i.Call n) (calls (Some f) (state_of m run store)) (state_of m run store) to (state_of m later store)
  call_steps run later to there h =
      let parts = split_found (reverse (take f.params f.locals)) run.call.operands (bind_there (split (reverse (take f.params f.locals)) run.call.operands) _ there) in
      rw (parts, kinds_long f shape) (called run.call run.waiting run.fuel to later h)
