-- What a program without faults gives of its functions, its routines and its limits.
use Rattle.std.proofs.Common.{◌≡◌, ℕ, ◌<◌, ◌≤◌, ◌⊎◌, inl, inr, Bool, true, false, not, ◌&&◌, length, get_or, slice_get, List, [], ◌∷◌, ◌++◌, map, Some, None, refl, sym, ap, ◌∙◌}
use Rattle.std.proofs.lemmas.Option.{slice_get_cases}
use Rattle.std.proofs.lemmas.List.{length-map}
use Rattle.csl_tree.specs.declared.program.Program.{Program}
use Rattle.csl_tree.specs.declared.program.Function.{Function}
use Rattle.csl_tree.specs.declared.program.Form.TheVariants as form
use Rattle.cal_terms.specs.declared.types.Ty.TheVariants as ty
use Rattle.type_check.specs.declared.names.Declaration.TheVariants.{Local}
use Rattle.csl_tree.specs.declared.program.RoutineBlock.{RoutineBlock, out-RoutineBlock}
use Rattle.type_check.specs.declared.fault.CheckKind.{CheckKind}
use Rattle.type_check.specs.declared.fault.CheckKind.TheVariants.{NoReturn, Limit}
use Rattle.type_check.specs.declared.body.Body.{Body}
use Rattle.type_check.specs.declared.body.Body.TheVariants as body
use Rattle.type_check.specs.declared.names.Typed.TheVariants as typed
use Rattle.type_check.specs.Listed.{fault, fault_if, beyond, beyond_of}
use Rattle.type_check.specs.Names.{Names, taken, declare}
use Rattle.type_check.specs.Expressions.{value_faults}
use Rattle.type_check.specs.Bodies.{locals_in, ends}
use Rattle.type_check.specs.Statements.{body_of, too_many_locals}
use Rattle.type_check.specs.Lists.{statements_of, locals_of, routine_names, routine_of}
use Rattle.type_check.specs.Faults.{IsAccepted, most_functions, most_params, shared_faults, word_faults, with_shared, param_faults, with_params, body_faults, with_own, gives_value, inside_faults}
use Rattle.type_check.specs.Faults.{with_function, all_function_faults, global_names, main_faults}
use Rattle.type_check.proofs.CleanLemmas.{none_in_first, none_in_second, none_if, accepted_none}

some-fault : (kind : CheckKind) (at : ℕ) → fault kind at ≡ [] → ⊥
some-fault kind at e = cc

-- where none stands beyond a limit, there are no more than the limit
pub within : (n : ℕ) (positions : List ℕ) → beyond n positions ≡ [] → length positions ≤ n
within n positions e = by (slice_get_cases positions n).1
  where
    by : ((x : ℕ) × (n < length positions) × (slice_get positions n ≡ Some x) × (get_or positions n x ≡ x)) ⊎ ((length positions ≤ n) × (slice_get positions n ≡ None)) → length positions ≤ n
    by (inl (x, more, is, got)) = absurd (some-fault Limit x (sym (ap beyond_of is) ∙ e))
    by (inr (few, is)) = few

module _ (p : Program) (accepted : IsAccepted p) where
  before-main : shared_faults [] p.shared ++ word_faults 0 p.shared ++ all_function_faults (with_shared [] p.shared) p.functions ++ beyond most_functions (map (λ f. f.name.at) p.functions) ≡ []
  before-main = none_in_first (shared_faults [] p.shared ++ word_faults 0 p.shared ++ all_function_faults (with_shared [] p.shared) p.functions
      ++ beyond most_functions (map (λ f. f.name.at) p.functions)) (main_faults (global_names p) p.main) (accepted_none p accepted)

  -- no fault stands in a function of an accepted program
  pub accepted-functions : all_function_faults (with_shared [] p.shared) p.functions ≡ []
  accepted-functions =
      none_in_second (shared_faults [] p.shared ++ word_faults 0 p.shared) (all_function_faults (with_shared [] p.shared) p.functions)
      (none_in_first (shared_faults [] p.shared ++ word_faults 0 p.shared ++ all_function_faults (with_shared [] p.shared) p.functions) (beyond most_functions (map (λ f. f.name.at) p.functions))
      before-main)

  -- it has 256 functions at most
  pub accepted-count : length p.functions ≤ most_functions
  accepted-count =
      let few = within most_functions (map (λ f. f.name.at) p.functions)
      (none_in_second (shared_faults [] p.shared ++ word_faults 0 p.shared ++ all_function_faults (with_shared [] p.shared) p.functions) (beyond most_functions (map (λ f. f.name.at) p.functions))
      before-main) in
      rw (← length-map p.functions (λ f. f.name.at)) few

module _ (globals : Names) (f : Function) (rest : List Function) (none : all_function_faults globals (f ∷ rest) ≡ []) where
  -- nor in the first of functions without faults
  pub first-function : inside_faults (with_own globals f) f ≡ []
  first-function =
      none_in_second (taken globals f.name) (inside_faults (with_own globals f) f)
      (none_in_first (taken globals f.name ++ inside_faults (with_own globals f) f) (all_function_faults (with_function globals f) rest) none)

  -- nor in those behind it
  pub other-functions : all_function_faults (with_function globals f) rest ≡ []
  other-functions = none_in_second (taken globals f.name ++ inside_faults (with_own globals f) f) (all_function_faults (with_function globals f) rest) none

module _ (names : Names) (f : Function) (none : inside_faults names f ≡ []) where
  -- nor in the body of a function without faults
  pub function-body : body_faults names (body.Function f.gives) (with_params names f.params) f.body ≡ []
  function-body =
      none_in_second (param_faults names f.params ++ beyond most_params (map (λ q. q.name.at) f.params)) (body_faults names (body.Function f.gives) (with_params names f.params) f.body)
      (none_in_first (param_faults names f.params ++ beyond most_params (map (λ q. q.name.at) f.params) ++ body_faults names (body.Function f.gives) (with_params names f.params) f.body)
      (too_many_locals (map (λ q. q.name) f.params ++ locals_in (form.Block f.body)))
      (none_in_first (param_faults names f.params ++ beyond most_params (map (λ q. q.name.at) f.params) ++ body_faults names (body.Function f.gives) (with_params names f.params) f.body
      ++ too_many_locals (map (λ q. q.name) f.params ++ locals_in (form.Block f.body))) (fault_if (gives_value f.gives && not (ends (form.Block f.body))) NoReturn f.name.at) none))

  -- it has 8 parameters at most
  pub function-params : length f.params ≤ most_params
  function-params =
      let few = within most_params (map (λ q. q.name.at) f.params)
      (none_in_second (param_faults names f.params) (beyond most_params (map (λ q. q.name.at) f.params))
      (none_in_first (param_faults names f.params ++ beyond most_params (map (λ q. q.name.at) f.params)) (body_faults names (body.Function f.gives) (with_params names f.params) f.body)
      (none_in_first (param_faults names f.params ++ beyond most_params (map (λ q. q.name.at) f.params) ++ body_faults names (body.Function f.gives) (with_params names f.params) f.body)
      (too_many_locals (map (λ q. q.name) f.params ++ locals_in (form.Block f.body)))
      (none_in_first (param_faults names f.params ++ beyond most_params (map (λ q. q.name.at) f.params) ++ body_faults names (body.Function f.gives) (with_params names f.params) f.body
      ++ too_many_locals (map (λ q. q.name) f.params ++ locals_in (form.Block f.body))) (fault_if (gives_value f.gives && not (ends (form.Block f.body))) NoReturn f.name.at) none)))) in
      rw (← length-map f.params (λ q. q.name.at)) few

  -- and its body ends where it has a result
  pub function-ends : gives_value f.gives ≡ true → ends (form.Block f.body) ≡ true
  function-ends has =
      by (gives_value f.gives) (ends (form.Block f.body)) has
      (none_if (gives_value f.gives && not (ends (form.Block f.body))) NoReturn f.name.at
      (none_in_second (param_faults names f.params ++ beyond most_params (map (λ q. q.name.at) f.params) ++ body_faults names (body.Function f.gives) (with_params names f.params) f.body
      ++ too_many_locals (map (λ q. q.name) f.params ++ locals_in (form.Block f.body))) (fault_if (gives_value f.gives && not (ends (form.Block f.body))) NoReturn f.name.at) none))
    where
      by : (gives ended : Bool) → gives ≡ true → gives && not ended ≡ false → ended ≡ true
      by true true has e = refl
      by true false has e = cc
      by false ended has e = cc

module _ (globals : Names) (here : Body) (names : Names) (b : RoutineBlock) (none : routine_of globals here names b ≡ []) where
  -- nor in the width of a routine without faults
  pub routine-width : value_faults here names typed.Int (out-RoutineBlock b).width ≡ []
  routine-width =
      none_in_first (value_faults here names typed.Int (out-RoutineBlock b).width) (taken globals (out-RoutineBlock b).width_name)
      (none_in_first (value_faults here names typed.Int (out-RoutineBlock b).width ++ taken globals (out-RoutineBlock b).width_name)
      (taken (declare globals (out-RoutineBlock b).width_name (Local ty.Int)) (out-RoutineBlock b).id_name)
      (none_in_first (value_faults here names typed.Int (out-RoutineBlock b).width ++ taken globals (out-RoutineBlock b).width_name
      ++ taken (declare globals (out-RoutineBlock b).width_name (Local ty.Int)) (out-RoutineBlock b).id_name)
      (statements_of globals (body_of body.Routine) (routine_names globals (out-RoutineBlock b).width_name (out-RoutineBlock b).id_name) (out-RoutineBlock b).body)
      (none_in_first (value_faults here names typed.Int (out-RoutineBlock b).width ++ taken globals (out-RoutineBlock b).width_name
      ++ taken (declare globals (out-RoutineBlock b).width_name (Local ty.Int)) (out-RoutineBlock b).id_name
      ++ statements_of globals (body_of body.Routine) (routine_names globals (out-RoutineBlock b).width_name (out-RoutineBlock b).id_name) (out-RoutineBlock b).body)
      (too_many_locals ((out-RoutineBlock b).width_name ∷ (out-RoutineBlock b).id_name ∷ locals_of (out-RoutineBlock b).body)) none)))

  -- nor in its body
  pub routine-body : statements_of globals (body_of body.Routine) (routine_names globals (out-RoutineBlock b).width_name (out-RoutineBlock b).id_name) (out-RoutineBlock b).body ≡ []
  routine-body =
      none_in_second (value_faults here names typed.Int (out-RoutineBlock b).width ++ taken globals (out-RoutineBlock b).width_name
      ++ taken (declare globals (out-RoutineBlock b).width_name (Local ty.Int)) (out-RoutineBlock b).id_name)
      (statements_of globals (body_of body.Routine) (routine_names globals (out-RoutineBlock b).width_name (out-RoutineBlock b).id_name) (out-RoutineBlock b).body)
      (none_in_first (value_faults here names typed.Int (out-RoutineBlock b).width ++ taken globals (out-RoutineBlock b).width_name
      ++ taken (declare globals (out-RoutineBlock b).width_name (Local ty.Int)) (out-RoutineBlock b).id_name
      ++ statements_of globals (body_of body.Routine) (routine_names globals (out-RoutineBlock b).width_name (out-RoutineBlock b).id_name) (out-RoutineBlock b).body)
      (too_many_locals ((out-RoutineBlock b).width_name ∷ (out-RoutineBlock b).id_name ∷ locals_of (out-RoutineBlock b).body)) none)
