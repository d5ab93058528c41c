-- The bodies of an accepted program fit: those of its functions and of its routine blocks, and main. And they keep the limits.
use Rattle.std.proofs.Common.{◌≡◌, ℕ, ◌+◌, ◌≤◌, Bool, true, false, if◌then◌else◌, List, [], ◌∷◌, ◌++◌, map, length, Some, refl, subst, arith, length-append}
use Rattle.std.specs.Prelude.{not, ◌&&◌, slice_get}
use Rattle.std.specs.Str.{bytes_eq}
use Rattle.std.specs.Map.{lookup}
use Rattle.std.specs.List.{AllByRecursion}
use Rattle.std.proofs.lemmas.List.{length-map}
use Rattle.csl_tree.specs.declared.name.Name.{Name}
use Rattle.csl_tree.specs.declared.program.Program.{Program}
use Rattle.csl_tree.specs.declared.program.Function.{Function}
use Rattle.cal_terms.specs.declared.types.Ty.TheVariants as type
use Rattle.csl_tree.specs.declared.program.Arm.{Arm'}
use Rattle.csl_tree.specs.declared.program.RoutineBlock.{RoutineBlock, RoutineBlock'}
use Rattle.csl_tree.specs.declared.program.Form.{Form, Declare, Set, AddTo, If', While', For', Break, Continue, Return, CallOf, Assert, Block', Print, Par', Row_of-Arm, end_of-Arm, more_of-Arm}
use Rattle.csl_tree.specs.declared.program.Form.{Row_of-Stmt, end_of-Stmt, more_of-Stmt, Held-Form-If-1, Row_of-RoutineBlock, end_of-RoutineBlock, more_of-RoutineBlock}
use Rattle.csl_tree.specs.declared.program.Form as form
use Rattle.csl_tree.specs.declared.program.Form.TheVariants as variant
use Rattle.csl_meaning.specs.Layout.{Text}
use Rattle.csl_meaning.specs.Effect.{blocks_in}
use Rattle.type_check.specs.declared.fault.CheckKind.TheVariants.{OnlyInMain, NoReturn}
use Rattle.type_check.specs.declared.body.Body.{Body}
use Rattle.type_check.specs.declared.body.Body.TheVariants as body
use Rattle.type_check.specs.declared.body.Here.{Here}
use Rattle.type_check.specs.declared.names.Declaration.TheVariants as declared
use Rattle.type_check.specs.declared.names.Typed.TheVariants as typed
use Rattle.type_check.specs.Listed.{fault, fault_if, beyond}
use Rattle.type_check.specs.Names.{Names, taken, declare}
use Rattle.type_check.specs.Expressions.{value_faults}
use Rattle.type_check.specs.Bodies.{locals_in, locals_in_row, locals_in_arms, locals_in_last, ends, after, after_row}
use Rattle.type_check.specs.Statements.{in_loop, body_of, is_main, too_many_locals, most_locals, most_blocks, blocks_at, faults, row_faults, arm_faults, last_faults, block_faults}
use Rattle.type_check.specs.Faults.{IsAccepted, most_functions, most_params, shared_faults, word_faults, with_shared, with_params, param_faults, body_faults, gives_value, inside_faults}
use Rattle.type_check.specs.Faults.{all_function_faults, global_names, main_faults}
use Rattle.type_check.proofs.CleanLemmas.{none_in_first, none_in_second, accepted_none, accepted_main}
use Rattle.type_check.proofs.Facts.{within, function-body, function-params}
use Rattle.bytecode.specs.declared.instr.Instr.{Instr}
use Rattle.cal_terms.specs.declared.types.Ty.{Ty}
use Rattle.bytecode.specs.declared.module.Code.{Code}
use Rattle.compiled_code.specs.Slots.{with_slot, kind_of}
use Rattle.compiled_code.specs.Sizes.{kinds_in, kinds_in_row, kinds_in_arms, kinds_in_last, steps_in, steps_in_row, steps_in_arms, steps_in_last}
use Rattle.compiled_code.specs.Modules.{beginning, function_code, routine_slots, block_code, main_code, module_of}
use Rattle.compiled_code.specs.Modules as code
use Rattle.compiled_code.specs.Shape.{FormIs, RoutineIs}
use Rattle.accepted_code.proofs.Spelled.{FormSpelled, RoutineSpelled}
use Rattle.accepted_code.proofs.Permits.{Permits}
use Rattle.accepted_code.proofs.Fits.{FormFits, RowFits}
use Rattle.accepted_code.proofs.Agrees.{Means}
use Rattle.accepted_code.proofs.Lists.{all_both, all_at}
use Rattle.accepted_code.proofs.Naming.{Stand, stands_behind, stands_still, agrees_local}
use Rattle.accepted_code.proofs.TypedForms.{form_fits, row_fits}
use Rattle.accepted_code.proofs.Named.{params_agree, inside_function, globals_agree}

-- ---- as many kinds as locals

two : (a b : List Name) (k l : List Ty) → length a ≡ length k → length b ≡ length l → length (a ++ b) ≡ length (k ++ l)
two a b k l e f =
    let x = length-append a b in
    let y = length-append k l in
    omega (arith, e, f, x, y)

mutual
  -- a statement declares as many kinds as locals
  pub as_many : (f : Form) → length (locals_in f) ≡ length (kinds_in f)
  as_many (Declare t name e) = refl
  as_many (Set place e) = refl
  as_many (AddTo place e) = refl
  as_many (If' shape arms last) = two (locals_in_arms arms) (locals_in_last last) (kinds_in_arms arms) (kinds_in_last last) (as_many_arms arms) (as_many_last last)
  as_many (While' test shape inner) = as_many_row inner
  as_many (For' shape first test shape' next' shape'' inner) = two (locals_in_row first) (locals_in_row inner) (kinds_in_row first) (kinds_in_row inner) (as_many_row first) (as_many_row inner)
  as_many Break = refl
  as_many Continue = refl
  as_many (Return given) = refl
  as_many (CallOf call) = refl
  as_many (Assert e) = refl
  as_many (Block' shape inner) = as_many_row inner
  as_many (Print items) = refl
  as_many (Par' shape blocks) = refl

  pub as_many_row : {n : _} (row : Row_of-Stmt n) → length (locals_in_row row) ≡ length (kinds_in_row row)
  as_many_row end_of-Stmt = refl
  as_many_row (more_of-Stmt at f rest) = two (locals_in f) (locals_in_row rest) (kinds_in f) (kinds_in_row rest) (as_many f) (as_many_row rest)

  as_many_arms : {n : _} (arms : Row_of-Arm n) → length (locals_in_arms arms) ≡ length (kinds_in_arms arms)
  as_many_arms end_of-Arm = refl
  as_many_arms (more_of-Arm (Arm' test shape inner) rest) = two (locals_in_row inner) (locals_in_arms rest) (kinds_in_row inner) (kinds_in_arms rest) (as_many_row inner) (as_many_arms rest)

  as_many_last : (last : Held-Form-If-1) → length (locals_in_last last) ≡ length (kinds_in_last last)
  as_many_last form.None' = refl
  as_many_last (form.Some' shape inner) = as_many_row inner

-- no more locals than the limit
few_names : (names : List Name) → too_many_locals names ≡ [] → length names ≤ most_locals
few_names names none =
    let short = within most_locals (map (λ name. name.at) names) none in
    let l = length-map names (λ name. name.at) in
    omega (arith, short, l)

-- ---- routine blocks without faults

-- a routine block without faults, but for its width
abbrev pub IsClean : Names → RoutineBlock → Type 0
IsClean globals (RoutineBlock' at width width_name id_name shape statements) =
    (taken globals width_name ≡ [])
    × (taken (declare globals width_name (declared.Local type.Int)) id_name ≡ [])
    × (row_faults globals (body_of body.Routine) (declare (declare globals width_name (declared.Local type.Int)) id_name (declared.Local type.Int)) statements ≡ [])
    × (too_many_locals (width_name ∷ id_name ∷ locals_in_row statements) ≡ [])

module _ (globals : Names) where
  step_clean : {n : _} (b : Body) (names : Names) (blocks : Row_of-RoutineBlock n) → block_faults globals b names blocks ≡ [] → AllByRecursion (IsClean globals) (blocks_in blocks)
  step_clean b names end_of-RoutineBlock h = tt
  step_clean b names (more_of-RoutineBlock (RoutineBlock' at width width_name id_name shape statements) rest) h =
      let inside = declare (declare globals width_name (declared.Local type.Int)) id_name (declared.Local type.Int) in
      let own = value_faults b names typed.Int width in
      let one = taken globals width_name in
      let two = taken (declare globals width_name (declared.Local type.Int)) id_name in
      let three = row_faults globals (body_of body.Routine) inside statements in
      let four = too_many_locals (width_name ∷ id_name ∷ locals_in_row statements) in
      let all_but_rest = none_in_first (own ++ one ++ two ++ three ++ four) (block_faults globals b names rest) h in
      let to_body = none_in_first (own ++ one ++ two ++ three) four all_but_rest in
      let to_names = none_in_first (own ++ one ++ two) three to_body in
      let to_width = none_in_first (own ++ one) two to_names in (
        (none_in_second own one to_width, none_in_second (own ++ one) two to_names, none_in_second (own ++ one ++ two) three to_body, none_in_second (own ++ one ++ two ++ three) four all_but_rest),
        step_clean b names rest (none_in_second (own ++ one ++ two ++ three ++ four) (block_faults globals b names rest) h),
      )

  mutual
    -- each routine block of a statement without faults is without faults
    steps_clean : (here : Here) (names : Names) (at : ℕ) (f : Form) → faults globals here names at f ≡ [] → AllByRecursion (IsClean globals) (steps_in f)
    steps_clean here names at (Declare t name e) h = tt
    steps_clean here names at (Set place e) h = tt
    steps_clean here names at (AddTo place e) h = tt
    steps_clean here names at (If' shape arms last) h =
        all_both (IsClean globals) (steps_in_arms arms) (steps_in_last last)
        (steps_clean_arms here names arms (none_in_first (arm_faults globals here names arms) (last_faults globals here names last) h))
        (steps_clean_last here names last (none_in_second (arm_faults globals here names arms) (last_faults globals here names last) h))
    steps_clean here names at (While' test shape inner) h = steps_clean_row (in_loop here) names inner
        (none_in_second (value_faults here.body names typed.Bool test) (row_faults globals (in_loop here) names inner) h)
    steps_clean here names at (For' shape first test shape' next' shape'' inner) h =
        steps_clean_row (in_loop here) (after_row names first) inner
        (none_in_second (row_faults globals here names first ++ value_faults here.body (after_row names first) typed.Bool test ++ row_faults globals here (after_row names first) next')
        (row_faults globals (in_loop here) (after_row names first) inner) h)
    steps_clean here names at Break h = tt
    steps_clean here names at Continue h = tt
    steps_clean here names at (Return given) h = tt
    steps_clean here names at (CallOf call) h = tt
    steps_clean here names at (Assert e) h = tt
    steps_clean here names at (Block' shape inner) h = steps_clean_row here names inner h
    steps_clean here names at (Print items) h = tt
    steps_clean here names at (Par' shape blocks) h = step_clean here.body names blocks (only_main (is_main here.body) h)
      where
        only_main : (b : Bool) → (if b then (block_faults globals here.body names blocks ++ beyond most_blocks (blocks_at blocks)) else fault OnlyInMain at) ≡ []
            → block_faults globals here.body names blocks ≡ []
        only_main true h' = none_in_first (block_faults globals here.body names blocks) (beyond most_blocks (blocks_at blocks)) h'
        only_main false h' = cc

    steps_clean_row : {n : _} (here : Here) (names : Names) (row : Row_of-Stmt n) → row_faults globals here names row ≡ [] → AllByRecursion (IsClean globals) (steps_in_row row)
    steps_clean_row here names end_of-Stmt h = tt
    steps_clean_row here names (more_of-Stmt at f rest) h =
        all_both (IsClean globals) (steps_in f) (steps_in_row rest)
        (steps_clean here names at f (none_in_first (faults globals here names at f) (row_faults globals here (after names f) rest) h))
        (steps_clean_row here (after names f) rest (none_in_second (faults globals here names at f) (row_faults globals here (after names f) rest) h))

    steps_clean_arms : {n : _} (here : Here) (names : Names) (arms : Row_of-Arm n) → arm_faults globals here names arms ≡ [] → AllByRecursion (IsClean globals) (steps_in_arms arms)
    steps_clean_arms here names end_of-Arm h = tt
    steps_clean_arms here names (more_of-Arm (Arm' test shape inner) rest) h =
        let one = value_faults here.body names typed.Bool test in
        let two = row_faults globals here names inner in
        let three = arm_faults globals here names rest in
        all_both (IsClean globals) (steps_in_row inner) (steps_in_arms rest)
        (steps_clean_row here names inner (none_in_second one two (none_in_first (one ++ two) three h)))
        (steps_clean_arms here names rest (none_in_second (one ++ two) three h))

    steps_clean_last : (here : Here) (names : Names) (last : Held-Form-If-1) → last_faults globals here names last ≡ [] → AllByRecursion (IsClean globals) (steps_in_last last)
    steps_clean_last here names form.None' h = tt
    steps_clean_last here names (form.Some' shape inner) h = steps_clean_row here names inner h

-- ---- the parts of the faults of a function and of main

function_params : (names : Names) (f : Function) → inside_faults names f ≡ [] → param_faults names f.params ≡ []
function_params names f none =
    let one = param_faults names f.params in
    let two = beyond most_params (map (λ q. q.name.at) f.params) in
    let three = body_faults names (body.Function f.gives) (with_params names f.params) f.body in
    let four = too_many_locals (map (λ q. q.name) f.params ++ locals_in (variant.Block f.body)) in
    let five = fault_if (gives_value f.gives && not (ends (variant.Block f.body))) NoReturn f.name.at in
    none_in_first one two (none_in_first (one ++ two) three (none_in_first (one ++ two ++ three) four (none_in_first (one ++ two ++ three ++ four) five none)))

function_few : (names : Names) (f : Function) → inside_faults names f ≡ [] → too_many_locals (map (λ q. q.name) f.params ++ locals_in (variant.Block f.body)) ≡ []
function_few names f none =
    let one = param_faults names f.params in
    let two = beyond most_params (map (λ q. q.name.at) f.params) in
    let three = body_faults names (body.Function f.gives) (with_params names f.params) f.body in
    let four = too_many_locals (map (λ q. q.name) f.params ++ locals_in (variant.Block f.body)) in
    let five = fault_if (gives_value f.gives && not (ends (variant.Block f.body))) NoReturn f.name.at in
    none_in_second (one ++ two ++ three) four (none_in_first (one ++ two ++ three ++ four) five none)

main_few : (p : Program) → IsAccepted p → too_many_locals (locals_in (variant.Block p.main)) ≡ []
main_few p accepted =
    none_in_second (body_faults (global_names p) body.Main (global_names p) p.main) (too_many_locals (locals_in (variant.Block p.main)))
    (none_in_second (shared_faults [] p.shared ++ word_faults 0 p.shared ++ all_function_faults (with_shared [] p.shared) p.functions ++ beyond most_functions (map (λ f. f.name.at) p.functions))
    (main_faults (global_names p) p.main) (accepted_none p accepted))

-- ---- the limits

-- main has 64 locals at most
pub main_locals : (p : Program) → IsAccepted p → length (main_code p).locals ≤ 64
main_locals p accepted =
    let few = few_names (locals_in (variant.Block p.main)) (main_few p accepted) in
    let same = as_many (variant.Block p.main) in
    omega (arith, few, same)

-- each routine block of main is without faults
clean_at : (p : Program) → IsAccepted p → (n : ℕ) (b : RoutineBlock) → slice_get (steps_in (variant.Block p.main)) n ≡ Some b → IsClean (global_names p) b
clean_at p accepted n b e = all_at (IsClean (global_names p)) (steps_in (variant.Block p.main)) n b
    (steps_clean (global_names p) (body_of body.Main) (global_names p) 0 (variant.Block p.main) (accepted_main p accepted)) e

-- and has 64 locals at most
pub block_locals : (p : Program) → IsAccepted p → (n : ℕ) (b : RoutineBlock) → slice_get (steps_in (variant.Block p.main)) n ≡ Some b → length (block_code p b).locals ≤ 64
block_locals p accepted n b e = by b (clean_at p accepted n b e)
  where
    by : (b : RoutineBlock) → IsClean (global_names p) b → length (block_code p b).locals ≤ 64
    by (RoutineBlock' at width width_name id_name shape statements) clean =
        let few = few_names (width_name ∷ id_name ∷ locals_in_row statements) clean.3 in
        let same = as_many_row statements in
        omega (arith, few, same)

-- what the body of a routine block is to fit
abbrev pub BlockFits : (Instr → Type 0) → Program → RoutineBlock → Type 0
BlockFits Ok p (RoutineBlock' at width width_name id_name shape statements) =
    RowFits (module_of p) (block_code p (RoutineBlock' at width width_name id_name shape statements)) Ok p (routine_slots width_name.text id_name.text) (beginning 2) statements

no_room : {A : Type 0} → false ≡ true → A
no_room e = absurd cc

module _ (p : Program) (accepted : IsAccepted p) (shared : (name : Text) (c : Code) (visible : ℕ) → Means p (module_of p) c visible [] name (lookup (bytes_eq name) (with_shared [] p.shared))) where
  -- a function has 64 locals at most
  pub function_locals : (k : ℕ) (f : Function) → slice_get p.functions k ≡ Some f → length (function_code p f).locals ≤ 64
  function_locals k f e =
      let inside = inside_function p accepted shared k f e in
      let few = few_names (map (λ q. q.name) f.params ++ locals_in (variant.Block f.body)) (function_few inside.names f inside.clean) in
      let same = as_many (variant.Block f.body) in
      let x = length-append (map (λ q. q.name) f.params) (locals_in (variant.Block f.body)) in
      let y = length-append (map (λ q. kind_of q.ty) f.params) (kinds_in (variant.Block f.body)) in
      let z = length-map f.params (λ q. q.name) in
      let w = length-map f.params (λ q. kind_of q.ty) in
      omega (arith, few, same, x, y, z, w)

  -- and 8 parameters at most
  pub few_params : (k : ℕ) (f : Function) → slice_get p.functions k ≡ Some f → length f.params ≤ 8
  few_params k f e =
      let inside = inside_function p accepted shared k f e in
      function-params inside.names f inside.clean

  -- the body of a function fits
  pub function_fits : (k : ℕ) (f : Function) → slice_get p.functions k ≡ Some f → FormIs p (variant.Block f.body) → FormSpelled (variant.Block f.body)
      → (Ok : Instr → Type 0) → Permits (module_of p) (function_code p f) (k + 1) false Ok
      → FormFits (module_of p) (function_code p f) Ok p (code.with_params [] f.params) (beginning (length f.params)) (variant.Block f.body)
  function_fits k f e is spelled Ok permits =
      let inside = inside_function p accepted shared k f e in
      let kinds = map (λ q. kind_of q.ty) f.params in
      let own = kinds_in (variant.Block f.body) in
      let first = stands_still kinds own 0 kinds (stands_behind kinds []) in
      let later = subst (λ (n : ℕ). Stand (kinds ++ own) n own) (length-map f.params (λ q. kind_of q.ty)) (stands_behind own kinds) in
      form_fits p (module_of p) (function_code p f) (k + 1) false Ok permits (body.Function f.gives) inside.names refl refl false
      (with_params inside.names f.params) (code.with_params [] f.params) (beginning (length f.params)) 0 (variant.Block f.body)
      (params_agree p (function_code p f) (k + 1) inside.names [] f.params (inside.agrees (function_code p f)) (function_params inside.names f inside.clean) first)
      later (λ main. no_room main) is spelled (function-body inside.names f inside.clean)

  -- the body of a routine block fits
  pub block_fits : (n : ℕ) (b : RoutineBlock) → slice_get (steps_in (variant.Block p.main)) n ≡ Some b → RoutineIs p b → RoutineSpelled b
      → (Ok : Instr → Type 0) → Permits (module_of p) (block_code p b) (length p.functions) false Ok → BlockFits Ok p b
  block_fits n b e is spelled Ok permits = by b (clean_at p accepted n b e) is spelled permits
    where
      by : (b : RoutineBlock) → IsClean (global_names p) b → RoutineIs p b → RoutineSpelled b → Permits (module_of p) (block_code p b) (length p.functions) false Ok → BlockFits Ok p b
      by (RoutineBlock' at width width_name id_name shape statements) clean is spelled permits =
          let c = block_code p (RoutineBlock' at width width_name id_name shape statements) in
          let globals = global_names p in
          let one = declare globals width_name (declared.Local type.Int) in
          let first = agrees_local p (module_of p) c (length p.functions) globals [] width_name type.Int 0 (globals_agree p accepted shared c) clean.0 refl in
          let second = agrees_local p (module_of p) c (length p.functions) one (with_slot [] width_name.text 0 type.Int) id_name type.Int 1 first clean.1 refl in
          row_fits p (module_of p) c (length p.functions) false Ok permits body.Routine globals refl refl false
          (declare one id_name (declared.Local type.Int)) (routine_slots width_name.text id_name.text) (beginning 2) statements
          second (stands_behind (kinds_in_row statements) (type.Int ∷ type.Int ∷ [])) (λ main. no_room main) is spelled clean.2

  -- main fits
  pub main_fits : FormIs p (variant.Block p.main) → FormSpelled (variant.Block p.main)
      → (Ok : Instr → Type 0) → Permits (module_of p) (main_code p) (length p.functions) true Ok
      → FormFits (module_of p) (main_code p) Ok p [] (beginning 0) (variant.Block p.main)
  main_fits is spelled Ok permits =
      let blocks = length-map (steps_in (variant.Block p.main)) (λ b. block_code p b) in
      let few : 0 + length (steps_in (variant.Block p.main)) ≤ length (map (λ b. block_code p b) (steps_in (variant.Block p.main))) = omega (arith, blocks) in
      form_fits p (module_of p) (main_code p) (length p.functions) true Ok permits body.Main (global_names p) refl refl false
      (global_names p) [] (beginning 0) 0 (variant.Block p.main)
      (globals_agree p accepted shared (main_code p)) (stands_behind (kinds_in (variant.Block p.main)) []) (λ main. (omega arith, few)) is spelled (accepted_main p accepted)
