-- The routine blocks of an accepted program neither read nor set a tally word, themselves or through their calls.
use Rattle.std.proofs.Common.{◌≡◌, ℕ, zero, suc, ◌<◌, Bool, true, false, if◌then◌else◌, List, [], ◌∷◌, ◌++◌, length, map, Option, Some, None, refl, sym, ap, ◌∙◌, subst, arith, append_assoc}
use Rattle.std.proofs.Common.{length-append}
use Rattle.std.specs.Prelude.{slice_get, is_some}
use Rattle.std.specs.List.{AllByRecursion, list_any}
use Rattle.std.specs.Str.{bytes_eq}
use Rattle.std.specs.Map.{lookup}
use Rattle.csl_tree.specs.declared.name.Name.{Name}
use Rattle.csl_tree.specs.declared.program.Program.{Program}
use Rattle.csl_tree.specs.declared.program.Function.{Function}
use Rattle.cal_terms.specs.declared.types.Gives.{Gives}
use Rattle.cal_terms.specs.declared.types.Gives.TheVariants as gives
use Rattle.cal_terms.specs.declared.types.Ty.TheVariants as type
use Rattle.csl_tree.specs.declared.program.Arm.{Arm'}
use Rattle.csl_tree.specs.declared.program.RoutineBlock.{RoutineBlock, RoutineBlock'}
use Rattle.csl_tree.specs.declared.program.Form.{Form, If', While', For', Block', Par', Row_of-Arm, end_of-Arm, more_of-Arm, Row_of-Stmt, end_of-Stmt, more_of-Stmt, Held-Form-If-1}
use Rattle.csl_tree.specs.declared.program.Form.{Row_of-RoutineBlock, end_of-RoutineBlock, more_of-RoutineBlock}
use Rattle.csl_tree.specs.declared.program.Form as form
use Rattle.csl_tree.specs.declared.program.Form.TheVariants as variant
use Rattle.csl_meaning.specs.Layout.{Text}
use Rattle.csl_meaning.specs.Effect.{function_named, blocks_in}
use Rattle.type_check.specs.declared.fault.Fault.{Fault}
use Rattle.type_check.specs.declared.fault.CheckKind.TheVariants.{NameTaken, OnlyInMain}
use Rattle.type_check.specs.declared.body.Body.{Body}
use Rattle.type_check.specs.declared.body.Body.TheVariants as body
use Rattle.type_check.specs.declared.body.Here.{Here}
use Rattle.type_check.specs.declared.names.Declaration.{Declaration}
use Rattle.type_check.specs.declared.names.Declaration.TheVariants as declared
use Rattle.type_check.specs.Listed.{fault, beyond, is_tally_used}
use Rattle.type_check.specs.Names.{Names, meant, taken, declare}
use Rattle.type_check.specs.Bodies.{locals_in_row, after, after_row}
use Rattle.type_check.specs.Statements.{in_loop, body_of, is_main, too_many_locals, most_blocks, blocks_at, faults, row_faults, arm_faults, last_faults, block_faults}
use Rattle.type_check.specs.Faults.{IsAccepted, touches_tally, with_shared, with_params, as_declared, with_own, with_function, with_functions, inside_faults, all_function_faults, global_names}
use Rattle.type_check.proofs.CleanLemmas.{none_in_first, none_in_second, none_if, accepted_main}
use Rattle.type_check.proofs.Facts.{accepted-functions, first-function, other-functions, function-body}
use Rattle.bytecode.specs.declared.instr.Instr.{Instr}
use Rattle.bytecode.specs.declared.instr.Instr.TheVariants as i
use Rattle.bytecode.specs.declared.module.Code.{Code}
use Rattle.code_verify.specs.Rules.{Stands, ReadsOrSetsTally, UsesTally, Itself, Through, UsesNoTally}
use Rattle.compiled_code.specs.Slots.{with_slot}
use Rattle.compiled_code.specs.Sizes.{steps_in, steps_in_row, steps_in_arms, steps_in_last}
use Rattle.compiled_code.specs.Values.{function_number}
use Rattle.compiled_code.specs.Statements.{form_code, row_code}
use Rattle.compiled_code.specs.Modules.{beginning, closing, function_code, routine_slots, block_code, main_code, module_of}
use Rattle.compiled_code.specs.Modules as compiled
use Rattle.accepted_code.proofs.Known.{Stand, no_functions, one_function}
use Rattle.accepted_code.proofs.Agrees.{Means}
use Rattle.accepted_code.proofs.Lookups.{bytes_same, bytes_self, found_in}
use Rattle.accepted_code.proofs.Lists.{all_both, all_at}
use Rattle.accepted_code.proofs.Parts.{ArraysArePlain}
use Rattle.accepted_code.proofs.SharedWords.{found_declared, shared_means}
use Rattle.accepted_code.proofs.Quiet.{IsQuiet, AreQuiet, one, also, joined, quiet_at, Covered, Covers, covers_local, covers_params, form_quiet, row_quiet}

-- ---- lists

clash : true ≡ false → ⊥
clash e = cc

-- ---- functions

-- whether each function uses a tally word, where those before it are visible
abbrev pub flags_of : Names → List Function → List Bool
flags_of names [] = []
flags_of names (f ∷ rest) = touches_tally (with_own names f) f ∷ flags_of (with_function names f) rest

-- the function of this number uses no tally word, as the checks have it
abbrev pub IsCalm : Program → ℕ → Type 0
IsCalm p k = slice_get (flags_of (with_shared [] p.shared) p.functions) k ≡ Some false

flag_here : (flags : List Bool) (x : Bool) (more : List Bool) (n : ℕ) → length flags ≡ n → slice_get (flags ++ x ∷ more) n ≡ Some x
flag_here [] x more zero e = refl
flag_here [] x more (suc n) e = absurd (omega (arith, e))
flag_here (y ∷ flags) x more zero e = absurd (omega (arith, e))
flag_here (y ∷ flags) x more (suc n) e = flag_here flags x more n (omega (arith, e))

-- a function stands behind those that have another name
number_behind : (fs rest : List Function) (f : Function) (t : Text) → function_named fs t ≡ None → bytes_eq f.name.text t ≡ true → function_number (fs ++ f ∷ rest) t ≡ length fs
number_behind [] rest f t none is = ap (λ (b : Bool). if b then 0 else suc (function_number rest t)) is
number_behind (g ∷ fs) rest f t none is = by (bytes_eq g.name.text t) none (λ none'. number_behind fs rest f t none' is)
  where
    by : (b : Bool) → (if b then Some g else function_named fs t) ≡ None → (function_named fs t ≡ None → function_number (fs ++ f ∷ rest) t ≡ length fs)
        → (if b then 0 else suc (function_number (fs ++ f ∷ rest) t)) ≡ suc (length fs)
    by true h go = absurd (never h)
      where
        never : Some g ≡ None → ⊥
        never h' = cc
    by false h go = ap suc (go h)

-- no function before has a new name
unnamed : (fs : List Function) (names : Names) (name : Name) → Stand fs names → is_some (meant names name) ≡ false → function_named fs name.text ≡ None
unnamed fs names name stand new = by (function_named fs name.text) refl
  where
    by : (o : Option Function) → function_named fs name.text ≡ o → o ≡ None
    by None e = refl
    by (Some g) e = absurd (clash (sym (stand.sees name.text g e) ∙ new))

-- the function of a new name has its number behind those before it
pub own_number : (fs rest : List Function) (f : Function) (names : Names) → Stand fs names → is_some (meant names f.name) ≡ false → function_number (fs ++ f ∷ rest) f.name.text ≡ length fs
own_number fs rest f names stand new = number_behind fs rest f f.name.text (unnamed fs names f.name stand new) (bytes_self f.name.text)

-- the name of a function without faults is new
pub new_name : (names : Names) (f : Function) (rest : List Function) → all_function_faults names (f ∷ rest) ≡ [] → is_some (meant names f.name) ≡ false
new_name names f rest none =
    none_if (is_some (meant names f.name)) NameTaken f.name.at
    (none_in_first (taken names f.name) (inside_faults (with_own names f) f)
    (none_in_first (taken names f.name ++ inside_faults (with_own names f) f) (all_function_faults (with_function names f) rest) none))

-- ---- steps

-- a routine block without faults in its body
abbrev pub IsClean : Names → RoutineBlock → Type 0
IsClean globals (RoutineBlock' at width width_name id_name shape statements) =
    row_faults globals (body_of body.Routine) (declare (declare globals width_name (declared.Local type.Int)) id_name (declared.Local type.Int)) statements ≡ []

module _ (globals : Names) where
  mutual
    -- each routine block of a statement without faults has none
    pub steps_clean : (f : Form) (here : Here) (names : Names) (at : ℕ) → faults globals here names at f ≡ [] → AllByRecursion (IsClean globals) (steps_in f)
    steps_clean (If' shape arms last) here names at e =
        all_both (IsClean globals) (steps_in_arms arms) (steps_in_last last)
        (arms_clean arms here names (none_in_first (arm_faults globals here names arms) (last_faults globals here names last) e))
        (last_clean last here names (none_in_second (arm_faults globals here names arms) (last_faults globals here names last) e))
    steps_clean (While' test shape statements) here names at e = row_clean statements (in_loop here) names (none_in_second _ (row_faults globals (in_loop here) names statements) e)
    steps_clean (For' shape first test shape' next' shape'' statements) here names at e = row_clean statements (in_loop here) (after_row names first)
        (none_in_second _ (row_faults globals (in_loop here) (after_row names first) statements) e)
    steps_clean (Block' shape statements) here names at e = row_clean statements here names e
    steps_clean (Par' shape blocks) here names at e = blocks_clean blocks here.body names (only_main (is_main here.body) e)
      where
        only_main : (b : Bool) → (if b then (block_faults globals here.body names blocks ++ beyond most_blocks (blocks_at blocks)) else fault OnlyInMain at) ≡ []
            → block_faults globals here.body names blocks ≡ []
        only_main true h = none_in_first (block_faults globals here.body names blocks) (beyond most_blocks (blocks_at blocks)) h
        only_main false h = cc
    steps_clean _ here names at e = tt

    row_clean : {n : _} (row : Row_of-Stmt n) (here : Here) (names : Names) → row_faults globals here names row ≡ [] → AllByRecursion (IsClean globals) (steps_in_row row)
    row_clean end_of-Stmt here names e = tt
    row_clean (more_of-Stmt at f rest) here names e =
        all_both (IsClean globals) (steps_in f) (steps_in_row rest)
        (steps_clean f here names at (none_in_first (faults globals here names at f) (row_faults globals here (after names f) rest) e))
        (row_clean rest here (after names f) (none_in_second (faults globals here names at f) (row_faults globals here (after names f) rest) e))

    arms_clean : {n : _} (arms : Row_of-Arm n) (here : Here) (names : Names) → arm_faults globals here names arms ≡ [] → AllByRecursion (IsClean globals) (steps_in_arms arms)
    arms_clean end_of-Arm here names e = tt
    arms_clean (more_of-Arm (Arm' test shape statements) rest) here names e =
        all_both (IsClean globals) (steps_in_row statements) (steps_in_arms rest)
        (row_clean statements here names (none_in_second _ (row_faults globals here names statements) (none_in_first _ (arm_faults globals here names rest) e)))
        (arms_clean rest here names (none_in_second _ (arm_faults globals here names rest) e))

    last_clean : (last : Held-Form-If-1) (here : Here) (names : Names) → last_faults globals here names last ≡ [] → AllByRecursion (IsClean globals) (steps_in_last last)
    last_clean form.None' here names e = tt
    last_clean (form.Some' shape statements) here names e = row_clean statements here names e

    blocks_clean : {n : _} (blocks : Row_of-RoutineBlock n) (b : Body) (names : Names) → block_faults globals b names blocks ≡ [] → AllByRecursion (IsClean globals) (blocks_in blocks)
    blocks_clean end_of-RoutineBlock b names e = tt
    blocks_clean (more_of-RoutineBlock (RoutineBlock' at width width_name id_name shape statements) rest) b names e =
        let inside = declare (declare globals width_name (declared.Local type.Int)) id_name (declared.Local type.Int) in (
          none_in_second _ (row_faults globals (body_of body.Routine) inside statements)
              (none_in_first _ (too_many_locals (width_name ∷ id_name ∷ locals_in_row statements)) (none_in_first _ (block_faults globals b names rest) e)),
          blocks_clean rest b names (none_in_second _ (block_faults globals b names rest) e),
        )

-- ---- what the names of an accepted program cover

module _ (p : Program) where
  abbrev Covering : Names → Type 0
  Covering names = Covers p (module_of p) (IsCalm p) names []

  -- with the shared names
  shared_covers : IsAccepted p → ArraysArePlain p.shared → Covering (with_shared [] p.shared)
  shared_covers accepted plain name = by (lookup (bytes_eq name) (with_shared [] p.shared)) (shared_means p accepted plain name (main_code p) 0)
    where
      by : (o : Option Declaration) → Means p (module_of p) (main_code p) 0 [] name o → Covered p (module_of p) (IsCalm p) [] name o
      by None h = tt
      by (Some declared.Word) h = h.1
      by (Some declared.Tally) h = tt
      by (Some declared.Array) h = tt
      by (Some (declared.Local t)) h = λ e. let found = h.found in cc
      by (Some (declared.Function d)) h = λ e. absurd (few (function_number p.functions name) h.1.number)
        where
          few : (n : ℕ) → n < 0 → ⊥
          few n lt = omega (arith, lt)

  -- with one function more
  function_covers : (names : Names) (f : Function) (touches : Bool) → Covering names → is_some (meant names f.name) ≡ false → (touches ≡ false → IsCalm p (function_number p.functions f.name.text))
      → Covering (declare names f.name (as_declared f touches))
  function_covers names f touches covers new calm t =
      subst (λ (o : Option Declaration). Covered p (module_of p) (IsCalm p) [] t o) (sym (found_declared names f.name (as_declared f touches) t new))
      (there (lookup (bytes_eq t) names) (bytes_eq t f.name.text) refl (covers t))
    where
      there : (o : Option Declaration) (b : Bool) → bytes_eq t f.name.text ≡ b → Covered p (module_of p) (IsCalm p) [] t o
          → Covered p (module_of p) (IsCalm p) [] t (found_in o b (as_declared f touches))
      there (Some d) b is h = h
      there None true is h = λ e. subst (λ (u : Text). IsCalm p (function_number p.functions u)) (sym (bytes_same t f.name.text is)) (calm e)
      there None false is h = tt

  -- the functions up to one of them, and those from it on
  record Stage (fs rest : List Function) (names : Names) : Type 0 where
    split : p.functions ≡ fs ++ rest
    flags : List Bool
    as_many : length flags ≡ length fs
    flagged : flags_of (with_shared [] p.shared) p.functions ≡ flags ++ flags_of names rest
    covers : Covering names
    stand : Stand fs names
    none : all_function_faults names rest ≡ []

  first_stage : IsAccepted p → ArraysArePlain p.shared → Stage [] p.functions (with_shared [] p.shared)
  first_stage accepted plain = record { split = refl; flags = []; as_many = refl; flagged = refl; covers = shared_covers accepted plain; stand = no_functions p.shared; none = accepted-functions p accepted }

  -- the next function is calm where its flag says so
  own_calm : (fs rest : List Function) (f : Function) (names : Names) → Stage fs (f ∷ rest) names → touches_tally (with_own names f) f ≡ false → IsCalm p (function_number p.functions f.name.text)
  own_calm fs rest f names s calm =
      let number = ap (λ (l : List Function). function_number l f.name.text) s.split ∙ own_number fs rest f names s.stand (new_name names f rest s.none) in
      ap (λ (n : ℕ). slice_get (flags_of (with_shared [] p.shared) p.functions) n) number
      ∙ ap (λ (l : List Bool). slice_get l (length fs)) s.flagged
      ∙ flag_here s.flags (touches_tally (with_own names f) f) (flags_of (with_function names f) rest) (length fs) s.as_many
      ∙ ap Some calm

  next_stage : (fs rest : List Function) (f : Function) (names : Names) → Stage fs (f ∷ rest) names → Stage (fs ++ f ∷ []) rest (with_function names f)
  next_stage fs rest f names s =
      let flag = touches_tally (with_own names f) f in
      record {
        split = s.split ∙ sym (append_assoc fs (f ∷ []) rest);
        flags = s.flags ++ flag ∷ [];
        as_many = let many = s.as_many in omega (arith, many, length-append s.flags (flag ∷ []), length-append fs (f ∷ []));
        flagged = s.flagged ∙ sym (append_assoc s.flags (flag ∷ []) (flags_of (with_function names f) rest));
        covers = function_covers names f flag s.covers (new_name names f rest s.none) (own_calm fs rest f names s);
        stand = one_function fs f flag names s.stand;
        none = other-functions names f rest s.none;
      }

  closing_quiet : (g : Gives) → AreQuiet p (module_of p) (IsCalm p) (closing g)
  closing_quiet gives.Nothing = one p (module_of p) (IsCalm p) _ tt
  closing_quiet gives.Int = also p (module_of p) (IsCalm p) _ _ tt (one p (module_of p) (IsCalm p) _ tt)
  closing_quiet gives.Bool = also p (module_of p) (IsCalm p) _ _ tt (one p (module_of p) (IsCalm p) _ tt)

  -- a function that uses no tally word has quiet code
  function_quiet : (names : Names) (f : Function) → Covering names → inside_faults names f ≡ [] → touches_tally names f ≡ false → AreQuiet p (module_of p) (IsCalm p) (function_code p f).instrs
  function_quiet names f covers none calm =
      joined p (module_of p) (IsCalm p) (form_code p (variant.Block f.body) (compiled.with_params [] f.params) (beginning (length f.params)) _) (closing f.gives)
      (form_quiet p (module_of p) (IsCalm p) (body.Function f.gives) refl names (variant.Block f.body) false (with_params names f.params) (compiled.with_params [] f.params) 0
      (beginning (length f.params)) _
      (covers_params p (module_of p) (IsCalm p) f.params names [] covers) (function-body names f none) (record { none = calm }))
      (closing_quiet f.gives)

  functions_quiet : (fs rest : List Function) (names : Names) → Stage fs rest names → (k : ℕ) (f : Function) → slice_get rest k ≡ Some f → slice_get (flags_of names rest) k ≡ Some false
      → AreQuiet p (module_of p) (IsCalm p) (function_code p f).instrs
  functions_quiet fs [] names s k f e flag = absurd (never e)
    where
      never : None ≡ Some f → ⊥
      never e' = cc
  functions_quiet fs (g ∷ rest) names s zero f e flag =
      let same : g ≡ f = cc in
      let calm : touches_tally (with_own names g) g ≡ false = cc in
      subst (λ (h : Function). AreQuiet p (module_of p) (IsCalm p) (function_code p h).instrs) same
      (function_quiet (with_own names g) g (function_covers names g false s.covers (new_name names g rest s.none) (λ _. own_calm fs rest g names s calm)) (first-function names g rest s.none) calm)
  functions_quiet fs (g ∷ rest) names s (suc k) f e flag = functions_quiet (fs ++ g ∷ []) rest (with_function names g) (next_stage fs rest g names s) k f e flag

  -- with all functions
  all_covers : (fs rest : List Function) (names : Names) → Stage fs rest names → Covering (with_functions names rest)
  all_covers fs [] names s = s.covers
  all_covers fs (f ∷ rest) names s = all_covers (fs ++ f ∷ []) rest (with_function names f) (next_stage fs rest f names s)

  -- the code of a function of the module is that of a function of the program
  coded : (fs : List Function) (k : ℕ) (c : Code) → slice_get (map (λ f. function_code p f) fs) k ≡ Some c → (f : Function) × (slice_get fs k ≡ Some f) × (function_code p f ≡ c)
  coded [] k c e = absurd (never e)
    where
      never : None ≡ Some c → ⊥
      never e' = cc
  coded (f ∷ fs) zero c e = let same : function_code p f ≡ c = cc in (f, refl, same)
  coded (f ∷ fs) (suc k) c e = coded fs k c e

  reads_none : (instr : Instr) → IsQuiet p (module_of p) (IsCalm p) instr → ReadsOrSetsTally (module_of p) instr → ⊥
  reads_none (i.Word a) quiet reads = quiet reads
  reads_none (i.Put a) quiet reads = quiet reads
  reads_none _ quiet reads = reads

  -- each routine block of main has no faults in its body
  pub main_steps_clean : IsAccepted p → AllByRecursion (IsClean (global_names p)) (steps_in (variant.Block p.main))
  main_steps_clean accepted = steps_clean (global_names p) (variant.Block p.main) (body_of body.Main) (global_names p) 0 (accepted_main p accepted)

  module _ (accepted : IsAccepted p) (plain : ArraysArePlain p.shared) where
    -- in the code of a calm function each instruction is quiet
    calm_code : (k : ℕ) (c : Code) → IsCalm p k → slice_get (module_of p).functions k ≡ Some c → (place : ℕ) (instr : Instr) → Stands c place instr → IsQuiet p (module_of p) (IsCalm p) instr
    calm_code k c calm there place instr stands =
        let f = coded p.functions k c there in
        quiet_at p (module_of p) (IsCalm p) c.instrs place instr stands
        (subst (λ (d : Code). AreQuiet p (module_of p) (IsCalm p) d.instrs) f.2 (functions_quiet [] p.functions (with_shared [] p.shared) (first_stage accepted plain) k f.0 f.1 calm))

    -- a function that uses no tally word by the checks uses none in its code
    pub untouched : {k : ℕ} → UsesTally (module_of p) k → IsCalm p k → ⊥
    untouched (Itself k c place instr there stands reads) calm = reads_none instr (calm_code k c calm there place instr stands) reads
    untouched (Through k g c place there stands uses) calm = untouched uses (calm_code k c calm there place (i.Call g) stands)

    uses_none : (instr : Instr) → IsQuiet p (module_of p) (IsCalm p) instr → UsesNoTally (module_of p) instr
    uses_none (i.Word a) quiet = quiet
    uses_none (i.Put a) quiet = quiet
    uses_none (i.Call f) quiet = λ uses. untouched uses quiet
    uses_none _ quiet = tt

    -- a routine block without faults has quiet code
    block_quiet : (b : RoutineBlock) → IsClean (global_names p) b → AreQuiet p (module_of p) (IsCalm p) (block_code p b).instrs
    block_quiet (RoutineBlock' at width width_name id_name shape statements) clean =
        let globals = global_names p in
        let covers = all_covers [] p.functions (with_shared [] p.shared) (first_stage accepted plain) in
        let with_width = covers_local p (module_of p) (IsCalm p) globals [] width_name type.Int 0 type.Int covers in
        let with_both = covers_local p (module_of p) (IsCalm p) (declare globals width_name (declared.Local type.Int)) (with_slot [] width_name.text 0 type.Int) id_name type.Int 1 type.Int
        with_width in
        joined p (module_of p) (IsCalm p) (row_code p statements (routine_slots width_name.text id_name.text) (beginning 2) _) (i.Return ∷ [])
        (row_quiet p (module_of p) (IsCalm p) body.Routine refl globals statements false (declare (declare globals width_name (declared.Local type.Int)) id_name (declared.Local type.Int))
        (routine_slots width_name.text id_name.text) (beginning 2) _
        with_both clean (record { none = ap (λ (xs : List Fault). list_any (λ x. is_tally_used x.kind) xs) clean }))
        (one p (module_of p) (IsCalm p) _ tt)

    -- the routine blocks use no tally word
    pub blocks_untouched : (n : ℕ) (b : RoutineBlock) → slice_get (steps_in (variant.Block p.main)) n ≡ Some b → (place : ℕ) (instr : Instr) → Stands (block_code p b) place instr
        → UsesNoTally (module_of p) instr
    blocks_untouched n b there place instr stands =
        uses_none instr
        (quiet_at p (module_of p) (IsCalm p) (block_code p b).instrs place instr stands
        (block_quiet b (all_at (IsClean (global_names p)) (steps_in (variant.Block p.main)) n b (main_steps_clean accepted) there)))
