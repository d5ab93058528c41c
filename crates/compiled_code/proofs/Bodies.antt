-- The code of functions does what they do.
use Rattle.std.proofs.Common.{◌≡◌, ℕ, zero, suc, ◌+◌, ◌≤◌, Bool, List, [], ◌∷◌, ◌++◌, length, drop, map, Option, Some, None, refl, sym, ap, ◌∙◌, subst, arith, append_assoc, length-append}
use Rattle.std.specs.Prelude.{slice_get}
use Rattle.std.proofs.lemmas.List.{append-nil, length-map}
use Rattle.std.proofs.Math.Seq.{drop-append_seam}
use denote.Hole.Carrier.{hidden}
use Rattle.cal_base.specs.declared.value.Val.{Val}
use Rattle.cal_base.specs.declared.value.Val.TheVariants as val
use Rattle.cal_base.specs.declared.value.Store.TheVariants.{Main}
use Rattle.csl_tree.specs.declared.program.Program.{Program}
use Rattle.csl_tree.specs.declared.program.Function.{Function}
use Rattle.csl_tree.specs.declared.program.Param.{Param}
use Rattle.csl_tree.specs.declared.program.Stmt.{Stmt}
use Rattle.csl_tree.specs.declared.program.Item.{Item}
use Rattle.csl_tree.specs.declared.program.RoutineBlock.{RoutineBlock}
use Rattle.cal_terms.specs.declared.types.Gives.{Gives as Result'}
use Rattle.cal_terms.specs.declared.types.Gives.TheVariants as result
use Rattle.csl_tree.specs.declared.program.Form.TheVariants as variant
use Rattle.csl_tree.specs.declared.program.Form.TheBlock.{shape-the_row-Stmt-1, hidden-the_row-Stmt-1}
use Rattle.csl_meaning.specs.declared.state.World.{World}
use Rattle.csl_meaning.specs.declared.state.Ending.TheVariants as ending
use Rattle.csl_meaning.specs.Layout.{Text}
use Rattle.csl_meaning.specs.Locals.{Locals, bound}
use Rattle.csl_meaning.specs.Runs.{Outcome, Gives, Stops, ShowsLine, OpensStep, Run, ◌>>=◌, pure}
use Rattle.csl_meaning.specs.Value.{Calls}
use Rattle.csl_meaning.specs.Effect.{Went, MainOnly, Printing, Stepping, go_on, effect, in_order, statements, nowhere, given_back, function_named, run_function, calls_to}
use Rattle.csl_meaning.proofs.Parts.{of_nowhere, of_calls_to}
use Rattle.csl_meaning.proofs.Counts.{Counts, counts}
use Rattle.bytecode.specs.declared.instr.Instr.{Instr}
use Rattle.bytecode.specs.declared.instr.Instr.TheVariants as i
use Rattle.cal_terms.specs.declared.types.Ty.{Ty}
use Rattle.bytecode.specs.declared.module.Code.{Code}
use Rattle.code_verify.specs.Rules.{IsVerified, IsNotMains}
use Rattle.machine_meaning.specs.Machine as machine
use Rattle.machine_meaning.specs.Machine.{Call, State, Next, On, first_value, leaves, next}
use Rattle.compiled_code.specs.Slots.{Slots, with_slot, kind_of}
use Rattle.compiled_code.specs.Sizes.{items_size, widths_size, kinds_in}
use Rattle.compiled_code.specs.Places.{form_size, row_size, slots_after_row}
use Rattle.compiled_code.specs.Values.{function_number}
use Rattle.compiled_code.specs.Statements.{At, items_code, printed_items, widths_code, form_code}
use Rattle.compiled_code.specs.Modules.{beginning, ends_at, closing, gives_of, with_params, function_code, module_of}
use Rattle.compiled_code.specs.Shape.{HasValue, HasShape, ItemsAre, WidthsAre}
use Rattle.compiled_code.proofs.Does.{Sound, Does, then_does, step_does, no_step}
use Rattle.machine_meaning.proofs.Composes.{here}
use Rattle.compiled_code.proofs.Pieces.{Holds, back, stands}
use Rattle.compiled_code.proofs.Frames.{Agree, Ascend, declare_ascends}
use Rattle.compiled_code.proofs.Lengths.{form_length, items_length, widths_length}
use Rattle.compiled_code.proofs.Operands.{numbered}
use Rattle.compiled_code.proofs.Values.{CallsDo, IsGiven, listed, entered, at_instr, from, mk}
use Rattle.compiled_code.proofs.Loops.{After}
use Rattle.compiled_code.proofs.Statements.{Plain, row_does}
use Rattle.compiled_code.proofs.Returning.{All, ByReturn, row_ends}

-- the statements of a list are those of its row
pub in_order_is : (p : Program) (calls : Calls) (mains : MainOnly → Locals → Run Went) (body : List Stmt) → in_order p calls mains (hidden-the_row-Stmt-1 body) ≡ statements p calls mains body
unfolding shape-the_row-Stmt-1 hidden-the_row-Stmt-1 hidden
in_order_is p calls mains [] = refl
in_order_is p calls mains (s ∷ rest) = ap (λ (next : Locals → Run Went). λ (locals : Locals). effect p calls mains s.form locals >>= (λ went. go_on went next)) (in_order_is p calls mains rest)

-- ---- parameters

-- the values stand from this slot on
abbrev pub StandAt : List Val → ℕ → List Val → Type 0
StandAt values n given = (k : ℕ) (v : Val) → slice_get given k ≡ Some v → slice_get values (n + k) ≡ Some v

pub stand_first : (given rest : List Val) → StandAt (given ++ rest) 0 given
stand_first [] rest k v e = absurd cc
stand_first (x ∷ given) rest zero v e = e
stand_first (x ∷ given) rest (suc k) v e =
    let one : 0 + k ≡ k = omega arith in
    let two : 0 + suc k ≡ suc k = omega arith in
    subst (λ (n : ℕ). slice_get (x ∷ (given ++ rest)) n ≡ Some v) (sym two) (subst (λ (n : ℕ). slice_get (given ++ rest) n ≡ Some v) one (stand_first given rest k v e))

pub agree_more : (ss : Slots) (ls : Locals) (values : List Val) (name : Text) (n : ℕ) (kind : Ty) (v : Val) → Agree ss ls values → slice_get values n ≡ Some v
    → Agree (with_slot ss name n kind) (ls ++ record { name = name; value = v } ∷ []) values
agree_more [] [] values name n kind v h e = (refl, e, tt)
agree_more [] (l ∷ ls) values name n kind v h e = absurd h
agree_more (s ∷ ss) [] values name n kind v h e = absurd h
agree_more (s ∷ ss) (l ∷ ls) values name n kind v h e = (h.0, h.1, agree_more ss ls values name n kind v h.2 e)

params_agree : (qs : List Param) (slots : Slots) (ls : Locals) (values given : List Val) → length given ≡ length qs → Agree slots ls values → StandAt values (length slots) given
    → Agree (with_params slots qs) (ls ++ bound (map (λ q. q.name.text) qs) given) values
params_agree [] slots ls values given long agree stand = subst (λ (l : Locals). Agree slots l values) (sym (append-nil ls)) agree
params_agree (q ∷ qs) slots ls values [] long agree stand = absurd (omega arith)
params_agree (q ∷ qs) slots ls values (v ∷ given) long agree stand =
    let zero_more : length slots + 0 ≡ length slots = omega arith in
    let here' : slice_get values (length slots) ≡ Some v = subst (λ (n : ℕ). slice_get values n ≡ Some v) zero_more (stand 0 v refl) in
    let short : length given ≡ length qs = omega arith in
    let slots' = with_slot slots q.name.text (length slots) (kind_of q.ty) in
    let longer : length slots' ≡ length slots + 1 = length-append slots _ in
    subst (λ (l : Locals). Agree (with_params slots' qs) l values) (append_assoc ls (record { name = q.name.text; value = v } ∷ []) (bound (map (λ x. x.name.text) qs) given))
    (params_agree qs slots' (ls ++ record { name = q.name.text; value = v } ∷ []) values given short (agree_more slots ls values q.name.text (length slots) (kind_of q.ty) v agree here') (λ k x e.
    let place : length slots + suc k ≡ length slots' + k = omega (arith, longer) in
    subst (λ (n : ℕ). slice_get values n ≡ Some x) place (stand (suc k) x e)))

params_ascend : (qs : List Param) (slots : Slots) → Ascend 0 slots (length slots) → Ascend 0 (with_params slots qs) (length slots + length qs)
params_ascend [] slots up = let same : length slots ≡ length slots + 0 = omega arith in subst (λ (n : ℕ). Ascend 0 slots n) same up
params_ascend (q ∷ qs) slots up =
    let slots' = with_slot slots q.name.text (length slots) (kind_of q.ty) in
    let longer : length slots' ≡ suc (length slots) = let e = length-append slots (record { name = q.name.text; number = length slots; kind = kind_of q.ty } ∷ []) in omega (arith, e) in
    let same : length slots' + length qs ≡ length slots + suc (length qs) = omega (arith, longer) in
    subst (λ (n : ℕ). Ascend 0 (with_params slots' qs) n) same
    (params_ascend qs slots' (subst (λ (n : ℕ). Ascend 0 slots' n) (sym longer) (declare_ascends 0 slots (length slots) q.name.text (kind_of q.ty) up)))

-- ---- what holds of each ending holds of the state that is reached

module _ (p : Program) (ok : IsVerified (module_of p)) (r : Bool) (whole : ℕ) where
  pub with_all : {A : Type 0} (P : A → Type 0) (Q : A → World → State → Type 0) (o : Outcome A) (s : State) → All P o → Does p ok r whole Q o s → Does p ok r whole (λ a w s'. P a × Q a w s') o s
  with_all P Q (Gives a w) s all does = (does.0, does.1, does.2, (all, does.3))
  with_all P Q (Stops cause w) s all does = does
  with_all P Q (ShowsLine line rest) s all does = (does.0, does.1, does.2, with_all P Q rest does.0 all does.3)
  with_all P Q (OpensStep job rest) s all does = (does.0, does.1, does.2, does.3, does.4, does.5, λ later kinds. with_all P Q (rest later) (record does.0 { store = Main later }) (all later) (does.6 later kinds))

  module _ (shape : HasShape p) where
    -- ---- a body's return

    module _ (f : Function) (caller : Call) (callers : List Call) (ml : List Val) where
      abbrev state : ℕ → List Val → World → State
      state place ops w = mk p ok r whole (function_code p f) ml (caller ∷ callers) place ops w

      -- the caller goes on with what is given back
      abbrev Gave : Option Val → World → State → Type 0
      Gave back' u s' = (s' ≡ record { call = record caller { operands = listed back' ++ caller.operands }; callers = callers; store = u.store; fuel = u.fuel }) × IsGiven f.gives back'

      return_does : (v : Option Val) (place : ℕ) (u : World) → slice_get (function_code p f).instrs place ≡ Some i.Return → Sound p ok r whole (state place (listed v) u)
          → Does p ok r whole Gave (Gives v u) (state place (listed v) u)
      return_does v place u h sound = by f.gives v refl sound (at_instr p ok r whole (state place (listed v) u) i.Return h)
        where
          by : (g : Result') (v' : Option Val) → f.gives ≡ g → Sound p ok r whole (state place (listed v') u)
              → next (module_of p) (state place (listed v') u) ≡ machine.◌>>=◌ (machine.given_back (gives_of f.gives) (listed v'))
              (λ vs. Some (leaves (caller ∷ callers) vs (state place (listed v') u)))
              → Does p ok r whole Gave (Gives v' u) (state place (listed v') u)
          by g v' is sound' e = given' g v' is sound' (e ∙ ap (λ (x : Result'). machine.◌>>=◌ (machine.given_back (gives_of x) (listed v'))
              (λ vs. Some (leaves (caller ∷ callers) vs (state place (listed v') u)))) is)
            where
              on : (v'' : Option Val) → Sound p ok r whole (state place (listed v'') u) → next (module_of p) (state place (listed v'') u) ≡ Some
                  (leaves (caller ∷ callers) (listed v'') (state place (listed v'') u)) → IsGiven f.gives v'' → Does p ok r whole Gave (Gives v'' u) (state place (listed v'') u)
              on v'' sound'' e' given =
                  step_does p ok r whole Gave (Gives v'' u) (state place (listed v'') u) (record
                  { call = record caller { operands = listed v'' ++ caller.operands }; callers = callers; store = u.store; fuel = u.fuel }) sound'' e' sound''.kinds
                  (λ sound3. (record { call = record caller { operands = listed v'' ++ caller.operands }; callers = callers; store = u.store; fuel = u.fuel }, here (module_of p) _, sound3, (refl, given)))

              given' : (g' : Result') (v'' : Option Val) → f.gives ≡ g' → Sound p ok r whole (state place (listed v'') u)
                  → next (module_of p) (state place (listed v'') u) ≡ machine.◌>>=◌ (machine.given_back (gives_of g') (listed v''))
                  (λ vs. Some (leaves (caller ∷ callers) vs (state place (listed v'') u)))
                  → Does p ok r whole Gave (Gives v'' u) (state place (listed v'') u)
              given' result.Nothing None is' sound'' e' = on None sound'' e' (subst (λ (x : Result'). IsGiven x None) (sym is') tt)
              given' result.Nothing (Some x) is' sound'' e' = no_step p ok r whole (state place (x ∷ []) u) sound'' e'
              given' result.Int None is' sound'' e' = no_step p ok r whole (state place [] u) sound'' e'
              given' result.Int (Some (val.Int z)) is' sound'' e' = on (Some (val.Int z)) sound'' e' (subst (λ (x : Result'). IsGiven x (Some (val.Int z))) (sym is') tt)
              given' result.Int (Some (val.Truth b)) is' sound'' e' = no_step p ok r whole (state place (val.Truth b ∷ []) u) sound'' e'
              given' result.Bool None is' sound'' e' = no_step p ok r whole (state place [] u) sound'' e'
              given' result.Bool (Some (val.Int z)) is' sound'' e' = no_step p ok r whole (state place (val.Int z ∷ []) u) sound'' e'
              given' result.Bool (Some (val.Truth b)) is' sound'' e' = on (Some (val.Truth b)) sound'' e' (subst (λ (x : Result'). IsGiven x (Some (val.Truth b))) (sym is') tt)

    -- ---- functions

    -- nothing of main's stands in a function
    no_mains : (name : Text) (f : Function) (place : ℕ) (instr : Instr) → function_named p.functions name ≡ Some f → slice_get (function_code p f).instrs place ≡ Some instr → IsNotMains instr
    no_mains name f place instr named_is h = ((ok.functions (function_number p.functions name) (function_code p f) (numbered p p.functions name f named_is)).each place instr h).1

    module _ (levels : ℕ) (calls : CallsDo p ok r whole levels) (name : Text) (f : Function) (named_is : function_named p.functions name ≡ Some f) (given : List Val)
        (long : length given ≡ length f.params)
        (caller : Call) (callers : List Call) (deep : length callers + suc levels ≡ 64) where
      abbrev code : Code
      code = function_code p f

      -- the machine's locals as the body begins
      abbrev ml : List Val
      ml = given ++ map first_value (drop code.params code.locals)

      deeper : length (caller ∷ callers) + levels ≡ 64
      deeper = omega (arith, deep)

      others : drop code.params code.locals ≡ kinds_in (variant.Block f.body)
      others =
          ap (λ (n : ℕ). drop n (map (λ q. kind_of q.ty) f.params ++ kinds_in (variant.Block f.body))) (sym (length-map f.params (λ q. kind_of q.ty)))
          ∙ drop-append_seam (map (λ q. kind_of q.ty) f.params) (kinds_in (variant.Block f.body))

      ml_long : length ml ≡ length f.params + length (kinds_in (variant.Block f.body))
      ml_long =
          let a = length-append given (map first_value (drop code.params code.locals)) in
          let b = length-map (drop code.params code.locals) first_value in
          let c' = ap (λ (ks : List Ty). length ks) others in
          omega (arith, a, b, c', long)

      print_none : (items : List Item) (slots : Slots) (ls : Locals) (ml' : List Val) (at : At) (w : World) → ItemsAre p items → Unit {0} → Agree slots ls ml'
          → Sound p ok r whole (mk p ok r whole code ml' (caller ∷ callers) at.place [] w)
          → Holds code.instrs at.place (items_code p slots items at.place ++ i.Print (printed_items p slots items at.text) ∷ [])
          → Does p ok r whole (Plain p ok r whole code (caller ∷ callers) levels calls deeper (at.place + (items_size items + 1)) slots (length ml')) (nowhere (Printing items) ls w)
          (mk p ok r whole code ml' (caller ∷ callers) at.place [] w)
      print_none items slots ls ml' at w is here' agree sound has =
          absurd (no_mains name f (at.place + items_size items) (i.Print (printed_items p slots items at.text)) named_is
          (back code.instrs at.place (items_code p slots items at.place) (i.Print (printed_items p slots items at.text) ∷ []) (items_size items) (items_length p slots items at.place) has).0)

      par_none : (blocks : List RoutineBlock) (slots : Slots) (ls : Locals) (ml' : List Val) (at : At) (w : World) → WidthsAre p blocks → Unit {0} → Agree slots ls ml'
          → Sound p ok r whole (mk p ok r whole code ml' (caller ∷ callers) at.place [] w)
          → Holds code.instrs at.place (widths_code p slots blocks at.place ++ i.Par at.block (length blocks) ∷ [])
          → Does p ok r whole (Plain p ok r whole code (caller ∷ callers) levels calls deeper (at.place + (widths_size blocks + 1)) slots (length ml')) (nowhere (Stepping blocks) ls w)
          (mk p ok r whole code ml' (caller ∷ callers) at.place [] w)
      par_none blocks slots ls ml' at w is here' agree sound has =
          absurd (no_mains name f (at.place + widths_size blocks) (i.Par at.block (length blocks)) named_is
          (back code.instrs at.place (widths_code p slots blocks at.place) (i.Par at.block (length blocks) ∷ []) (widths_size blocks) (widths_length p slots blocks at.place) has).0)

      -- where the body comes to
      abbrev Body : Went → World → State → Type 0
      Body = After p ok r whole code (caller ∷ callers) levels calls deeper (0 + row_size p (hidden-the_row-Stmt-1 f.body) (with_params [] f.params) (length f.params))
          (ends_at (form_size p (variant.Block f.body) (with_params [] f.params) (length f.params))) (with_params [] f.params)
          (slots_after_row (with_params [] f.params) (length f.params) (hidden-the_row-Stmt-1 f.body)) (length ml)

      body_does : (w : World) → Sound p ok r whole (entered p ok r whole f given caller callers w)
          → Does p ok r whole Body (in_order p (calls_to p levels) nowhere (hidden-the_row-Stmt-1 f.body) (bound (map (λ q. q.name.text) f.params) given) w)
          (entered p ok r whole f given caller callers w)
      body_does w sound =
          let room : length f.params + length (kinds_in (variant.Block f.body)) ≤ length ml = omega (arith, ml_long) in
          let none_more : 0 + length f.params ≡ length f.params = omega arith in
          row_does p ok r whole code (caller ∷ callers) levels calls deeper (λ t b texts steps. Unit {0}) (λ t b a a' x x' h. tt) (λ t b a a' x x' h. tt) nowhere
          (of_nowhere Counts counts p (calls_to p levels) (of_calls_to Counts counts p levels)) print_none par_none
          (hidden-the_row-Stmt-1 f.body) (with_params [] f.params) (bound (map (λ q. q.name.text) f.params) given) ml (beginning (length f.params))
          (ends_at (form_size p (variant.Block f.body) (with_params [] f.params) (length f.params))) w
          (shape.functions name f named_is).body tt (params_agree f.params [] [] ml given long tt (stand_first given (map first_value (drop code.params code.locals))))
          (subst (λ (n : ℕ). Ascend 0 (with_params [] f.params) n) none_more (params_ascend f.params [] (omega arith))) room sound
          (stands (form_code p (variant.Block f.body) (with_params [] f.params) (beginning (length f.params))
          (ends_at (form_size p (variant.Block f.body) (with_params [] f.params) (length f.params)))) [] (closing f.gives))

      -- the end of the body, where it does not return
      closing_does : (u : World) (s' : State) → (HasValue f.gives → ⊥) → Sound p ok r whole s' → (ml' : List Val)
          → s' ≡ mk p ok r whole code ml' (caller ∷ callers) (form_size p (variant.Block f.body) (with_params [] f.params) (length f.params)) [] u
          → Does p ok r whole (Gave f caller callers ml') (Gives None u) s'
      closing_does u s' none sound ml' is = by f.gives refl none
        where
          by : (g : Result') → f.gives ≡ g → (HasValue g → ⊥) → Does p ok r whole (Gave f caller callers ml') (Gives None u) s'
          by result.Int e never = absurd (never tt)
          by result.Bool e never = absurd (never tt)
          by result.Nothing e never =
              let size = form_size p (variant.Block f.body) (with_params [] f.params) (length f.params) in
              let written = form_code p (variant.Block f.body) (with_params [] f.params) (beginning (length f.params)) (ends_at size) in
              let all = stands (written ++ closing f.gives) [] [] in
              let all' = subst (λ (l : List Instr). Holds l 0 (written ++ closing f.gives)) (append-nil (written ++ closing f.gives)) all in
              let end = back code.instrs 0 written (closing f.gives) size (form_length p (variant.Block f.body) (with_params [] f.params) (beginning (length f.params)) (ends_at size)) all' in
              let end' = subst (λ (x : Result'). Holds code.instrs (0 + size) (closing x)) e end in
              let at : 0 + size ≡ size = omega arith in
              from p ok r whole (Gave f caller callers ml') (Gives None u) s' (mk p ok r whole code ml' (caller ∷ callers) size [] u) is sound (λ sound1.
              return_does f caller callers ml' None size u (subst (λ (n : ℕ). slice_get code.instrs n ≡ Some i.Return) at end'.0) sound1)

      -- a function gives back what its body ends with
      gave : (went : Went) (u : World) (s' : State) → (HasValue f.gives → ByReturn went) → Sound p ok r whole s' → Body went u s'
          → Does p ok r whole (Gave f caller callers ml) (Gives (given_back went.0) u) s'
      gave (ending.Normal, ls) u s' returns sound q = closing_does u s' (λ h. returns h) sound q.0 (q.1 ∙ ap (λ (n : ℕ). mk p ok r whole code q.0 (caller ∷ callers) n [] u) zero)
        where
          zero : 0 + row_size p (hidden-the_row-Stmt-1 f.body) (with_params [] f.params) (length f.params) ≡ form_size p (variant.Block f.body) (with_params [] f.params) (length f.params)
          zero = omega arith
      gave (ending.Break, ls) u s' returns sound q = closing_does u s' (λ h. returns h) sound q.0 q.2
      gave (ending.Continue, ls) u s' returns sound q = closing_does u s' (λ h. returns h) sound q.0 q.2
      gave (ending.Return v, ls) u s' returns sound q =
          from p ok r whole (Gave f caller callers ml) (Gives v u) s' (mk p ok r whole code q.0 (caller ∷ callers) q.1 (listed v) u) q.3 sound
          (λ sound1. return_does f caller callers q.0 v q.1 u q.2 sound1)

      -- what the function's code does, called with these arguments
      function_does : (w : World) → Sound p ok r whole (entered p ok r whole f given caller callers w)
          → Does p ok r whole (λ back' u s'. (s' ≡ record { call = record caller { operands = listed back' ++ caller.operands }; callers = callers; store = u.store; fuel = u.fuel })
          × IsGiven f.gives back') (run_function p (calls_to p levels) (Some f) given w) (entered p ok r whole f given caller callers w)
      function_does w sound =
          subst (λ (run : Locals → Run Went). Does p ok r whole (Gave f caller callers ml) ((run (bound (map (λ q. q.name.text) f.params) given) >>= (λ went. pure (given_back went.0))) w)
          (entered p ok r whole f given caller callers w)) (in_order_is p (calls_to p levels) nowhere f.body)
          (then_does p ok r whole (λ went u s'. (HasValue f.gives → ByReturn went) × Body went u s') (Gave f caller callers ml)
          (in_order p (calls_to p levels) nowhere (hidden-the_row-Stmt-1 f.body) (bound (map (λ q. q.name.text) f.params) given) w) (λ went. pure (given_back went.0))
          (entered p ok r whole f given caller callers w)
          (with_all (λ went. HasValue f.gives → ByReturn went) Body (in_order p (calls_to p levels) nowhere (hidden-the_row-Stmt-1 f.body) (bound (map (λ q. q.name.text) f.params) given) w)
          (entered p ok r whole f given caller callers w) (returning w) (body_does w sound))
          (λ went u s' sound' q. gave went u s' q.0 sound' q.1))
        where
          all_if : {A : Type 0} (P : A → Type 0) (o : Outcome A) (g : Result') → (HasValue g → All P o) → All (λ a. HasValue g → P a) o
          all_if P (Gives a u) g h = λ has. h has
          all_if P (Stops cause u) g h = tt
          all_if P (ShowsLine line rest) g h = all_if P rest g h
          all_if P (OpensStep job rest) g h = λ later. all_if P (rest later) g (λ has. h has later)

          returning : (u : World) → All (λ went. HasValue f.gives → ByReturn went) (in_order p (calls_to p levels) nowhere (hidden-the_row-Stmt-1 f.body)
              (bound (map (λ q. q.name.text) f.params) given) u)
          returning u = all_if ByReturn (in_order p (calls_to p levels) nowhere (hidden-the_row-Stmt-1 f.body) (bound (map (λ q. q.name.text) f.params) given) u) f.gives (λ has.
              let is = (shape.functions name f named_is).returns has in
              row_ends p (calls_to p levels) (hidden-the_row-Stmt-1 f.body) (bound (map (λ q. q.name.text) f.params) given) u is.0 is.1)

    -- the code of functions does what they do, however deep calls may nest
    pub calls_do : (levels : ℕ) → CallsDo p ok r whole levels
    unfolding calls_to
    calls_do zero = tt
    calls_do (suc levels) = λ name f given caller callers w named_is long deep sound.
        subst (λ (o : Option Function). Does p ok r whole (λ back' u s'. (s' ≡ record { call = record caller { operands = listed back' ++ caller.operands }; callers = callers; store = u.store; fuel = u.fuel }) × IsGiven f.gives back') (run_function p (calls_to p levels) o given w) (entered p ok r whole f given caller callers w)) (sym named_is)
        (function_does levels (calls_do levels) name f named_is given long caller callers deep w sound)
