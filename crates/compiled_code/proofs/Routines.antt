-- The code of routine blocks does what they do.
use Rattle.std.proofs.Common.{◌≡◌, true, ℕ, suc, ◌+◌, ◌≤◌, List, [], ◌∷◌, ◌++◌, length, map, Option, Some, None, refl, sym, ap, ◌∙◌, subst, arith}
use Rattle.std.specs.Prelude.{pos, slice_get}
use Rattle.std.specs.List.{range_with_len}
use Rattle.std.proofs.lemmas.List.{append-nil, length-map}
use Rattle.cal_base.specs.declared.ends.RoutineEnd.TheVariants.{Ended}
use Rattle.cal_base.specs.declared.value.Val.{Val}
use Rattle.cal_base.specs.declared.value.Val.TheVariants.{Int}
use Rattle.cal_base.specs.Memory.{Memory}
use Rattle.csl_tree.specs.declared.program.Program.{Program}
use Rattle.csl_tree.specs.declared.program.Item.{Item}
use Rattle.csl_tree.specs.declared.program.RoutineBlock.{RoutineBlock, RoutineBlock'}
use Rattle.csl_meaning.specs.declared.state.World.{World}
use Rattle.csl_meaning.specs.declared.state.Ending.TheVariants as ending
use Rattle.csl_meaning.specs.Locals.{Locals, bound}
use Rattle.csl_meaning.specs.Runs.{Outcome, Gives, Stops, ShowsLine, OpensStep}
use Rattle.csl_meaning.specs.Effect.{Went, Printing, Stepping, nowhere, calls_to}
use Rattle.csl_meaning.specs.Routines as meaning
use Rattle.csl_meaning.specs.Routines.{opening_world, routine_run, end_of, world_after}
use Rattle.csl_meaning.specs.Laws.{IsQuiet}
use Rattle.csl_meaning.proofs.Quiet.{routines_are_quiet}
use Rattle.csl_meaning.proofs.Parts.{of_nowhere, of_calls_to}
use Rattle.csl_meaning.proofs.Counts.{Counts, counts}
use Rattle.bytecode.specs.declared.instr.Instr.{Instr}
use Rattle.bytecode.specs.declared.instr.Instr.TheVariants as i
use Rattle.cal_terms.specs.declared.types.Gives.TheVariants as gives
use Rattle.code_verify.specs.Rules.{IsVerified, IsNotMains}
use Rattle.machine_meaning.specs.Machine as machine
use Rattle.machine_meaning.specs.Machine.{State, Ends, first_value, leaves, next}
use Rattle.machine_meaning.specs.Runs.{routine_beginning}
use Rattle.machine_meaning.specs.Meaning as machine_means
use Rattle.machine_meaning.specs.Meaning.{routine_outcome, outcome_at}
use Rattle.machine_meaning.specs.Reaching.{ComesTo}
use Rattle.machine_meaning.proofs.Never.{routine_fits}
use Rattle.machine_meaning.proofs.Reaches.{routine_ends, routine_traps}
use Rattle.compiled_code.specs.Slots.{Slots}
use Rattle.compiled_code.specs.Sizes.{items_size, widths_size, kinds_in_row}
use Rattle.compiled_code.specs.Places.{row_size, slots_after_row}
use Rattle.compiled_code.specs.Statements.{At, items_code, printed_items, widths_code, row_code}
use Rattle.compiled_code.specs.Modules.{beginning, ends_at, routine_slots, block_code, module_of}
use Rattle.compiled_code.specs.Shape.{HasShape, ItemsAre, WidthsAre, RoutineIs}
use Rattle.compiled_code.proofs.Does.{HasKinds, Sound, Does, no_step}
use Rattle.compiled_code.proofs.Pieces.{Holds, back, stands}
use Rattle.compiled_code.proofs.Frames.{Agree}
use Rattle.compiled_code.proofs.Lengths.{row_length, items_length, widths_length}
use Rattle.compiled_code.proofs.Values.{CallsDo, listed, at_instr, mk}
use Rattle.compiled_code.proofs.Loops.{After}
use Rattle.compiled_code.proofs.Statements.{Plain, row_does}
use Rattle.compiled_code.proofs.Bodies.{calls_do}

module _ (p : Program) (ok : IsVerified (module_of p)) (shape : HasShape p) (whole : ℕ) where
  abbrev calls : CallsDo p ok true whole 64
  calls = calls_do p ok true whole shape 64

  deep : length {A = machine.Call} [] + 64 ≡ 64
  deep = omega arith

  module _ (at' : ℕ) (b : RoutineBlock) (n : ℕ) (there : slice_get (module_of p).blocks n ≡ Some (block_code p b)) where
    -- nothing of main's stands in a block
    no_mains : (place : ℕ) (instr : Instr) → slice_get (block_code p b).instrs place ≡ Some instr → IsNotMains instr
    no_mains place instr h = ((ok.blocks n (block_code p b) there).each place instr h).1

    print_none : (items : List Item) (slots : Slots) (ls : Locals) (ml : List Val) (at : At) (w : World) → ItemsAre p items → Unit {0} → Agree slots ls ml
        → Sound p ok true whole (mk p ok true whole (block_code p b) ml [] at.place [] w)
        → Holds (block_code p b).instrs at.place (items_code p slots items at.place ++ i.Print (printed_items p slots items at.text) ∷ [])
        → Does p ok true whole (Plain p ok true whole (block_code p b) [] 64 calls deep (at.place + (items_size items + 1)) slots (length ml)) (nowhere (Printing items) ls w)
        (mk p ok true whole (block_code p b) ml [] at.place [] w)
    print_none items slots ls ml at w is here' agree sound has =
        absurd (no_mains (at.place + items_size items) (i.Print (printed_items p slots items at.text))
        (back (block_code p b).instrs at.place (items_code p slots items at.place) (i.Print (printed_items p slots items at.text) ∷ []) (items_size items) (items_length p slots items at.place)
        has).0)

    par_none : (blocks : List RoutineBlock) (slots : Slots) (ls : Locals) (ml : List Val) (at : At) (w : World) → WidthsAre p blocks → Unit {0} → Agree slots ls ml
        → Sound p ok true whole (mk p ok true whole (block_code p b) ml [] at.place [] w)
        → Holds (block_code p b).instrs at.place (widths_code p slots blocks at.place ++ i.Par at.block (length blocks) ∷ [])
        → Does p ok true whole (Plain p ok true whole (block_code p b) [] 64 calls deep (at.place + (widths_size blocks + 1)) slots (length ml)) (nowhere (Stepping blocks) ls w)
        (mk p ok true whole (block_code p b) ml [] at.place [] w)
    par_none blocks slots ls ml at w is here' agree sound has =
        absurd (no_mains (at.place + widths_size blocks) (i.Par at.block (length blocks)) (back (block_code p b).instrs at.place (widths_code p slots blocks at.place)
        (i.Par at.block (length blocks) ∷ []) (widths_size blocks) (widths_length p slots blocks at.place) has).0)

    -- a Return ends a routine
    ends_there : (v : Option Val) (ml : List Val) (place : ℕ) (u : World) → (block_code p b).gives ≡ gives.Nothing
        → Sound p ok true whole (mk p ok true whole (block_code p b) ml [] place (listed v) u) → slice_get (block_code p b).instrs place ≡ Some i.Return
        → next (module_of p) (mk p ok true whole (block_code p b) ml [] place (listed v) u) ≡ Some (Ends u.store u.fuel)
    ends_there v ml place u gives_none sound h =
        by v sound (at_instr p ok true whole (mk p ok true whole (block_code p b) ml [] place (listed v) u) i.Return h
        ∙ ap (λ (g : _). machine.◌>>=◌ (machine.given_back g (listed v)) (λ vs. Some (leaves [] vs (mk p ok true whole (block_code p b) ml [] place (listed v) u)))) gives_none)
      where
        by : (v' : Option Val) → Sound p ok true whole (mk p ok true whole (block_code p b) ml [] place (listed v') u)
            → next (module_of p) (mk p ok true whole (block_code p b) ml [] place (listed v') u) ≡ machine.◌>>=◌ (machine.given_back gives.Nothing (listed v'))
            (λ vs. Some (leaves [] vs (mk p ok true whole (block_code p b) ml [] place (listed v') u)))
            → next (module_of p) (mk p ok true whole (block_code p b) ml [] place (listed v') u) ≡ Some (Ends u.store u.fuel)
        by None sound' e = e
        by (Some x) sound' e = no_step p ok true whole (mk p ok true whole (block_code p b) ml [] place (x ∷ []) u) sound' e

  -- a routine of a block that stands in the module ends as it means, with what it writes and the fuel that it leaves
  pub routine_same : (b : RoutineBlock) (n : ℕ) (w id : ℕ) (memory : Memory) (fuel : ℕ) → slice_get (module_of p).blocks n ≡ Some (block_code p b) → RoutineIs p b → HasKinds p memory
      → routine_outcome (module_of p) (block_code p b) w id memory fuel ≡ outcome_at (end_of (routine_run p memory fuel b w id)) (world_after (routine_run p memory fuel b w id)).store
      (world_after (routine_run p memory fuel b w id)).fuel
  routine_same (RoutineBlock' at' width width_name id_name form body) n w id memory fuel there is kinds =
      told (routine_run p memory fuel b w id) does (routines_are_quiet p memory fuel b w id)
    where
      b : RoutineBlock
      b = RoutineBlock' at' width width_name id_name form body

      ml : List Val
      ml = Int (pos w) ∷ Int (pos id) ∷ map first_value (kinds_in_row body)

      slots : Slots
      slots = routine_slots width_name.text id_name.text

      size : ℕ
      size = row_size p body slots 2

      begin : State
      begin = routine_beginning (block_code p b) w id memory fuel

      sound : Sound p ok true whole begin
      sound = record { fits = routine_fits (module_of p) ok n (block_code p b) w id memory fuel there; kinds = kinds }

      room : 2 + length (kinds_in_row body) ≤ length ml
      room = let e = length-map (kinds_in_row body) first_value in omega (arith, e)

      does : Does p ok true whole (After p ok true whole (block_code p b) [] 64 calls deep (0 + size) (ends_at size) slots (slots_after_row slots 2 body) (length ml))
          (routine_run p memory fuel b w id) begin
      does =
          row_does p ok true whole (block_code p b) [] 64 calls deep (λ t x texts steps. Unit {0}) (λ t x a a' y y' h. tt) (λ t x a a' y y' h. tt) nowhere
          (of_nowhere Counts counts p (calls_to p 64) (of_calls_to Counts counts p 64)) (print_none at' b n there) (par_none at' b n there)
          body slots (bound (width_name.text ∷ id_name.text ∷ []) (Int (pos w) ∷ Int (pos id) ∷ [])) ml (beginning 2) (ends_at size) (opening_world memory fuel) is tt (refl, refl, (refl, refl, tt))
          (omega arith, (omega arith, omega arith)) room sound
          (stands (row_code p body slots (beginning 2) (ends_at size)) [] (i.Return ∷ []))

      -- the Return at the end
      last : slice_get (block_code p b).instrs size ≡ Some i.Return
      last =
          let written = row_code p body slots (beginning 2) (ends_at size) in
          let all = subst (λ (l : List Instr). Holds l 0 (written ++ i.Return ∷ [])) (append-nil (written ++ i.Return ∷ [])) (stands (written ++ i.Return ∷ []) [] []) in
          let zero' : 0 + size ≡ size = omega arith in
          subst (λ (k : ℕ). slice_get (block_code p b).instrs k ≡ Some i.Return) zero' (back (block_code p b).instrs 0 written (i.Return ∷ []) size
          (row_length p body slots (beginning 2) (ends_at size)) all).0

      ended : (v : Option Val) (ml' : List Val) (place : ℕ) (u : World) (s' : State) → ComesTo (module_of p) begin s' → Sound p ok true whole s'
          → s' ≡ mk p ok true whole (block_code p b) ml' [] place (listed v) u → slice_get (block_code p b).instrs place ≡ Some i.Return
          → routine_outcome (module_of p) (block_code p b) w id memory fuel ≡ outcome_at Ended u.store u.fuel
      ended v ml' place u s' to sound' e h =
          let t = mk p ok true whole (block_code p b) ml' [] place (listed v) u in
          routine_ends (module_of p) ok n (block_code p b) w id memory fuel t u.store u.fuel there (subst (λ (x : State). ComesTo (module_of p) begin x) e to)
          (ends_there at' b n there v ml' place u refl (subst (λ (x : State). Sound p ok true whole x) e sound') h)

      told : (o : Outcome Went) → Does p ok true whole (After p ok true whole (block_code p b) [] 64 calls deep (0 + size) (ends_at size) slots (slots_after_row slots 2 body) (length ml)) o begin
          → IsQuiet memory o
          → routine_outcome (module_of p) (block_code p b) w id memory fuel ≡ outcome_at (end_of o) (world_after o).store (world_after o).fuel
      told (Gives (ending.Normal, ls) u) d quiet =
          let zero' : 0 + size ≡ size = omega arith in
          ended None d.3.0 size u d.0 d.1 d.2 (d.3.1 ∙ ap (λ (k : ℕ). mk p ok true whole (block_code p b) d.3.0 [] k [] u) zero') last
      told (Gives (ending.Break, ls) u) d quiet = ended None d.3.0 size u d.0 d.1 d.2 d.3.2 last
      told (Gives (ending.Continue, ls) u) d quiet = ended None d.3.0 size u d.0 d.1 d.2 d.3.2 last
      told (Gives (ending.Return v, ls) u) d quiet = ended v d.3.0 d.3.1 u d.0 d.1 d.2 d.3.3 d.3.2
      told (Stops cause u) d quiet = routine_traps (module_of p) ok n (block_code p b) w id memory fuel cause u.store u.fuel there d
      told (ShowsLine line rest) d quiet = absurd quiet
      told (OpensStep job rest) d quiet = absurd quiet

  -- so the answers of a step are the same
  pub answers_same : (bs : List RoutineBlock) (widths : List ℕ) (memory : Memory) (fuel : ℕ)
      → ((b : RoutineBlock) (k : ℕ) → slice_get bs k ≡ Some b → RoutineIs p b × ((n : ℕ) × (slice_get (module_of p).blocks n ≡ Some (block_code p b)))) → HasKinds p memory
      → meaning.answers p memory fuel bs widths ≡ machine_means.answers (module_of p) fuel memory (map (λ b. block_code p b) bs) widths
  answers_same [] widths memory fuel there kinds = refl
  answers_same (b ∷ bs) [] memory fuel there kinds = refl
  answers_same (b ∷ bs) (w ∷ widths) memory fuel there kinds =
      let is = there b 0 refl in
      λ j. map (λ id. machine_answer is.0 is.1.0 is.1.1 id j) (range_with_len 0 w) ++ answers_same bs widths memory fuel (λ b' k h. there b' (suc k) h) kinds j
    where
      machine_answer : RoutineIs p b → (n : ℕ) → slice_get (module_of p).blocks n ≡ Some (block_code p b) → (id : ℕ)
          → meaning.answer p memory fuel b w id ≡ machine_means.answered (routine_outcome (module_of p) (block_code p b) w id memory fuel)
      machine_answer is n at id = ap (λ (o : machine_means.Outcome). machine_means.answered o) (sym (routine_same b n w id memory fuel at is kinds))
