-- Routines.
use Rattle.std.proofs.Common.{◌≡◌, ℕ, ◌<◌, true, List, [], ◌∷◌, length, Some, refl, sym, ap, ◌∙◌, subst}
use Rattle.std.specs.Prelude.{slice_get, slice_index_or, pos}
use Rattle.std.specs.FinMap.{empty}
use Rattle.std.proofs.lemmas.Option.{slice_get-get_or, slice_get_within, get_or_from_slice_get}
use Rattle.cal_base.specs.Memory.{Memory, kinds_of}
use Rattle.cal_base.specs.Updates.{Written}
use Rattle.cal_base.specs.declared.value.Val.{Val}
use Rattle.cal_base.specs.declared.value.Val.TheVariants.{Int}
use Rattle.cal_base.specs.declared.value.Store.TheVariants.{Routine}
use Rattle.bytecode.specs.declared.instr.Instr.{Instr}
use Rattle.bytecode.specs.declared.instr.Instr.TheVariants as i
use Rattle.bytecode.specs.declared.module.Code.{Code}
use Rattle.bytecode.specs.declared.module.Module.{Module}
use Rattle.code_verify.specs.Rules.{IsVerified, HasShape}
use Rattle.machine_meaning.specs.Machine.{State}
use Rattle.machine_meaning.specs.Runs.{routine_beginning}
use Rattle.machine_meaning.specs.Fitting.{MayRun, Fits}
use Rattle.machine_meaning.specs.Meaning.{module_memory}
use Rattle.machine_meaning.proofs.Never.{routine_fits}
use Rattle.routine_vm.specs.declared.frame.Body.TheVariants as body
use Rattle.routine_vm.specs.declared.run.Run.{Run}
use Rattle.routine_vm.specs.Frames.{begun_frame}
use Rattle.routine_vm.specs.States.{state_of}
use Rattle.routine_vm.specs.Steps.{IsEvent}
use Rattle.routine_vm.specs.Ready.{IsReady, IsAtEvent}

-- the entry at an index that is there
pub block_there : (blocks : List Code) (b : ℕ) (c : Code) → b < length blocks → c ≡ slice_index_or blocks b c → slice_get blocks b ≡ Some c
block_there blocks b c lt is = slice_get-get_or blocks b c lt ∙ ap (λ (x : Code). Some x) (sym is)

no_event : (m : Module) (x : Instr) → MayRun m true x → IsEvent x → ⊥
no_event m (i.Print items) may event = absurd cc
no_event m (i.Par b n) may event = let clash = may.0 in absurd cc
no_event m _ may event = event

module _ (m : Module) (ok : IsVerified m) where
  pub block_shape : (b : ℕ) (c : Code) → slice_get m.blocks b ≡ Some c → HasShape c
  block_shape b c at = (ok.blocks b c at).sound.shape

  -- a routine is never at an event
  pub never_at_event : (r : Run) (opening : Memory) (written : Written) → IsReady m r (Routine opening written) → IsAtEvent (state_of m r (Routine opening written)) → ⊥
  never_at_event r opening written ready at = no_event m at.instr (ready.fits.call.runs.may r.call.place at.instr at.stands) at.event

  module _ (b : ℕ) (c : Code) (at : slice_get m.blocks b ≡ Some c) (width id fuel : ℕ) (opening : Memory) (written : Written) (none : written ≡ empty) where
    abbrev given : List Val
    given = Int (pos width) ∷ Int (pos id) ∷ []

    beginning_is : (r : Run) → r.call ≡ begun_frame (body.Block b) c given → r.waiting ≡ [] → r.fuel ≡ fuel → state_of m r (Routine opening written) ≡ routine_beginning c width id opening fuel
    beginning_is r call waiting left = rw (call, waiting, left, none, get_or_from_slice_get m.blocks b c m.main at) refl

    -- a routine that begins
    pub routine_ready : (r : Run) → r.call ≡ begun_frame (body.Block b) c given → r.waiting ≡ [] → r.fuel ≡ fuel → kinds_of opening ≡ kinds_of (module_memory m) → IsReady m r (Routine opening written)
    routine_ready r call waiting left kinds = record {
      fits = subst (λ (s : State). Fits m true s) (sym (beginning_is r call waiting left)) (routine_fits m ok b c width id opening fuel at);
      bottom = body.Block b;
      has_bottom = slice_get_within m.blocks b c at;
      above = rw (call, waiting) refl;
      words = kinds;
    }
