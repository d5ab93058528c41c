-- A step of a run over events, from its opening to its end.
use Rattle.std.proofs.Common.{◌≡◌, ℕ, zero, suc, ◌+◌, ◌<◌, List, get_or, [], ◌∷◌, ◌++◌, length, drop, refl, sym, ap, ◌∙◌, append-nil, arith}
use Rattle.std.specs.Prelude.{◌⊎◌}
use Rattle.cal_base.specs.Memory.{Memory}
use Rattle.cal_base.specs.History.{History}
use Rattle.cal_base.specs.Claims.{StepJob, merged, IsComplete}
use Rattle.cal_base.specs.Main.{Main, Opens}
use Rattle.event_world.specs.declared.event.Event.{Event}
use Rattle.event_world.specs.World.{Mode, Delivery, Turn, closing, freed, turn_of}
use Rattle.step_laws.specs.Caller.{completed}
use Rattle.event_engine.specs.Resuming.{resume, resume_in}
use Rattle.event_engine.proofs.Resuming.{resume_opens, resume_turn, resume_closes, open_is}

-- the rest of a list begins with its element
drop_next : {A : Type 0} (xs : List A) (i : ℕ) (d : A) → i < length xs → drop i xs ≡ get_or xs i d ∷ drop (suc i) xs
drop_next [] i d within = absurd (omega (arith, within))
drop_next (x ∷ xs) zero d within = refl
drop_next (x ∷ xs) (suc i) d within = drop_next xs i d (omega (arith, within))

pub drop_here : {A : Type 0} (xs : List A) (i : ℕ) (d : A) → i < length xs → drop i xs ≡ get_or xs i d ∷ drop (i + 1) xs
drop_here xs i d within = let one : suc i ≡ i + 1 = omega arith in drop_next xs i d within ∙ ap (λ (n : ℕ). get_or xs i d ∷ drop n xs) one

module _ (job : StepJob) where
  -- one event more
  pub goes_more : (after : Memory → Main) (turn later : Turn) (e : Event) (events rest : List Event) → (IsComplete job turn.history → ⊥) → events ≡ e ∷ rest → later ≡ turn_of job e turn
      → resume_in job after turn events ≡ resume_in job after later rest
  goes_more after turn later e events rest still are is =
      ap (resume_in job after turn) are ∙ resume_turn job after turn e rest (open_is job turn.history still) ∙ ap (λ (t : Turn). resume_in job after t rest) (sym is)

  -- the whole step
  module _ (modes worked left : ℕ → Mode) (free : (w : ℕ) → freed (modes w) ≡ modes w) (older first fresh kept : List Delivery) (events rest : List Event) (begun core history : History)
      (none : begun ≡ []) (empty : first ≡ []) where
    pub whole_step :
        ((after : Memory → Main) → resume_in job after (record { history = begun; modes = modes; deliveries = older ++ first }) events ≡ resume_in job after
        (record { history = core; modes = worked; deliveries = older ++ fresh }) rest)
        → IsComplete job core ⊎ (rest ≡ []) → history ≡ completed job core → left ≡ (λ w. freed (worked w)) → kept ≡ older ++ fresh
        → (next : Memory → Main) → resume (Opens job next) modes older events ≡ closing job history (merged job history) (λ later. resume (next later) left kept rest)
    whole_step goes ends is frees keeps next =
        resume_opens job next modes older events free
        ∙ (λ i. resume_in job next (record { history = sym none i; modes = modes; deliveries = (sym (append-nil older) ∙ ap (λ (l : List Delivery). older ++ l) (sym empty)) i }) events)
        ∙ goes next
        ∙ resume_closes job next (record { history = core; modes = worked; deliveries = older ++ fresh }) rest ends
        ∙ (λ i. closing job (sym is i) (merged job (sym is i)) (λ later. resume (next later) (sym frees i) (sym keeps i) rest))
