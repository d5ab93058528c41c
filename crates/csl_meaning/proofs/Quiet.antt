-- A routine shows no line and opens no step, and it leaves its step's opening memory as it is.
use Rattle.std.proofs.Common.{ℕ, zero, suc, ℤ, [], ◌∷◌, Result, Ok, Err, refl, pos}
use Rattle.cal_base.specs.declared.ends.Cause.{Cause}
use Rattle.cal_base.specs.declared.value.Store.{Store}
use Rattle.cal_base.specs.declared.value.Store.TheVariants as store
use Rattle.cal_base.specs.declared.value.Val.TheVariants.{Int}
use Rattle.cal_base.specs.Memory.{Memory}
use Rattle.cal_base.specs.Stores.{write_word, with_sum}
use Rattle.csl_tree.specs.declared.program.RoutineBlock.{RoutineBlock'}
use Rattle.csl_meaning.specs.declared.state.World.{World}
use Rattle.csl_meaning.specs.Locals.{bound}
use Rattle.csl_meaning.specs.Runs.{Outcome, Gives, Stops, ShowsLine, OpensStep, Run, and_then, spend, with_store}
use Rattle.csl_meaning.specs.Effect.{nowhere, calls_to, most_levels}
use Rattle.csl_meaning.specs.Routines.{opening_world}
use Rattle.csl_meaning.specs.Laws.{OpenedOn, IsQuiet, RoutinesAreQuiet}
use Rattle.csl_meaning.proofs.Parts.{Always, OfParts, of_in_order, of_calls_to, of_nowhere}

-- from a routine's store on some opening memory
abbrev pub Quiets : (A : Type 0) → World → Outcome A → Type 0
Quiets A w o = (memory : Memory) → OpenedOn memory w.store → IsQuiet memory o

then_quiet : {A B : Type 0} (o : Outcome A) (next : A → Run B) (memory : Memory) → IsQuiet memory o → ((a : A) → Always Quiets (next a)) → IsQuiet memory (and_then o next)
then_quiet (Gives a w) next memory h rest = rest a w memory h
then_quiet (Stops cause w) next memory h rest = h
then_quiet (ShowsLine line o) next memory h rest = absurd h
then_quiet (OpensStep job o) next memory h rest = absurd h

spend_quiet : (k : ℕ) (w : World) (memory : Memory) → OpenedOn memory w.store → IsQuiet memory (spend k w)
spend_quiet zero w memory h = h
spend_quiet (suc k) w memory h = h

write_opened : (s : Store) (address : ℕ) (number : ℤ) (memory : Memory) → OpenedOn memory s → OpenedOn memory (write_word s address number)
write_opened (store.Main own) address number memory h = absurd h
write_opened (store.Routine opening written) address number memory h = h

sum_quiet : (r : Result ℤ Cause) (w : World) (address : ℕ) (memory : Memory) → OpenedOn memory w.store → IsQuiet memory (with_store (with_sum w.store address r) w)
sum_quiet (Ok z) w address memory h = write_opened w.store address z memory h
sum_quiet (Err cause) w address memory h = h

pub quiets : OfParts Quiets
quiets = record {
  of_pure = λ A a w memory h. h;
  of_stop = λ A cause w memory h. h;
  of_then = λ A B run next first rest w memory h. then_quiet (run w) next memory (first w memory h) rest;
  of_unit = λ w memory h. spend_quiet w.fuel w memory h;
  of_read = λ address w memory h. h;
  of_write = λ address number w memory h. write_opened w.store address number memory h;
  of_add = λ address number w memory h. sum_quiet _ w address memory h;
}

pub routines_are_quiet : RoutinesAreQuiet
routines_are_quiet p memory fuel (RoutineBlock' at width width_name id_name shape body) w id =
    of_in_order Quiets quiets p (calls_to p most_levels) (of_calls_to Quiets quiets p most_levels) nowhere
    (of_nowhere Quiets quiets p (calls_to p most_levels) (of_calls_to Quiets quiets p most_levels))
    body (bound (width_name.text ∷ id_name.text ∷ []) (Int (pos w) ∷ Int (pos id) ∷ [])) (opening_world memory fuel) memory refl
