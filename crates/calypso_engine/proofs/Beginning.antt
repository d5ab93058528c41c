-- A team that begins a run.
use Rattle.std.proofs.Common.{◌≡◌, ℕ, zero, suc, ◌+◌, true, false, List, [], ◌∷◌, ◌++◌, map, eqb, refl, sym, ap, ◌∙◌, arith, ⊎_elim, find, cond, Some}
use Rattle.std.specs.Option.{unwrap_or}
use Rattle.std.specs.List.{AllByRecursion, range_with_len}
use Rattle.std.proofs.lemmas.Bool.{cases_Bool, cases_eq, ne_eqb}
use Rattle.std.proofs.lemmas.List.{map-append}
use Rattle.bytecode.specs.declared.module.Module.{Module}
use Rattle.cal_base.specs.declared.step.WorkerTally.{WorkerTally}
use Rattle.cal_base.specs.Pages.{Paged}
use Rattle.fault_script.specs.Rows.{Row, row_of, plain_row}
use Rattle.worker_gate.specs.Working.{WorkerState, MayWork, first_tally}
use Rattle.cal_base.specs.declared.step.TheConstants.{CALLER}
use Rattle.calypso_engine.specs.declared.team.Team.{Team}
use Rattle.calypso_engine.specs.Teams.{IsMember}
use Rattle.calypso_engine.specs.Beginning.{IsBegun, AreBegun, IsFresh}

same_number : (a b : ℕ) → eqb a b ≡ true → a ≡ b
same_number a b e = ⊎_elim (λ (same : a ≡ b). same) (λ (apart : a ≡ b → ⊥). absurd (cc (e, ne_eqb a b apart))) (cases_eq a b)

-- the row of a number has that number
pub row_number : (rows : List Row) (who : ℕ) → (row_of rows who).number ≡ who
row_number [] who = refl
row_number (row ∷ rows) who =
    ⊎_elim
    (λ (is : eqb row.number who ≡ true). ap (λ b. (unwrap_or (cond b (Some row) (find (λ r. eqb r.number who) rows)) (plain_row who)).number) is ∙ same_number row.number who is)
    (λ (no : eqb row.number who ≡ false). ap (λ b. (unwrap_or (cond b (Some row) (find (λ r. eqb r.number who) rows)) (plain_row who)).number) no ∙ row_number rows who)
    (cases_Bool (eqb row.number who))

range_suc : (a n : ℕ) → range_with_len a (suc n) ≡ range_with_len a n ++ (a + n) ∷ []
range_suc a zero = let e : a ≡ a + 0 = omega arith in ap (λ k. k ∷ []) e
range_suc a (suc n) = let e : a + 1 + n ≡ a + suc n = omega arith in ap (λ xs. a ∷ xs) (range_suc (a + 1) n ∙ ap (λ k. range_with_len (a + 1) n ++ k ∷ []) e)

range_push : (n : ℕ) → range_with_len 0 (n + 1) ≡ range_with_len 0 n ++ n ∷ []
range_push n =
    let one : n + 1 ≡ suc n = omega arith in
    let zero_more : 0 + n ≡ n = omega arith in
    ap (range_with_len 0) one ∙ range_suc 0 n ∙ ap (λ k. range_with_len 0 n ++ k ∷ []) zero_more

all_push : {A : Type 0} (P : A → Type 0) (xs : List A) (x : A) → AllByRecursion P xs → P x → AllByRecursion P (xs ++ x ∷ [])
all_push P [] x all here = (here, tt)
all_push P (y ∷ xs) x all here = (all.0, all_push P xs x all.1 here)

module _ (rows : List Row) where
  pub begun_none : (image : Paged) (m : Module) → AreBegun rows 0 image m []
  begun_none image m = record { members = tt; tallies = refl }

  pub begun_push : (n : ℕ) (image : Paged) (m : Module) (ws : List WorkerState) (w : WorkerState) → AreBegun rows n image m ws → IsBegun rows image m n w → AreBegun rows (n + 1) image m (ws ++ w ∷ [])
  begun_push n image m ws w begun one = record {
    members = all_push (IsMember rows 0 image m) ws w begun.members one.member;
    tallies =
        map-append (λ (v : WorkerState). v.tally) ws (w ∷ [])
        ∙ (λ i. begun.tallies i ++ one.tally i ∷ [])
        ∙ sym (map-append first_tally (range_with_len 0 n) (n ∷ []))
        ∙ ap (map first_tally) (sym (range_push n));
  }

first_whos : (whos : List ℕ) → map (λ (t : WorkerTally). t.who) (map first_tally whos) ≡ whos
first_whos [] = refl
first_whos (who ∷ whos) = ap (λ xs. who ∷ xs) (first_whos whos)

whos_of : (ws : List WorkerState) → map (λ (w : WorkerState). w.tally.who) ws ≡ map (λ (t : WorkerTally). t.who) (map (λ (w : WorkerState). w.tally) ws)
whos_of [] = refl
whos_of (w ∷ ws) = ap (λ xs. w.tally.who ∷ xs) (whos_of ws)

module _ (rows : List Row) (count : ℕ) (image : Paged) (m : Module) (team : Team) (begun : AreBegun rows count image m team.workers.items) (tally : team.caller.tally ≡ first_tally CALLER)
    (may : MayWork team.caller image m) where
  pub fresh : IsFresh rows count image m team
  fresh = record {
    workers = begun;
    working = record {
      members = begun.members;
      numbers = whos_of team.workers.items ∙ ap (map (λ (t : WorkerTally). t.who)) begun.tallies ∙ first_whos (range_with_len 0 count);
      caller = ap (λ (t : WorkerTally). t.who) tally;
      may = may;
      claims = omega (arith, ap (λ (t : WorkerTally). t.claims) tally);
    };
    caller = tally;
  }
