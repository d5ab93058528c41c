-- A command comes to one outcome at most.
use Rattle.std.proofs.Common.{◌≡◌, ◌≤◌, ◌<◌, ℕ, List, [], ◌∷◌, length, Option, Some, None, refl, sym, ap, ◌∙◌, subst, arith}
use Rattle.std.specs.List.{Contains}
use Rattle.calypso_cli.specs.Endings.{Ending, cannot_load, too_long}
use Rattle.calypso_cli.specs.Outcomes.{Reach, loads, creates, Outcome, stopped, reaching, Loads, missing, long, turned, loaded, Creates}

same_bytes : (one two : List ℕ) (o : Option (List ℕ)) → o ≡ Some one → o ≡ Some two → one ≡ two
same_bytes one two o e f = cc

no_bytes : (bytes : List ℕ) (o : Option (List ℕ)) → o ≡ None → o ≡ Some bytes → ⊥
no_bytes bytes o e f = cc

-- the first of a list is in it
first_in : (reach : Reach) (rest : List Reach) → Contains (reach ∷ rest) reach
first_in reach rest = (0, omega arith, refl)

-- bytes are read in one way, or turned away with one ending
pub record ReadsOnce {X : Type 0} (Reads : List ℕ → X → Type 0) (TurnsAway : List ℕ → Ending → Type 0) : Type 0 where
  pub one : (bytes : List ℕ) (x y : X) → Reads bytes x → Reads bytes y → x ≡ y
  pub one_ending : (bytes : List ℕ) (e f : Ending) → TurnsAway bytes e → TurnsAway bytes f → e ≡ f
  pub apart : (bytes : List ℕ) (x : X) (e : Ending) → Reads bytes x → TurnsAway bytes e → ⊥

module _ (file : List ℕ) (limit : ℕ) {X : Type 0} (Reads : List ℕ → X → Type 0) (TurnsAway : List ℕ → Ending → Type 0) (Next : X → Outcome → Type 0) (once : ReadsOnce Reads TurnsAway) where
  -- where the file's bytes are read
  pub only_loaded : {o : Option (List ℕ)} {outcome : Outcome} → Loads file limit Reads TurnsAway Next o outcome → (bytes : List ℕ) (x : X) → o ≡ Some bytes → length bytes ≤ limit
      → Reads bytes x → (rest : Outcome) × Next x rest × (outcome ≡ reaching (loads file) rest)
  only_loaded missing bytes x e small is = absurd (no_bytes bytes None refl e)
  only_loaded (long other large) bytes x e small is = absurd (omega (arith, ap length (same_bytes other bytes (Some other) refl e), large, small))
  only_loaded (turned other ending few r) bytes x e small is =
      let same : other ≡ bytes = same_bytes other bytes (Some other) refl e in
      absurd (once.apart bytes x ending is (subst (λ b. TurnsAway b ending) same r))
  only_loaded (loaded other y rest few r goes) bytes x e small is =
      let same : other ≡ bytes = same_bytes other bytes (Some other) refl e in
      (rest, subst (λ z. Next z rest) (once.one bytes y x (subst (λ b. Reads b y) same r) is) goes, refl)

  -- where they are turned away
  pub only_turned : {o : Option (List ℕ)} {outcome : Outcome} → Loads file limit Reads TurnsAway Next o outcome → (bytes : List ℕ) (ending : Ending) → o ≡ Some bytes → length bytes ≤ limit
      → TurnsAway bytes ending → outcome ≡ stopped file ending
  only_turned missing bytes ending e small is = absurd (no_bytes bytes None refl e)
  only_turned (long other large) bytes ending e small is = absurd (omega (arith, ap length (same_bytes other bytes (Some other) refl e), large, small))
  only_turned (turned other end few r) bytes ending e small is =
      let same : other ≡ bytes = same_bytes other bytes (Some other) refl e in
      ap (stopped file) (once.one_ending bytes end ending (subst (λ b. TurnsAway b end) same r) is)
  only_turned (loaded other y rest few r goes) bytes ending e small is =
      let same : other ≡ bytes = same_bytes other bytes (Some other) refl e in
      absurd (once.apart bytes y ending (subst (λ b. Reads b y) same r) is)

  -- where it is too long
  pub only_long : {o : Option (List ℕ)} {outcome : Outcome} → Loads file limit Reads TurnsAway Next o outcome → (bytes : List ℕ) → o ≡ Some bytes → limit < length bytes
      → outcome ≡ stopped file (too_long file)
  only_long missing bytes e large = absurd (no_bytes bytes None refl e)
  only_long (long other also) bytes e large = refl
  only_long (turned other end few r) bytes e large = absurd (omega (arith, ap length (same_bytes other bytes (Some other) refl e), large, few))
  only_long (loaded other y rest few r goes) bytes e large = absurd (omega (arith, ap length (same_bytes other bytes (Some other) refl e), large, few))

  -- where there is no such file
  only_missing : {o : Option (List ℕ)} {outcome : Outcome} → Loads file limit Reads TurnsAway Next o outcome → o ≡ None → outcome ≡ stopped file (cannot_load file)
  only_missing missing e = refl
  only_missing (long bytes large) e = absurd (no_bytes bytes (Some bytes) e refl)
  only_missing (turned bytes end few r) e = absurd (no_bytes bytes (Some bytes) e refl)
  only_missing (loaded bytes y rest few r goes) e = absurd (no_bytes bytes (Some bytes) e refl)

  -- the file is reached in any case
  pub is_reached : {o : Option (List ℕ)} {outcome : Outcome} → Loads file limit Reads TurnsAway Next o outcome → Contains outcome.reached (loads file)
  is_reached missing = first_in (loads file) []
  is_reached (long bytes large) = first_in (loads file) []
  is_reached (turned bytes end few r) = first_in (loads file) []
  is_reached (loaded bytes y rest few r goes) = first_in (loads file) rest.reached

  module _ (one_next : (x : X) (a b : Outcome) → Next x a → Next x b → a ≡ b) where
    one_rest : (x : X) (a two : Outcome) → Next x a → (b : Outcome) × Next x b × (two ≡ reaching (loads file) b) → reaching (loads file) a ≡ two
    one_rest x a two goes (b, also, is) = ap (reaching (loads file)) (one_next x a b goes also) ∙ sym is

    -- whatever the file holds
    pub one_load : {o : Option (List ℕ)} {one two : Outcome} → Loads file limit Reads TurnsAway Next o one → Loads file limit Reads TurnsAway Next o two → one ≡ two
    one_load missing other = sym (only_missing other refl)
    one_load (long bytes large) other = sym (only_long other bytes refl large)
    one_load (turned bytes end few r) other = sym (only_turned other bytes end refl few r)
    one_load {o} {one} {two} (loaded bytes y rest few r goes) other = one_rest y rest two goes (only_loaded other bytes y refl few r)

-- a file that is created, and what comes behind
pub one_create : (file : Option (List ℕ)) (Next : Outcome → Type 0) → ((a b : Outcome) → Next a → Next b → a ≡ b) → (one two : Outcome) → Creates file Next one → Creates file Next two → one ≡ two
one_create None Next one_next one two a b = one_next one two a b
one_create (Some name) Next one_next one two (a, goes, is) (b, also, too) = is ∙ ap (reaching (creates name)) (one_next a b goes also) ∙ sym too
