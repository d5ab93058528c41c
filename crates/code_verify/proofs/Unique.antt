-- A code whose jumps go on has at most one list of kinds at each place.
use Rattle.std.proofs.Common.{◌≡◌, ℕ, zero, suc, ◌+◌, ◌<◌, ◌≤◌, Bool, true, false, cond, length, Option, Some, None, ◌⊎◌, inl, inr, refl, sym, subst, ◌∙◌, arith}
use Rattle.std.specs.Prelude.{slice_get, ◌==◌}
use Rattle.std.proofs.lemmas.Bool.{eqb-true, cases_lt}
use Rattle.bytecode.specs.declared.instr.Instr.{Instr}
use Rattle.bytecode.specs.declared.instr.Instr.TheVariants as i
use Rattle.bytecode.specs.declared.module.Code.{Code}
use Rattle.bytecode.specs.declared.module.Module.{Module}
use Rattle.code_verify.specs.Kinds.{Kinds, after}
use Rattle.code_verify.specs.Rules.{Taken, KindsAt, IsTaken, Comes, IsAhead, leads}

next_is_ahead : (place to : ℕ) → (place + 1 == to) ≡ true → place < to
next_is_ahead place to e = let same : place + 1 ≡ to = eqb-true (place + 1) to e in omega arith

branch_is_ahead : (t place to : ℕ) (b : Bool) → (t == to) ≡ b → place < t → cond b true (place + 1 == to) ≡ true → place < to
branch_is_ahead t place to true e lt h = let same : t ≡ to = eqb-true t to e in omega arith
branch_is_ahead t place to false e lt h = next_is_ahead place to h

pub leads_ahead : (x : Instr) (place to : ℕ) → IsAhead place x → leads x place to ≡ true → place < to
leads_ahead (i.Jump t) place to lt h = let same : t ≡ to = eqb-true t to h in omega arith
leads_ahead (i.Branch t) place to lt h = branch_is_ahead t place to (t == to) refl lt h
leads_ahead (i.Loop t) place to lt h = absurd cc
leads_ahead i.Return place to lt h = absurd cc
leads_ahead _ place to lt h = next_is_ahead place to h

module _ (m : Module) (c : Code) (aheads : (place : ℕ) (x : Instr) → slice_get c.instrs place ≡ Some x → IsAhead place x) where
  -- something comes from a place before this one, or nothing does
  abbrev Before : Taken → ℕ → ℕ → Type 0
  Before taken to n = (ks : Kinds) × (x : Comes m c taken to ks) × (x.place < n)

  one_place : (taken : Taken) (to place : ℕ) (x : Option Instr) (here : Option Kinds) → slice_get c.instrs place ≡ x → slice_get taken place ≡ here
      → Before taken to (place + 1) ⊎ ((ks : Kinds) (y : Comes m c taken to ks) → y.place ≡ place → ⊥)
  one_place taken to place None here e f = inr (λ ks y p. let stands : slice_get c.instrs place ≡ Some y.instr = subst (λ (n : ℕ). slice_get c.instrs n ≡ Some y.instr) p y.stands in cc)
  one_place taken to place (Some x) None e f = inr (λ ks y p. let with : KindsAt taken place y.here = subst (λ (n : ℕ). KindsAt taken n y.here) p y.taken_with in cc)
  one_place taken to place (Some x) (Some here) e f = tested (leads x place to) (after m c x here) refl refl
    where
      tested : (b : Bool) (o : Option Kinds) → leads x place to ≡ b → after m c x here ≡ o → Before taken to (place + 1) ⊎ ((ks : Kinds) (y : Comes m c taken to ks) → y.place ≡ place → ⊥)
      tested true (Some ks) l a = inl (ks, record { place = place; instr = x; here = here; stands = e; taken_with = f; leads_on = l; leaves = a }, omega arith)
      tested true None l a = inr (λ ks y p.
          let stands : slice_get c.instrs place ≡ Some y.instr = subst (λ (n : ℕ). slice_get c.instrs n ≡ Some y.instr) p y.stands in
          let with : KindsAt taken place y.here = subst (λ (n : ℕ). KindsAt taken n y.here) p y.taken_with in
          let same : y.instr ≡ x = cc in
          let same_here : y.here ≡ here = cc in
          let left : after m c x here ≡ Some ks = subst (λ (h : Kinds). after m c x h ≡ Some ks) same_here (subst (λ (z : Instr). after m c z y.here ≡ Some ks) same y.leaves) in
          cc)
      tested false o l a = inr (λ ks y p.
          let stands : slice_get c.instrs place ≡ Some y.instr = subst (λ (n : ℕ). slice_get c.instrs n ≡ Some y.instr) p y.stands in
          let same : y.instr ≡ x = cc in
          let on : leads x place to ≡ true = subst (λ (z : Instr). leads z place to ≡ true) same (subst (λ (n : ℕ). leads y.instr n to ≡ true) p y.leads_on) in
          cc)

  search_before : (taken : Taken) (to n : ℕ) → Before taken to n ⊎ ((ks : Kinds) (y : Comes m c taken to ks) → y.place < n → ⊥)
  search_before taken to zero = inr (λ ks y lt. omega arith)
  search_before taken to (suc n) =
      elim (search_before taken to n) [
        | inl b ↦ inl (b.0, b.1, omega (arith, b.2))
        | inr none ↦ elim (one_place taken to n (slice_get c.instrs n) (slice_get taken n) refl refl) [
          | inl b ↦ inl (b.0, b.1, omega (arith, b.2))
          | inr none' ↦ inr (λ ks y lt. elim (cases_lt y.place n) [ inl less ↦ none ks y less | inr le ↦ none' ks y (omega (arith, lt, le)) ])
        ]
      ]

  -- what comes by one table comes by another that agrees before
  moved : (t u : Taken) (to : ℕ) (ks : Kinds) → ((p : ℕ) → p < to → slice_get t p ≡ slice_get u p) → Comes m c t to ks → Comes m c u to ks
  moved t u to ks agree y =
      let lt = leads_ahead y.instr y.place to (aheads y.place y.instr y.stands) y.leads_on in
      record { place = y.place; instr = y.instr; here = y.here; stands = y.stands; taken_with = sym (agree y.place lt) ∙ y.taken_with; leads_on = y.leads_on; leaves = y.leaves }

  agree_at : (t u : Taken) → IsTaken m c t → IsTaken m c u → (to : ℕ) → to < length c.instrs → ((p : ℕ) → p < to → slice_get t p ≡ slice_get u p) → slice_get t to ≡ slice_get u to
  agree_at t u ok ok' to lt agree =
      elim (search_before t to to) [
        | inl b ↦ ok.comes to b.0 b.1 ∙ sym (ok'.comes to b.0 (moved t u to b.0 agree b.1))
        | inr none ↦
            ok.alone to lt (λ ks y. none ks y (leads_ahead y.instr y.place to (aheads y.place y.instr y.stands) y.leads_on))
            ∙ sym (ok'.alone to lt (λ ks y. let y' = moved u t to ks (λ p less. sym (agree p less)) y in none ks y'
            (leads_ahead y'.instr y'.place to (aheads y'.place y'.instr y'.stands) y'.leads_on)))
      ]

  -- by the places in order
  agree_below : (t u : Taken) → IsTaken m c t → IsTaken m c u → (n : ℕ) → n ≤ length c.instrs → (p : ℕ) → p < n → slice_get t p ≡ slice_get u p
  agree_below t u ok ok' zero le p lt = absurd (omega arith)
  agree_below t u ok ok' (suc n) le p lt =
      elim (cases_lt p n) [
        | inl less ↦ agree_below t u ok ok' n (omega arith) p less
        | inr ge ↦ let same : p ≡ n = omega arith in subst (λ (k : ℕ). slice_get t k ≡ slice_get u k) (sym same) (agree_at t u ok ok' n (omega arith) (agree_below t u ok ok' n (omega arith)))
      ]

  -- each place has one list of kinds
  pub one_table : (t u : Taken) → IsTaken m c t → IsTaken m c u → (p : ℕ) → p < length c.instrs → slice_get t p ≡ slice_get u p
  one_table t u ok ok' p lt = agree_below t u ok ok' (length c.instrs) (omega arith) p lt
