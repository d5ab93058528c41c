-- Where the first `*/` stands.
use Rattle.std.proofs.Common.{◌≡◌, ◌≢◌, ◌≤◌, ◌<◌, ◌+◌, ◌-◌, ℕ, suc, List, [], ◌∷◌, ◌++◌, length, take, drop, get_or, ap, sym, ◌∙◌, arith, length-append, length-take, get_or-take, take-append-drop}
use Rattle.std.proofs.Common.{drop-cons, ◌⊎◌, inl, inr, true, false}
use Rattle.std.proofs.lemmas.Bool.Decides.{leb_tells}
use Rattle.std.proofs.Math.Dec.{leb}
use Rattle.std.proofs.Math.Seq.{get_or-append_seam, take-suc}
use Rattle.std.proofs.lemmas.List.{get_or-append-add, take_all}
use Rattle.csl_lexer.specs.Tokens.{NeverCloses}
use Rattle.csl_lexer.specs.Steps.{FirstCloses}

-- no `*/` begins at an index and ends before this one
abbrev pub NoneBefore : List ℕ → ℕ → Type 0
NoneBefore bytes i = (k : ℕ) → k + 1 < i → get_or bytes k 0 ≡ 42 → get_or bytes (k + 1) 0 ≡ 47 → ⊥

never_take : (bytes : List ℕ) (i : ℕ) → NoneBefore bytes i → NeverCloses (take i bytes)
never_take bytes i none before after e =
    let k : ℕ = length before in
    let size : length (take i bytes) ≡ length (before ++ 42 ∷ 47 ∷ after) = ap (λ (x : List ℕ). length x) e in
    let within : k + 1 < i = omega (arith, size, length-append before (42 ∷ 47 ∷ after), length-take i bytes) in
    let first : get_or bytes k 0 ≡ 42 = sym (get_or-take i bytes k 0 (omega arith)) ∙ ap (λ (x : List ℕ). get_or x k 0) e ∙ get_or-append_seam before 42 (47 ∷ after) 0 in
    let second : get_or bytes (k + 1) 0 ≡ 47 = sym (get_or-take i bytes (k + 1) 0 within) ∙ ap (λ (x : List ℕ). get_or x (k + 1) 0) e ∙ get_or-append-add before (42 ∷ 47 ∷ after) 1 0 in
    none k within first second

pub none_more : (bytes : List ℕ) (i : ℕ) → 1 ≤ i → NoneBefore bytes i → (get_or bytes (i - 1) 0 ≡ 42 → get_or bytes i 0 ≢ 47) → NoneBefore bytes (i + 1)
none_more bytes i some none other k within first second = by_order (leb_tells i (k + 1))
  where
    by_order : ((leb i (k + 1) ≡ true) × (i ≤ k + 1)) ⊎ ((leb i (k + 1) ≡ false) × (k + 1 < i)) → ⊥
    by_order (inr h) = none k h.1 first second
    by_order (inl h) =
        let last : k ≡ i - 1 = omega (arith, h.1, within) in
        let here : k + 1 ≡ i = omega (arith, h.1, within) in
        other (ap (λ x. get_or bytes x 0) (sym last) ∙ first) (ap (λ x. get_or bytes x 0) (sym here) ∙ second)

pub never_all : (bytes : List ℕ) (i : ℕ) → length bytes ≤ i → NoneBefore bytes i → NeverCloses bytes
never_all bytes i past none before after e = never_take bytes i none before after (take_all i bytes past ∙ e)

pub closes_first : (bytes : List ℕ) (i n : ℕ) → i ≡ suc n → i < length bytes → NoneBefore bytes i → get_or bytes n 0 ≡ 42 → get_or bytes i 0 ≡ 47 → FirstCloses bytes n
closes_first bytes i n same within none first second =
    let whole : take n bytes ++ 42 ∷ [] ≡ take (suc n) bytes = ap (λ x. take n bytes ++ x ∷ []) (sym first) ∙ sym (take-suc bytes n 0 (omega (arith, same, within))) in
    let slash : get_or bytes (suc n) 0 ≡ 47 = ap (λ x. get_or bytes x 0) (sym same) ∙ second in
    let place : suc (suc n) ≡ n + 2 = omega arith in
    let tail : drop (suc n) bytes ≡ 47 ∷ drop (n + 2) bytes = drop-cons bytes (suc n) 0 (omega (arith, same, within)) ∙ ap (λ x. x ∷ drop (suc (suc n)) bytes) slash
    ∙ ap (λ x. 47 ∷ drop x bytes) place in
    let here : drop n bytes ≡ 42 ∷ drop (suc n) bytes = drop-cons bytes n 0 (omega (arith, same, within)) ∙ ap (λ x. x ∷ drop (suc n) bytes) first in (
      sym (take-append-drop n bytes) ∙ ap (λ x. take n bytes ++ x) (here ∙ ap (λ x. 42 ∷ x) tail),
      λ before after e. never_take bytes (suc n) (λ k below. none k (omega (arith, same, below))) before after (sym whole ∙ e),
      omega (arith, same, within),
    )
