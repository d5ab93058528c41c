-- A line, piece by piece.
use Rattle.std.proofs.Common.{◌≡◌, ℕ, zero, suc, ◌+◌, ◌-◌, ◌<◌, ◌≤◌, Bool, List, [], ◌∷◌, ◌++◌, length, drop, map, Some, refl, sym, ap, ◌∙◌, arith, append_assoc, ⊎_elim}
use Rattle.std.specs.Prelude.{slice_get, ◌==◌}
use Rattle.std.proofs.lemmas.Bool.{cases_eq, eq-eqb, ne_eqb}
use Rattle.cal_base.specs.Printing.{line_of}
use Rattle.calypso_engine.specs.Lines.{spaced}

-- the rest of a list begins with its element
drop_at : {A : Type 0} (xs : List A) (i : ℕ) (x : A) → slice_get xs i ≡ Some x → drop i xs ≡ x ∷ drop (suc i) xs
drop_at [] i x e = absurd cc
drop_at (y ∷ xs) zero x e = let same : y ≡ x = cc in ap (λ z. z ∷ xs) same
drop_at (y ∷ xs) (suc i) x e = drop_at xs i x e

drop_end : {A : Type 0} (xs : List A) (i : ℕ) → length xs ≤ i → drop i xs ≡ []
drop_end [] zero e = refl
drop_end [] (suc i) e = refl
drop_end (x ∷ xs) zero e = absurd (omega arith)
drop_end (x ∷ xs) (suc i) e = drop_end xs i (omega arith)

drop_more : {A : Type 0} (xs : List A) (i : ℕ) → i < length xs → (x : A) × (rest : List A) × (drop i xs ≡ x ∷ rest)
drop_more [] i lt = absurd (omega arith)
drop_more (x ∷ xs) zero lt = (x, xs, refl)
drop_more (x ∷ xs) (suc i) lt = drop_more xs i (omega arith)

module _ {A : Type 0} (piece : A → List ℕ) where
  -- the last piece, and then a line feed
  last_piece : (line : List ℕ) (x : A) (rest : List A) → rest ≡ [] → (line ++ piece x) ++ line_of (map piece rest) ≡ line ++ line_of (map piece (x ∷ rest))
  last_piece line x rest none = ap (λ (r : List A). (line ++ piece x) ++ line_of (map piece r)) none ∙ append_assoc line (piece x) (10 ∷ [])
      ∙ ap (λ (r : List A). line ++ line_of (map piece (x ∷ r))) (sym none)

  -- another piece, and a blank before the next one
  other_piece : (line : List ℕ) (x y : A) (rest more : List A) → rest ≡ y ∷ more → (line ++ (piece x ++ 32 ∷ [])) ++ line_of (map piece rest) ≡ line ++ line_of (map piece (x ∷ rest))
  other_piece line x y rest more is =
      ap (λ (r : List A). (line ++ (piece x ++ 32 ∷ [])) ++ line_of (map piece r)) is
      ∙ append_assoc line (piece x ++ 32 ∷ []) (line_of (map piece (y ∷ more)))
      ∙ ap (λ t. line ++ t) (append_assoc (piece x) (32 ∷ []) (line_of (map piece (y ∷ more))))
      ∙ ap (λ (r : List A). line ++ line_of (map piece (x ∷ r))) (sym is)

  -- one piece more
  pub piece_more : (items : List A) (n i : ℕ) (x : A) (line : List ℕ) → n ≡ length items → i < n → slice_get items i ≡ Some x
      → (line ++ spaced (i == n - 1) (piece x)) ++ line_of (map piece (drop (i + 1) items)) ≡ line ++ line_of (map piece (drop i items))
  piece_more items n i x line size lt at =
      let one : i + 1 ≡ suc i = omega arith in
      ap (λ (k : ℕ). (line ++ spaced (i == n - 1) (piece x)) ++ line_of (map piece (drop k items))) one
      ∙ ⊎_elim
      (λ (e : i ≡ n - 1).
      ap (λ (b : Bool). (line ++ spaced b (piece x)) ++ line_of (map piece (drop (suc i) items))) (eq-eqb i (n - 1) e)
      ∙ last_piece line x (drop (suc i) items) (drop_end items (suc i) (omega arith)))
      (λ (apart : i ≡ n - 1 → ⊥).
      let next = drop_more items (suc i) (omega arith) in
      ap (λ (b : Bool). (line ++ spaced b (piece x)) ++ line_of (map piece (drop (suc i) items))) (ne_eqb i (n - 1) apart)
      ∙ other_piece line x next.0 (drop (suc i) items) next.1 next.2)
      (cases_eq i (n - 1))
      ∙ ap (λ (r : List A). line ++ line_of (map piece r)) (sym (drop_at items i x at))

  -- at the end
  pub pieces_end : (items : List A) (n i : ℕ) (line : List ℕ) → n ≡ length items → n ≤ i → line ++ line_of (map piece (drop i items)) ≡ line_of (map piece items)
      → line ++ 10 ∷ [] ≡ line_of (map piece items)
  pieces_end items n i line size le e = ap (λ (r : List A). line ++ line_of (map piece r)) (sym (drop_end items i (omega arith))) ∙ e
