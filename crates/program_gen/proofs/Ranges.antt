-- Texts for each number of a range, one after another.
use Rattle.std.specs.Prelude.{ℕ, zero, suc, ◌+◌, ◌≡◌, List, [], ◌∷◌, ◌++◌}
use Rattle.std.specs.List.{flat_map, range_with_len}
use Rattle.std.proofs.Common.{sym, ap, ◌∙◌, arith, append_assoc}
use Rattle.std.proofs.lemmas.List.{flat_map_more}

-- a range with one number more
range_more : (a n : ℕ) → range_with_len a (suc n) ≡ range_with_len a n ++ (a + n) ∷ []
range_more a zero = let same : a ≡ a + 0 = omega arith in ap (λ k. k ∷ []) same
range_more a (suc n) = let same : (a + 1) + n ≡ a + suc n = omega arith in ap (λ t. a ∷ t) (range_more (a + 1) n ∙ ap (λ k. range_with_len (a + 1) n ++ k ∷ []) same)

-- what was written so far, and the text for one number more
pub one_more : (f : ℕ → List ℕ) (a n m j : ℕ) (before so_far later : List ℕ) → j ≡ a + n → m ≡ n + 1
    → so_far ≡ before ++ flat_map f (range_with_len a n) → later ≡ so_far ++ f j → later ≡ before ++ flat_map f (range_with_len a m)
one_more f a n m j before so_far later number size one two =
    let next : suc n ≡ m = omega (arith, size) in
    two ∙ ap (λ t. t ++ f j) one ∙ flat_map_more f before (range_with_len a n) j
    ∙ ap (λ k. before ++ flat_map f (range_with_len a n ++ k ∷ [])) number
    ∙ ap (λ xs. before ++ flat_map f xs) (sym (range_more a n)) ∙ ap (λ k. before ++ flat_map f (range_with_len a k)) next

-- five texts, one behind another
pub five : (before a b c d e first second third fourth fifth : List ℕ) → first ≡ before ++ a → second ≡ first ++ b → third ≡ second ++ c → fourth ≡ third ++ d → fifth ≡ fourth ++ e
    → fifth ≡ before ++ ((((a ++ b) ++ c) ++ d) ++ e)
five before a b c d e first second third fourth fifth one two three four last =
    last
    ∙ ap (λ t. t ++ e)
    (four
    ∙ ap (λ t. t ++ d)
    (three
    ∙ ap (λ t. t ++ c) (two ∙ ap (λ t. t ++ b) one ∙ append_assoc before a b)
    ∙ append_assoc before (a ++ b) c)
    ∙ append_assoc before ((a ++ b) ++ c) d)
    ∙ append_assoc before (((a ++ b) ++ c) ++ d) e
