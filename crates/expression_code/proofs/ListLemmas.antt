-- Lists that grow at their ends.
use Rattle.std.proofs.Common.{◌≡◌, List, ◌++◌, sym, ap, ◌∙◌, append_assoc}

-- entries appended, and then others
pub appended : {A : Type 0} (l m n xs ys : List A) → m ≡ l ++ xs → n ≡ m ++ ys → n ≡ l ++ (xs ++ ys)
appended l m n xs ys first next = next ∙ ap (λ k. k ++ ys) first ∙ append_assoc l xs ys

-- what was appended belongs to what was left
pub step : {A : Type 0} (l xs m left rest all : List A) → m ≡ l ++ xs → left ≡ xs ++ rest → l ++ left ≡ all → m ++ rest ≡ all
step l xs m left rest all pushed split before = ap (λ k. k ++ rest) pushed ∙ append_assoc l xs rest ∙ ap (λ k. l ++ k) (sym split) ∙ before
