-- The answers of a step, by its blocks.
use Rattle.std.proofs.Common.{◌≡◌, ℕ, zero, suc, ◌+◌, ◌<◌, List, [], ◌∷◌, ◌++◌, length, map, take, sum, Some, refl, ap, ◌∙◌, arith, length-append, zero-add}
use Rattle.std.specs.Prelude.{slice_get}
use Rattle.std.specs.List.{range_with_len}
use Rattle.std.proofs.lemmas.List.Sums.{sum_by-cons}
use Rattle.std.proofs.lemmas.List.FromFn.{length-map-range_with_len}
use Rattle.machine_meaning.specs.Meaning.{answers, answered, routine_outcome}
use Rattle.engine_laws.specs.Steps.{AnswersAreAll, AnswersGoByBlocks}

-- the element of a list made from a range
from_range : {A : Type 0} (f : ℕ → A) (at n k : ℕ) → k < n → slice_get (map f (range_with_len at n)) k ≡ Some (f (at + k))
from_range f at zero k lt = absurd (omega arith)
from_range f at (suc n) zero lt = ap (λ (x : ℕ). Some (f x)) (omega arith)
from_range f at (suc n) (suc k) lt = let e : at + 1 + k ≡ at + suc k = omega arith in from_range f (at + 1) n k (omega arith) ∙ ap (λ (x : ℕ). Some (f x)) e

-- an element of the first of two lists
in_first : {A : Type 0} (xs ys : List A) (k : ℕ) (x : A) → slice_get xs k ≡ Some x → slice_get (xs ++ ys) k ≡ Some x
in_first [] ys k x e = absurd cc
in_first (a ∷ xs) ys zero x e = e
in_first (a ∷ xs) ys (suc k) x e = in_first xs ys k x e

-- an element of the second
in_second : {A : Type 0} (xs ys : List A) (k n : ℕ) → n ≡ length xs + k → slice_get (xs ++ ys) n ≡ slice_get ys k
in_second [] ys k n e = let at : n ≡ k = omega arith in ap (λ (j : ℕ). slice_get ys j) at
in_second (a ∷ xs) ys k zero e = absurd (omega arith)
in_second (a ∷ xs) ys k (suc n) e = in_second xs ys k n (omega arith)

pub answers_are_all : AnswersAreAll
answers_are_all m fuel opening [] [] e = refl
answers_are_all m fuel opening [] (w ∷ widths) e = absurd (omega arith)
answers_are_all m fuel opening (block ∷ blocks) [] e = absurd (omega arith)
answers_are_all m fuel opening (block ∷ blocks) (w ∷ widths) e =
    let own : length (map (λ id. answered (routine_outcome m block w id opening fuel)) (range_with_len 0 w)) ≡ w = length-map-range_with_len
    (λ id. answered (routine_outcome m block w id opening fuel)) 0 w in
    let both : length (answers m fuel opening (block ∷ blocks) (w ∷ widths)) ≡ length (map (λ id. answered (routine_outcome m block w id opening fuel)) (range_with_len 0 w)) + length
    (answers m fuel opening blocks widths) = length-append (map (λ id. answered (routine_outcome m block w id opening fuel)) (range_with_len 0 w)) (answers m fuel opening blocks widths) in
    let together : sum (w ∷ widths) ≡ w + sum widths = sum_by-cons (λ x. x) w widths in
    let others : length (answers m fuel opening blocks widths) ≡ sum widths = answers_are_all m fuel opening blocks widths (omega arith) in
    omega arith

pub answers_go_by_blocks : AnswersGoByBlocks
answers_go_by_blocks m fuel opening [] widths i id width block at there lt = absurd cc
answers_go_by_blocks m fuel opening (b ∷ blocks) [] i id width block at there lt = absurd cc
answers_go_by_blocks m fuel opening (b ∷ blocks) (w ∷ widths) zero id width block at there lt =
    let same_block : b ≡ block = cc in
    let same_width : w ≡ width = cc in
    let lt' : id < w = omega arith in
    let first : sum (take 0 (w ∷ widths)) + id ≡ id = zero-add id in
    ap (λ (k : ℕ). slice_get (answers m fuel opening (b ∷ blocks) (w ∷ widths)) k) first
    ∙ in_first (map (λ id. answered (routine_outcome m b w id opening fuel)) (range_with_len 0 w)) (answers m fuel opening blocks widths) id _
    (from_range (λ id. answered (routine_outcome m b w id opening fuel)) 0 w id lt')
    ∙ ap (λ (k : ℕ). Some (answered (routine_outcome m b w k opening fuel))) (zero-add id)
    ∙ (λ j. Some (answered (routine_outcome m (same_block j) (same_width j) id opening fuel)))
answers_go_by_blocks m fuel opening (b ∷ blocks) (w ∷ widths) (suc i) id width block at there lt =
    let own : length (map (λ id. answered (routine_outcome m b w id opening fuel)) (range_with_len 0 w)) ≡ w = length-map-range_with_len (λ id. answered (routine_outcome m b w id opening fuel)) 0 w in
    let together : sum (w ∷ take i widths) ≡ w + sum (take i widths) = sum_by-cons (λ x. x) w (take i widths) in
    in_second (map (λ id. answered (routine_outcome m b w id opening fuel)) (range_with_len 0 w)) (answers m fuel opening blocks widths) (sum (take i widths) + id) _ (omega arith)
    ∙ answers_go_by_blocks m fuel opening blocks widths i id width block at there lt
