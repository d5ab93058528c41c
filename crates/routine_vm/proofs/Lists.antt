-- Lists that are read from their ends.
use Rattle.std.proofs.Common.{◌≡◌, ℕ, ◌-◌, ◌≤◌, List, ◌++◌, length, take, drop, reverse, ap, sym, ◌∙◌, arith}
use Rattle.std.proofs.lemmas.List.{take-append-drop, reverse-append, reverse-reverse, length-reverse, length-drop, take_at, drop_at}

parts : {A : Type 0} (xs : List A) (j : ℕ) → reverse xs ≡ reverse (drop j xs) ++ reverse (take j xs)
parts {A = A} xs j = ap (λ (l : List A). reverse l) (sym (take-append-drop j xs)) ∙ reverse-append (take j xs) (drop j xs)

long : {A : Type 0} (xs : List A) (n : ℕ) → n ≤ length xs → length (reverse (drop (length xs - n) xs)) ≡ n
long xs n le = let a = length-reverse (drop (length xs - n) xs) in let b = length-drop (length xs - n) xs in omega (arith, a, b)

-- the front of a list that is read from its end
pub take-reverse : {A : Type 0} (xs : List A) (n : ℕ) → n ≤ length xs → take n (reverse xs) ≡ reverse (drop (length xs - n) xs)
take-reverse {A = A} xs n le = ap (λ (l : List A). take n l) (parts xs (length xs - n)) ∙ take_at (reverse (drop (length xs - n) xs)) (reverse (take (length xs - n) xs)) n (long xs n le)

-- what is behind it
pub drop-reverse : {A : Type 0} (xs : List A) (n : ℕ) → n ≤ length xs → drop n (reverse xs) ≡ reverse (take (length xs - n) xs)
drop-reverse {A = A} xs n le = ap (λ (l : List A). drop n l) (parts xs (length xs - n)) ∙ drop_at (reverse (drop (length xs - n) xs)) (reverse (take (length xs - n) xs)) n (long xs n le)

pub reversed-take-reverse : {A : Type 0} (xs : List A) (n : ℕ) → n ≤ length xs → reverse (take n (reverse xs)) ≡ drop (length xs - n) xs
reversed-take-reverse {A = A} xs n le = ap (λ (l : List A). reverse l) (take-reverse xs n le) ∙ reverse-reverse (drop (length xs - n) xs)
