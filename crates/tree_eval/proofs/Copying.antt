-- Memories, copied word by word.
use Rattle.std.proofs.Common.{◌≡◌, ℕ, zero, suc, ◌+◌, ◌<◌, [], ◌∷◌, ◌++◌, length, take, ℤ, refl, sym, ap, ◌∙◌, arith, ⊎_elim, add-one}
use Rattle.std.proofs.lemmas.List.{length-map}
use Rattle.std.proofs.lemmas.Bool.{cases_eq}
use Rattle.cal_terms.specs.declared.kinds.WordKind.{WordKind}
use Rattle.cal_base.specs.Memory.{Memory, kinds_of, kind_at, value_at, with_value}
use Rattle.cal_base.proofs.Images.{value_at-with_value_other}

-- memories with words of the same kinds have as many words
pub as_long : (a b : Memory) → kinds_of a ≡ kinds_of b → length a ≡ length b
as_long a b kinds = sym (length-map a (λ word. word.kind)) ∙ ap length kinds ∙ length-map b (λ word. word.kind)

value_there : (memory : Memory) (a : ℕ) (v : ℤ) → a < length memory → value_at (with_value memory a v) a ≡ v
value_there [] a v within = absurd (omega arith)
value_there (word ∷ memory) zero v within = refl
value_there (word ∷ memory) (suc a) v within = value_there memory a v (omega arith)

pub same_memory : (a b : Memory) → kinds_of a ≡ kinds_of b → ((i : ℕ) → i < length b → value_at a i ≡ value_at b i) → a ≡ b
same_memory [] [] kinds same = refl
same_memory [] (y ∷ b) kinds same = absurd (cc)
same_memory (x ∷ a) [] kinds same = absurd (cc)
same_memory (x ∷ a) (y ∷ b) kinds same =
    let kind : x.kind ≡ y.kind = cc in
    let rest_kinds : kinds_of a ≡ kinds_of b = cc in
    let value : x.value ≡ y.value = same 0 (omega arith) in
    let rest = same_memory a b rest_kinds (λ i h. same (suc i) (omega arith)) in
    λ i. record { kind = kind i; value = value i } ∷ rest i

-- the words so far have the values of the other memory
abbrev pub IsCopied : ℕ → Memory → Memory → Type 0
IsCopied n to from = (i : ℕ) → i < n → value_at to i ≡ value_at from i

pub copied_more : (to from : Memory) (n : ℕ) → n < length to → IsCopied n to from → IsCopied (n + 1) (with_value to n (value_at from n)) from
copied_more to from n within so_far i h =
    ⊎_elim
    (λ (here : i ≡ n). ap (λ j. value_at (with_value to n (value_at from n)) j) here ∙ value_there to n (value_at from n) within ∙ ap (λ j. value_at from j) (sym here))
    (λ (apart : i ≡ n → ⊥). value_at-with_value_other to n i (value_at from n) apart ∙ so_far i (omega arith))
    (cases_eq i n)

-- the words up to one that is there
more : (memory : Memory) (a : ℕ) → a < length memory → take a memory ++ record { kind = kind_at memory a; value = value_at memory a } ∷ [] ≡ take (suc a) memory
more [] a within = absurd (omega arith)
more (word ∷ memory) zero within = refl
more (word ∷ memory) (suc a) within = let rest = more memory a (omega arith) in λ i. word ∷ rest i

pub words_more : (memory : Memory) (a : ℕ) (kind : WordKind) (value : ℤ) → a < length memory → kind ≡ kind_at memory a → value ≡ value_at memory a
    → take a memory ++ record { kind = kind; value = value } ∷ [] ≡ take (a + 1) memory
words_more memory a kind value within kind_is value_is = rw add-one ((λ i. take a memory ++ record { kind = kind_is i; value = value_is i } ∷ []) ∙ more memory a within)
