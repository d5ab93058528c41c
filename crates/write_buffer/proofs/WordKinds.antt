-- The kinds of a memory's words.
use Rattle.std.proofs.Common.{◌≡◌, ℕ, zero, suc, ◌<◌, List, [], ◌∷◌, length, get_or, refl, ap, ap₂, arith}
use Rattle.cal_terms.specs.declared.kinds.WordKind.{WordKind}
use Rattle.cal_terms.specs.declared.kinds.WordKind.TheVariants.{Ordinary}
use Rattle.cal_base.specs.Memory.{Memory, kinds_of, kind_at}

-- a list that has the kind of each word is the kinds of the words
pub kinds_by_all : (kinds : List WordKind) (memory : Memory) → length kinds ≡ length memory → ((k : ℕ) → k < length memory → get_or kinds k Ordinary ≡ kind_at memory k) → kinds ≡ kinds_of memory
kinds_by_all [] [] same all = refl
kinds_by_all [] (word ∷ memory) same all = absurd (omega arith)
kinds_by_all (kind ∷ kinds) [] same all = absurd (omega arith)
kinds_by_all (kind ∷ kinds) (word ∷ memory) same all =
    ap₂ (λ k ks. k ∷ ks) (all 0 (omega arith)) (kinds_by_all kinds memory (omega arith) (λ k low. all (suc k) (omega arith)))

-- the kind at an address
pub kind_of_kinds : (memory : Memory) (a : ℕ) (d : WordKind) → a < length memory → get_or (kinds_of memory) a d ≡ kind_at memory a
kind_of_kinds [] a d there = absurd (omega arith)
kind_of_kinds (word ∷ memory) zero d there = refl
kind_of_kinds (word ∷ memory) (suc a) d there = kind_of_kinds memory a d (omega arith)

pub length-kinds : (memory : Memory) → length (kinds_of memory) ≡ length memory
length-kinds [] = refl
length-kinds (word ∷ memory) = ap suc (length-kinds memory)
