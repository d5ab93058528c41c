-- What the limits leave of the words of a program without faults.
use Rattle.std.proofs.Common.{◌≡◌, ℕ, zero, suc, ℤ, pos, negsuc, ◌+◌, ◌≤◌, Bool, true, false, nat_le, nat_eq, if◌then◌else◌, List, [], ◌∷◌, ◌++◌, map, Option, Some, None, refl, ap, arith}
use Rattle.std.proofs.lemmas.Bool.{leb-true, le-leb}
use Rattle.csl_tree.specs.declared.program.Program.{Program}
use Rattle.csl_tree.specs.declared.program.ArraySize.{ArraySize}
use Rattle.csl_tree.specs.declared.program.Shared.{Shared}
use Rattle.type_check.specs.declared.fault.CheckKind.TheVariants.{Limit}
use Rattle.type_check.specs.Listed.{fault, beyond}
use Rattle.type_check.specs.Names.{Names, taken, declare}
use Rattle.type_check.specs.Faults.{IsAccepted, most_words, most_functions, good_size, words_of, natural, size_faults, value_faults, stands_for, shared_faults, word_faults, with_shared}
use Rattle.type_check.specs.Faults.{all_function_faults, global_names, main_faults}
use Rattle.type_check.specs.Words.{IsGoodSize, IsSized, AreSized, words_taken, total_words}
use Rattle.type_check.proofs.CleanLemmas.{none_in_first, none_in_second, none_if, accepted_none}

positive : (n : ℕ) → nat_eq n 0 ≡ false → 1 ≤ n
positive zero e = cc
positive (suc n) e = omega arith

good-number : (z : ℤ) → nat_eq (good_size z) 0 ≡ false → IsGoodSize z
good-number (negsuc n) e = cc
good-number (pos n) e = by (nat_le n most_words) refl e
  where
    by : (b : Bool) → nat_le n most_words ≡ b → nat_eq (if b then n else 0) 0 ≡ false → (1 ≤ n) × (n ≤ most_words)
    by true h e = (positive n e, leb-true n most_words h)
    by false h e = cc

sized : (size : Option ArraySize) → size_faults size ≡ [] → IsSized size
sized None e = tt {0}
sized (Some size) e = good-number size.number (none_if (nat_eq (good_size size.number) 0) Limit size.at e)

all-sized : (names : Names) (shared : List Shared) → shared_faults names shared ≡ [] → AreSized shared
all-sized names [] e = tt {0}
all-sized names (s ∷ rest) e =
    let values = value_faults s.size (map (λ v. v.at) s.values) in
    let others = shared_faults (declare names s.name (stands_for s.size s.kind)) rest in (
      sized s.size (none_in_second (taken names s.name) (size_faults s.size)
          (none_in_first (taken names s.name ++ size_faults s.size) values
          (none_in_first (taken names s.name ++ size_faults s.size ++ values) others e))),
      all-sized (declare names s.name (stands_for s.size s.kind)) rest
          (none_in_second (taken names s.name ++ size_faults s.size ++ values) others e),
    )

-- a good size is counted as it stands
good-size-is : (z : ℤ) → IsGoodSize z → good_size z ≡ natural z
good-size-is (negsuc n) good = refl
good-size-is (pos n) good = ap (λ b. if b then n else 0) (le-leb n most_words good.1)

pub words-are : (size : Option ArraySize) → IsSized size → words_of size ≡ words_taken size
words-are None good = refl
words-are (Some size) good = good-size-is size.number good

-- the words before a declaration and those of the rest, where no limit fault stands at one
pub words-bounded : (before : ℕ) (shared : List Shared) → before ≤ most_words → AreSized shared → word_faults before shared ≡ [] → before + total_words shared ≤ most_words
words-bounded before [] small good e = omega arith
words-bounded before (s ∷ rest) small good e =
    by (nat_le (before + words_of s.size) most_words) refl e (λ fits none. words-bounded (before + words_of s.size) rest fits good.1 none)
  where
    by : (b : Bool) → nat_le (before + words_of s.size) most_words ≡ b → (if b then word_faults (before + words_of s.size) rest else fault Limit s.name.at) ≡ []
        → (before + words_of s.size ≤ most_words → word_faults (before + words_of s.size) rest ≡ [] → before + words_of s.size + total_words rest ≤ most_words)
        → before + (words_taken s.size + total_words rest) ≤ most_words
    by false h e go = cc
    by true h e go =
        let tail = go (leb-true (before + words_of s.size) most_words h) e in
        let is = words-are s.size good.0 in
        grind (arith, tail, is)

-- each array of an accepted program has a good size
pub accepted-sized : (p : Program) → IsAccepted p → AreSized p.shared
accepted-sized p e =
    all-sized [] p.shared
    (none_in_first (shared_faults [] p.shared) (word_faults 0 p.shared)
    (none_in_first (shared_faults [] p.shared ++ word_faults 0 p.shared) (all_function_faults (with_shared [] p.shared) p.functions)
    (none_in_first (shared_faults [] p.shared ++ word_faults 0 p.shared ++ all_function_faults (with_shared [] p.shared) p.functions) (beyond most_functions (map (λ f. f.name.at) p.functions))
    (none_in_first (shared_faults [] p.shared ++ word_faults 0 p.shared ++ all_function_faults (with_shared [] p.shared) p.functions ++ beyond most_functions (map (λ f. f.name.at) p.functions))
    (main_faults (global_names p) p.main)
    (accepted_none p e)))))

-- an accepted program takes 262,144 words at most
pub accepted-words : (p : Program) → IsAccepted p → total_words p.shared ≤ most_words
accepted-words p e =
    let none = none_in_second (shared_faults [] p.shared) (word_faults 0 p.shared)
    (none_in_first (shared_faults [] p.shared ++ word_faults 0 p.shared) (all_function_faults (with_shared [] p.shared) p.functions)
    (none_in_first (shared_faults [] p.shared ++ word_faults 0 p.shared ++ all_function_faults (with_shared [] p.shared) p.functions) (beyond most_functions (map (λ f. f.name.at) p.functions))
    (none_in_first (shared_faults [] p.shared ++ word_faults 0 p.shared ++ all_function_faults (with_shared [] p.shared) p.functions ++ beyond most_functions (map (λ f. f.name.at) p.functions))
    (main_faults (global_names p) p.main)
    (accepted_none p e)))) in
    let bounded = words-bounded 0 p.shared (omega arith) (accepted-sized p e) none in
    omega arith
