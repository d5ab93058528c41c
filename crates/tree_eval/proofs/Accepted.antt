-- The words of an accepted program fit the memory.
use Rattle.std.proofs.Common.{◌≡◌, ℤ, pos, negsuc, ◌+◌, ◌≤◌, List, [], ◌∷◌, Option, Some, None, map, sum, refl, sym, ap, ◌∙◌, subst}
use Rattle.csl_tree.specs.declared.program.ArraySize.{ArraySize}
use Rattle.csl_tree.specs.declared.program.Program.{Program}
use Rattle.csl_tree.specs.declared.program.Shared.{Shared}
use Rattle.csl_meaning.specs.Layout as layout
use Rattle.csl_meaning.specs.Layout.{words_in}
use Rattle.type_check.specs.Faults as faults
use Rattle.type_check.specs.Words.{words_taken, total_words}
use Rattle.type_check.proofs.WordLemmas.{accepted-words}
use Rattle.statement_eval.specs.Fits.{words_of, FitsMemory}
use Rattle.statement_eval.proofs.AreaLemmas.{sum_cons}

same-natural : (n : ℤ) → layout.natural n ≡ faults.natural n
same-natural (pos n) = refl
same-natural (negsuc n) = refl

same-count : (size : Option ArraySize) → layout.word_count (layout.items_in size) ≡ words_taken size
same-count None = refl
same-count (Some size) = same-natural size.number

same-words : (shared : List Shared) → words_of shared ≡ total_words shared
same-words [] = refl
same-words (s ∷ rest) =
    sum_cons (words_in s) (map words_in rest) ∙ ap (λ n. n + sum (map words_in rest)) (same-count s.size) ∙ ap (λ n. words_taken s.size + n) (same-words rest)

-- an accepted program has at most 262,144 words
pub accepted-fits : (p : Program) → faults.IsAccepted p → FitsMemory p.shared
accepted-fits p accepted = subst (λ n. n ≤ 262144) (sym (same-words p.shared)) (accepted-words p accepted)
