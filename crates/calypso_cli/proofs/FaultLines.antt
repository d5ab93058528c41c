-- Lines, as the pieces that they are written in.
use Rattle.std.proofs.Common.{◌≡◌, ℕ, List, [], ◌∷◌, ◌++◌, codes, append_assoc, append-nil}
use Rattle.std.specs.Fmt.{decimal}
use Rattle.std.specs.List.{concat}
use Rattle.cal_base.specs.Text.{line}

-- pieces one after another, whatever they are
four : (p a q n : List ℕ) → concat (p ∷ a ∷ q ∷ n ∷ []) ≡ p ++ a ++ q ++ n
four p a q n = simp (append_assoc, append-nil)

five : (p a q b n : List ℕ) → concat (p ∷ a ∷ q ∷ b ∷ n ∷ []) ≡ p ++ a ++ q ++ b ++ n
five p a q b n = simp (append_assoc, append-nil)

-- the line of a refused text
pub refusal_line : (at : ℕ) (words a b : List ℕ) → a ≡ decimal at → b ≡ words
    → concat (codes "refused: at " ∷ a ∷ codes ": " ∷ b ∷ codes "\n" ∷ []) ≡ line (codes "refused: at " ++ decimal at ++ codes ": " ++ words)
refusal_line at words a b e f = rw (e, f) (five (codes "refused: at ") (decimal at) (codes ": ") words (codes "\n"))

-- a line about a file
pub file_line : (name what a b : List ℕ) → a ≡ name → b ≡ what → concat (codes "file " ∷ a ∷ b ∷ codes "\n" ∷ []) ≡ line (codes "file " ++ name ++ what)
file_line name what a b e f = rw (e, f) (four (codes "file ") name what (codes "\n"))

three : (p a n : List ℕ) → concat (p ∷ a ∷ n ∷ []) ≡ p ++ a ++ n
three p a n = simp (append_assoc, append-nil)

-- the line of refused events
pub events_line : (number : ℕ) (a : List ℕ) → a ≡ decimal number → concat (codes "events refused: line " ∷ a ∷ codes "\n" ∷ []) ≡ line (codes "events refused: line " ++ decimal number)
events_line number a e = rw e (three (codes "events refused: line ") (decimal number) (codes "\n"))
