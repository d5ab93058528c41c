-- Lines, as the pieces that they are written in.
use Rattle.std.proofs.Common.{◌≡◌, ℕ, List, [], ◌∷◌, ◌++◌, codes, append_assoc, append-nil}
use Rattle.std.specs.Fmt.{decimal}
use Rattle.std.specs.List.{concat}
use Rattle.cal_base.specs.declared.ends.Cause.{Cause}
use Rattle.cal_base.specs.declared.ends.StepFault.TheVariants.{Trap, Conflict, Total}
use Rattle.cal_base.specs.declared.ends.RunEnd.TheVariants.{MainFault, StepFailed}
use Rattle.cal_base.specs.Text.{fault_line, cause_text}

-- pieces one after another, whatever they are
seven : (p a q b r c n : List ℕ) → concat (p ∷ a ∷ q ∷ b ∷ r ∷ c ∷ n ∷ []) ≡ p ++ a ++ (q ++ b ++ r ++ c) ++ n
seven p a q b r c n = simp (append_assoc, append-nil)

nine : (p a q b r c s d n : List ℕ) → concat (p ∷ a ∷ q ∷ b ∷ r ∷ c ∷ s ∷ d ∷ n ∷ []) ≡ p ++ a ++ (q ++ b ++ r ++ c ++ s ++ d) ++ n
nine p a q b r c s d n = simp (append_assoc, append-nil)

pub trap_line : (step routine : ℕ) (cause : Cause) (a b c : List ℕ) → a ≡ decimal step → b ≡ decimal routine → c ≡ cause_text cause
    → concat (codes "fault: step " ∷ a ∷ codes ", routine " ∷ b ∷ codes ": " ∷ c ∷ codes "\n" ∷ []) ≡ fault_line (StepFailed step (Trap routine cause))
trap_line step routine cause a b c e f g = rw (e, f, g) (seven (codes "fault: step ") (decimal step) (codes ", routine ") (decimal routine) (codes ": ") (cause_text cause) (codes "\n"))

pub conflict_line : (step routine word other : ℕ) (a b c d : List ℕ) → a ≡ decimal step → b ≡ decimal routine → c ≡ decimal word → d ≡ decimal other
    → concat (codes "fault: step " ∷ a ∷ codes ", routine " ∷ b ∷ codes ": word " ∷ c ∷ codes " also written by routine " ∷ d ∷ codes "\n" ∷ [])
    ≡ fault_line (StepFailed step (Conflict routine word other))
conflict_line step routine word other a b c d e f g h =
    rw (e, f, g, h) (nine (codes "fault: step ") (decimal step) (codes ", routine ") (decimal routine) (codes ": word ") (decimal word) (codes " also written by routine ") (decimal other)
    (codes "\n"))

pub total_line : (step word : ℕ) (a b : List ℕ) → a ≡ decimal step → b ≡ decimal word
    → concat (codes "fault: step " ∷ a ∷ codes ": total at word " ∷ b ∷ codes "\n" ∷ []) ≡ fault_line (StepFailed step (Total word))
total_line step word a b e f = simp (e, f, append_assoc, append-nil)

pub main_line : (after : ℕ) (cause : Cause) (a b : List ℕ) → a ≡ decimal after → b ≡ cause_text cause
    → concat (codes "fault: after step " ∷ a ∷ codes ": " ∷ b ∷ codes "\n" ∷ []) ≡ fault_line (MainFault after cause)
main_line after cause a b e f = simp (e, f, append_assoc, append-nil)
