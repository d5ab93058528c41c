-- The words of a line are its parts, taken one by one.
use Rattle.std.proofs.Common.{◌≡◌, ◌∙◌, Bool, cond, true, false, refl, sym, ap, List, [], ◌∷◌, Option, Some, None, codes}
use Rattle.std.specs.Prelude.{option_and_then}
use Rattle.clap.specs.Walk.{Text}
use Rattle.command_words.specs.declared.name.Verb.{Verb}
use Rattle.command_words.specs.declared.name.Setting.{Setting}
use Rattle.command_words.specs.Words.{Part, Saying, says, opens, wrong, says_behind, word_says, is_plain, parts_behind, parts_by, in_front}
use Rattle.command_words.specs.Words as words
use Rattle.command_words.proofs.Rules.{setting, operand, Place, has_place}
use Rattle.command_words.proofs.Steps.{Use, add, Pend, free, full, opened, State, settle}
use Rattle.command_words.proofs.Turns.{said, filled, next, joined, placed}
use Rattle.command_words.proofs.Runs.{run}

abbrev pub taken_first : (List Use → Option (List Use)) → List Use → Use → Option (List Use)
taken_first more us u = option_and_then more (add us u)

-- the parts taken in order
abbrev pub take : Verb → List Use → Place → List Part → Option (List Use)
take v us p [] = Some us
take v us p (words.operand t ∷ ps) = cond (has_place v p) (option_and_then (λ (more : List Use). take v more (next p) ps) (add us (operand p, t))) None
take v us p (words.option s t ∷ ps) = option_and_then (λ (more : List Use). take v more p ps) (add us (setting s, t))
take v us p (words.flag s ∷ ps) = option_and_then (λ (more : List Use). take v more p ps) (add us (setting s, codes "true"))

abbrev pub all_taken : Verb → Place → Option (List Part) → List Use → Option (List Use)
all_taken v p parts us = option_and_then (λ (ps : List Part). take v us p ps) parts

abbrev pub finals : Verb → Option State → List Text → Option (List Use)
finals v o ws = option_and_then (λ (st : State). settle st.uses st.pend) (option_and_then (λ (st : State). run v st ws) o)

abbrev pub final : Verb → List Use → Pend → Place → List Text → Option (List Use)
final v us pend place ws = option_and_then (λ (st : State). settle st.uses st.pend) (run v (record { uses = us; pend = pend; place = place }) ws)

abbrev pub told : Verb → List Use → Pend → Place → List Text → Option (List Use)
told v us free p ws = all_taken v p (parts_behind v None ws) us
told v us (full u) p ws = option_and_then (all_taken v p (parts_behind v None ws)) (add us u)
told v us (opened s) p ws = all_taken v p (parts_behind v (Some s) ws) us

nowhere : {A B : Type 0} (o : Option A) → option_and_then {U = B} (λ (x : A). None) o ≡ None
nowhere None = refl
nowhere (Some x) = refl

same : {A : Type 0} (o : Option A) → o ≡ option_and_then (λ (x : A). Some x) o
same None = refl
same (Some x) = refl

module _ (v : Verb) (ws : List Text) (ih : (us : List Use) (pend : Pend) (p : Place) → final v us pend p ws ≡ told v us pend p ws) where
  fronted : (us : List Use) (p : Place) (u : Use) (part : Part) → ((ps : List Part) → take v us p (part ∷ ps) ≡ option_and_then (λ (more : List Use). take v more p ps) (add us u))
      → (o : Option (List Part)) → option_and_then (all_taken v p o) (add us u) ≡ all_taken v p (in_front part o) us
  fronted us p u part is None = nowhere (add us u)
  fronted us p u part is (Some ps) = sym (is ps)

  joins : (us : List Use) (p : Place) (o : Option (List Use)) → finals v (option_and_then (joined p) o) ws ≡ option_and_then (all_taken v p (parts_behind v None ws)) o
  joins us p None = refl
  joins us p (Some more) = ih more free p

  placed_is : (us : List Use) (p : Place) (t : Text) (b : Bool) → has_place v p ≡ b → (o : Option (List Part)) → parts_behind v None ws ≡ o
      → finals v (placed v p t us) ws ≡ all_taken v p (in_front (words.operand t) o) us
  placed_is us p t false e None eo = ap (λ b. finals v (cond b (Some (record { uses = us; pend = full (operand p, t); place = next p })) None) ws) e
  placed_is us p t false e (Some ps) eo =
      ap (λ b. finals v (cond b (Some (record { uses = us; pend = full (operand p, t); place = next p })) None) ws) e
      ∙ sym (ap (λ b. cond b (option_and_then (λ (more : List Use). take v more (next p) ps) (add us (operand p, t))) None) e)
  placed_is us p t true e None eo =
      ap (λ b. finals v (cond b (Some (record { uses = us; pend = full (operand p, t); place = next p })) None) ws) e
      ∙ (ih us (full (operand p, t)) (next p) ∙ (ap (λ o. option_and_then (all_taken v (next p) o) (add us (operand p, t))) eo ∙ nowhere (add us (operand p, t))))
  placed_is us p t true e (Some ps) eo =
      ap (λ b. finals v (cond b (Some (record { uses = us; pend = full (operand p, t); place = next p })) None) ws) e
      ∙ (ih us (full (operand p, t)) (next p) ∙ (ap (λ o. option_and_then (all_taken v (next p) o) (add us (operand p, t))) eo
      ∙ sym (ap (λ b. cond b (option_and_then (λ (more : List Use). take v more (next p) ps) (add us (operand p, t))) None) e)))

  mid : (us : List Use) (p : Place) (what : Saying) → finals v (said v us p what) ws ≡ all_taken v p (parts_by what (λ n. parts_behind v n ws)) us
  mid us p (says (words.operand t)) = placed_is us p t (has_place v p) refl (parts_behind v None ws) refl
  mid us p (says (words.option s t)) = joins us p (add us (setting s, t)) ∙ fronted us p (setting s, t) (words.option s t) (λ ps. refl) (parts_behind v None ws)
  mid us p (says (words.flag s)) = joins us p (add us (setting s, codes "true")) ∙ fronted us p (setting s, codes "true") (words.flag s) (λ ps. refl) (parts_behind v None ws)
  mid us p (opens s) = ih us (opened s) p
  mid us p wrong = refl

  waited : (us : List Use) (p : Place) (s : Setting) (word : Text) (b : Bool) → finals v (filled us p (cond b (says (words.option s word)) wrong)) ws
      ≡ all_taken v p (parts_by (cond b (says (words.option s word)) wrong) (λ n. parts_behind v n ws)) us
  waited us p s word false = refl
  waited us p s word true = ih us (full (setting s, word)) p ∙ fronted us p (setting s, word) (words.option s word) (λ ps. refl) (parts_behind v None ws)

  fuller : (us : List Use) (p : Place) (word : Text) (o : Option (List Use)) → finals v (option_and_then (λ (more : List Use). said v more p (word_says v word)) o) ws
      ≡ option_and_then (all_taken v p (parts_behind v None (word ∷ ws))) o
  fuller us p word None = refl
  fuller us p word (Some more) = mid more p (word_says v word)

pub taken : (v : Verb) (us : List Use) (pend : Pend) (p : Place) (ws : List Text) → final v us pend p ws ≡ told v us pend p ws
taken v us free p [] = refl
taken v us (full u) p [] = same (add us u)
taken v us (opened s) p [] = refl
taken v us free p (word ∷ ws) = mid v ws (λ a b c. taken v a b c ws) us p (word_says v word)
taken v us (full u) p (word ∷ ws) = fuller v ws (λ a b c. taken v a b c ws) us p word (add us u)
taken v us (opened s) p (word ∷ ws) = waited v ws (λ a b c. taken v a b c ws) us p s word (is_plain word)
