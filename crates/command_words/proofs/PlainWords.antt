-- Each word, and all of them.
use Rattle.std.proofs.Common.{◌≡◌, ◌∙◌, ℕ, Bool, cond, true, false, refl, sym, ap, ap₂, subst, List, [], ◌∷◌, Option, Some, None, ◌&&◌, ◌==◌, true≢false}
use Rattle.std.specs.Prelude.{option_and_then}
use Rattle.std.specs.Str.{bytes_eq}
use Rattle.clap.specs.Walk.{Rule, Row, Text, Held, Walk, Waiting, Step, idle, option, positional, value, walked, settled, arg_by_index, arg_by_id, arg_by_long, after_step, option_word, next, pushed}
use Rattle.clap.specs.Walk.{subcommand_met, walk}
use Rattle.clap.specs.Faults.{turn_fault, step_fault}
use Rattle.clap.specs.Walk.{subcommand_or_other, plain_word, trailing, long_or_other, short_or_plain}
use Rattle.clap.specs.Faults.{other_fault, flag_word_fault, bundle_fault}
use Rattle.clap.specs.Lexer.{long_of, long_of_rest, short_of, short_of_rest, strip_byte}
use Rattle.std.specs.Option.{option_map_or}
use Rattle.clap.specs.Kinds.{Kinds, or_else}
use Rattle.command_words.specs.declared.name.Verb.{Verb}
use Rattle.command_words.specs.declared.name.Setting.{Setting}
use Rattle.command_words.specs.declared.name.Setting.TheVariants.{Workers, Fuel, Frames, Script, Log}
use Rattle.command_words.specs.Words.{Saying, says, opens, wrong, has_setting, has_value, says_behind, word_says, is_plain, is_equals, has_equals, setting_named}
use Rattle.command_words.specs.Words as words
use Rattle.command_words.specs.Line.{name_of}
use Rattle.command_words.proofs.Rules.{setting, operand, Place, first, second, past, number, shape, has_place, by_key, by_place, setting_built, operand_built, operand_id}
use Rattle.command_words.proofs.Steps.{some_fault, waits_for, pending_of, Use, Pend, free, full, opened, held_at, walk_at, Stands, Settles, settle, settles}
use Rattle.command_words.proofs.Turns.{Agrees, step, step_of, said, filled, first_empty, second_empty, both_empty, any, walk_held, long_turn, long_walk, long_says, IsPlainValue}
use Rattle.command_words.proofs.Turns as turns

-- ---- a word that can be an operand or a value

module _ (v : Verb) (x : ℕ) (xs : Text) (plain : (x == 45) ≡ false) where
  abbrev word : Text
  word = x ∷ xs

  no_dashes : bytes_eq (x ∷ xs) (45 ∷ 45 ∷ []) ≡ false
  no_dashes = ap (λ b. b && bytes_eq xs (45 ∷ [])) plain

  no_long : long_of (x ∷ xs) ≡ None
  no_long = ap (λ b. option_and_then long_of_rest (option_and_then (strip_byte 45) (cond b (Some xs) None))) plain

  no_short : short_of (x ∷ xs) ≡ None
  no_short = ap (λ b. option_and_then short_of_rest (cond b (Some xs) None)) plain

  met_other : (waiting : Waiting) (place : Place) (h : Held) → subcommand_or_other (shape v).rules None waiting (number place) (x ∷ xs) h ≡ plain_word (shape v).rules waiting (x ∷ xs) h
  met_other waiting place h =
      ap (λ b. cond b (h, trailing (number place)) (long_or_other (shape v).rules waiting (x ∷ xs) (long_of (x ∷ xs)) h)) no_dashes
      ∙ ap (λ o. long_or_other (shape v).rules waiting (x ∷ xs) o h) no_long
      ∙ ap (λ o. short_or_plain (shape v).rules waiting (x ∷ xs) o h) no_short

  no_fault : (h : Held) → other_fault (shape v) None (x ∷ xs) h ≡ []
  no_fault h =
      ap (λ b. cond b [] (flag_word_fault (shape v).rules false (long_of (x ∷ xs)) (x ∷ xs) h)) no_dashes
      ∙ ap (λ o. flag_word_fault (shape v).rules false o (x ∷ xs) h) no_long
      ∙ ap (λ o. option_map_or (λ flags. bundle_fault (shape v).rules false flags h) o []) no_short

  idle_fault : (h : Held) (place : Place) → turn_fault (shape v) [] (walk_held h idle place) (x ∷ xs) ≡ step_fault (shape v) (number place) h value
  idle_fault h place = ap₂ (λ f (m : Held × Step). or_else f (step_fault (shape v) (number place) m.0 m.1)) (no_fault h) (met_other idle place h)

  idle_walk : (h : Held) (place : Place) → walked (shape v).rules [] (walk_held h idle place) (x ∷ xs) ≡ after_step (shape v).rules (x ∷ xs) (walk_held h idle place) h value
  unfolding walked
  idle_walk h place = ap (λ (m : Held × Step). after_step (shape v).rules (x ∷ xs) (walk_held h idle place) m.0 m.1) (met_other idle place h)

  open_fault : (h : Held) (id : Text) (place : Place) → turn_fault (shape v) [] (walk_held h (option id) place) (x ∷ xs) ≡ []
  open_fault h id place = ap₂ (λ f (m : Held × Step). or_else f (step_fault (shape v) (number place) m.0 m.1)) (no_fault h) (met_other (option id) place h)

  open_walk : (h : Held) (id : Text) (place : Place) → walked (shape v).rules [] (walk_held h (option id) place) (x ∷ xs)
      ≡ after_step (shape v).rules (x ∷ xs) (walk_held h (option id) place) (option_word (arg_by_id (shape v).rules id) id (x ∷ xs) h).0
      (next (option_word (arg_by_id (shape v).rules id) id (x ∷ xs) h).1)
  unfolding walked
  open_walk h id place = ap (λ (m : Held × Step). after_step (shape v).rules (x ∷ xs) (walk_held h (option id) place) m.0 m.1) (met_other (option id) place h)

  none : (f : Kinds) (w : Walk) (o : Option (List Use)) → (f ≡ [] → ⊥) → Agrees v f w (option_and_then (λ (us : List Use). None) o)
  none f w None bad = bad
  none f w (Some us) bad = bad

  module _ (uses : List Use) (pend : Pend) (h : Stands v pend) where
    takes_place : (p : Place) → has_place v p ≡ true → (b : Bool) (F : Kinds) (H : Held) (o : Option (List Use)) → Settles F H o
        → Agrees v (cond (b && false) [] F)
        (record { held = pushed (operand_id p) (x ∷ xs) (cond (b && false) (held_at uses pend) H); waiting = idle; position = number (turns.next p); is_trailing = false; stopped = None })
        (option_and_then (λ (us : List Use). Some (record { uses = us; pend = full (operand p, x ∷ xs); place = turns.next p })) o)
    takes_place p e true F H None a = a
    takes_place p e false F H None a = a
    takes_place p e true F H (Some us) a = (a.0, ap (λ (k : Held). record { held = pushed (operand_id p) (x ∷ xs) k; waiting = idle; position = number (turns.next p); is_trailing = false; stopped = None }) a.1, (e, refl))
    takes_place p e false F H (Some us) a = (a.0, ap (λ (k : Held). record { held = pushed (operand_id p) (x ∷ xs) k; waiting = idle; position = number (turns.next p); is_trailing = false; stopped = None }) a.1, (e, refl))

    abbrev there : Text × List Text → Place → Bool
    there q p = bytes_eq q.0 (operand_id p)

    abbrev waits_here : Place → Bool
    waits_here p = Rattle.clap.specs.Walk.is_pending (operand_built p) (pending_of pend)

    refused_place : (place : Place) → has_place v place ≡ false → Agrees v (step_fault (shape v) (number place) (held_at uses pend) value)
        (after_step (shape v).rules (x ∷ xs) (walk_held (held_at uses pend) idle place) (held_at uses pend) value)
        (option_and_then (λ (us : List Use). turns.placed v place (x ∷ xs) us) (settle uses pend))
    refused_place place e = rw (by_place v place, e) (none _ _ (settle uses pend) (λ f. some_fault _ _ f))

    placed_turn : (place : Place) (b : Bool) → has_place v place ≡ b → Agrees v (step_fault (shape v) (number place) (held_at uses pend) value)
        (after_step (shape v).rules (x ∷ xs) (walk_held (held_at uses pend) idle place) (held_at uses pend) value)
        (option_and_then (λ (us : List Use). turns.placed v place (x ∷ xs) us) (settle uses pend))
    placed_turn place false e = refused_place place e
    placed_turn first true e = rw (by_place v first) (takes_place first e (waits_here first) _ _ (settle uses pend) (settles v uses pend h))
    placed_turn second true e =
        let found : arg_by_index (shape v).rules 2 ≡ Some (operand_built second) = by_place v second ∙ ap (λ b. cond b (Some (operand_built second)) None) e in
        let at : option_and_then (λ (us : List Use). turns.placed v second (x ∷ xs) us) (settle uses pend) ≡ option_and_then
        (λ (us : List Use). Some (record { uses = us; pend = full (operand second, x ∷ xs); place = past })) (settle uses pend) =
        ap (λ b. option_and_then (λ (us : List Use). cond b (Some (record { uses = us; pend = full (operand second, x ∷ xs); place = past })) None) (settle uses pend)) e in
        rw (found, at) (takes_place second e (waits_here second) _ _ (settle uses pend) (settles v uses pend h))
    placed_turn past true e = absurd (true≢false (sym e))

  pend_filled : (s : Setting) (uses : List Use) (place : Place) → has_value s ≡ true
      → after_step (shape v).rules (x ∷ xs) (walk_held (held_at uses (opened s)) (option (name_of s)) place) (option_word (Some (setting_built s)) (name_of s) (x ∷ xs) (held_at uses (opened s))).0
      (next (option_word (Some (setting_built s)) (name_of s) (x ∷ xs) (held_at uses (opened s))).1)
      ≡ walk_at (record { uses = uses; pend = full (setting s, x ∷ xs); place = place })
  pend_filled Workers uses place h = refl
  pend_filled Fuel uses place h = refl
  pend_filled Frames uses place h = refl
  pend_filled Script uses place h = refl
  pend_filled Log uses place h = refl
  pend_filled _ uses place h = cc

  pub plain_turn : (uses : List Use) (pend : Pend) (place : Place) → Stands v pend
      → Agrees v (turn_fault (shape v) [] (walk_held (held_at uses pend) (waits_for pend) place) (x ∷ xs)) (walked (shape v).rules [] (walk_held (held_at uses pend) (waits_for pend) place) (x ∷ xs))
      (step_of v uses pend place (x ∷ xs))
  plain_turn uses (opened s) place h =
      let what : filled uses place (says_behind v (Some s) (x ∷ xs)) ≡ Some (record { uses = uses; pend = full (setting s, x ∷ xs); place = place }) = rw plain refl in
      subst (λ o. Agrees v (turn_fault (shape v) [] (walk_held (held_at uses (opened s)) (option (name_of s)) place) (x ∷ xs))
      (walked (shape v).rules [] (walk_held (held_at uses (opened s)) (option (name_of s)) place) (x ∷ xs)) o) (sym what) (
        open_fault (held_at uses (opened s)) (name_of s) place,
        open_walk (held_at uses (opened s)) (name_of s) place
            ∙ ap (λ a. after_step (shape v).rules (x ∷ xs) (walk_held (held_at uses (opened s)) (option (name_of s)) place) (option_word a (name_of s) (x ∷ xs) (held_at uses (opened s))).0
            (next (option_word a (name_of s) (x ∷ xs) (held_at uses (opened s))).1)) (by_key v (setting s) h.0)
            ∙ pend_filled s uses place h.1,
        h,
      )
  plain_turn uses free place h = go (λ p. word_says v (x ∷ xs))
    where
      what : word_says v (x ∷ xs) ≡ says (words.operand (x ∷ xs))
      what = rw plain refl

      go : (Place → Saying) → Agrees v (turn_fault (shape v) [] (walk_held (held_at uses free) idle place) (x ∷ xs)) (walked (shape v).rules [] (walk_held (held_at uses free) idle place) (x ∷ xs))
          (option_and_then (λ (us : List Use). said v us place (word_says v (x ∷ xs))) (settle uses free))
      go _ = rw (what, idle_fault (held_at uses free) place, idle_walk (held_at uses free) place) (placed_turn uses free h place (has_place v place) refl)
  plain_turn uses (full u) place h = go (λ p. word_says v (x ∷ xs))
    where
      what : word_says v (x ∷ xs) ≡ says (words.operand (x ∷ xs))
      what = rw plain refl

      go : (Place → Saying) → Agrees v (turn_fault (shape v) [] (walk_held (held_at uses (full u)) idle place) (x ∷ xs))
          (walked (shape v).rules [] (walk_held (held_at uses (full u)) idle place) (x ∷ xs)) (option_and_then (λ (us : List Use). said v us place (word_says v (x ∷ xs))) (settle uses (full u)))
      go _ = rw (what, idle_fault (held_at uses (full u)) place, idle_walk (held_at uses (full u)) place) (placed_turn uses (full u) h place (has_place v place) refl)
