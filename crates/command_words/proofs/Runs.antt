-- All the words of a line.
use Rattle.std.proofs.Common.{◌≡◌, ◌∙◌, ℕ, Bool, cond, true, false, refl, sym, ap, ap₂, subst, arith, List, [], ◌∷◌, Option, Some, None, ◌&&◌, ◌||◌, ◌==◌, not, true≢false}
use Rattle.std.specs.List.{fold, list_any, list_all, before_first, after_first}
use Rattle.std.specs.Prelude.{option_and_then}
use Rattle.clap.specs.Walk.{Text, Held, Walk, walked, arg_by_long}
use Rattle.clap.specs.Faults.{turn_fault, walk_fault}
use Rattle.clap.specs.Kinds.{Kinds, or_else}
use Rattle.command_words.specs.declared.name.Verb.{Verb}
use Rattle.command_words.specs.Words.{Part, Saying, says, opens, wrong, says_behind, word_says, is_plain, is_equals, has_equals, setting_named, parts_behind, parts_by, in_front}
use Rattle.command_words.specs.Words as words
use Rattle.command_words.specs.Line.{is_named, is_readable}
use Rattle.command_words.proofs.Rules.{Place, shape}
use Rattle.command_words.proofs.Steps.{waits_for, Use, Pend, free, full, opened, State, held_at, walk_at, Stands, settle}
use Rattle.command_words.proofs.Names.{by_name, equals_in, before_in, after_in, all_before}
use Rattle.command_words.proofs.Turns.{Agrees, step, step_of, said, first_empty, any, walk_held, long_turn, long_walk, long_says, IsPlainValue}
use Rattle.command_words.proofs.PlainWords.{plain_turn}

pub agrees-by : (v : Verb) (f g : Kinds) (w x : Walk) (o p : Option State) → f ≡ g → w ≡ x → o ≡ p → Agrees v g x p → Agrees v f w o
agrees-by v f g w x o p ef ew eo h = subst (λ k. Agrees v k w o) (sym ef) (subst (λ k. Agrees v g k o) (sym ew) (subst (λ k. Agrees v g x k) (sym eo) h))

both : (a b : Bool) → (a && b) ≡ true → (a ≡ true) × (b ≡ true)
both true b e = (refl, e)
both false b e = absurd (true≢false (sym e))

module _ (v : Verb) (uses : List Use) (place : Place) (y : ℕ) (r : Text) where
  abbrev long : Text
  long = 45 ∷ 45 ∷ y ∷ r

  abbrev name : Text
  name = before_first is_equals (y ∷ r)

  abbrev value_after : Bool → Option Text
  value_after b = cond b (Some (after_first is_equals (y ∷ r))) None

  abbrev found_at : Pend → Option Rattle.clap.specs.Walk.Rule → Option Text → Type 0
  found_at pend found val =
      (turn_fault (shape v) [] (walk_held (held_at uses pend) (waits_for pend) place) long ≡ long_turn v (waits_for pend) place long (held_at uses pend) found val)
      × (walked (shape v).rules [] (walk_held (held_at uses pend) (waits_for pend) place) long ≡ long_walk v (waits_for pend) place long (held_at uses pend) found val)

  meets : (pend : Pend) → found_at pend (arg_by_long (shape v).rules name) (value_after (list_any is_equals (y ∷ r)))
  unfolding walked
  meets free = (refl, refl)
  meets (full u) = (refl, refl)
  meets (opened s) = (refl, refl)

  what_is : (b : Bool) → list_any is_equals (y ∷ r) ≡ b → word_says v long ≡ long_says v (setting_named (45 ∷ 45 ∷ name)) (value_after b)
  what_is true e =
      ap (λ b. cond b (words.pair_says v (setting_named (before_first is_equals long)) (after_first is_equals long)) (words.name_says v (setting_named long))) (equals_in (y ∷ r) ∙ e)
      ∙ ap₂ (λ n t. words.pair_says v (setting_named n) t) (before_in (y ∷ r)) (after_in (y ∷ r))
  what_is false e =
      ap (λ b. cond b (words.pair_says v (setting_named (before_first is_equals long)) (after_first is_equals long)) (words.name_says v (setting_named long))) (equals_in (y ∷ r) ∙ e)
      ∙ ap (λ n. words.name_says v (setting_named (45 ∷ 45 ∷ n))) (sym (all_before (y ∷ r) e))

  plain_value : is_readable long ≡ true → (b : Bool) → list_any is_equals (y ∷ r) ≡ b → IsPlainValue (value_after b)
  plain_value h false e = tt
  plain_value h true e = ap is_plain (sym (after_in (y ∷ r))) ∙ (sym (ap (λ b. not b || is_plain (after_first is_equals long)) (equals_in (y ∷ r) ∙ e)) ∙ h)

  long_all : (pend : Pend) → Stands v pend → is_readable long ≡ true → (b : Bool) → list_any is_equals (y ∷ r) ≡ b
      → Agrees v (turn_fault (shape v) [] (walk_held (held_at uses pend) (waits_for pend) place) long) (walked (shape v).rules [] (walk_held (held_at uses pend) (waits_for pend) place) long)
      (option_and_then (λ (us : List Use). said v us place (word_says v long)) (settle uses pend))
  long_all pend h readable b e =
      let met = meets pend in
      agrees-by v _ _ _ _ _ _
      (met.0 ∙ ap₂ (λ o b. long_turn v (waits_for pend) place long (held_at uses pend) o (value_after b)) (by_name v name) e)
      (met.1 ∙ ap₂ (λ o b. long_walk v (waits_for pend) place long (held_at uses pend) o (value_after b)) (by_name v name) e)
      (ap (λ s. option_and_then (λ (us : List Use). said v us place s) (settle uses pend)) (what_is b e))
      (any v (waits_for pend) place long uses pend h (setting_named (45 ∷ 45 ∷ name)) (value_after b) (plain_value readable b e))

same_byte : (x : ℕ) → (x == 45) ≡ true → x ≡ 45
same_byte x e = grind (arith, e)

-- a word with two dashes before more
two_dashes : (v : Verb) (uses : List Use) (pend : Pend) (place : Place) (y : ℕ) (r : Text) → Stands v pend → is_readable (45 ∷ 45 ∷ y ∷ r) ≡ true
    → Agrees v (turn_fault (shape v) [] (walk_held (held_at uses pend) (waits_for pend) place) (45 ∷ 45 ∷ y ∷ r))
    (walked (shape v).rules [] (walk_held (held_at uses pend) (waits_for pend) place) (45 ∷ 45 ∷ y ∷ r)) (step_of v uses pend place (45 ∷ 45 ∷ y ∷ r))
two_dashes v uses free place y r h readable = long_all v uses place y r free h readable (list_any is_equals (y ∷ r)) refl
two_dashes v uses (full u) place y r h readable = long_all v uses place y r (full u) h readable (list_any is_equals (y ∷ r)) refl
two_dashes v uses (opened s) place y r h readable = long_all v uses place y r (opened s) h readable (list_any is_equals (y ∷ r)) refl

dashed : (v : Verb) (uses : List Use) (pend : Pend) (place : Place) (x : ℕ) (xs : Text) → Stands v pend → is_readable (x ∷ xs) ≡ true → is_named (x ∷ xs) ≡ true
    → Agrees v (turn_fault (shape v) [] (walk_held (held_at uses pend) (waits_for pend) place) (x ∷ xs)) (walked (shape v).rules [] (walk_held (held_at uses pend) (waits_for pend) place) (x ∷ xs))
    (step_of v uses pend place (x ∷ xs))
dashed v uses pend place x [] h readable n = absurd (true≢false (sym n))
dashed v uses pend place x (z ∷ []) h readable n = absurd (true≢false (sym n))
dashed v uses pend place x (z ∷ y ∷ r) h readable n =
    let parts = both (x == 45) (z == 45) n in
    let ex : x ≡ 45 = same_byte x parts.0 in
    let ez : z ≡ 45 = same_byte z parts.1 in
    let stated = λ (a b : ℕ). Agrees v (turn_fault (shape v) [] (walk_held (held_at uses pend) (waits_for pend) place) (a ∷ b ∷ y ∷ r))
    (walked (shape v).rules [] (walk_held (held_at uses pend) (waits_for pend) place) (a ∷ b ∷ y ∷ r)) (step_of v uses pend place (a ∷ b ∷ y ∷ r)) in
    let known : is_readable (45 ∷ 45 ∷ y ∷ r) ≡ true = subst (λ a. is_readable (a ∷ 45 ∷ y ∷ r) ≡ true) ex (subst (λ b. is_readable (x ∷ b ∷ y ∷ r) ≡ true) ez readable) in
    subst (λ a. stated a z) (sym ex) (subst (λ b. stated 45 b) (sym ez) (two_dashes v uses pend place y r h known))

-- at each word that may be read the two agree
pub turn : (v : Verb) (uses : List Use) (pend : Pend) (place : Place) (word : Text) → Stands v pend → is_readable word ≡ true
    → Agrees v (turn_fault (shape v) [] (walk_held (held_at uses pend) (waits_for pend) place) word) (walked (shape v).rules [] (walk_held (held_at uses pend) (waits_for pend) place) word)
    (step_of v uses pend place word)
turn v uses pend place [] h readable = cc
turn v uses pend place (x ∷ xs) h readable = go (x == 45) refl
  where
    named : (x == 45) ≡ true → is_named (x ∷ xs) ≡ true
    named e = (both _ _ (sym (ap (λ b. not b || (is_named (x ∷ xs) && (not (has_equals (x ∷ xs)) || is_plain (after_first is_equals (x ∷ xs))))) e) ∙ readable)).0

    go : (b : Bool) → (x == 45) ≡ b → Agrees v (turn_fault (shape v) [] (walk_held (held_at uses pend) (waits_for pend) place) (x ∷ xs))
        (walked (shape v).rules [] (walk_held (held_at uses pend) (waits_for pend) place) (x ∷ xs)) (step_of v uses pend place (x ∷ xs))
    go false e = plain_turn v x xs e uses pend place h
    go true e = dashed v uses pend place x xs h readable (named e)

-- ---- all the words

abbrev pub run : Verb → State → List Text → Option State
run v st [] = Some st
run v st (word ∷ ws) = option_and_then (λ (next : State). run v next ws) (step v st word)

pub runs : (v : Verb) (st : State) (ws : List Text) → Stands v st.pend → list_all is_readable ws ≡ true
    → Agrees v (walk_fault (shape v) [] (walk_at st) ws) (fold (walked (shape v).rules []) (walk_at st) ws) (run v st ws)
unfolding walk_fault
runs v st [] h readable = (refl, refl, h)
runs v st (word ∷ ws) h readable =
    let parts = both _ _ readable in
    go (step v st word) (turn v st.uses st.pend st.place word h parts.0) (λ next s. runs v next ws s parts.1)
  where
    go : (o : Option State) → Agrees v (turn_fault (shape v) [] (walk_at st) word) (walked (shape v).rules [] (walk_at st) word) o
        → ((next : State) → Stands v next.pend → Agrees v (walk_fault (shape v) [] (walk_at next) ws) (fold (walked (shape v).rules []) (walk_at next) ws) (run v next ws))
        → Agrees v (or_else (turn_fault (shape v) [] (walk_at st) word) (walk_fault (shape v) [] (walked (shape v).rules [] (walk_at st) word) ws))
        (fold (walked (shape v).rules []) (walked (shape v).rules [] (walk_at st) word) ws)
        (option_and_then (λ (next : State). run v next ws) o)
    go None t more = λ f. t (first_empty _ _ f)
    go (Some next) t more = agrees-by v _ _ _ _ _ _
        (ap₂ (λ a (w : Walk). or_else a (walk_fault (shape v) [] w ws)) t.0 t.1) (ap (λ (w : Walk). fold (walked (shape v).rules []) w ws) t.1) refl (more next t.2)
