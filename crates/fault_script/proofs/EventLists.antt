-- A list of events, a line more at its front.
use Rattle.std.proofs.Common.{◌≡◌, ℕ, ◌+◌, ◌<◌, ◌≤◌, Bool, true, false, cond, ltb, List, [], ◌∷◌, ◌++◌, length, refl, sym, ap, ◌∙◌, ⊎_elim, arith, Option, Some, None, append_assoc}
use Rattle.std.specs.Prelude.{Result, Ok, Err, filter_map, position, not}
use Rattle.std.specs.List.{position_or_len, cons_option}
use Rattle.std.proofs.lemmas.Bool.{cases_lt, lt-ltb, le-ltb}
use Rattle.event_world.specs.declared.event.Event.{Event}
use Rattle.fault_script.specs.Events.{told_by, is_wrong, events_by}

-- what the lines list
abbrev pub listed : List (List ℕ) → Result (List Event) ℕ
listed lines = events_by (position is_wrong lines) lines

-- these events, and then those of the lines behind so many lines
abbrev pub behind : List Event → ℕ → Result (List Event) ℕ → Result (List Event) ℕ
behind events count (Ok more) = Ok (events ++ more)
behind events count (Err line) = Err (count + line)

place_of_cons : (line : List ℕ) (lines : List (List ℕ)) (t : Bool) → is_wrong line ≡ t → position_or_len is_wrong (line ∷ lines) ≡ cond t 0 (1 + position_or_len is_wrong lines)
place_of_cons line lines true e = ap (λ t. cond (not t) (1 + position_or_len is_wrong lines) 0) e
place_of_cons line lines false e = ap (λ t. cond (not t) (1 + position_or_len is_wrong lines) 0) e

at_place : (place : ℕ) (lines : List (List ℕ)) → position_or_len is_wrong lines ≡ place → place < length lines → position is_wrong lines ≡ Some place
at_place place lines is lt = ap (λ n. cond (ltb n (length lines)) (Some n) None) is ∙ ap (λ t. cond t (Some place) None) (lt-ltb place (length lines) lt)

at_none : (lines : List (List ℕ)) → length lines ≤ position_or_len is_wrong lines → position is_wrong lines ≡ None
at_none lines le = ap (λ t. cond t (Some (position_or_len is_wrong lines)) None) (le-ltb (position_or_len is_wrong lines) (length lines) le)

-- a wrong line is the first one
pub wrong_line : (line : List ℕ) (lines : List (List ℕ)) → is_wrong line ≡ true → listed (line ∷ lines) ≡ Err 1
wrong_line line lines wrong = ap (λ p. events_by p (line ∷ lines)) (at_place 0 (line ∷ lines) (place_of_cons line lines true wrong) (omega arith))

told_front : (told : Option Event) (more : List Event) → cons_option told more ≡ cons_option told [] ++ more
told_front None more = refl
told_front (Some event) more = refl

-- a line that is not wrong stands before the others
pub right_line : (line : List ℕ) (lines : List (List ℕ)) → is_wrong line ≡ false → listed (line ∷ lines) ≡ behind (cons_option (told_by line) []) 1 (listed lines)
right_line line lines right = ⊎_elim
    (λ lt.
    let place = position_or_len is_wrong lines in
    ap (λ p. events_by p (line ∷ lines)) (at_place (1 + place) (line ∷ lines) (place_of_cons line lines false right) (omega (arith, lt)))
    ∙ ap (λ n. Err n) (omega arith)
    ∙ sym (ap (λ p. behind (cons_option (told_by line) []) 1 (events_by p lines)) (at_place place lines refl lt)))
    (λ le.
    ap (λ p. events_by p (line ∷ lines)) (at_none (line ∷ lines) (let e = place_of_cons line lines false right in omega (arith, e, le)))
    ∙ ap (λ l. Ok l) (told_front (told_by line) (filter_map told_by lines))
    ∙ sym (ap (λ p. behind (cons_option (told_by line) []) 1 (events_by p lines)) (at_none lines le)))
    (cases_lt (position_or_len is_wrong lines) (length lines))

-- one line more is behind
pub behind_more : (events more : List Event) (count : ℕ) (rest : Result (List Event) ℕ) → behind events count (behind more 1 rest) ≡ behind (events ++ more) (count + 1) rest
behind_more events more count (Ok rest) = ap (λ l. Ok l) (sym (append_assoc events more rest))
behind_more events more count (Err line) = ap (λ n. Err n) (omega arith)
