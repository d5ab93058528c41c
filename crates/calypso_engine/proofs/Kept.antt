-- The words before a step.
use Rattle.std.proofs.Common.{◌≡◌, ℕ, zero, suc, ◌+◌, ◌<◌, Bool, true, false, [], ◌∷◌, length, Option, None, Some, IfSome, ℤ, refl, sym, ap, ◌∙◌, arith, ⊎_elim}
use Rattle.std.proofs.lemmas.List.{length-map}
use Rattle.std.proofs.lemmas.Bool.{cases_eq}
use Rattle.cal_base.specs.Memory.{Memory, kinds_of, value_at, with_value}
use Rattle.cal_base.specs.Main.{Step}
use Rattle.cal_base.specs.Pages.{Paged}
use Rattle.cal_base.specs.Text.{step_lines, event_text}
use Rattle.cal_base.proofs.Images.{value_at-with_value_other}
use Rattle.calypso_engine.specs.Kept.{HasRoom, KeepsCopy, lines_behind}

-- memories with words of the same kinds have as many words
pub as_long : (a b : Memory) → kinds_of a ≡ kinds_of b → length a ≡ length b
as_long a b kinds = sym (length-map a (λ word. word.kind)) ∙ ap length kinds ∙ length-map b (λ word. word.kind)

-- ---- a copy, word by word

pub value_at-with_value_same : (memory : Memory) (a : ℕ) (v : ℤ) → a < length memory → value_at (with_value memory a v) a ≡ v
value_at-with_value_same [] a v within = absurd (omega arith)
value_at-with_value_same (word ∷ memory) zero v within = refl
value_at-with_value_same (word ∷ memory) (suc a) v within = value_at-with_value_same memory a v (omega arith)

pub same_memory : (a b : Memory) → kinds_of a ≡ kinds_of b → ((i : ℕ) → i < length b → value_at a i ≡ value_at b i) → a ≡ b
same_memory [] [] kinds same = refl
same_memory [] (y ∷ b) kinds same = absurd (cc)
same_memory (x ∷ a) [] kinds same = absurd (cc)
same_memory (x ∷ a) (y ∷ b) kinds same =
    let kind : x.kind ≡ y.kind = cc in
    let rest_kinds : kinds_of a ≡ kinds_of b = cc in
    let value : x.value ≡ y.value = same 0 (omega arith) in
    let rest = same_memory a b rest_kinds (λ i h. same (suc i) (omega arith)) in
    λ i. record { kind = kind i; value = value i } ∷ rest i

-- the words so far are those of the other memory
abbrev pub IsCopied : ℕ → Memory → Memory → Type 0
IsCopied n to from = (i : ℕ) → i < n → value_at to i ≡ value_at from i

pub copied_more : (to from : Memory) (n : ℕ) → n < length to → IsCopied n to from → IsCopied (n + 1) (with_value to n (value_at from n)) from
copied_more to from n within so_far i h =
    ⊎_elim
    (λ (here : i ≡ n). ap (λ j. value_at (with_value to n (value_at from n)) j) here ∙ value_at-with_value_same to n (value_at from n) within ∙ ap (λ j. value_at from j) (sym here))
    (λ (apart : i ≡ n → ⊥). value_at-with_value_other to n i (value_at from n) apart ∙ so_far i (omega arith))
    (cases_eq i n)

-- ---- what is kept

pub kept_kinds : (steps : Bool) (before : Memory) (old : Option Paged) → HasRoom steps before old → IfSome old (λ copy. kinds_of copy.memory ≡ kinds_of before)
kept_kinds false before None room = tt
kept_kinds false before (Some copy) room = absurd room
kept_kinds true before None room = absurd room
kept_kinds true before (Some copy) room = room

pub kept_words : (before later : Memory) (old kept : Option Paged) → KeepsCopy before old kept → kinds_of later ≡ kinds_of before → IfSome kept (λ copy. length copy.memory ≡ length later)
kept_words before later None None keeps kinds = tt
kept_words before later None (Some copy) keeps kinds = absurd keeps
kept_words before later (Some room) None keeps kinds = absurd keeps
kept_words before later (Some room) (Some copy) keeps kinds = as_long copy.memory later (ap kinds_of keeps ∙ sym kinds)

pub room_behind : (steps : Bool) (before later : Memory) (old kept : Option Paged) → HasRoom steps before old → KeepsCopy before old kept → kinds_of later ≡ kinds_of before → HasRoom steps later kept
room_behind false before later None None room keeps kinds = tt
room_behind false before later None (Some copy) room keeps kinds = absurd keeps
room_behind false before later (Some old) kept room keeps kinds = absurd room
room_behind true before later None kept room keeps kinds = absurd room
room_behind true before later (Some old) None room keeps kinds = absurd keeps
room_behind true before later (Some old) (Some copy) room keeps kinds = ap kinds_of keeps ∙ sym kinds

pub kept_lines : (steps : Bool) (before later : Memory) (old kept : Option Paged) (number size : ℕ) → HasRoom steps before old → KeepsCopy before old kept
    → lines_behind kept number later ≡ event_text steps (Step number size before later)
kept_lines false before later None None number size room keeps = refl
kept_lines false before later None (Some copy) number size room keeps = absurd keeps
kept_lines false before later (Some old) kept number size room keeps = absurd room
kept_lines true before later None kept number size room keeps = absurd room
kept_lines true before later (Some old) None number size room keeps = absurd keeps
kept_lines true before later (Some old) (Some copy) number size room keeps = ap (λ memory. step_lines number memory later) keeps
