-- Lines that go on their way in pieces.
use Rattle.std.proofs.Common.{◌≡◌, ◌<◌, ◌+◌, ℕ, zero, suc, arith, get_or, List, [], ◌∷◌, ◌++◌, length, take, drop, refl, sym, ap, ◌∙◌, subst, append_assoc, append-nil, None, Some}
use Rattle.std.specs.List.{flat_map}
use Rattle.std.specs.Io.{StartsWith}
use Rattle.std.proofs.KnownBytes.{starts_with_rest}
use Rattle.std.proofs.Math.Seq.{take-append_seam}
use Rattle.std.specs.declared.option.Option.{Option}
use Rattle.std.specs.Io.KnownBytes.{Appends}
use Rattle.std.proofs.KnownBytes.{Appends-trans}
use Rattle.cal_base.specs.Contents.{Contents, Told, AppendsTo, AppendsPrefix, AppendsPrefixTo}
use Rattle.cal_base.proofs.Pieces.{Told-more}
use Rattle.cal_base.specs.Memory.{Memory, value_at}
use Rattle.cal_base.specs.Text.{changes_from}
use Rattle.run_report.specs.Lines.{Moves, change_line}

-- a front went, and of the rest a front too
pub moves_on : (P Q R : List ℕ → Type 0) (old new rest : List ℕ) → ((a b : List ℕ) → P a → Q b → R (a ++ b)) → (whole : List ℕ) → Moves P whole (old ++ rest) → Moves Q old new
    → Moves R whole (new ++ rest)
moves_on P Q R old new rest both whole way more = record {
  front = way.front ++ more.front;
  whole = way.whole ∙ ap (λ l. way.front ++ (l ++ rest)) more.whole ∙ ap (λ l. way.front ++ l) (append_assoc more.front new rest) ∙ sym (append_assoc way.front more.front (new ++ rest));
  took = both way.front more.front way.took more.took;
}

-- what is added behind what waits was the front of the rest
pub adds_on : (P : List ℕ → Type 0) (old new line behind : List ℕ) (whole : List ℕ) → new ≡ old ++ line → Moves P whole (old ++ (line ++ behind)) → Moves P whole (new ++ behind)
adds_on P old new line behind whole e way = subst (Moves P whole) (sym (append_assoc old line behind) ∙ ap (λ l. l ++ behind) (sym e)) way

-- the lines from a place on are the line there and those behind it
lines_from : {A : Type 0} (f : A → List ℕ) (xs : List A) (i : ℕ) (x : A) → i < length xs → flat_map f (drop i xs) ≡ f (get_or xs i x) ++ flat_map f (drop (suc i) xs)
lines_from f [] i x inside = absurd (omega (arith, inside))
lines_from f (y ∷ xs) zero x inside = refl
lines_from f (y ∷ xs) (suc i) x inside = lines_from f xs i x (omega (arith, inside))

pub lines_behind : {A : Type 0} (f : A → List ℕ) (xs : List A) (i : ℕ) (x : A) → i < length xs → flat_map f (drop i xs) ≡ f (get_or xs i x) ++ flat_map f (drop (i + 1) xs)
lines_behind f xs i x inside =
    let next : suc i ≡ i + 1 = omega arith in
    lines_from f xs i x inside ∙ ap (λ (j : ℕ). f (get_or xs i x) ++ flat_map f (drop j xs)) next

-- nothing has gone yet
pub at_first : (P : List ℕ → Type 0) (whole : List ℕ) → P [] → Moves P whole whole
at_first P whole none = record { front = []; whole = refl; took = none }

-- what waited is all that was left, and it went
pub at_last : (P R : List ℕ → Type 0) (whole waits : List ℕ) → ((a : List ℕ) → P a → R (a ++ waits)) → Moves P whole (waits ++ []) → R whole
at_last P R whole waits both way = subst R (sym (way.whole ∙ ap (λ l. way.front ++ l) (append-nil waits))) (both way.front way.took)

-- of what waited a front went: that is a front of the whole
starts : (whole front waits behind part : List ℕ) → whole ≡ front ++ (waits ++ behind) → StartsWith waits part → StartsWith whole (front ++ part)
starts whole front waits behind part e h =
    ap (take (length (front ++ part))) (e ∙ ap (λ l. front ++ (l ++ behind)) (starts_with_rest waits part h)
    ∙ ap (λ l. front ++ l) (append_assoc part (drop (length part) waits) behind) ∙ sym (append_assoc front part (drop (length part) waits ++ behind)))
    ∙ take-append_seam (front ++ part) (drop (length part) waits ++ behind)

-- so it is with a stream
pub stopped : (a b c : Option (List ℕ)) (whole waits behind : List ℕ) → Moves (Appends a b) whole (waits ++ behind) → AppendsPrefix b c waits → AppendsPrefix a c whole
stopped a b c whole waits behind way h = (way.front ++ h.0, starts whole way.front waits behind h.0 way.whole h.1, Appends-trans a b c way.front h.0 way.took h.2)

-- and with a file
pub stopped_file : (a b c : Option Contents) (name whole waits behind : List ℕ)
    → Moves (λ front. Told a b (AppendsTo name front)) whole (waits ++ behind) → Told b c (AppendsPrefixTo name waits) → Told a c (AppendsPrefixTo name whole)
stopped_file None b c name whole waits behind way h = tt
stopped_file (Some m) None c name whole waits behind way h = absurd way.took
stopped_file (Some m) (Some n) None name whole waits behind way h = absurd h
stopped_file (Some m) (Some n) (Some o) name whole waits behind way h =
    (way.front ++ h.0, starts whole way.front waits behind h.0 way.whole h.1, Told-more (Some m) (Some n) (Some o) name way.front h.0 way.took h.2)

-- what waits is written behind, with nothing written before it
pub adds_alone : (P : List ℕ → Type 0) (old new line : List ℕ) → P [] → new ≡ old ++ line → Moves P (old ++ line) new
adds_alone P old new line none e = record { front = []; whole = sym e; took = none }

-- a front of what waited went, and a line was added behind
pub adds_behind : (P : List ℕ → Type 0) (first old new line : List ℕ) → Moves P first old → new ≡ old ++ line → Moves P (first ++ line) new
adds_behind P first old new line way e = record {
  front = way.front;
  whole = ap (λ l. l ++ line) way.whole ∙ append_assoc way.front old line ∙ ap (λ l. way.front ++ l) (sym e);
  took = way.took;
}

-- the changes from a word on are its change and those behind it
changes_there : (before later : Memory) (at i : ℕ) → i < length before → length before ≡ length later
    → changes_from at (drop i before) (drop i later) ≡ change_line at (value_at before i) (value_at later i) ++ changes_from (at + 1) (drop (suc i) before) (drop (suc i) later)
changes_there [] later at i inside same = absurd (omega (arith, inside))
changes_there (x ∷ before) [] at i inside same = absurd (omega (arith, same))
changes_there (x ∷ before) (y ∷ later) at zero inside same = refl
changes_there (x ∷ before) (y ∷ later) at (suc i) inside same = changes_there before later at i (omega (arith, inside)) (omega (arith, same))

pub changes_behind : (before later : Memory) (i : ℕ) → i < length before → length before ≡ length later
    → changes_from i (drop i before) (drop i later) ≡ change_line i (value_at before i) (value_at later i) ++ changes_from (i + 1) (drop (i + 1) before) (drop (i + 1) later)
changes_behind before later i inside same =
    let next : suc i ≡ i + 1 = omega arith in
    changes_there before later i i inside same
    ∙ ap (λ (j : ℕ). change_line i (value_at before i) (value_at later i) ++ changes_from (i + 1) (drop j before) (drop j later)) next
