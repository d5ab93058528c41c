-- Fronts of texts that are written in pieces.
use Rattle.std.specs.List.{concat}
use Rattle.std.proofs.Common.{◌≡◌, ◌<◌, ◌+◌, ℕ, zero, suc, Bor, map, get_or, arith, List, [], ◌∷◌, ◌++◌, Result, Ok, Err, OnOk, OnErr, length, take, drop, sym, ap, refl, subst, ◌∙◌, append_assoc}
use Rattle.std.proofs.Common.{append-nil}
use Rattle.std.proofs.Math.Seq.{take-append_seam, take-length}
use Rattle.std.specs.declared.option.Option.{Option}
use Rattle.std.specs.Io.{StartsWith}
use Rattle.std.specs.Io.KnownBytes.{Appends}
use Rattle.std.proofs.KnownBytes.{Appends-trans, Appends-nil, starts_with_rest}
use Rattle.cal_base.specs.Contents.{AppendsPrefix}

-- of a text, the front was written and the rest is left
pub record Between (a b : Option (List ℕ)) (text rest : List ℕ) : Type 0 where
  pub front : List ℕ
  pub whole : text ≡ front ++ rest
  pub wrote : Appends a b front

-- at first nothing was written
pub at_first : (a : Option (List ℕ)) (text : List ℕ) → Between a a text text
at_first a text = record { front = []; whole = refl; wrote = Appends-nil a }

-- one more piece
pub one_more : (a b c : Option (List ℕ)) (text piece rest : List ℕ) → Between a b text (piece ++ rest) → Appends b c piece → Between a c text rest
one_more a b c text piece rest so_far more = record {
  front = so_far.front ++ piece;
  whole = so_far.whole ∙ sym (append_assoc so_far.front piece rest);
  wrote = Appends-trans a b c so_far.front piece so_far.wrote more;
}

-- nothing is left
pub at_last : (a b : Option (List ℕ)) (text : List ℕ) → Between a b text [] → Appends a b text
at_last a b text all = subst (Appends a b) (sym (all.whole ∙ append-nil all.front)) all.wrote

-- a front is followed by the rest
front_then_rest : (text front rest : List ℕ) → text ≡ front ++ rest → StartsWith text front
front_then_rest text front rest e = ap (take (length front)) e ∙ take-append_seam front rest

-- what was written and a front of the next piece are a front of the text
pub stopped : (a b c : Option (List ℕ)) (text piece rest : List ℕ) → Between a b text (piece ++ rest) → AppendsPrefix b c piece → AppendsPrefix a c text
stopped a b c text piece rest so_far h = (
  so_far.front ++ h.0,
  front_then_rest text (so_far.front ++ h.0) (drop (length h.0) piece ++ rest) split,
  Appends-trans a b c so_far.front h.0 so_far.wrote h.2,
) where
  split : text ≡ (so_far.front ++ h.0) ++ (drop (length h.0) piece ++ rest)
  split = so_far.whole ∙ ap (λ l. so_far.front ++ (l ++ rest)) (starts_with_rest piece h.0 h.1)
      ∙ ap (λ l. so_far.front ++ l) (append_assoc h.0 (drop (length h.0) piece) rest) ∙ sym (append_assoc so_far.front h.0 (drop (length h.0) piece ++ rest))

-- all of a text is a front of it
pub whole_front : (a b : Option (List ℕ)) (text : List ℕ) → Appends a b text → AppendsPrefix a b text
whole_front a b text h = (text, take-length text, h)

pub on_err : {T E : Type 0} {P Q : Type 0} (r : Result T E) → (P → Q) → OnErr r P → OnErr r Q
on_err (Ok v) f h = h
on_err (Err e) f h = f h

pub on_ok : {T E : Type 0} {P Q : Type 0} (r : Result T E) → (P → Q) → OnOk r P → OnOk r Q
on_ok (Ok v) f h = f h
on_ok (Err e) f h = h

pub err_holds : {T E : Type 0} {P : Type 0} (r : Result T E) → P → OnErr r P
err_holds (Ok v) h = tt
err_holds (Err e) h = h

-- the pieces from a place on are the piece there and those behind it
pieces_behind : (all : List (Bor (List ℕ))) (i : ℕ) (default : Bor (List ℕ)) → i < length all
    → concat (map (λ piece. piece.now) (drop i all)) ≡ (get_or all i default).now ++ concat (map (λ piece. piece.now) (drop (suc i) all))
pieces_behind [] i default inside = absurd (omega (arith, inside))
pieces_behind (piece ∷ rest) zero default inside = refl
pieces_behind (piece ∷ rest) (suc i) default inside = pieces_behind rest i default (omega (arith, inside))

-- all pieces but those from a place on were written, and the one there was written, or stopped in its middle
pub next_piece : (a b c : Option (List ℕ)) (all : List (Bor (List ℕ))) (i : ℕ) (default : Bor (List ℕ)) → i < length all
    → Between a b (concat (map (λ piece. piece.now) all)) (concat (map (λ piece. piece.now) (drop i all))) → Appends b c (get_or all i default).now
    → Between a c (concat (map (λ piece. piece.now) all)) (concat (map (λ piece. piece.now) (drop (i + 1) all)))
next_piece a b c all i default inside so_far more =
    let next : suc i ≡ i + 1 = omega arith in
    subst (λ j. Between a c (concat (map (λ piece. piece.now) all)) (concat (map (λ piece. piece.now) (drop j all)))) next
    (one_more a b c (concat (map (λ piece. piece.now) all)) (get_or all i default).now (concat (map (λ piece. piece.now) (drop (suc i) all)))
    (subst (Between a b (concat (map (λ piece. piece.now) all))) (pieces_behind all i default inside) so_far) more)

pub stopped_piece : (a b c : Option (List ℕ)) (all : List (Bor (List ℕ))) (i : ℕ) (default : Bor (List ℕ)) → i < length all
    → Between a b (concat (map (λ piece. piece.now) all)) (concat (map (λ piece. piece.now) (drop i all))) → AppendsPrefix b c (get_or all i default).now
    → AppendsPrefix a c (concat (map (λ piece. piece.now) all))
stopped_piece a b c all i default inside so_far h =
    stopped a b c (concat (map (λ piece. piece.now) all)) (get_or all i default).now (concat (map (λ piece. piece.now) (drop (suc i) all)))
    (subst (Between a b (concat (map (λ piece. piece.now) all))) (pieces_behind all i default inside) so_far) h
