-- The first line of bytes.
use Rattle.std.proofs.Common.{◌≡◌, ℕ, suc, ◌+◌, ◌-◌, ◌<◌, Bool, true, false, cond, eqb, List, [], ◌∷◌, ◌++◌, length, take, drop, get_or, refl, sym, ap, ◌∙◌, arith}
use Rattle.std.specs.Prelude.{◌&&◌}
use Rattle.std.specs.List.{position_or_len}
use Rattle.std.proofs.lemmas.List.{take-append-drop, drop_more, length-drop, get_or-take, length-take}
use Rattle.std.proofs.lemmas.List.Sums.{fails_before_first, passes_at_first}
use Rattle.std.proofs.lemmas.Bool.{eqb-true}
use Rattle.std.proofs.Math.ListN.{drop_of_length-le}
use Rattle.cal_base.proofs.Pages.{take_whole}
use Rattle.fault_script.specs.Events.{is_lf, begins_with_lf, in_first, lines_of}
use Rattle.fault_script.specs.Pieces.{without_cr}

in_cond : (x : ℕ) (t : Bool) (xs ys : List ℕ) → (x ∷ cond t xs ys) ≡ cond t (x ∷ xs) (x ∷ ys)
in_cond x true xs ys = refl
in_cond x false xs ys = refl

-- a CR at the end is dropped, and nothing else
pub cr_at_end : (front : List ℕ) (last : ℕ) → without_cr (front ++ last ∷ []) ≡ cond (eqb last 13) front (front ++ last ∷ [])
cr_at_end [] last = refl
cr_at_end (byte ∷ []) last = in_cond byte (eqb last 13) [] (last ∷ [])
cr_at_end (byte ∷ next ∷ rest) last = ap (λ l. byte ∷ l) (cr_at_end (next ∷ rest) last) ∙ in_cond byte (eqb last 13) (next ∷ rest) (next ∷ rest ++ last ∷ [])

-- no byte is LF
abbrev pub HasNoLf : List ℕ → Type 0
HasNoLf [] = Unit {0}
HasNoLf (byte ∷ bytes) = (is_lf byte ≡ false) × HasNoLf bytes

no_cr : (t : Bool) → (t && false) ≡ false
no_cr true = refl
no_cr false = refl

-- a byte that ends no line stands in the first line
inside : (byte : ℕ) (bytes : List ℕ) → is_lf byte ≡ false → begins_with_lf bytes ≡ false → lines_of (byte ∷ bytes) ≡ in_first byte (lines_of bytes)
inside byte bytes plain next =
    ap (λ t. cond t ([] ∷ lines_of bytes) (cond (eqb byte 13 && begins_with_lf bytes) (lines_of bytes) (in_first byte (lines_of bytes)))) plain
    ∙ ap (λ t. cond (eqb byte 13 && t) (lines_of bytes) (in_first byte (lines_of bytes))) next
    ∙ ap (λ t. cond t (lines_of bytes) (in_first byte (lines_of bytes))) (no_cr (eqb byte 13))

-- bytes without LF are one line
pub whole_line : (byte : ℕ) (bytes : List ℕ) → HasNoLf (byte ∷ bytes) → lines_of (byte ∷ bytes) ≡ (byte ∷ bytes) ∷ []
whole_line byte [] plain = inside byte [] plain.0 refl
whole_line byte (next ∷ bytes) plain = inside byte (next ∷ bytes) plain.0 plain.1.0 ∙ ap (in_first byte) (whole_line next bytes plain.1)

before_lf : (byte : ℕ) (rest : List ℕ) (t : Bool) → eqb byte 13 ≡ t → is_lf byte ≡ false → lines_of (byte ∷ 10 ∷ rest) ≡ cond t [] (byte ∷ []) ∷ lines_of rest
before_lf byte rest true is plain =
    ap (λ t. cond t ([] ∷ lines_of (10 ∷ rest)) (cond (eqb byte 13 && true) (lines_of (10 ∷ rest)) (in_first byte (lines_of (10 ∷ rest))))) plain
    ∙ ap (λ t. cond (t && true) (lines_of (10 ∷ rest)) (in_first byte (lines_of (10 ∷ rest)))) is
before_lf byte rest false is plain =
    ap (λ t. cond t ([] ∷ lines_of (10 ∷ rest)) (cond (eqb byte 13 && true) (lines_of (10 ∷ rest)) (in_first byte (lines_of (10 ∷ rest))))) plain
    ∙ ap (λ t. cond (t && true) (lines_of (10 ∷ rest)) (in_first byte (lines_of (10 ∷ rest)))) is

-- the bytes up to the first LF are a line
pub line_at : (line rest : List ℕ) → HasNoLf line → lines_of (line ++ 10 ∷ rest) ≡ without_cr line ∷ lines_of rest
line_at [] rest plain = refl
line_at (byte ∷ []) rest plain = before_lf byte rest (eqb byte 13) refl plain.0
line_at (byte ∷ next ∷ line) rest plain = inside byte (next ∷ line ++ 10 ∷ rest) plain.0 plain.1.0 ∙ ap (in_first byte) (line_at (next ∷ line) rest plain.1)

-- before the first LF there is none
no_lf : (bytes : List ℕ) → ((k : ℕ) → k < length bytes → is_lf (get_or bytes k 0) ≡ false) → HasNoLf bytes
no_lf [] each = tt
no_lf (byte ∷ bytes) each = (each 0 (omega arith), no_lf bytes (λ k lt. each (suc k) (omega (arith, lt))))

-- bytes with no LF, where there are some
pub last_line : (bytes : List ℕ) → 0 < length bytes → position_or_len is_lf bytes ≡ length bytes → lines_of bytes ≡ bytes ∷ []
last_line [] some none = absurd (omega (arith, some))
last_line (byte ∷ bytes) some none = whole_line byte bytes (no_lf (byte ∷ bytes) (λ k lt. fails_before_first is_lf (byte ∷ bytes) k 0 (omega (arith, none, lt))))

-- bytes with LF
pub cut_line : (bytes : List ℕ) (end : ℕ) → end ≡ position_or_len is_lf bytes → end < length bytes → lines_of bytes ≡ without_cr (take end bytes) ∷ lines_of (drop (end + 1) bytes)
cut_line bytes end first lt =
    let lf : get_or bytes end 0 ≡ 10 = eqb-true (get_or bytes end 0) 10 (rw first (passes_at_first is_lf bytes 0 (omega (arith, first, lt)))) in
    let whole : bytes ≡ take end bytes ++ 10 ∷ drop (end + 1) bytes =
    sym (take-append-drop end bytes) ∙ ap (λ l. take end bytes ++ l) (drop_more bytes end 0 lt ∙ ap (λ b. b ∷ drop (end + 1) bytes) lf) in
    ap lines_of whole ∙ line_at (take end bytes) (drop (end + 1) bytes)
    (no_lf (take end bytes) (λ k under.
    let below : k < end = omega (arith, under, length-take end bytes, lt) in
    ap is_lf (get_or-take end bytes k 0 below) ∙ fails_before_first is_lf bytes k 0 (omega (arith, first, below))))

-- all that is left is taken
pub rest_from : (bytes : List ℕ) (start : ℕ) → take (length bytes - start) (drop start bytes) ≡ drop start bytes
rest_from bytes start = take_whole (length bytes - start) (drop start bytes) (omega (arith, length-drop start bytes))

-- nothing is behind the end
pub rest_none : (bytes : List ℕ) (end : ℕ) → end ≡ length bytes → take (length bytes - end) (drop end bytes) ≡ []
rest_none bytes end is = rest_from bytes end ∙ drop_of_length-le bytes (omega (arith, is))
