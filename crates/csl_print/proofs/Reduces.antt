-- What stays true of a token list where minus signs are left out.
use Rattle.std.proofs.Common.{◌≡◌, ◌≤◌, ◌<◌, ◌+◌, ◌^◌, ℕ, ℤ, pos, negsuc, List, [], ◌∷◌, length, refl, sym, subst, arith}
use Rattle.std.specs.List.{AllByRecursion}
use Rattle.csl_tree.specs.declared.token.Token.{Token}
use Rattle.csl_tree.specs.declared.token.TokenKind.{TokenKind}
use Rattle.csl_tree.specs.declared.token.TokenKind.TheVariants as kind
use Rattle.csl_tree.specs.declared.token.Keyword.{Keyword}
use Rattle.csl_tree.specs.declared.token.Mark.TheVariants.{Minus}
use Rattle.csl_lexer.specs.Tokens.{IsLetter, IsNameByte, IsInText, written}
use Rattle.csl_lexer.specs.Laws.{AscendsFrom}
use Rattle.csl_grammar.specs.Stops.{IsEnded}
use Rattle.csl_grammar.specs.Levels.{Nesting, Turn, Opens, Closes, Parts, Rises, Stays, turn_of, closed, between, turned, behind, IsFlatFrom}
use Rattle.csl_print.proofs.Leads.{Reduced, none, keeps, drops}
use Rattle.csl_print.proofs.NormalProgram.{IsWhole, AreWhole}
use Rattle.csl_print.proofs.Moves.{moved_kind, all_moved}

-- ---- tokens as the reader gives them

-- a name: a letter, then letters and digits, at most 64 bytes, and no keyword
pub record IsNameText (bytes : List ℕ) : Type 0 where
  pub first : ℕ
  pub rest : List ℕ
  pub split : bytes ≡ first ∷ rest
  pub letter : IsLetter first
  pub all : AllByRecursion IsNameByte rest
  pub short : length bytes ≤ 64
  pub other : (w : Keyword) → bytes ≡ written w → ⊥

abbrev pub GoodNumber : ℤ → Type 0
GoodNumber (pos n) = n < 2 ^ 63
GoodNumber (negsuc n) = ⊥

-- what the reader gives at a place
abbrev pub GoodKind : ℕ → TokenKind → Type 0
GoodKind at (kind.Word w) = Unit {0}
GoodKind at (kind.Named name) = (name.at ≡ at) × IsNameText name.text
GoodKind at (kind.Number z) = GoodNumber z
GoodKind at (kind.Text name) = (name.at ≡ at) × AllByRecursion IsInText name.text
GoodKind at (kind.Mark m) = Unit {0}
GoodKind at kind.End = Unit {0}

abbrev pub AllGood : List Token → Type 0
AllGood [] = Unit {0}
AllGood (t ∷ ts) = GoodKind t.at t.kind × AllGood ts

good_whole : (at : ℕ) (k : TokenKind) → GoodKind at k → IsWhole k
good_whole at (kind.Word w) h = tt
good_whole at (kind.Named name) h = tt
good_whole at (kind.Number (pos n)) h = tt
good_whole at (kind.Number (negsuc n)) h = h
good_whole at (kind.Text name) h = tt
good_whole at (kind.Mark m) h = tt
good_whole at kind.End h = tt

pub all_whole : (ts : List Token) → AllGood ts → AreWhole ts
all_whole [] h = tt
all_whole (t ∷ ts) h = (good_whole t.at t.kind h.0, all_whole ts h.1)

pub reduced_good : {ts ts' : List Token} → Reduced ts ts' → AllGood ts → AllGood ts'
reduced_good none h = tt
reduced_good (keeps t r) h = (h.0, reduced_good r h.1)
reduced_good (drops sign t {n = n} m k r) h =
    let there : TokenKind → Type 0 = λ x. GoodKind t.at x in
    let here : TokenKind → Type 0 = λ x. GoodKind sign.at x in
    (subst here (sym k) (subst there k h.1.0), reduced_good r h.1.1)

-- ---- the end

pub reduced_ended : {ts ts' : List Token} → Reduced ts ts' → IsEnded ts → IsEnded ts'
reduced_ended none h = h
reduced_ended (keeps t none) h = h
reduced_ended (keeps t (keeps u r)) h = (h.0, reduced_ended (keeps u r) h.1)
reduced_ended (keeps t (drops s u m k r)) h = (h.0, reduced_ended (drops s u m k r) h.1)
reduced_ended (drops s t m k none) h = h.1
reduced_ended (drops s t m k (keeps u r)) h = (h.1.0, reduced_ended (keeps u r) h.1.1)
reduced_ended (drops s t m k (drops s' u m' k' r)) h = (h.1.0, reduced_ended (drops s' u m' k' r) h.1.1)

-- ---- places

ascends_lower : (low high : ℕ) (tokens : List Token) → low ≤ high → AscendsFrom high tokens → AscendsFrom low tokens
ascends_lower low high [] below ascends = tt
ascends_lower low high (t ∷ tokens) below ascends = (omega (arith, below, ascends.0), ascends.1)

pub reduced_ascends : {ts ts' : List Token} → Reduced ts ts' → (place : ℕ) → AscendsFrom place ts → AscendsFrom place ts'
reduced_ascends none place h = tt
reduced_ascends (keeps t r) place h = (h.0, reduced_ascends r (t.at + 1) h.1)
reduced_ascends (drops sign t {ts = ts} m k r) place h =
    (h.0, reduced_ascends r (sign.at + 1) (ascends_lower (sign.at + 1) (t.at + 1) ts (omega (arith, h.1.0)) h.1.1))

-- ---- levels

abbrev AllBelow : List ℕ → List ℕ → Type 0
AllBelow [] [] = Unit {0}
AllBelow [] (y ∷ ys) = ⊥
AllBelow (x ∷ xs) [] = ⊥
AllBelow (x ∷ xs) (y ∷ ys) = (x ≤ y) × AllBelow xs ys

pub record Below (a b : Nesting) : Type 0 where
  pub level : a.level ≤ b.level
  pub opened : AllBelow a.opened b.opened

closed_below : (a b : Nesting) (xs ys : List ℕ) → Below a b → AllBelow xs ys → Below (closed a xs) (closed b ys)
closed_below a b [] [] h all = h
closed_below a b [] (y ∷ ys) h all = absurd all
closed_below a b (x ∷ xs) [] h all = absurd all
closed_below a b (x ∷ xs) (y ∷ ys) h all = record { level = all.0; opened = all.1 }

between_below : (xs ys : List ℕ) → AllBelow xs ys → between xs ≤ between ys
between_below [] [] all = omega arith
between_below [] (y ∷ ys) all = absurd all
between_below (x ∷ xs) [] all = absurd all
between_below (x ∷ xs) (y ∷ ys) all = omega (arith, all.0)

turned_below : (t : Turn) (a b : Nesting) → Below a b → Below (turned t a) (turned t b)
turned_below Opens a b h = record { level = omega (arith, h.level); opened = (h.level, h.opened) }
turned_below Closes a b h = closed_below a b a.opened b.opened h h.opened
turned_below Parts a b h = record { level = between_below a.opened b.opened h.opened; opened = h.opened }
turned_below Rises a b h = record { level = omega (arith, h.level); opened = h.opened }
turned_below Stays a b h = h

-- a sign only makes levels higher
sign_below : (a b : Nesting) (k : TokenKind) → k ≡ kind.Mark Minus → Below a b → Below a (turned (turn_of k) b)
sign_below a b k m h =
    let P : TokenKind → Type 0 = λ x. Below a (turned (turn_of x) b) in
    let higher : P (kind.Mark Minus) = record { level = omega (arith, h.level); opened = h.opened } in
    subst P (sym m) higher

pub reduced_flat : {ts ts' : List Token} → Reduced ts ts' → (a b : Nesting) → Below a b → IsFlatFrom b ts → IsFlatFrom a ts'
reduced_flat none a b h flat = tt
reduced_flat (keeps t r) a b h flat =
    let next : Below (behind t a) (behind t b) = turned_below (turn_of t.kind) a b h in
    (omega (arith, next.level, flat.0), reduced_flat r (behind t a) (behind t b) next flat.1)
reduced_flat (drops sign t m k r) a b h flat =
    let one : Below a (behind sign b) = sign_below a b sign.kind m h in
    let next : Below (behind t a) (behind t (behind sign b)) = turned_below (turn_of t.kind) a (behind sign b) one in
    (omega (arith, next.level, flat.1.0), reduced_flat r (behind t a) (behind t (behind sign b)) next flat.1.1)

turn_moved : (f : ℕ → ℕ) (k : TokenKind) → turn_of k ≡ turn_of (moved_kind f k)
turn_moved f (kind.Word w) = refl
turn_moved f (kind.Named name) = refl
turn_moved f (kind.Number z) = refl
turn_moved f (kind.Text name) = refl
turn_moved f (kind.Mark m) = refl
turn_moved f kind.End = refl

pub flat_moved : (f : ℕ → ℕ) (ts : List Token) (a : Nesting) → IsFlatFrom a ts → IsFlatFrom a (all_moved f ts)
flat_moved f [] a flat = tt
flat_moved f (t ∷ ts) a flat =
    let P : Turn → Type 0 = λ x. ((turned x a).level ≤ 64) × IsFlatFrom (turned x a) (all_moved f ts) in
    subst P (turn_moved f t.kind) (flat.0, flat_moved f ts (behind t a) flat.1)
