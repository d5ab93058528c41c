-- A text is read in one way.
use Rattle.std.proofs.Common.{◌≡◌, ◌≤◌, ◌<◌, ◌⊎◌, inl, inr, ℕ, List, [], ◌∷◌, ◌++◌, Result, Ok, Err, Option, Some, None, refl, sym, ap, ◌∙◌, subst, append_assoc, append-nil, arith}
use Rattle.csl_tree.specs.declared.token.Token.{Token}
use Rattle.csl_tree.specs.declared.program.Program.{Program}
use Rattle.csl_lexer.specs.declared.LexError.{LexError}
use Rattle.csl_lexer.specs.declared.LexError.TheVariants as token
use Rattle.csl_lexer.specs.Tokens.{IsTokenList, IsFirstFault}
use Rattle.csl_lexer.proofs.OneWay.{reads_one_way}
use Rattle.csl_grammar.specs.Levels.{Nesting, behind, behind_all, outermost, most_levels, IsFlatFrom, IsFlat, IsTooDeep}
use Rattle.csl_grammar.specs.Programs.{SpellsProgram}
use Rattle.csl_grammar.specs.Spelling.{CanGoOn, IsUnexpected}
use Rattle.csl_grammar.specs.Texts.{Spells}
use Rattle.csl_grammar.proofs.UniqueProgram.{unique_program}
use Rattle.type_check.specs.declared.fault.Fault.{Fault}
use Rattle.type_check.specs.Listed.{first}
use Rattle.type_check.specs.Faults.{fault_list, first_fault, IsAccepted}
use Rattle.csl_reader.specs.declared.refusal.Refusal.{Refusal}
use Rattle.csl_reader.specs.declared.refusal.Refusal.TheVariants.{TooDeep, Unexpected}
use Rattle.csl_reader.specs.Readings.{Reading, accepted, refused, refused_token, judged, AreRead, too_deep, unexpected, spelled, IsRead, by_fault, by_tokens}
use Rattle.csl_reader.specs.Laws.{ReadOneWay, AcceptedAreSpelled}

-- one list comes behind the front and the token of another
abbrev Beyond : List Token → Token → List Token → Type 0
Beyond front token list = (more : List Token) × (list ≡ front ++ token ∷ more)

-- where a list is split twice, at the same token or one before the other
split_twice : (front : List Token) (x : Token) (rest other : List Token) (y : Token) (left : List Token) → front ++ x ∷ rest ≡ other ++ y ∷ left
    → (x.at ≡ y.at) ⊎ (Beyond front x other ⊎ Beyond other y front)
split_twice [] x rest [] y left e = inl (cc)
split_twice [] x rest (b ∷ other) y left e = inr (inl (other, cc))
split_twice (a ∷ front) x rest [] y left e = inr (inr (front, cc))
split_twice (a ∷ front) x rest (b ∷ other) y left e = by (split_twice front x rest other y left (cc)) where
  by : (x.at ≡ y.at) ⊎ (Beyond front x other ⊎ Beyond other y front) → (x.at ≡ y.at) ⊎ (Beyond (a ∷ front) x (b ∷ other) ⊎ Beyond (b ∷ other) y (a ∷ front))
  by (inl same) = inl same
  by (inr (inl (more, is))) = inr (inl (more, cc))
  by (inr (inr (more, is))) = inr (inr (more, cc))

-- the level of a token in a flat list
level_in : (front : List Token) (x : Token) (rest : List Token) (nesting : Nesting) → IsFlatFrom nesting (front ++ x ∷ rest) → (behind x (behind_all front nesting)).level ≤ most_levels
level_in [] x rest nesting flat = flat.0
level_in (a ∷ front) x rest nesting flat = level_in front x rest (behind a nesting) flat.1

flat_or_deep : (tokens : List Token) (at : ℕ) → IsTooDeep tokens at → IsFlat tokens → ⊥
flat_or_deep tokens at deep flat = omega (arith, level_in deep.before deep.token deep.after outermost (subst IsFlat deep.split flat), deep.deep)

-- a token that is too deep does not stand in a flat front
not_before : (tokens : List Token) (at : ℕ) (deep : IsTooDeep tokens at) (front : List Token) → IsFlat front → Beyond deep.before deep.token front → ⊥
not_before tokens at deep front flat (more, is) = omega (arith, level_in deep.before deep.token more outermost (subst IsFlat is flat), deep.deep)

one_deep : (tokens : List Token) (one two : ℕ) → IsTooDeep tokens one → IsTooDeep tokens two → one ≡ two
one_deep tokens one two d e = by (split_twice d.before d.token d.after e.before e.token e.after (sym d.split ∙ e.split)) where
  by : (d.token.at ≡ e.token.at) ⊎ (Beyond d.before d.token e.before ⊎ Beyond e.before e.token d.before) → one ≡ two
  by (inl same) = sym d.stands ∙ same ∙ e.stands
  by (inr (inl beyond)) = absurd (not_before tokens one d e.before e.flat beyond)
  by (inr (inr beyond)) = absurd (not_before tokens two e d.before d.flat beyond)

-- a front of tokens that can go on can go on
front_goes_on : (front more : List Token) → CanGoOn (front ++ more) → CanGoOn front
front_goes_on front more (rest, p, spells) = (more ++ rest, p, subst (λ tokens. SpellsProgram tokens p) (append_assoc front more rest) spells)

not_so_far : (tokens : List Token) (at : ℕ) (u : IsUnexpected tokens at) (front : List Token) → CanGoOn front → Beyond u.before u.token front → ⊥
not_so_far tokens at u front goes (more, is) = u.no_more (front_goes_on (u.before ++ u.token ∷ []) more (subst CanGoOn (is ∙ sym (append_assoc u.before (u.token ∷ []) more)) goes))

one_unexpected : (tokens : List Token) (one two : ℕ) → IsUnexpected tokens one → IsUnexpected tokens two → one ≡ two
one_unexpected tokens one two d e = by (split_twice d.before d.token d.after e.before e.token e.after (sym d.split ∙ e.split)) where
  by : (d.token.at ≡ e.token.at) ⊎ (Beyond d.before d.token e.before ⊎ Beyond e.before e.token d.before) → one ≡ two
  by (inl same) = sym d.stands ∙ same ∙ e.stands
  by (inr (inl beyond)) = absurd (not_so_far tokens one d e.before e.so_far beyond)
  by (inr (inr beyond)) = absurd (not_so_far tokens two e d.before d.so_far beyond)

spelled_or_unexpected : (tokens : List Token) (at : ℕ) (p : Program) → IsUnexpected tokens at → SpellsProgram tokens p → ⊥
spelled_or_unexpected tokens at p u spells =
    u.no_more (front_goes_on (u.before ++ u.token ∷ []) u.after ([], p, subst (λ x. SpellsProgram x p) (u.split ∙ whole) spells)) where
      whole : u.before ++ u.token ∷ u.after ≡ ((u.before ++ u.token ∷ []) ++ u.after) ++ []
      whole = sym (append_assoc u.before (u.token ∷ []) u.after) ∙ sym (append-nil ((u.before ++ u.token ∷ []) ++ u.after))

one_of_tokens : (tokens : List Token) {one two : Reading} → AreRead tokens one → AreRead tokens two → one ≡ two
one_of_tokens tokens (too_deep at d) (too_deep other e) = ap (λ n. refused n TooDeep) (one_deep tokens at other d e)
one_of_tokens tokens (too_deep at d) (unexpected other flat u) = absurd (flat_or_deep tokens at d flat)
one_of_tokens tokens (too_deep at d) (spelled p flat s) = absurd (flat_or_deep tokens at d flat)
one_of_tokens tokens (unexpected at flat u) (too_deep other d) = absurd (flat_or_deep tokens other d flat)
one_of_tokens tokens (unexpected at flat u) (unexpected other also v) = ap (λ n. refused n Unexpected) (one_unexpected tokens at other u v)
one_of_tokens tokens (unexpected at flat u) (spelled p also s) = absurd (spelled_or_unexpected tokens at p u s)
one_of_tokens tokens (spelled p flat s) (too_deep other d) = absurd (flat_or_deep tokens other d flat)
one_of_tokens tokens (spelled p flat s) (unexpected other also u) = absurd (spelled_or_unexpected tokens other p u s)
one_of_tokens tokens (spelled p flat s) (spelled q also t) = ap (λ r. judged r (first_fault r)) (unique_program s t refl)

same_fault : (one two : LexError) (a b : Result (List Token) LexError) → a ≡ b → a ≡ Err one → b ≡ Err two → one ≡ two
same_fault one two a b e is also = cc

same_tokens : (one two : List Token) (a b : Result (List Token) LexError) → a ≡ b → a ≡ Ok one → b ≡ Ok two → one ≡ two
same_tokens one two a b e is also = cc

no_fault : (tokens : List Token) (fault : LexError) (a b : Result (List Token) LexError) → a ≡ b → a ≡ Ok tokens → b ≡ Err fault → ⊥
no_fault tokens fault a b e is also = cc

same_refusal : (one two : Reading) (o : Option Reading) → o ≡ Some one → o ≡ Some two → one ≡ two
same_refusal one two o e f = cc

one_way : (text : List ℕ) {one two : Reading} → IsRead text one → IsRead text two → one ≡ two
one_way text {one = one} {two = two} (by_fault fault is e) (by_fault other also f) =
    same_refusal one two (refused_token fault) e
    (subst (λ x. refused_token x ≡ Some two) (sym (same_fault fault other (Err fault) (Err other) (reads_one_way text (Err fault) (Err other) is also) refl refl)) f)
one_way text (by_fault fault is e) (by_tokens tokens also r) = absurd (no_fault tokens fault (Ok tokens) (Err fault) (reads_one_way text (Ok tokens) (Err fault) also is) refl refl)
one_way text (by_tokens tokens is r) (by_fault fault also e) = absurd (no_fault tokens fault (Ok tokens) (Err fault) (reads_one_way text (Ok tokens) (Err fault) is also) refl refl)
one_way text {two = two} (by_tokens tokens is r) (by_tokens others also s) =
    one_of_tokens tokens r
    (subst (λ ts. AreRead ts two) (sym (same_tokens tokens others (Ok tokens) (Ok others) (reads_one_way text (Ok tokens) (Ok others) is also) refl refl)) s)

pub read_one_way : ReadOneWay
read_one_way text one two is also = one_way text is also

-- a list without a first entry is empty
none_first : (faults : List Fault) → first faults ≡ None → faults ≡ []
none_first [] e = refl
none_first (x ∷ rest) e = absurd (cc)

judged_accepted : (q p : Program) (o : Option Fault) → judged q o ≡ accepted p → (o ≡ None) × (q ≡ p)
judged_accepted q p None e = (refl, cc)
judged_accepted q p (Some fault) e = absurd (cc)

-- what tokens that are read as an accepted program are
record Accepts (tokens : List Token) (p : Program) : Type 0 where
  flat : IsFlat tokens
  spells : SpellsProgram tokens p
  faultless : IsAccepted p

accepts : (tokens : List Token) (q p : Program) → IsFlat tokens → SpellsProgram tokens q → judged q (first_fault q) ≡ accepted p → Accepts tokens p
accepts tokens q p flat s e =
    let both : (first_fault q ≡ None) × (q ≡ p) = judged_accepted q p (first_fault q) e in
    subst (Accepts tokens) both.1 (record { flat = flat; spells = s; faultless = none_first (fault_list q) both.0 })

never : (at : ℕ) (why : Refusal) (p : Program) → refused at why ≡ accepted p → ⊥
never at why p e = cc

tokens_accept : (tokens : List Token) {reading : Reading} (p : Program) → AreRead tokens reading → reading ≡ accepted p → Accepts tokens p
tokens_accept tokens p (too_deep at d) e = absurd (never at TooDeep p e)
tokens_accept tokens p (unexpected at flat u) e = absurd (never at Unexpected p e)
tokens_accept tokens p (spelled q flat s) e = accepts tokens q p flat s e

never_accepted : (fault : LexError) (p : Program) → refused_token fault ≡ Some (accepted p) → ⊥
never_accepted (token.BadByte at) p e = cc
never_accepted (token.LongName at) p e = cc
never_accepted (token.LongNumber at) p e = cc
never_accepted (token.OpenComment at) p e = cc
never_accepted (token.OpenText at) p e = cc
never_accepted token.NoMemory p e = cc

spells_accepted : (text : List ℕ) (p : Program) (tokens : List Token) → IsTokenList text tokens → Accepts tokens p → Spells text p × IsAccepted p
spells_accepted text p tokens is a = (record { tokens = tokens; read = is; flat = a.flat; spelled = a.spells }, a.faultless)

read_accepted : (text : List ℕ) {reading : Reading} (p : Program) → IsRead text reading → reading ≡ accepted p → Spells text p × IsAccepted p
read_accepted text p (by_fault fault is e) same = absurd (never_accepted fault p (e ∙ ap (λ r. Some r) same))
read_accepted text p (by_tokens tokens is r) same = spells_accepted text p tokens is (tokens_accept tokens p r same)

-- an accepted program is read from its text
pub accepted_read : (text : List ℕ) (p : Program) → Spells text p → IsAccepted p → IsRead text (accepted p)
accepted_read text p s a = by_tokens s.tokens s.read (subst (AreRead s.tokens) (ap (judged p) (ap first a)) (spelled p s.flat s.spelled))

pub accepted_are_spelled : AcceptedAreSpelled
accepted_are_spelled text p = (λ is. read_accepted text p is refl, λ both. accepted_read text p both.0 both.1)
