-- The rules of declarations, each as one part and then another.
use Rattle.std.proofs.Common.{◌≡◌, ℕ, zero, suc, arith, ℤ, pos, negsuc, ◌-ℤ◌, true, false, List, [], ◌∷◌, Some, None, Option, refl, ap, sym, ◌∙◌, subst}
use Rattle.std.specs.Prelude.{neg_ℤ}
use Rattle.std.proofs.Math.IntN.{+ℤ_idl}
use mir.Val.{SFits, to_z, of_z}
use mir.Syntax.{w64}
use Rattle.std.proofs.lemmas.Int.{to_z-of_z}
use Rattle.csl_tree.specs.declared.name.Name.{Name}
use Rattle.csl_tree.specs.declared.token.Token.{Token}
use Rattle.csl_tree.specs.declared.token.TokenKind.{TokenKind}
use Rattle.csl_tree.specs.declared.token.TokenKind.TheVariants as kind
use Rattle.csl_tree.specs.declared.token.Keyword.TheVariants as word
use Rattle.csl_tree.specs.declared.token.Mark.TheVariants as mark
use Rattle.csl_tree.specs.declared.program.ArraySize.{ArraySize}
use Rattle.csl_tree.specs.declared.program.Valued.{Valued}
use Rattle.csl_tree.specs.declared.program.Shared.{Shared}
use Rattle.csl_grammar.specs.Stops.{IsEnded}
use Rattle.csl_grammar.specs.Programs.{SpellsValue, plain, minus, unlisted, listed, SpellsShared, scalar, array, tally}
use Rattle.csl_grammar.proofs.UniqueParts.{unique_value, unique_values}
use Rattle.expression_parser.specs.Reading.{Found, Refused, Tok, tok, NameTok, name_tok, SizeTok, size_tok, Ret, ret, Then, seq, this, that, ListUntil}
use Rattle.expression_parser.specs.Reading.{Completes, Parting, behind, number_of, natural_of, if_natural, stops_anywhere}
use Rattle.csl_parser.specs.Chains.{scalar_of, tally_of, array_of, TallyRest, IntRest, AfterName, ArrayRest, AfterSize, ListedRest}
use Rattle.expression_parser.proofs.Sequence.{Passes, passes_same, passes_through, refused_here}
use Rattle.expression_parser.proofs.Single.{some_token, ended_behind, token_found}
use Rattle.expression_parser.proofs.Then.{Follows, completes_ret, completes_tok, completes_name, completes_size, completes_then, completes_this, completes_list, tok_follows, name_follows}
use Rattle.expression_parser.proofs.Then.{size_follows, then_passes, tok_found, passes_this, passes_that, begins_other, no_name}

-- ---- what completes a declaration

ends_so : (s : Shared) → Completes (Then (Tok (kind.Mark mark.Semicolon)) (λ end. Ret s))
ends_so s = completes_then (completes_tok (kind.Mark mark.Semicolon)) (λ end. completes_ret s)

after_size : (name : Name) (size : ArraySize) → Completes (AfterSize name size)
after_size name size = completes_this (ends_so (array_of name size false []))

after_name : (name : Name) → Completes (AfterName name)
after_name name = completes_this (ends_so (scalar_of name))

-- ---- each part, and what follows it

pub end_follows : (s : Shared) → Follows (Tok (kind.Mark mark.Semicolon)) stops_anywhere (λ end. Ret s) stops_anywhere
end_follows s = tok_follows (kind.Mark mark.Semicolon) stops_anywhere (λ end. completes_ret s)

pub tally_name : Follows NameTok stops_anywhere (λ name. Then (Tok (kind.Mark mark.Semicolon)) (λ end. Ret (tally_of name))) stops_anywhere
tally_name = name_follows stops_anywhere (λ name. ends_so (tally_of name))

pub tally_int : Follows (Tok (kind.Word word.Int)) stops_anywhere (λ int. Then NameTok (λ name. Then (Tok (kind.Mark mark.Semicolon)) (λ end. Ret (tally_of name)))) stops_anywhere
tally_int = tok_follows (kind.Word word.Int) stops_anywhere (λ int. completes_then completes_name (λ name. ends_so (tally_of name)))

pub int_name : Follows NameTok stops_anywhere AfterName stops_anywhere
int_name = name_follows stops_anywhere after_name

pub bracket_follows : (name : Name) → Follows (Tok (kind.Mark mark.OpenBracket)) stops_anywhere (λ opening. ArrayRest name) stops_anywhere
bracket_follows name = tok_follows (kind.Mark mark.OpenBracket) stops_anywhere (λ opening. completes_then completes_size
    (λ size. completes_then (completes_tok (kind.Mark mark.CloseBracket)) (λ closing. after_size name size)))

pub array_size : (name : Name) → Follows SizeTok stops_anywhere (λ size. Then (Tok (kind.Mark mark.CloseBracket)) (λ closing. AfterSize name size)) stops_anywhere
array_size name = size_follows stops_anywhere (λ size. completes_then (completes_tok (kind.Mark mark.CloseBracket)) (λ closing. after_size name size))

pub array_closing : (name : Name) (size : ArraySize) → Follows (Tok (kind.Mark mark.CloseBracket)) stops_anywhere (λ closing. AfterSize name size) stops_anywhere
array_closing name size = tok_follows (kind.Mark mark.CloseBracket) stops_anywhere (λ closing. after_size name size)

-- ---- behind a name, and behind a size

pub bracket_next : (name : Name) (tokens : List Token) (first : Token) (rest : List Token) → IsEnded tokens → tokens ≡ first ∷ rest → first.kind ≡ kind.Mark mark.OpenBracket
    → Passes (ArrayRest name) (AfterName name) stops_anywhere rest tokens
bracket_next name tokens first rest ended split same =
    passes_through (then_passes (bracket_follows name) tokens rest first (tok_found (token_found (kind.Mark mark.OpenBracket) tokens first rest ended split same (λ h. cc))))
    (passes_that (kind.Mark mark.Semicolon) (λ end. Ret (scalar_of name)) (Then (Tok (kind.Mark mark.OpenBracket)) (λ opening. ArrayRest name)) stops_anywhere tokens
    (begins_other (kind.Mark mark.Semicolon) tokens first rest split (λ h. cc)))

pub scalar_next : (name : Name) (tokens : List Token) (first : Token) (rest : List Token) → tokens ≡ first ∷ rest → (first.kind ≡ kind.Mark mark.OpenBracket → ⊥)
    → Passes (Then (Tok (kind.Mark mark.Semicolon)) (λ end. Ret (scalar_of name))) (AfterName name) stops_anywhere tokens tokens
scalar_next name tokens first rest split other =
    passes_this (Then (Tok (kind.Mark mark.Semicolon)) (λ end. Ret (scalar_of name))) (kind.Mark mark.OpenBracket) (λ opening. ArrayRest name) stops_anywhere tokens
    (begins_other (kind.Mark mark.OpenBracket) tokens first rest split other)

listed_completes : (name : Name) (size : ArraySize) → Completes (ListedRest name size)
listed_completes name size =
    completes_then (completes_tok (kind.Mark mark.OpenBrace)) (λ opening. completes_then (completes_list (kind.Mark mark.CloseBrace) SpellsValue stops_anywhere)
    (λ values. ends_so (array_of name size true values)))

pub equals_next : (name : Name) (size : ArraySize) (tokens : List Token) (first : Token) (rest : List Token) → IsEnded tokens → tokens ≡ first ∷ rest → first.kind ≡ kind.Mark mark.Assign
    → Passes (ListedRest name size) (AfterSize name size) stops_anywhere rest tokens
equals_next name size tokens first rest ended split same =
    passes_through (then_passes (tok_follows (kind.Mark mark.Assign) {second = λ equals. ListedRest name size} stops_anywhere (λ equals. listed_completes name size)) tokens rest first
    (tok_found (token_found (kind.Mark mark.Assign) tokens first rest ended split same (λ h. cc))))
    (passes_that (kind.Mark mark.Semicolon) (λ end. Ret (array_of name size false [])) (Then (Tok (kind.Mark mark.Assign)) (λ equals. ListedRest name size)) stops_anywhere tokens
    (begins_other (kind.Mark mark.Semicolon) tokens first rest split (λ h. cc)))

pub unlisted_next : (name : Name) (size : ArraySize) (tokens : List Token) (first : Token) (rest : List Token) → tokens ≡ first ∷ rest → (first.kind ≡ kind.Mark mark.Assign → ⊥)
    → Passes (Then (Tok (kind.Mark mark.Semicolon)) (λ end. Ret (array_of name size false []))) (AfterSize name size) stops_anywhere tokens tokens
unlisted_next name size tokens first rest split other =
    passes_this (Then (Tok (kind.Mark mark.Semicolon)) (λ end. Ret (array_of name size false []))) (kind.Mark mark.Assign) (λ equals. ListedRest name size) stops_anywhere tokens
    (begins_other (kind.Mark mark.Assign) tokens first rest split other)

pub listed_opening : (name : Name) (size : ArraySize) → Follows (Tok (kind.Mark mark.OpenBrace)) stops_anywhere
    (λ opening. Then (ListUntil (kind.Mark mark.CloseBrace) SpellsValue) (λ values. Then (Tok (kind.Mark mark.Semicolon)) (λ end. Ret (array_of name size true values)))) stops_anywhere
listed_opening name size = tok_follows (kind.Mark mark.OpenBrace) stops_anywhere (λ opening. completes_then (completes_list (kind.Mark mark.CloseBrace) SpellsValue stops_anywhere)
    (λ values. ends_so (array_of name size true values)))

-- values up to the brace have one end
values_once : {tokens middle middle' : List Token} {vs vs' : List Valued} → ListUntil (kind.Mark mark.CloseBrace) SpellsValue tokens middle vs
    → ListUntil (kind.Mark mark.CloseBrace) SpellsValue tokens middle' vs' → (middle ≡ middle') × (vs ≡ vs')
values_once d d' = let both : _ × _ = unique_values d.1 d'.1 refl refl refl d.2 d'.2 in ((cc both.0), both.1)

pub listed_values : (name : Name) (size : ArraySize) → Follows (ListUntil (kind.Mark mark.CloseBrace) SpellsValue) stops_anywhere
    (λ values. Then (Tok (kind.Mark mark.Semicolon)) (λ end. Ret (array_of name size true values))) stops_anywhere
listed_values name size = record {
  unique = λ tokens middle middle' vs vs' d d' s s'. values_once d d';
  same_first = λ token xs ys s. tt;
  ahead = λ middle rest part tree d s. tt;
  completes = λ values. ends_so (array_of name size true values);
}

-- ---- the whole declarations

int_there : {first : Token} {ts r : List Token} {s : Shared} → first.kind ≡ kind.Word word.Int → IntRest ts r s → SpellsShared (first ∷ ts) r s
int_there w (seq (name_tok n) (this (seq (tok c) ret))) = scalar w n c
int_there w (seq (name_tok n) (that (seq (tok o) (seq (size_tok k) (seq (tok c) (this (seq (tok e) ret))))))) = array w n o k c unlisted e
int_there w (seq (name_tok n) (that (seq (tok o) (seq (size_tok k) (seq (tok c) (that (seq (tok q) (seq (tok b) (seq (closing, d, z) (seq (tok e) ret)))))))))) = array w n o k c (listed q b d z) e

int_back : {first : Token} {all ts r : List Token} {s : Shared} → SpellsShared all r s → all ≡ first ∷ ts → first.kind ≡ kind.Word word.Int → IntRest ts r s
int_back {ts = ts} {r = r} (scalar {token = t} {semicolon = q} {rest = z} {name = name} w n l) e k =
    let to : List Token → Type 0 = λ x. IntRest x r (scalar_of name) in
    let same : t ∷ q ∷ z ≡ ts = cc in
    subst to same (seq (name_tok n) (this (seq (tok l) ret)))
int_back {ts = ts} {r = r} (array {token = t} {opening = p} {number = m} {closing = q} {semicolon = y} {name = name} {n = size} w n o k c unlisted l) e h =
    let to : List Token → Type 0 = λ x. IntRest x r (array_of name (record { at = m.at; number = size }) false []) in
    let same : t ∷ p ∷ m ∷ q ∷ y ∷ r ≡ ts = cc in
    subst to same (seq (name_tok n) (that (seq (tok o) (seq (size_tok k) (seq (tok c) (this (seq (tok l) ret)))))))
int_back {ts = ts} {r = r} (array {token = t} {opening = p} {number = m} {closing = q} {tokens = w'} {name = name} {n = size} w n o k c
    (listed {equals = a'} {opening = b'} {closing = c'} {tokens = d'} {vs = vs} a b d z) l) e h =
    let to : List Token → Type 0 = λ x. IntRest x r (array_of name (record { at = m.at; number = size }) true vs) in
    let same : t ∷ p ∷ m ∷ q ∷ a' ∷ b' ∷ d' ≡ ts = cc in
    subst to same (seq (name_tok n) (that (seq (tok o) (seq (size_tok k) (seq (tok c) (that (seq (tok a) (seq (tok b) (seq (c', d, z) (seq (tok l) ret))))))))))
int_back (tally w i n l) e k = absurd (cc)

pub int_same : (first : Token) (tokens : List Token) → first.kind ≡ kind.Word word.Int → Passes IntRest (behind first SpellsShared) stops_anywhere tokens tokens
int_same first tokens k = passes_same IntRest (behind first SpellsShared) stops_anywhere tokens (record { there = λ ts r s d. int_there k d; back = λ ts r s d h. int_back d refl k })

tally_there : {first : Token} {ts r : List Token} {s : Shared} → first.kind ≡ kind.Word word.Tally → TallyRest ts r s → SpellsShared (first ∷ ts) r s
tally_there w (seq (tok i) (seq (name_tok n) (seq (tok c) ret))) = tally w i n c

tally_back : {first : Token} {all ts r : List Token} {s : Shared} → SpellsShared all r s → all ≡ first ∷ ts → first.kind ≡ kind.Word word.Tally → TallyRest ts r s
tally_back (scalar w n l) e k = absurd (cc)
tally_back (array w n o k c d l) e h = absurd (cc)
tally_back {ts = ts} {r = r} (tally {int = i'} {token = t} {semicolon = q} {name = name} w i n l) e k =
    let to : List Token → Type 0 = λ x. TallyRest x r (tally_of name) in
    let same : i' ∷ t ∷ q ∷ r ≡ ts = cc in
    subst to same (seq (tok i) (seq (name_tok n) (seq (tok l) ret)))

pub tally_same : (first : Token) (tokens : List Token) → first.kind ≡ kind.Word word.Tally → Passes TallyRest (behind first SpellsShared) stops_anywhere tokens tokens
tally_same first tokens k = passes_same TallyRest (behind first SpellsShared) stops_anywhere tokens (record { there = λ ts r s d. tally_there k d; back = λ ts r s d h. tally_back d refl k })

no_shared_here : {first : Token} {all ts r : List Token} {s : Shared} → SpellsShared all r s → all ≡ first ∷ ts → (first.kind ≡ kind.Word word.Int → ⊥) → (first.kind ≡ kind.Word word.Tally → ⊥) → ⊥
no_shared_here (scalar w n l) e i t = i (cc)
no_shared_here (array w n o k c d l) e i t = i (cc)
no_shared_here (tally w j n l) e i t = t (cc)

pub some_shared : Completes SpellsShared
some_shared = record {
  ending = some_token (kind.Word word.Int) ∷ some_token (kind.Named no_name) ∷ some_token (kind.Mark mark.Semicolon) ∷ [];
  finished = scalar_of no_name;
  some = λ others. scalar refl refl refl;
}

pub shared_refused : (tokens : List Token) (first : Token) (rest : List Token) → tokens ≡ first ∷ rest → (first.kind ≡ kind.Word word.Int → ⊥) → (first.kind ≡ kind.Word word.Tally → ⊥)
    → Refused SpellsShared stops_anywhere tokens first.at
shared_refused tokens first rest split i t =
    let at : List Token → Type 0 = λ x. Refused SpellsShared stops_anywhere x first.at in
    subst at (sym split) (refused_here SpellsShared stops_anywhere first rest (λ others r s d h. no_shared_here d refl i t) some_shared.ending some_shared.finished some_shared.some)

-- ---- values

some_value : Completes SpellsValue
some_value = record {
  ending = some_token (kind.Number (pos 0)) ∷ [];
  finished = record { at = 0; number = pos 0 };
  some = λ others. plain refl;
}

number_is : (k : TokenKind) (n : ℤ) → number_of k ≡ Some n → k ≡ kind.Number n
number_is (kind.Word w) n e = cc
number_is (kind.Named x) n e = cc
number_is (kind.Number m) n e = cc
number_is (kind.Text t) n e = cc
number_is (kind.Mark m) n e = cc
number_is kind.End n e = cc

pub value_found : (tokens : List Token) (first : Token) (rest : List Token) (n : ℤ) → IsEnded tokens → tokens ≡ first ∷ rest → number_of first.kind ≡ Some n
    → Found SpellsValue stops_anywhere tokens rest (record { at = first.at; number = n })
value_found tokens first rest n ended split is = let same : first.kind ≡ kind.Number n = number_is first.kind n is in record {
  read = first ∷ [];
  split = split;
  spelled = λ others. plain same;
  stopped = tt;
  ended = ended_behind tokens first rest ended split (λ h. cc);
}

no_value_here : {first : Token} {all ts r : List Token} {v : Valued} → SpellsValue all r v → all ≡ first ∷ ts → (first.kind ≡ kind.Mark mark.Minus → ⊥) → number_of first.kind ≡ None → ⊥
no_value_here (plain {n = n} k) e m none = let at : number_of (kind.Number n) ≡ None = cc in cc
no_value_here (minus s k) e m none = m (cc)

pub value_refused : (tokens : List Token) (first : Token) (rest : List Token) → tokens ≡ first ∷ rest → (first.kind ≡ kind.Mark mark.Minus → ⊥) → number_of first.kind ≡ None
    → Refused SpellsValue stops_anywhere tokens first.at
value_refused tokens first rest split m none =
    let at : List Token → Type 0 = λ x. Refused SpellsValue stops_anywhere x first.at in
    subst at (sym split) (refused_here SpellsValue stops_anywhere first rest (λ others r v d h. no_value_here d refl m none) some_value.ending some_value.finished some_value.some)

-- what a natural number of a token says of it
natural_is : (o : Option ℤ) (n : ℤ) → if_natural o ≡ Some n → (m : ℕ) × (o ≡ Some (pos m)) × (n ≡ pos m)
natural_is None n e = absurd (cc)
natural_is (Some (pos m)) n e = (m, refl, cc)
natural_is (Some (negsuc m)) n e = absurd (cc)

minus_natural : (m : ℕ) → SFits w64 (pos m) → SFits w64 (neg_ℤ (pos m))
minus_natural zero fits = fits
minus_natural (suc m) fits = grind (arith, fits)

-- a natural number of 64 bits has its negative there
pub negated : (n : ℤ) (k : TokenKind) → natural_of k ≡ Some n → SFits w64 n → to_z w64 (of_z w64 (pos 0 -ℤ n)) ≡ neg_ℤ n
negated n k found fits =
    let h : _ × _ × _ = natural_is (number_of k) n found in
    let fits_at : ℤ → Type 0 = λ x. SFits w64 x in
    let at : ℤ → Type 0 = λ x. to_z w64 (of_z w64 (pos 0 -ℤ x)) ≡ neg_ℤ x in
    subst at (sym h.2) (ap (λ x. to_z w64 (of_z w64 x)) (+ℤ_idl (neg_ℤ (pos h.0))) ∙ to_z-of_z w64 (neg_ℤ (pos h.0)) (minus_natural h.0 (subst fits_at h.2 fits)))

pub negative_found : (sign : Token) (tokens : List Token) (first : Token) (rest : List Token) (n : ℤ) → sign.kind ≡ kind.Mark mark.Minus → IsEnded tokens → tokens ≡ first ∷ rest
    → natural_of first.kind ≡ Some n → Found (behind sign SpellsValue) stops_anywhere tokens rest (record { at = sign.at; number = neg_ℤ n })
negative_found sign tokens first rest n s ended split is =
    let h : _ × _ × _ = natural_is (number_of first.kind) n is in
    let same : first.kind ≡ kind.Number (pos h.0) = number_is first.kind (pos h.0) h.1 in
    let at : ℤ → Type 0 = λ x. Found (behind sign SpellsValue) stops_anywhere tokens rest (record { at = sign.at; number = neg_ℤ x }) in
    subst at (sym h.2) (record {
      read = first ∷ [];
      split = split;
      spelled = λ others. minus s same;
      stopped = tt;
      ended = ended_behind tokens first rest ended split (λ e. cc);
    })

no_negative_here : {sign first : Token} {all ts r : List Token} {v : Valued} → SpellsValue all r v → all ≡ sign ∷ first ∷ ts → sign.kind ≡ kind.Mark mark.Minus → natural_of first.kind ≡ None → ⊥
no_negative_here (plain {n = n} k) e m none = cc
no_negative_here (minus {n = n} s k) e m none = let at : natural_of (kind.Number (pos n)) ≡ None = cc in cc

pub negative_refused : (sign : Token) (tokens : List Token) (first : Token) (rest : List Token) → sign.kind ≡ kind.Mark mark.Minus → tokens ≡ first ∷ rest → natural_of first.kind ≡ None
    → Refused (behind sign SpellsValue) stops_anywhere tokens first.at
negative_refused sign tokens first rest s split none =
    let at : List Token → Type 0 = λ x. Refused (behind sign SpellsValue) stops_anywhere x first.at in
    subst at (sym split) (refused_here (behind sign SpellsValue) stops_anywhere first rest (λ others r v d h. no_negative_here d refl s none)
    (some_token (kind.Number (pos 0)) ∷ []) (record { at = sign.at; number = neg_ℤ (pos 0) }) (λ others. minus s refl))

pub values_parted : Parting (kind.Mark mark.CloseBrace) SpellsValue stops_anywhere
values_parted = record {
  unique = λ tokens middle middle' x x' d d' s s'. unique_value d d' refl;
  same_first = λ _ _ _ _. tt;
  at_end = λ _ _ _. tt;
  at_comma = λ _ _ _. tt;
  no_comma = λ h. cc;
  no_end = λ h. cc;
  sample = some_value;
}
