-- One token, and the tokens behind it.
use Rattle.std.proofs.Common.{◌≡◌, List, [], ◌∷◌, refl, ap, sym, ◌∙◌, subst}
use Rattle.csl_tree.specs.declared.token.Token.{Token}
use Rattle.csl_tree.specs.declared.token.TokenKind.{TokenKind}
use Rattle.csl_tree.specs.declared.token.TokenKind.TheVariants as kind
use Rattle.csl_grammar.specs.Stops.{IsEnded}
use Rattle.expression_parser.specs.Reading.{Found, Refused, IsToken, stops_anywhere}

ended_tail : (first : Token) (rest : List Token) → IsEnded (first ∷ rest) → (first.kind ≡ kind.End → ⊥) → IsEnded rest
ended_tail first [] ended other = other ended
ended_tail first (x ∷ xs) ended other = ended.1

pub ended_behind : (tokens : List Token) (first : Token) (rest : List Token) → IsEnded tokens → tokens ≡ first ∷ rest → (first.kind ≡ kind.End → ⊥) → IsEnded rest
ended_behind tokens first rest ended split other = ended_tail first rest (subst IsEnded split ended) other

-- a token of that kind, anywhere
abbrev pub some_token : TokenKind → Token
some_token k = record { at = 0; kind = k }

pub token_found : (k : TokenKind) (tokens : List Token) (first : Token) (rest : List Token) → IsEnded tokens → tokens ≡ first ∷ rest → first.kind ≡ k → (k ≡ kind.End → ⊥)
    → Found (IsToken k) stops_anywhere tokens rest first
token_found k tokens first rest ended split same other = record {
  read = first ∷ [];
  split = split;
  spelled = λ others. (refl, same);
  stopped = tt;
  ended = ended_behind tokens first rest ended split (λ h. other (sym same ∙ h));
}

pub token_refused : (k : TokenKind) (tokens : List Token) (first : Token) (rest : List Token) → tokens ≡ first ∷ rest → (first.kind ≡ k → ⊥) → Refused (IsToken k) stops_anywhere tokens first.at
token_refused k tokens first rest split other = record {
  read = [];
  token = first;
  left = rest;
  split = split;
  stands = refl;
  none = λ others behind tree d s. let same : first ≡ tree = cc in other (ap (λ (x : Token). x.kind) same ∙ d.1);
  ending = some_token k ∷ [];
  finished = some_token k;
  some = λ others. (refl, refl);
}
