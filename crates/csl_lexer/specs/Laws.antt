-- The laws of token lists.
use Rattle.std.specs.Prelude.{◌≡◌, ◌≢◌, ◌≤◌, ◌+◌, ℕ, List, [], ◌∷◌, length, Result}
use Rattle.csl_tree.specs.declared.token.Token.{Token}
use Rattle.csl_tree.specs.declared.token.TokenKind.TheVariants as kind
use Rattle.csl_lexer.specs.declared.LexError.{LexError}
use Rattle.csl_lexer.specs.Tokens.{Reads, IsTokenList}

-- a text has at most one token list or first fault
abbrev pub ReadsOneWay : Type 0
ReadsOneWay = (text : List ℕ) (one two : Result (List Token) LexError) → Reads 0 text one → Reads 0 text two → one ≡ two

-- there is a last token, which is the end at this place, and no other token is the end
abbrev pub EndsAt : ℕ → List Token → Type 0
EndsAt place [] = ⊥
EndsAt place (token ∷ []) = (token.kind ≡ kind.End) × (token.at ≡ place)
EndsAt place (token ∷ next ∷ tokens) = (token.kind ≢ kind.End) × EndsAt place (next ∷ tokens)

-- each token stands at this place or behind it, and behind the token before it
abbrev pub AscendsFrom : ℕ → List Token → Type 0
AscendsFrom place [] = Unit {0}
AscendsFrom place (token ∷ tokens) = (place ≤ token.at) × AscendsFrom (token.at + 1) tokens

-- a token list has the end as its last token alone, at the text's length
abbrev pub ListsEnd : Type 0
ListsEnd = (text : List ℕ) (tokens : List Token) → IsTokenList text tokens → EndsAt (length text) tokens

-- the places of a token list ascend
abbrev pub PlacesAscend : Type 0
PlacesAscend = (text : List ℕ) (tokens : List Token) → IsTokenList text tokens → AscendsFrom 0 tokens
