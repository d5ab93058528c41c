-- What a reader of the grammar answers: the tree at the front of the tokens, or the first token that no continuation allows.
use Rattle.std.specs.Prelude.{◌≡◌, ◌≢◌, ℕ, ℤ, pos, negsuc, Bool, true, false, List, ◌∷◌, ◌++◌, Option, Some, None, Result, Ok, Err}
use Rattle.csl_tree.specs.declared.token.Token.{Token}
use Rattle.csl_tree.specs.declared.token.TokenKind.{TokenKind}
use Rattle.csl_tree.specs.declared.token.TokenKind.TheVariants as kind
use Rattle.csl_tree.specs.declared.token.Keyword.{Keyword}
use Rattle.csl_tree.specs.declared.token.Keyword.TheVariants as word
use Rattle.csl_tree.specs.declared.token.Mark.{Mark}
use Rattle.csl_tree.specs.declared.token.Mark.TheVariants as mark
use Rattle.csl_tree.specs.declared.program.UnaryOp.{UnaryOp}
use Rattle.csl_tree.specs.declared.program.UnaryOp.TheVariants as unary_op
use Rattle.expression_parser.specs.declared.ParseError.{ParseError}
use Rattle.expression_parser.specs.declared.ParseError.TheVariants as error
use Rattle.csl_tree.specs.declared.program.Expr.{Expr}
use Rattle.csl_grammar.specs.Stops.{IsEnded}
use Rattle.csl_tree.specs.declared.name.Name.{Name}
use Rattle.csl_tree.specs.declared.program.ArraySize.{ArraySize}
use Rattle.csl_grammar.specs.Programs.{Each, MoreOf, ListOf}
use Rattle.csl_grammar.specs.Expressions.{SpellsArguments}

-- The tree stands at the front of the tokens, whatever follows it, and cannot go on with what does.
pub record Found {T : Type 0} (spells : List Token → List Token → T → Type 0) (stops : List Token → Type 0) (tokens rest : List Token)
    (tree : T) : Type 0 where
  pub read : List Token
  pub split : tokens ≡ read ++ rest
  pub spelled : (others : List Token) → spells (read ++ others) others tree
  pub stopped : stops rest
  pub ended : IsEnded rest

-- The token at that place is the first that no tree allows: with the tokens before it some tree can be
-- finished, and no list that begins with these and it has a tree at its front.
pub record Refused {T : Type 0} (spells : List Token → List Token → T → Type 0) (stops : List Token → Type 0) (tokens : List Token)
    (at : ℕ) : Type 0 where
  pub read : List Token
  pub token : Token
  pub left : List Token
  pub split : tokens ≡ read ++ token ∷ left
  pub stands : token.at ≡ at
  pub none : (others rest : List Token) (tree : T) → spells (read ++ token ∷ others) rest tree → stops rest → ⊥
  pub ending : List Token
  pub finished : T
  pub some : (others : List Token) → spells (read ++ (ending ++ others)) others finished

-- What a reader's fault says: which token it is, or nothing where memory ran out.
abbrev pub Fails : {T : Type 0} → (List Token → List Token → T → Type 0) → (List Token → Type 0) → List Token → ParseError → Type 0
Fails spells stops tokens error.NoMemory = Unit {0}
Fails spells stops tokens (error.TooDeep at) = ⊥
Fails spells stops tokens (error.Unexpected at) = Refused spells stops tokens at

-- What a reader of a rule returned, seen as a tree and the tokens behind it.
abbrev pub Answers : {X T : Type 0} → (List Token → List Token → T → Type 0) → (List Token → Type 0) → List Token → (X → T × List Token)
    → Result X ParseError → Type 0
Answers spells stops tokens view (Ok x) = Found spells stops tokens (view x).1 (view x).0
Answers spells stops tokens view (Err e) = Fails spells stops tokens e

-- the operator before an operand that a mark is
abbrev pub prefix_of : Mark → Option UnaryOp
prefix_of mark.Minus = Some unary_op.Neg
prefix_of mark.Bang = Some unary_op.Not
prefix_of _ = None

-- what a token's mark is, if it is a mark
abbrev pub at_mark : {A : Type 0} → (Mark → Option A) → TokenKind → Option A
at_mark f (kind.Word w) = None
at_mark f (kind.Named n) = None
at_mark f (kind.Number n) = None
at_mark f (kind.Text t) = None
at_mark f (kind.Mark m) = f m
at_mark f kind.End = None

-- the number that a token is
abbrev pub number_of : TokenKind → Option ℤ
number_of (kind.Word w) = None
number_of (kind.Named n) = None
number_of (kind.Number n) = Some n
number_of (kind.Text t) = None
number_of (kind.Mark m) = None
number_of kind.End = None

-- the number, unless it is negative
abbrev pub if_natural : Option ℤ → Option ℤ
if_natural None = None
if_natural (Some (pos n)) = Some (pos n)
if_natural (Some (negsuc n)) = None

-- the number that a token is, unless it is negative
abbrev pub natural_of : TokenKind → Option ℤ
natural_of k = if_natural (number_of k)

-- the truth value that a word is
abbrev pub truth_of_word : Keyword → Option Bool
truth_of_word word.True = Some true
truth_of_word word.False = Some false
truth_of_word _ = None

-- the truth value that a token is
abbrev pub truth_of : TokenKind → Option Bool
truth_of (kind.Word w) = truth_of_word w
truth_of (kind.Named n) = None
truth_of (kind.Number n) = None
truth_of (kind.Text t) = None
truth_of (kind.Mark m) = None
truth_of kind.End = None

-- one token of that kind
abbrev pub IsToken : TokenKind → List Token → List Token → Token → Type 0
IsToken k tokens rest token = (tokens ≡ token ∷ rest) × (token.kind ≡ k)

-- what may be followed by anything
abbrev pub stops_anywhere : List Token → Type 0
stops_anywhere rest = Unit {0}

-- a rule behind its first token
abbrev pub behind : {T : Type 0} → Token → (List Token → List Token → T → Type 0) → List Token → List Token → T → Type 0
behind first spells tokens rest tree = spells (first ∷ tokens) rest tree

-- no token, and the tree is known
abbrev pub Returns : {T : Type 0} → T → List Token → List Token → T → Type 0
Returns known tokens rest tree = (tokens ≡ rest) × (tree ≡ known)

-- the arguments of a call and the parenthesis behind them
abbrev pub SpellsClosed : List Token → List Token → List Expr → Type 0
SpellsClosed tokens rest args = (closing : Token) × SpellsArguments tokens (closing ∷ rest) args
    × (closing.kind ≡ kind.Mark mark.CloseParen)

-- the tokens begin with a token of that kind
abbrev pub BeginsAs : TokenKind → List Token → Type 0
BeginsAs k tokens = (first : Token) × (rest : List Token) × (tokens ≡ first ∷ rest) × (first.kind ≡ k)

-- one token of that kind
pub data Tok (k : TokenKind) : List Token → List Token → Token → Type 0 where
  tok : {token : Token} {rest : List Token} → token.kind ≡ k → Tok k (token ∷ rest) rest token

-- one token that is a name
pub data NameTok : List Token → List Token → Name → Type 0 where
  name_tok : {token : Token} {rest : List Token} {name : Name} → token.kind ≡ kind.Named name → NameTok (token ∷ rest) rest name

-- one token that is a number, with its place
pub data SizeTok : List Token → List Token → ArraySize → Type 0 where
  size_tok : {token : Token} {rest : List Token} {n : ℤ} → token.kind ≡ kind.Number n
      → SizeTok (token ∷ rest) rest (record { at = token.at; number = n })

-- no token, and a tree that is known
pub data Ret {T : Type 0} (known : T) : List Token → List Token → T → Type 0 where
  ret : {rest : List Token} → Ret known rest rest known

-- one rule and then another, which may look at the first's tree
pub data Then {A T : Type 0} (first : List Token → List Token → A → Type 0) (second : A → List Token → List Token → T → Type 0) : List Token
    → List Token → T → Type 0 where
  seq : {tokens middle rest : List Token} {part : A} {tree : T} → first tokens middle part → second part middle rest tree
      → Then first second tokens rest tree

-- one rule or another
pub data Either {T : Type 0} (one two : List Token → List Token → T → Type 0) : List Token → List Token → T → Type 0 where
  this : {tokens rest : List Token} {tree : T} → one tokens rest tree → Either one two tokens rest tree
  that : {tokens rest : List Token} {tree : T} → two tokens rest tree → Either one two tokens rest tree

-- the rest of a list whose front was read, and the token of that kind behind it
abbrev pub Until : {T : Type 0} → TokenKind → (List Token → List Token → T → Type 0) → List T → List Token → List Token → List T → Type 0
Until {T} k spells sofar tokens rest xs = (closing : Token) × (ys : List T) × Each spells tokens (closing ∷ rest) ys × (closing.kind ≡ k)
    × (xs ≡ sofar ++ ys)

-- the same of a list with commas of which something was read
abbrev pub MoreUntil : {T : Type 0} → TokenKind → (List Token → List Token → T → Type 0) → List T → List Token → List Token → List T
    → Type 0
MoreUntil {T} k spells sofar tokens rest xs = (closing : Token) × (ys : List T) × MoreOf spells tokens (closing ∷ rest) ys
    × (closing.kind ≡ k) × (xs ≡ sofar ++ ys)

-- a list with commas, and the token of that kind behind it
abbrev pub ListUntil : {T : Type 0} → TokenKind → (List Token → List Token → T → Type 0) → List Token → List Token → List T → Type 0
ListUntil k spells tokens rest xs = (closing : Token) × ListOf spells tokens (closing ∷ rest) xs × (closing.kind ≡ k)

-- some tokens are spelled, whatever follows them
pub record Completes {T : Type 0} (spells : List Token → List Token → T → Type 0) : Type 0 where
  pub ending : List Token
  pub finished : T
  pub some : (others : List Token) → spells (ending ++ others) others finished

-- Elements can be read one behind another up to a token of that kind: each has one end and one tree, whether it stops shows at the
-- next token, and it stops before the next element and before the closing token.
pub record Repeating {T : Type 0} (k : TokenKind) (spells : List Token → List Token → T → Type 0) (stops : List Token → Type 0)
    : Type 0 where
  pub unique : (tokens middle middle' : List Token) (x x' : T) → spells tokens middle x → spells tokens middle' x' → stops middle
      → stops middle' → (middle ≡ middle') × (x ≡ x')
  pub same_first : (token : Token) (xs ys : List Token) → stops (token ∷ xs) → stops (token ∷ ys)
  pub before : (tokens rest : List Token) (xs : List T) (last : Token) → Each spells tokens (last ∷ rest) xs → last.kind ≡ k → stops tokens
  pub no_end : k ≢ kind.End

-- Elements can be read with commas between up to a token of that kind: each has one end and one tree, whether it stops shows at the
-- next token, it stops before a comma and before the closing token, which is neither a comma nor the end, and some element there is.
pub record Parting {T : Type 0} (k : TokenKind) (spells : List Token → List Token → T → Type 0) (stops : List Token → Type 0) : Type 0 where
  pub unique : (tokens middle middle' : List Token) (x x' : T) → spells tokens middle x → spells tokens middle' x' → stops middle
      → stops middle' → (middle ≡ middle') × (x ≡ x')
  pub same_first : (token : Token) (xs ys : List Token) → stops (token ∷ xs) → stops (token ∷ ys)
  pub at_end : (token : Token) (tokens : List Token) → token.kind ≡ k → stops (token ∷ tokens)
  pub at_comma : (token : Token) (tokens : List Token) → token.kind ≡ kind.Mark mark.Comma → stops (token ∷ tokens)
  pub no_comma : k ≢ kind.Mark mark.Comma
  pub no_end : k ≢ kind.End
  pub sample : Completes spells
