-- What each reader answers, from what those that it calls answer.
use Rattle.std.proofs.Common.{pos, inl, inr, ◌⊎◌, ◌≡◌, ◌≤◌, ◌<◌, ℕ, suc, ℤ, Bool, true, false, List, [], ◌∷◌, Option, Some, None, Result, refl, ap, sym, ◌∙◌, subst, arith}
use Rattle.std.proofs.lemmas.Bool.Decides.{leb_tells}
use Rattle.std.proofs.Math.Dec.{leb}
use Rattle.csl_tree.specs.declared.name.Name.{Name}
use Rattle.csl_tree.specs.declared.token.Token.{Token}
use Rattle.csl_tree.specs.declared.token.TokenKind.{TokenKind}
use Rattle.csl_tree.specs.declared.token.TokenKind.TheVariants as kind
use Rattle.csl_tree.specs.declared.token.Mark.{Mark}
use Rattle.csl_tree.specs.declared.token.Mark.TheVariants as mark
use Rattle.csl_tree.specs.declared.program.UnaryOp.{UnaryOp}
use Rattle.csl_tree.specs.declared.program.BinaryOp.{BinaryOp}
use Rattle.csl_tree.specs.declared.program.Expr.{Expr}
use Rattle.csl_tree.specs.declared.program.Node.TheVariants as node
use Rattle.expression_parser.specs.declared.ParseError.{ParseError}
use Rattle.csl_grammar.specs.Expressions.{SpellsExpr, SpellsChain, SpellsArguments, prefixed, number, truth, named, indexed, called, paren, nothing, level_of, mark_of, prefix_mark, truth_word, expr}
use Rattle.csl_grammar.specs.Expressions.{binary, whole, call, chain, ends, something, SpellsMore, no_more, more}
use Rattle.csl_grammar.specs.Programs.{MoreOf, no_more as no_more_of, more as more_of, ListOf, nothing as nothing_of, something as something_of}
use Rattle.csl_grammar.specs.Stops.{BeginsOtherThan, Stops, IsEnded, operator_of}
use Rattle.expression_parser.specs.Reading.{Found, Refused, Fails, Answers, IsToken, Returns, behind, stops_anywhere, prefix_of, at_mark, number_of, truth_of, truth_of_word, SpellsClosed}
use Rattle.expression_parser.specs.Reading.{Completes, ListUntil, Parting}
use Rattle.csl_grammar.proofs.Unique.{operator_of-mark_of, unique, stops_at}
use Rattle.expression_parser.proofs.Sequence.{Sequence, Passes, after_first, after_second, second_error, passed_error, passes_second, passes_behind, passes_same, passed, refused_here}
use Rattle.expression_parser.proofs.Rules.{level_rule, chain_rule, chain_found, returns_found, Closes, closes_rule, prefixed_rule, number_rule, truth_rule, called_rule, stops_same}
use Rattle.expression_parser.proofs.Single.{some_token}
use Rattle.csl_tree.specs.declared.program.UnaryOp.TheVariants as unary_op
use Rattle.csl_tree.specs.declared.program.BinaryOp.TheVariants as binary_op
use Rattle.csl_tree.specs.declared.token.Keyword.{Keyword}
use Rattle.csl_tree.specs.declared.token.Keyword.TheVariants as word
use Rattle.cal_terms.proofs.Lists.{some_equal}

operator_mark : (m : Mark) (op : BinaryOp) → operator_of m ≡ Some op → m ≡ mark_of op
operator_mark mark.OpenBrace op e = cc
operator_mark mark.CloseBrace op e = cc
operator_mark mark.OpenParen op e = cc
operator_mark mark.CloseParen op e = cc
operator_mark mark.OpenBracket op e = cc
operator_mark mark.CloseBracket op e = cc
operator_mark mark.Comma op e = cc
operator_mark mark.Semicolon op e = cc
operator_mark mark.Assign op e = cc
operator_mark mark.AddAssign op e = cc
operator_mark mark.Plus op e = let same : binary_op.Add ≡ op = some_equal e in ap mark_of same
operator_mark mark.Minus op e = let same : binary_op.Sub ≡ op = some_equal e in ap mark_of same
operator_mark mark.Star op e = let same : binary_op.Mul ≡ op = some_equal e in ap mark_of same
operator_mark mark.Slash op e = let same : binary_op.Div ≡ op = some_equal e in ap mark_of same
operator_mark mark.Percent op e = let same : binary_op.Rem ≡ op = some_equal e in ap mark_of same
operator_mark mark.Bang op e = cc
operator_mark mark.Equal op e = let same : binary_op.Eq ≡ op = some_equal e in ap mark_of same
operator_mark mark.NotEqual op e = let same : binary_op.Ne ≡ op = some_equal e in ap mark_of same
operator_mark mark.Less op e = let same : binary_op.Lt ≡ op = some_equal e in ap mark_of same
operator_mark mark.LessEqual op e = let same : binary_op.Le ≡ op = some_equal e in ap mark_of same
operator_mark mark.Greater op e = let same : binary_op.Gt ≡ op = some_equal e in ap mark_of same
operator_mark mark.GreaterEqual op e = let same : binary_op.Ge ≡ op = some_equal e in ap mark_of same
operator_mark mark.AndAnd op e = let same : binary_op.And ≡ op = some_equal e in ap mark_of same
operator_mark mark.OrOr op e = let same : binary_op.Or ≡ op = some_equal e in ap mark_of same

-- what a token is that is an operator
pub operator_kind : (k : TokenKind) (op : BinaryOp) → at_mark operator_of k ≡ Some op → k ≡ kind.Mark (mark_of op)
operator_kind (kind.Word w) op e = cc
operator_kind (kind.Named n) op e = cc
operator_kind (kind.Number n) op e = cc
operator_kind (kind.Text t) op e = cc
operator_kind (kind.Mark m) op e = ap (λ x. kind.Mark x) (operator_mark m op e)
operator_kind kind.End op e = cc

prefix_mark_of : (m : Mark) (op : UnaryOp) → prefix_of m ≡ Some op → m ≡ prefix_mark op
prefix_mark_of mark.OpenBrace op e = cc
prefix_mark_of mark.CloseBrace op e = cc
prefix_mark_of mark.OpenParen op e = cc
prefix_mark_of mark.CloseParen op e = cc
prefix_mark_of mark.OpenBracket op e = cc
prefix_mark_of mark.CloseBracket op e = cc
prefix_mark_of mark.Comma op e = cc
prefix_mark_of mark.Semicolon op e = cc
prefix_mark_of mark.Assign op e = cc
prefix_mark_of mark.AddAssign op e = cc
prefix_mark_of mark.Plus op e = cc
prefix_mark_of mark.Minus op e = let same : unary_op.Neg ≡ op = some_equal e in ap prefix_mark same
prefix_mark_of mark.Star op e = cc
prefix_mark_of mark.Slash op e = cc
prefix_mark_of mark.Percent op e = cc
prefix_mark_of mark.Bang op e = let same : unary_op.Not ≡ op = some_equal e in ap prefix_mark same
prefix_mark_of mark.Equal op e = cc
prefix_mark_of mark.NotEqual op e = cc
prefix_mark_of mark.Less op e = cc
prefix_mark_of mark.LessEqual op e = cc
prefix_mark_of mark.Greater op e = cc
prefix_mark_of mark.GreaterEqual op e = cc
prefix_mark_of mark.AndAnd op e = cc
prefix_mark_of mark.OrOr op e = cc

pub prefix_kind : (k : TokenKind) (op : UnaryOp) → at_mark prefix_of k ≡ Some op → k ≡ kind.Mark (prefix_mark op)
prefix_kind (kind.Word w) op e = cc
prefix_kind (kind.Named n) op e = cc
prefix_kind (kind.Number n) op e = cc
prefix_kind (kind.Text t) op e = cc
prefix_kind (kind.Mark m) op e = ap (λ x. kind.Mark x) (prefix_mark_of m op e)
prefix_kind kind.End op e = cc

module _ (level below : ℕ) (up : level ≡ suc below) where
  pub level_err : (tokens : List Token) (e : ParseError) → Fails (SpellsExpr below) (Stops below) tokens e → Fails (SpellsExpr level) (Stops level) tokens e
  level_err tokens e h =
      let at_level : ℕ → Type 0 = λ x. Fails (SpellsExpr x) (Stops x) tokens e in
      subst at_level (sym up) (after_first (SpellsExpr below) (Stops below) (λ first. SpellsChain below first) (SpellsExpr (suc below)) (Stops (suc below)) (level_rule below) tokens e h)

  pub level_ok : {X : Type 0} (view : X → Expr × List Token) (tokens middle : List Token) (first : Expr) (result : Result X ParseError) → Found (SpellsExpr below) (Stops below) tokens middle first
      → Answers (SpellsChain below first) (Stops (suc below)) middle view result → Answers (SpellsExpr level) (Stops level) tokens view result
  level_ok view tokens middle first result f h =
      let at_level : ℕ → Type 0 = λ x. Answers (SpellsExpr x) (Stops x) tokens view result in
      subst at_level (sym up) (after_second (SpellsExpr below) (Stops below) (λ first. SpellsChain below first) (SpellsExpr (suc below)) (Stops (suc below)) (level_rule below) view tokens middle first
      result f h)

module _ (below : ℕ) (op : BinaryOp) (left : Expr) (tokens : List Token) (sign : Token) (rest : List Token) (split : tokens ≡ sign ∷ rest) (here : level_of op ≡ suc below)
    (same : sign.kind ≡ kind.Mark (mark_of op)) where
  pub chain_err : (e : ParseError) → Fails (SpellsExpr below) (Stops below) rest e → Fails (SpellsChain below left) (Stops (suc below)) tokens e
  chain_err e h =
      passed_error (behind sign (SpellsChain below left)) (SpellsChain below left) (Stops (suc below)) rest tokens e
      (passes_behind (SpellsChain below left) (Stops (suc below)) sign rest tokens split)
      (after_first (SpellsExpr below) (Stops below) (λ right. SpellsChain below (binary op left right)) (behind sign (SpellsChain below left)) (Stops (suc below))
      (chain_rule below op left sign here same) rest e h)

  pub chain_ok : {X : Type 0} (view : X → Expr × List Token) (middle : List Token) (right both : Expr) (result : Result X ParseError) → both ≡ binary op left right
      → Found (SpellsExpr below) (Stops below) rest middle right → Answers (SpellsChain below both) (Stops (suc below)) middle view result
      → Answers (SpellsChain below left) (Stops (suc below)) tokens view result
  chain_ok view middle right both result is f h =
      let with_left : Expr → Type 0 = λ x. Answers (SpellsChain below x) (Stops (suc below)) middle view result in
      passed (behind sign (SpellsChain below left)) (SpellsChain below left) (Stops (suc below)) rest tokens view result
      (passes_behind (SpellsChain below left) (Stops (suc below)) sign rest tokens split)
      (after_second (SpellsExpr below) (Stops below) (λ right. SpellsChain below (binary op left right)) (behind sign (SpellsChain below left)) (Stops (suc below))
      (chain_rule below op left sign here same) view rest middle right result f (subst with_left is h))

not_first : {k : TokenKind} (tokens : List Token) (first : Token) (rest : List Token) → tokens ≡ first ∷ rest → (first.kind ≡ k → ⊥) → BeginsOtherThan k tokens
not_first {k = k} tokens first rest split other = subst (λ (x : List Token). BeginsOtherThan k x) (sym split) (at_front first rest other)
  where
    at_front : (first : Token) (rest : List Token) → (first.kind ≡ k → ⊥) → BeginsOtherThan k (first ∷ rest)
    at_front first rest other = other

stops_above : (below : ℕ) (tokens : List Token) (first : Token) (rest : List Token) → tokens ≡ first ∷ rest → Stops below tokens
    → ((op : BinaryOp) → level_of op ≡ suc below → first.kind ≡ kind.Mark (mark_of op) → ⊥) → Stops (suc below) tokens
stops_above below tokens first rest split s other = record {
  no_index = s.no_index;
  no_call = s.no_call;
  no_operator = λ op h. level_cases op h (leb_tells (level_of op) below);
}
  where
    level_cases : (op : BinaryOp) → level_of op ≤ suc below → ((leb (level_of op) below ≡ true) × (level_of op ≤ below)) ⊎ ((leb (level_of op) below ≡ false) × (below < level_of op))
        → BeginsOtherThan (kind.Mark (mark_of op)) tokens
    level_cases op h (inl e) = s.no_operator op e.1
    level_cases op h (inr e) = not_first tokens first rest split (other op (omega arith))

-- where no operator of the level comes next, the chain has ended
pub chain_done : (below : ℕ) (left : Expr) (tokens : List Token) (first : Token) (rest : List Token) (next : Option BinaryOp) → tokens ≡ first ∷ rest → IsEnded tokens → Stops below tokens
    → at_mark operator_of first.kind ≡ next → ((op : BinaryOp) → next ≡ Some op → level_of op ≡ suc below → ⊥) → Found (SpellsChain below left) (Stops (suc below)) tokens tokens left
chain_done below left tokens first rest next split ended s is other =
    chain_found below left tokens (stops_above below tokens first rest split s (λ op here same. other op (sym is ∙ ap (λ k. at_mark operator_of k) same ∙ operator_of-mark_of op) here)) ended

-- from the tokens behind the first to all of them
pub from_first : {X T : Type 0} (spells : List Token → List Token → T → Type 0) (ends : List Token → Type 0) (view : X → T × List Token) (tokens : List Token) (first : Token) (rest : List Token)
    (result : Result X ParseError) → tokens ≡ first ∷ rest → Answers (behind first spells) ends rest view result → Answers spells ends tokens view result
from_first spells stops view tokens first rest result split h = passed (behind first spells) spells stops rest tokens view result (passes_behind spells stops first rest tokens split) h

module _ (op : UnaryOp) (first : Token) (same : first.kind ≡ kind.Mark (prefix_mark op)) (tokens : List Token) where
  pub prefixed_err : (e : ParseError) → Fails (SpellsExpr 0) (Stops 0) tokens e → Fails (behind first (SpellsExpr 0)) (Stops 0) tokens e
  prefixed_err e h = after_first (SpellsExpr 0) (Stops 0) (λ inner. Returns (expr first.at (node.Unary op inner))) (behind first (SpellsExpr 0)) (Stops 0) (prefixed_rule op first same) tokens e h

  pub prefixed_ok : (rest : List Token) (inner whole_tree : Expr) → whole_tree ≡ expr first.at (node.Unary op inner) → Found (SpellsExpr 0) (Stops 0) tokens rest inner
      → Found (behind first (SpellsExpr 0)) (Stops 0) tokens rest whole_tree
  prefixed_ok rest inner whole_tree is f =
      let as_tree : Expr → Type 0 = λ x. Found (behind first (SpellsExpr 0)) (Stops 0) tokens rest x in
      subst as_tree (sym is) ((passes_second (SpellsExpr 0) (Stops 0) (λ inner. Returns (expr first.at (node.Unary op inner))) (behind first (SpellsExpr 0)) (Stops 0) (prefixed_rule op first same)
      tokens rest inner f).found rest _ (returns_found (expr first.at (node.Unary op inner)) (Stops 0) rest f.stopped f.ended))

-- an expression between brackets, of which the first was read
module _ (m : Mark) (known : Expr → Expr) (spells : List Token → List Token → Expr → Type 0) (rule : Sequence (SpellsExpr whole) (Stops whole) (λ x. Closes m (known x)) spells (Stops 0))
    (tokens : List Token) where
  pub inside_err : (e : ParseError) → Fails (SpellsExpr whole) (Stops whole) tokens e → Fails spells (Stops 0) tokens e
  inside_err e h = after_first (SpellsExpr whole) (Stops whole) (λ x. Closes m (known x)) spells (Stops 0) rule tokens e h

  pub closing_err : (middle : List Token) (inner : Expr) (e : ParseError) → Found (SpellsExpr whole) (Stops whole) tokens middle inner → Fails (IsToken (kind.Mark m)) stops_anywhere middle e
      → Fails spells (Stops 0) tokens e
  closing_err middle inner e f h =
      second_error (SpellsExpr whole) (Stops whole) (λ x. Closes m (known x)) spells (Stops 0) rule tokens middle inner e f
      (after_first (IsToken (kind.Mark m)) stops_anywhere (λ closing. Returns (known inner)) (Closes m (known inner)) (Stops 0) (closes_rule m (known inner) (Stops 0)) middle e h)

  pub closed_ok : {X : Type 0} (view : X → Expr × List Token) (middle rest : List Token) (inner tree : Expr) (closing : Token) (result : Result X ParseError) → tree ≡ known inner
      → Found (SpellsExpr whole) (Stops whole) tokens middle inner → Found (IsToken (kind.Mark m)) stops_anywhere middle rest closing → Answers (Returns tree) (Stops 0) rest view result
      → Answers spells (Stops 0) tokens view result
  closed_ok view middle rest inner tree closing result is f g h =
      let as_tree : Expr → Type 0 = λ x. Answers (Returns x) (Stops 0) rest view result in
      after_second (SpellsExpr whole) (Stops whole) (λ x. Closes m (known x)) spells (Stops 0) rule view tokens middle inner result f
      (after_second (IsToken (kind.Mark m)) stops_anywhere (λ closing. Returns (known inner)) (Closes m (known inner)) (Stops 0) (closes_rule m (known inner) (Stops 0)) view middle rest closing result
      g (subst as_tree is h))

module _ (name : Name) (first bracket : Token) (same : first.kind ≡ kind.Named name) (here : bracket.kind ≡ kind.Mark mark.OpenParen) (tokens : List Token) where
  pub called_err : (e : ParseError) → Fails SpellsClosed stops_anywhere tokens e → Fails (behind bracket (behind first (SpellsExpr 0))) (Stops 0) tokens e
  called_err e h = after_first SpellsClosed stops_anywhere (λ args. Returns (expr first.at (node.CallOf (call name args)))) (behind bracket (behind first (SpellsExpr 0))) (Stops 0)
      (called_rule name first bracket same here) tokens e h

  pub called_ok : {X : Type 0} (view : X → Expr × List Token) (rest : List Token) (args : List Expr) (tree : Expr) (result : Result X ParseError) → tree ≡ expr first.at (node.CallOf (call name args))
      → Found SpellsClosed stops_anywhere tokens rest args → Answers (Returns tree) (Stops 0) rest view result → Answers (behind bracket (behind first (SpellsExpr 0))) (Stops 0) tokens view result
  called_ok view rest args tree result is f h =
      let as_tree : Expr → Type 0 = λ x. Answers (Returns x) (Stops 0) rest view result in
      after_second SpellsClosed stops_anywhere (λ args. Returns (expr first.at (node.CallOf (call name args)))) (behind bracket (behind first (SpellsExpr 0))) (Stops 0)
      (called_rule name first bracket same here) view tokens rest args result f (subst as_tree is h)

-- a token with which no expression begins, signs aside
pub record BeginsNothing (k : TokenKind) : Type 0 where
  pub no_number : number_of k ≡ None
  pub no_truth : truth_of k ≡ None
  pub no_name : (name : Name) → k ≡ kind.Named name → ⊥
  pub no_open : k ≡ kind.Mark mark.OpenParen → ⊥

number_of-number : (k : TokenKind) (n : ℤ) → number_of k ≡ Some n → k ≡ kind.Number n
number_of-number (kind.Word w) n e = cc
number_of-number (kind.Named x) n e = cc
number_of-number (kind.Number x) n e = cc
number_of-number (kind.Text t) n e = cc
number_of-number (kind.Mark m) n e = cc
number_of-number kind.End n e = cc

truth_of_word-word : (w : Keyword) (b : Bool) → truth_of_word w ≡ Some b → w ≡ truth_word b
truth_of_word-word word.Shared b e = cc
truth_of_word-word word.Int b e = cc
truth_of_word-word word.Bool b e = cc
truth_of_word-word word.Void b e = cc
truth_of_word-word word.Tally b e = cc
truth_of_word-word word.Main b e = cc
truth_of_word-word word.Routine b e = cc
truth_of_word-word word.Parbegin b e = cc
truth_of_word-word word.Parend b e = cc
truth_of_word-word word.If b e = cc
truth_of_word-word word.Else b e = cc
truth_of_word-word word.While b e = cc
truth_of_word-word word.For b e = cc
truth_of_word-word word.Break b e = cc
truth_of_word-word word.Continue b e = cc
truth_of_word-word word.Return b e = cc
truth_of_word-word word.Assert b e = cc
truth_of_word-word word.Print b e = cc
truth_of_word-word word.True b e = let same : true ≡ b = some_equal e in ap truth_word same
truth_of_word-word word.False b e = let same : false ≡ b = some_equal e in ap truth_word same
truth_of_word-word word.Least b e = cc
truth_of_word-word word.Greatest b e = cc

truth_of-truth : (k : TokenKind) (b : Bool) → truth_of k ≡ Some b → k ≡ kind.Word (truth_word b)
truth_of-truth (kind.Word w) b e = ap (λ x. kind.Word x) (truth_of_word-word w b e)
truth_of-truth (kind.Named x) b e = cc
truth_of-truth (kind.Number x) b e = cc
truth_of-truth (kind.Text t) b e = cc
truth_of-truth (kind.Mark m) b e = cc
truth_of-truth kind.End b e = cc

truth_of-word : (b : Bool) → truth_of_word (truth_word b) ≡ Some b
truth_of-word true = refl
truth_of-word false = refl

prefix_of-prefix_mark : (op : UnaryOp) → prefix_of (prefix_mark op) ≡ Some op
prefix_of-prefix_mark unary_op.Neg = refl
prefix_of-prefix_mark unary_op.Not = refl

begins_nothing : {all rest others : List Token} {tree : Expr} {first : Token} → SpellsExpr 0 all rest tree → all ≡ first ∷ others → at_mark prefix_of first.kind ≡ None → BeginsNothing first.kind → ⊥
begins_nothing (prefixed {op = op} k d) e sign h =
    let same : at_mark prefix_of (kind.Mark (prefix_mark op)) ≡ None = cc in
    let some : Some op ≡ None = sym (prefix_of-prefix_mark op) ∙ same in cc
begins_nothing {first = first} (number {n = n} k) e sign h = let same : first.kind ≡ kind.Number n = cc in let both : Some n ≡ None = sym (ap number_of same) ∙ h.no_number in cc
begins_nothing {first = first} (truth {b = b} k) e sign h = let same : first.kind ≡ kind.Word (truth_word b) = cc in let both : Some b ≡ None = sym (truth_of-word b) ∙ sym (ap truth_of same)
    ∙ h.no_truth in cc
begins_nothing {first = first} (named {name = n} k) e sign h = let same : first.kind ≡ kind.Named n = cc in h.no_name n same
begins_nothing {first = first} (indexed {name = n} k o d c) e sign h = let same : first.kind ≡ kind.Named n = cc in h.no_name n same
begins_nothing {first = first} (called {name = n} k o d c) e sign h = let same : first.kind ≡ kind.Named n = cc in h.no_name n same
begins_nothing {first = first} (paren k d c) e sign h = let same : first.kind ≡ kind.Mark mark.OpenParen = cc in h.no_open same

-- a number, a truth value
pub number_ok : {X : Type 0} (view : X → Expr × List Token) (n : ℤ) (first : Token) (tokens : List Token) (result : Result X ParseError) → number_of first.kind ≡ Some n
    → Answers (Returns (expr first.at (node.Number n))) (Stops 0) tokens view result → Answers (SpellsExpr 0) (Stops 0) (first ∷ tokens) view result
number_ok view n first tokens result same h =
    from_first (SpellsExpr 0) (Stops 0) view (first ∷ tokens) first tokens result refl
    (passed (Returns (expr first.at (node.Number n))) (behind first (SpellsExpr 0)) (Stops 0) tokens tokens view result
    (passes_same _ _ _ tokens (number_rule n first (number_of-number first.kind n same))) h)

pub truth_ok : {X : Type 0} (view : X → Expr × List Token) (b : Bool) (first : Token) (tokens : List Token) (result : Result X ParseError) → truth_of first.kind ≡ Some b
    → Answers (Returns (expr first.at (node.Truth b))) (Stops 0) tokens view result → Answers (SpellsExpr 0) (Stops 0) (first ∷ tokens) view result
truth_ok view b first tokens result same h =
    from_first (SpellsExpr 0) (Stops 0) view (first ∷ tokens) first tokens result refl
    (passed (Returns (expr first.at (node.Truth b))) (behind first (SpellsExpr 0)) (Stops 0) tokens tokens view result
    (passes_same _ _ _ tokens (truth_rule b first (truth_of-truth first.kind b same))) h)

pub nothing_here : (first : Token) (tokens : List Token) → at_mark prefix_of first.kind ≡ None → BeginsNothing first.kind → Refused (SpellsExpr 0) (Stops 0) (first ∷ tokens) first.at
nothing_here first tokens sign h = refused_here (SpellsExpr 0) (Stops 0) first tokens (λ others rest tree d s. begins_nothing d refl sign h) (some_token (kind.Number (pos 0)) ∷ [])
    (expr 0 (node.Number (pos 0))) (λ others. number refl)

-- the arguments of a call are a list with commas
more_listed : {ts end : List Token} {es : List Expr} → SpellsMore ts end es → MoreOf (SpellsExpr whole) ts end es
more_listed no_more = no_more_of
more_listed (more k d m) = more_of k d (more_listed m)

listed_more : {ts end : List Token} {es : List Expr} → MoreOf (SpellsExpr whole) ts end es → SpellsMore ts end es
listed_more no_more_of = no_more
listed_more (more_of k d m) = more k d (listed_more m)

arguments_listed : {ts end : List Token} {es : List Expr} → SpellsArguments ts end es → ListOf (SpellsExpr whole) ts end es
arguments_listed nothing = nothing_of
arguments_listed (something d m) = something_of d (more_listed m)

listed_arguments : {ts end : List Token} {es : List Expr} → ListOf (SpellsExpr whole) ts end es → SpellsArguments ts end es
listed_arguments nothing_of = nothing
listed_arguments (something_of d m) = something d (listed_more m)

pub arguments_same : (tokens : List Token) → Passes (ListUntil (kind.Mark mark.CloseParen) (SpellsExpr whole)) SpellsClosed stops_anywhere tokens tokens
arguments_same tokens = passes_same _ SpellsClosed stops_anywhere tokens
    (record { there = λ ts r es d. (d.0, listed_arguments d.1, d.2); back = λ ts r es d s. (d.0, arguments_listed d.1, d.2) })

pub some_expr : Completes (SpellsExpr whole)
some_expr = record {
  ending = some_token (kind.Number (pos 0)) ∷ [];
  finished = expr 0 (node.Number (pos 0));
  some = λ others. chain (chain (chain (chain (chain (chain (number refl) ends) ends) ends) ends) ends) ends;
}

pub arguments_parted : Parting (kind.Mark mark.CloseParen) (SpellsExpr whole) (Stops whole)
arguments_parted = record {
  unique = λ tokens middle middle' e e' d d' s s'. unique d d' refl s s';
  same_first = stops_same whole;
  at_end = λ token ts h. stops_at h refl (λ e. cc) (λ e. cc);
  at_comma = λ token ts h. stops_at h refl (λ e. cc) (λ e. cc);
  no_comma = λ h. cc;
  no_end = λ h. cc;
  sample = some_expr;
}
