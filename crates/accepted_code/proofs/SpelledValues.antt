-- The expressions that the grammar gives nest no deeper than the levels of their tokens, and their numbers have 64 bits.
use Rattle.std.proofs.Common.{◌≡◌, ◌≤◌, ◌+◌, ℕ, ℤ, pos, negsuc, Bool, true, false, List, ◌∷◌, refl, ap, ◌∙◌, subst, arith}
use Rattle.std.specs.List.{AllByRecursion}
use denote.Hole.Carrier.{hidden, roll}
use Rattle.csl_tree.specs.declared.token.Token.{Token}
use Rattle.csl_tree.specs.declared.token.TokenKind.{TokenKind}
use Rattle.csl_tree.specs.declared.token.TokenKind.TheVariants as kind
use Rattle.csl_tree.specs.declared.token.Mark.{Mark}
use Rattle.csl_tree.specs.declared.token.Mark.TheVariants as mark
use Rattle.csl_tree.specs.declared.program.UnaryOp.{UnaryOp}
use Rattle.csl_tree.specs.declared.program.UnaryOp.TheVariants as unary_op
use Rattle.csl_tree.specs.declared.program.BinaryOp.{BinaryOp}
use Rattle.csl_tree.specs.declared.program.BinaryOp.TheVariants as binary_op
use Rattle.csl_tree.specs.declared.program.Expr.{Expr}
use Rattle.csl_tree.specs.declared.program.Node.{Node, Number, Truth, Read, CallOf, Unary', Binary', Paren', Row_of-Expr, end_of-Expr, more_of-Expr}
use Rattle.csl_tree.specs.declared.program.Node.TheBlock.{shape-the_row-Expr-0, hidden-the_row-Expr-0, shape-the_row-Expr-1, hidden-the_row-Expr-1}
use Rattle.csl_tree.specs.declared.program.Place.{Place, Place', None', Some', roll-Place}
use Rattle.csl_tree.specs.declared.program.Call.{Call, Call', roll-Call}
use Rattle.csl_grammar.specs.Expressions.{SpellsExpr, SpellsChain, SpellsArguments, SpellsMore, chain, prefixed, number, truth, named, indexed, called, paren, ends, goes_on, nothing, something}
use Rattle.csl_grammar.specs.Expressions.{no_more, more, mark_of, prefix_mark, truth_word}
use Rattle.csl_grammar.specs.Levels.{Nesting, Turn, Opens, Closes, Parts, Rises, Stays, turn_of, turn_of_mark, turn_of_word, turned, most_levels, IsFlatFrom}
use Rattle.bytecode.specs.Spelling.{FitsZig}
use Rattle.accepted_code.proofs.Spelled.{ValueSpelled, PlaceSpelled, CallSpelled, BoxedSpelled, ValuesSpelled}
use Rattle.accepted_code.proofs.TokenFacts.{NumberFits, KindFits, TokenFits}

-- ---- a lower level

mutual
  -- an expression that may begin at a level may begin at a lower one
  pub value_lower : (low high : ℕ) → low ≤ high → (n : Node) → ValueSpelled high n → ValueSpelled low n
  value_lower low high h (Number z) s = (omega (arith, h, s.0), s.1)
  value_lower low high h (Truth b) s = omega (arith, h, s)
  value_lower low high h (Read place) s = place_lower low high h place s
  value_lower low high h (CallOf call) s = call_lower low high h call s
  value_lower low high h (Unary' op shape a) s = boxed_lower (low + 1) (high + 1) (omega (arith, h)) a s
  value_lower low high h (Binary' op shape a shape' b) s = (boxed_lower low high h a s.0, boxed_lower (low + 1) (high + 1) (omega (arith, h)) b s.1)
  value_lower low high h (Paren' shape a) s = boxed_lower (low + 1) (high + 1) (omega (arith, h)) a s

  pub place_lower : (low high : ℕ) → low ≤ high → (place : Place) → PlaceSpelled high place → PlaceSpelled low place
  place_lower low high h (Place' name None') s = omega (arith, h, s)
  place_lower low high h (Place' name (Some' shape i)) s = boxed_lower (low + 1) (high + 1) (omega (arith, h)) i s

  pub call_lower : (low high : ℕ) → low ≤ high → (call : Call) → CallSpelled high call → CallSpelled low call
  call_lower low high h (Call' name shape args) s = (omega (arith, h, s.0), values_lower (low + 1) (high + 1) (omega (arith, h)) args s.1)

  pub boxed_lower : {n : _} (low high : ℕ) → low ≤ high → (a : Row_of-Expr n) → BoxedSpelled high a → BoxedSpelled low a
  boxed_lower low high h end_of-Expr s = absurd s
  boxed_lower low high h (more_of-Expr at node rest) s = value_lower low high h node s

  pub values_lower : {n : _} (low high : ℕ) → low ≤ high → (args : Row_of-Expr n) → ValuesSpelled high args → ValuesSpelled low args
  values_lower low high h end_of-Expr s = tt
  values_lower low high h (more_of-Expr at node rest) s = (value_lower low high h node s.0, values_lower low high h rest s.1)

-- ---- what tokens do to the level

mark_rises : (op : BinaryOp) → turn_of_mark (mark_of op) ≡ Rises
mark_rises binary_op.Mul = refl
mark_rises binary_op.Div = refl
mark_rises binary_op.Rem = refl
mark_rises binary_op.Add = refl
mark_rises binary_op.Sub = refl
mark_rises binary_op.Lt = refl
mark_rises binary_op.Le = refl
mark_rises binary_op.Gt = refl
mark_rises binary_op.Ge = refl
mark_rises binary_op.Eq = refl
mark_rises binary_op.Ne = refl
mark_rises binary_op.And = refl
mark_rises binary_op.Or = refl

prefix_rises : (op : UnaryOp) → turn_of_mark (prefix_mark op) ≡ Rises
prefix_rises unary_op.Neg = refl
prefix_rises unary_op.Not = refl

truth_stays : (b : Bool) → turn_of_word (truth_word b) ≡ Stays
truth_stays true = refl
truth_stays false = refl

-- a number of 63 bits has a spelling of 64
pub zig_fits : (z : ℤ) → NumberFits z → FitsZig z
zig_fits (pos n) h = omega (arith, h)
zig_fits (negsuc n) h = absurd h

-- from this nesting on no token is too deep, and the tokens fit
pub record Good (limit : ℕ) (nesting : Nesting) (tokens : List Token) : Type 0 where
  pub flat : IsFlatFrom nesting tokens
  pub fit : AllByRecursion (TokenFits limit) tokens

-- what a first token of this kind gives: its level, that it fits, and what is behind it
pub record First (limit : ℕ) (behind : Nesting) (k : TokenKind) (rest : List Token) : Type 0 where
  pub level : behind.level ≤ most_levels
  pub fits : KindFits limit k
  pub good : Good limit behind rest

pub first : {limit : ℕ} {nesting : Nesting} {token : Token} {rest : List Token} (k : TokenKind) (t : Turn) → token.kind ≡ k → turn_of k ≡ t → Good limit nesting (token ∷ rest)
    → First limit (turned t nesting) k rest
first {limit = limit} {nesting = nesting} {token = token} {rest = rest} k t e turns g =
    let is : turn_of token.kind ≡ t = ap turn_of e ∙ turns in
    record {
      level = subst (λ (x : Turn). (turned x nesting).level ≤ most_levels) is g.flat.0;
      fits = subst (λ (x : TokenKind). KindFits limit x) e g.fit.0;
      good = record { flat = subst (λ (x : Turn). IsFlatFrom (turned x nesting) rest) is g.flat.1; fit = g.fit.1 };
    }

-- behind an opening bracket
abbrev pub inside : Nesting → Nesting
inside outer = record { level = outer.level + 1; opened = outer.level ∷ outer.opened }

-- a closing bracket leads back to where the bracket was opened
pub closing : {limit : ℕ} {to : Nesting} {token : Token} {rest : List Token} (outer : Nesting) (m : Mark) → turn_of_mark m ≡ Closes → to.opened ≡ outer.level ∷ outer.opened → token.kind ≡ kind.Mark m
    → Good limit to (token ∷ rest) → Good limit outer rest
closing {limit = limit} {to = to} {rest = rest} outer m turns opened e g =
    let level : ℕ = to.level in
    subst (λ (o : List ℕ). Good limit (turned Closes (record { level = level; opened = o })) rest) opened (first (kind.Mark m) Closes e turns g).good

-- a comma or a semicolon leads back to where the bracket was opened, too
pub parting : {limit : ℕ} {to : Nesting} {token : Token} {rest : List Token} (outer : Nesting) (m : Mark) → turn_of_mark m ≡ Parts → to.opened ≡ outer.level ∷ outer.opened → token.kind ≡ kind.Mark m
    → Good limit to (token ∷ rest) → Good limit (inside outer) rest
parting {limit = limit} {to = to} {rest = rest} outer m turns opened e g =
    let level : ℕ = to.level in
    subst (λ (o : List ℕ). Good limit (turned Parts (record { level = level; opened = o })) rest) opened (first (kind.Mark m) Parts e turns g).good

-- behind an expression: the same brackets are open, and the level is no lower
pub record Behind (limit : ℕ) (from : Nesting) (rest : List Token) : Type 0 where
  pub to : Nesting
  pub good : Good limit to rest
  pub opened : to.opened ≡ from.opened
  pub higher : from.level ≤ to.level

pub here : {limit : ℕ} {from : Nesting} {rest : List Token} → Good limit from rest → Behind limit from rest
here {from = from} g = record { to = from; good = g; opened = refl; higher = omega arith }

-- further on
pub further : {limit : ℕ} {from middle : Nesting} {rest : List Token} → middle.opened ≡ from.opened → from.level ≤ middle.level → Behind limit middle rest → Behind limit from rest
further opened higher b = record { to = b.to; good = b.good; opened = b.opened ∙ opened; higher = omega (arith, higher, b.higher) }

-- ---- expressions

module _ (limit : ℕ) where
  mutual
    unfolding shape-the_row-Expr-0 hidden-the_row-Expr-0 shape-the_row-Expr-1 hidden-the_row-Expr-1 roll-Place roll-Call hidden roll

    pub expr_spelled : {level : ℕ} {tokens rest : List Token} {e : Expr} → SpellsExpr level tokens rest e → (from : Nesting) → Good limit from tokens
        → ValueSpelled from.level e.node × Behind limit from rest
    expr_spelled (chain d c) from g = let one : _ × _ = expr_spelled d from g in chain_spelled c from one.1 one.0
    expr_spelled (prefixed {op = op} k d) from g =
        let sign = first (kind.Mark (prefix_mark op)) Rises k (prefix_rises op) g in
        let operand : _ × _ = expr_spelled d (turned Rises from) sign.good in
        (operand.0, further refl (omega arith) operand.1)
    expr_spelled (number {n = n} k) from g =
        let token = first (kind.Number n) Stays k refl g in
        ((token.level, zig_fits n token.fits), here token.good)
    expr_spelled (truth {b = b} k) from g =
        let token = first (kind.Word (truth_word b)) Stays k (truth_stays b) g in
        (token.level, here token.good)
    expr_spelled (named {name = name} k) from g =
        let token = first (kind.Named name) Stays k refl g in
        (token.level, here token.good)
    expr_spelled (indexed {name = name} k o d c) from g =
        let token = first (kind.Named name) Stays k refl g in
        let opening = first (kind.Mark mark.OpenBracket) Opens o refl token.good in
        let index : _ × _ = expr_spelled d (inside from) opening.good in
        (index.0, here (closing from mark.CloseBracket refl index.1.opened c index.1.good))
    expr_spelled (called {name = name} k o d c) from g =
        let token = first (kind.Named name) Stays k refl g in
        let opening = first (kind.Mark mark.OpenParen) Opens o refl token.good in
        let args : _ × _ = arguments_spelled d from opening.good in
        ((token.level, args.0), here (closing from mark.CloseParen refl args.1.opened c args.1.good))
    expr_spelled (paren k d c) from g =
        let opening = first (kind.Mark mark.OpenParen) Opens k refl g in
        let inner : _ × _ = expr_spelled d (inside from) opening.good in
        (inner.0, here (closing from mark.CloseParen refl inner.1.opened c inner.1.good))

    pub chain_spelled : {level : ℕ} {left e : Expr} {tokens rest : List Token} → SpellsChain level left tokens rest e → (from : Nesting) → Behind limit from tokens → ValueSpelled from.level left.node
        → ValueSpelled from.level e.node × Behind limit from rest
    chain_spelled ends from b h = (h, b)
    chain_spelled (goes_on {op = op} {right = right} at k d c) from b h =
        let sign = first (kind.Mark (mark_of op)) Rises k (mark_rises op) b.good in
        let operand : _ × _ = expr_spelled d (turned Rises b.to) sign.good in
        chain_spelled c from (further b.opened (omega (arith, b.higher)) operand.1) (h, value_lower (from.level + 1) (b.to.level + 1) (omega (arith, b.higher)) right.node operand.0)

    pub arguments_spelled : {tokens rest : List Token} {es : List Expr} → SpellsArguments tokens rest es → (outer : Nesting) → Good limit (inside outer) tokens
        → ValuesSpelled (outer.level + 1) (hidden-the_row-Expr-1 es) × Behind limit (inside outer) rest
    arguments_spelled nothing outer g = (tt, here g)
    arguments_spelled (something d m) outer g =
        let one : _ × _ = expr_spelled d (inside outer) g in
        let others : _ × _ = more_spelled m outer one.1 in
        ((one.0, others.0), others.1)

    pub more_spelled : {tokens rest : List Token} {es : List Expr} → SpellsMore tokens rest es → (outer : Nesting) → Behind limit (inside outer) tokens
        → ValuesSpelled (outer.level + 1) (hidden-the_row-Expr-1 es) × Behind limit (inside outer) rest
    more_spelled no_more outer b = (tt, b)
    more_spelled (more k d m) outer b =
        let one : _ × _ = expr_spelled d (inside outer) (parting outer mark.Comma refl b.opened k b.good) in
        let others : _ × _ = more_spelled m outer one.1 in
        ((one.0, others.0), others.1)
