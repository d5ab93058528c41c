-- The rules of the grammar, each as one rule and then another.
use Rattle.std.proofs.Common.{◌≡◌, ◌≤◌, ℕ, zero, suc, ℤ, Bool, List, [], ◌∷◌, Some, None, refl, ap, sym, ◌∙◌, subst, arith}
use Rattle.csl_tree.specs.declared.name.Name.{Name}
use Rattle.csl_tree.specs.declared.token.Token.{Token}
use Rattle.csl_tree.specs.declared.token.TokenKind.TheVariants as kind
use Rattle.csl_tree.specs.declared.token.Mark.{Mark}
use Rattle.csl_tree.specs.declared.token.Mark.TheVariants as mark
use Rattle.csl_tree.specs.declared.program.UnaryOp.{UnaryOp}
use Rattle.csl_tree.specs.declared.program.BinaryOp.{BinaryOp}
use Rattle.csl_tree.specs.declared.program.Expr.{Expr}
use Rattle.csl_tree.specs.declared.program.Node.TheVariants as node
use Rattle.csl_grammar.specs.Expressions.{SpellsExpr, SpellsChain, SpellsArguments, chain, prefixed, number, truth, named, indexed, called, paren, ends, goes_on}
use Rattle.csl_grammar.specs.Expressions.{level_of, mark_of, prefix_mark, truth_word, expr, binary, whole, place, call}
use Rattle.csl_grammar.specs.Stops.{Stops, IsEnded}
use Rattle.expression_parser.specs.Reading.{Found, Refused, IsToken, Returns, behind, stops_anywhere, SpellsClosed}
use Rattle.csl_grammar.proofs.Unique.{unique, unique_arguments, chain_stops, stops_at, begins_clash, mark_of-same, prefix_mark-same, prefix_mark-open, truth_word-same, level_of-positive}
use Rattle.expression_parser.proofs.Sequence.{Cut, Sequence, Same}
use Rattle.expression_parser.proofs.Single.{some_token}

-- whether an expression stops shows at the next token
pub stops_same : (level : ℕ) (token : Token) (xs ys : List Token) → Stops level (token ∷ xs) → Stops level (token ∷ ys)
stops_same level token xs ys s = record {
  no_index = s.no_index;
  no_call = s.no_call;
  no_operator = s.no_operator;
}

unique_expr : (level : ℕ) (tokens middle middle' : List Token) (e e' : Expr) → SpellsExpr level tokens middle e → SpellsExpr level tokens middle' e' → Stops level middle → Stops level middle'
    → (middle ≡ middle') × (e ≡ e')
unique_expr level tokens middle middle' e e' d d' s s' = unique d d' refl s s'

level_cut : {below : ℕ} {tokens rest : List Token} {tree : Expr} → SpellsExpr (suc below) tokens rest tree → Stops (suc below) rest
    → Cut (SpellsExpr below) (Stops below) (λ first. SpellsChain below first) tokens rest tree
level_cut (chain d c) s = record { middle = _; part = _; one = d; stopped = chain_stops c s; two = c }

-- an expression of a level is an operand and then a chain
pub level_rule : (below : ℕ) → Sequence (SpellsExpr below) (Stops below) (λ first. SpellsChain below first) (SpellsExpr (suc below)) (Stops (suc below))
level_rule below = record {
  join = λ tokens middle rest part tree d c. chain d c;
  cut = λ tokens rest tree d s. level_cut d s;
  unique = unique_expr below;
  same_first = stops_same below;
  ending = λ part. [];
  finished = λ part. part;
  some = λ part others. ends;
}

chain_cut : {below : ℕ} {left tree : Expr} {op : BinaryOp} {sign : Token} {tokens rest : List Token} {all : List Token} → SpellsChain below left all rest tree → all ≡ sign ∷ tokens
    → level_of op ≡ suc below → sign.kind ≡ kind.Mark (mark_of op) → Stops (suc below) rest → Cut (SpellsExpr below) (Stops below) (λ right. SpellsChain below (binary op left right)) tokens rest tree
chain_cut {op = op} ends e here same s = absurd (begins_clash _ (s.no_operator op (omega arith)) e same)
chain_cut {below = below} {left = left} {tree = tree} {op = op} {tokens = tokens} {rest = rest} (goes_on {op = p} {tokens = w} {middle = m} {right = r} here' sign' d c) e here same s =
    let alike : p ≡ op = mark_of-same p op (cc) in
    let at_tokens : w ≡ tokens = cc in
    let on : List Token → Type 0 = λ x. SpellsExpr below x m r in
    let by : BinaryOp → Type 0 = λ x. SpellsChain below (binary x left r) m rest tree in
    record { middle = m; part = r; one = subst on at_tokens d; stopped = chain_stops c s; two = subst by alike c }

-- a chain goes on with an operator, and then an operand and a chain
pub chain_rule : (below : ℕ) (op : BinaryOp) (left : Expr) (sign : Token) → level_of op ≡ suc below → sign.kind ≡ kind.Mark (mark_of op)
    → Sequence (SpellsExpr below) (Stops below) (λ right. SpellsChain below (binary op left right)) (behind sign (SpellsChain below left)) (Stops (suc below))
chain_rule below op left sign here same = record {
  join = λ tokens middle rest part tree d c. goes_on here same d c;
  cut = λ tokens rest tree d s. chain_cut d refl here same s;
  unique = unique_expr below;
  same_first = stops_same below;
  ending = λ part. [];
  finished = λ part. binary op left part;
  some = λ part others. ends;
}

-- a chain ends in front of what it cannot go on with
pub chain_found : (below : ℕ) (left : Expr) (tokens : List Token) → Stops (suc below) tokens → IsEnded tokens → Found (SpellsChain below left) (Stops (suc below)) tokens tokens left
chain_found below left tokens s ended = record {
  read = [];
  split = refl;
  spelled = λ others. ends;
  stopped = s;
  ended = ended;
}

-- a tree whose tokens are all read
pub returns_found : {T : Type 0} (tree : T) (stops : List Token → Type 0) (tokens : List Token) → stops tokens → IsEnded tokens → Found (Returns tree) stops tokens tokens tree
returns_found tree stops tokens s ended = record {
  read = [];
  split = refl;
  spelled = λ others. (refl, refl);
  stopped = s;
  ended = ended;
}

pub returns_refused : {T : Type 0} (tree : T) (stops : List Token → Type 0) (tokens : List Token) (next : Token) (rest : List Token) → tokens ≡ next ∷ rest
    → ((others : List Token) → stops (next ∷ others) → ⊥) → Refused (Returns tree) stops tokens next.at
returns_refused tree stops tokens next rest split never = record {
  read = [];
  token = next;
  left = rest;
  split = split;
  stands = refl;
  none = λ others behind t d s. never others (subst stops (sym d.0) s);
  ending = [];
  finished = tree;
  some = λ others. (refl, refl);
}

-- a closing mark, and the tree is known
abbrev pub Closes : {T : Type 0} → Mark → T → List Token → List Token → T → Type 0
Closes m known tokens rest tree = (closing : Token) × (tokens ≡ closing ∷ rest) × (closing.kind ≡ kind.Mark m) × (tree ≡ known)

pub closes_rule : {T : Type 0} (m : Mark) (known : T) (stops : List Token → Type 0) → Sequence (IsToken (kind.Mark m)) stops_anywhere (λ closing. Returns known) (Closes m known) stops
closes_rule m known stops = record {
  join = λ tokens middle rest part tree d r. (part, d.0 ∙ ap (λ x. part ∷ x) r.0, d.1, r.1);
  cut = λ tokens rest tree d s. record { middle = rest; part = d.0; one = (d.1, d.2); stopped = tt; two = (refl, d.3) };
  unique = λ tokens middle middle' part part' d d' s s'. let e : part ∷ middle ≡ part' ∷ middle' = sym d.0 ∙ d'.0 in ((cc), (cc));
  same_first = λ token xs ys s. tt;
  ending = λ part. [];
  finished = λ part. known;
  some = λ part others. (refl, refl);
}

-- a sign, and then what no chain is
prefixed_cut : {op : UnaryOp} {first : Token} {tokens rest all : List Token} {tree : Expr} → SpellsExpr 0 all rest tree → all ≡ first ∷ tokens → first.kind ≡ kind.Mark (prefix_mark op) → Stops 0 rest
    → Cut (SpellsExpr 0) (Stops 0) (λ inner. Returns (expr first.at (node.Unary op inner))) tokens rest tree
prefixed_cut {op = op} {first = first} {tokens = tokens} {rest = rest} (prefixed {op = p} {tokens = w} {e = x} k d) e same s = let alike : p ≡ op = prefix_mark-same p op (cc) in let at_tokens : w ≡
    tokens = cc in let on : List Token → Type 0 = λ y. SpellsExpr 0 y rest x in record { middle = rest; part = x; one = subst on at_tokens d; stopped = s; two = (refl, (cc alike)) }
prefixed_cut {op = op} {first = first} {tokens = tokens} {rest = rest} (number {n = m} k) e same s = absurd (cc)
prefixed_cut {op = op} {first = first} {tokens = tokens} {rest = rest} (truth {b = b} k) e same s = absurd (cc)
prefixed_cut {op = op} {first = first} {tokens = tokens} {rest = rest} (named {name = v} k) e same s = absurd (cc)
prefixed_cut {op = op} {first = first} {tokens = tokens} {rest = rest} (indexed {opening = z} {closing = q} {tokens = w} {name = v} {index = x} k o d c) e same s = absurd (cc)
prefixed_cut {op = op} {first = first} {tokens = tokens} {rest = rest} (called {opening = z} {closing = q} {tokens = w} {name = v} {args = x} k o d c) e same s = absurd (cc)
prefixed_cut {op = op} {first = first} {tokens = tokens} {rest = rest} (paren {closing = q} {tokens = w} {e = x} k d c) e same s = absurd (prefix_mark-open op (cc))

pub prefixed_rule : (op : UnaryOp) (first : Token) → first.kind ≡ kind.Mark (prefix_mark op)
    → Sequence (SpellsExpr 0) (Stops 0) (λ inner. Returns (expr first.at (node.Unary op inner))) (behind first (SpellsExpr 0)) (Stops 0)
prefixed_rule op first same = record {
  join = λ tokens middle rest part tree d r.
      let on : List Token → Type 0 = λ x. SpellsExpr 0 x rest part in
      let as_tree : Expr → Type 0 = λ x. SpellsExpr 0 (first ∷ tokens) rest x in
      let to : List Token → Type 0 = λ x. SpellsExpr 0 tokens x part in
      subst as_tree (sym r.1) (prefixed same (subst to r.0 d));
  cut = λ tokens rest tree d s. prefixed_cut d refl same s;
  unique = unique_expr 0;
  same_first = stops_same 0;
  ending = λ part. [];
  finished = λ part. expr first.at (node.Unary op part);
  some = λ part others. (refl, refl);
}

-- a parenthesis, and then an expression and the other one
paren_cut : {first : Token} {tokens rest all : List Token} {tree : Expr} → SpellsExpr 0 all rest tree → all ≡ first ∷ tokens → first.kind ≡ kind.Mark mark.OpenParen → Stops 0 rest
    → Cut (SpellsExpr whole) (Stops whole) (λ inner. Closes mark.CloseParen (expr first.at (node.Paren inner))) tokens rest tree
paren_cut {first = first} {tokens = tokens} {rest = rest} (prefixed {op = p} {tokens = w} {e = x} k d) e same s = absurd (prefix_mark-open p (cc))
paren_cut {first = first} {tokens = tokens} {rest = rest} (number {n = m} k) e same s = absurd (cc)
paren_cut {first = first} {tokens = tokens} {rest = rest} (truth {b = b} k) e same s = absurd (cc)
paren_cut {first = first} {tokens = tokens} {rest = rest} (named {name = v} k) e same s = absurd (cc)
paren_cut {first = first} {tokens = tokens} {rest = rest} (indexed {opening = z} {closing = q} {tokens = w} {name = v} {index = x} k o d c) e same s = absurd (cc)
paren_cut {first = first} {tokens = tokens} {rest = rest} (called {opening = z} {closing = q} {tokens = w} {name = v} {args = x} k o d c) e same s = absurd (cc)
paren_cut {first = first} {tokens = tokens} {rest = rest} (paren {closing = q} {tokens = w} {e = x} k d c) e same s = let at_tokens : w ≡ tokens = cc in let on : List Token
    → Type 0 = λ y. SpellsExpr whole y (q ∷ rest) x in record { middle = q ∷ rest; part = x; one = subst on at_tokens d; stopped = stops_at c refl (λ h. cc) (λ h. cc); two = (q, refl, c, (cc)) }

pub paren_rule : (first : Token) → first.kind ≡ kind.Mark mark.OpenParen → Sequence (SpellsExpr whole) (Stops whole) (λ inner. Closes mark.CloseParen (expr first.at (node.Paren inner)))
    (behind first (SpellsExpr 0)) (Stops 0)
paren_rule first same = record {
  join = λ tokens middle rest part tree d r.
      let as_tree : Expr → Type 0 = λ x. SpellsExpr 0 (first ∷ tokens) rest x in
      let to : List Token → Type 0 = λ x. SpellsExpr whole tokens x part in
      subst as_tree (sym r.3) (paren same (subst to r.1 d) r.2);
  cut = λ tokens rest tree d s. paren_cut d refl same s;
  unique = unique_expr whole;
  same_first = stops_same whole;
  ending = λ part. some_token (kind.Mark mark.CloseParen) ∷ [];
  finished = λ part. expr first.at (node.Paren part);
  some = λ part others. (some_token (kind.Mark mark.CloseParen), refl, refl, refl);
}

-- a number
number_cut : {n : ℤ} {first : Token} {tokens rest all : List Token} {tree : Expr} → SpellsExpr 0 all rest tree → all ≡ first ∷ tokens → first.kind ≡ kind.Number n → Stops 0 rest
    → (tokens ≡ rest) × (tree ≡ expr first.at (node.Number n))
number_cut (prefixed {op = p} {tokens = w} {e = x} k d) e same s = absurd (cc)
number_cut (number {n = m} k) e same s = ((cc), (cc))
number_cut (truth {b = b} k) e same s = absurd (cc)
number_cut (named {name = v} k) e same s = absurd (cc)
number_cut (indexed {opening = z} {closing = q} {tokens = w} {name = v} {index = x} k o d c) e same s = absurd (cc)
number_cut (called {opening = z} {closing = q} {tokens = w} {name = v} {args = x} k o d c) e same s = absurd (cc)
number_cut (paren {closing = q} {tokens = w} {e = x} k d c) e same s = absurd (cc)

pub number_rule : (n : ℤ) (first : Token) → first.kind ≡ kind.Number n → Same (Returns (expr first.at (node.Number n))) (behind first (SpellsExpr 0)) (Stops 0)
number_rule n first same = record {
  there = λ tokens rest tree r.
      let as_tree : Expr → Type 0 = λ x. SpellsExpr 0 (first ∷ tokens) rest x in
      let to : List Token → Type 0 = λ x. SpellsExpr 0 (first ∷ tokens) x (expr first.at (node.Number n)) in
      subst as_tree (sym r.1) (subst to r.0 (number same));
  back = λ tokens rest tree d s. number_cut d refl same s;
}

-- a truth value
truth_cut : {b : Bool} {first : Token} {tokens rest all : List Token} {tree : Expr} → SpellsExpr 0 all rest tree → all ≡ first ∷ tokens → first.kind ≡ kind.Word (truth_word b) → Stops 0 rest
    → (tokens ≡ rest) × (tree ≡ expr first.at (node.Truth b))
truth_cut {b = u} (prefixed {op = p} {tokens = w} {e = x} k d) e same s = absurd (cc)
truth_cut {b = u} (number {n = m} k) e same s = absurd (cc)
truth_cut {b = u} (truth {b = b} k) e same s = let alike : b ≡ u = truth_word-same b u (cc) in ((cc), (cc alike))
truth_cut {b = u} (named {name = v} k) e same s = absurd (cc)
truth_cut {b = u} (indexed {opening = z} {closing = q} {tokens = w} {name = v} {index = x} k o d c) e same s = absurd (cc)
truth_cut {b = u} (called {opening = z} {closing = q} {tokens = w} {name = v} {args = x} k o d c) e same s = absurd (cc)
truth_cut {b = u} (paren {closing = q} {tokens = w} {e = x} k d c) e same s = absurd (cc)

pub truth_rule : (b : Bool) (first : Token) → first.kind ≡ kind.Word (truth_word b) → Same (Returns (expr first.at (node.Truth b))) (behind first (SpellsExpr 0)) (Stops 0)
truth_rule b first same = record {
  there = λ tokens rest tree r.
      let as_tree : Expr → Type 0 = λ x. SpellsExpr 0 (first ∷ tokens) rest x in
      let to : List Token → Type 0 = λ x. SpellsExpr 0 (first ∷ tokens) x (expr first.at (node.Truth b)) in
      subst as_tree (sym r.1) (subst to r.0 (truth same));
  back = λ tokens rest tree d s. truth_cut d refl same s;
}

-- a name by itself
pub named_found : (name : Name) (first : Token) (tokens : List Token) → first.kind ≡ kind.Named name → Stops 0 tokens → IsEnded tokens
    → Found (behind first (SpellsExpr 0)) (Stops 0) tokens tokens (expr first.at (node.Read (place name None)))
named_found name first tokens same s ended = record {
  read = [];
  split = refl;
  spelled = λ others. named same;
  stopped = s;
  ended = ended;
}

-- a name and a bracket, and then an index and the other bracket
indexed_cut : {v' : Name} {first bracket : Token} {tokens rest all : List Token} {tree : Expr} → SpellsExpr 0 all rest tree → all ≡ first ∷ bracket ∷ tokens → first.kind ≡ kind.Named v'
    → bracket.kind ≡ kind.Mark mark.OpenBracket → Stops 0 rest → Cut (SpellsExpr whole) (Stops whole) (λ index. Closes mark.CloseBracket (expr first.at (node.Read (place v' (Some index))))) tokens
    rest tree
indexed_cut {v' = v'} {first = first} {bracket = bracket} {tokens = tokens} {rest = rest} (prefixed k d) e same here s = absurd (cc)
indexed_cut {v' = v'} {first = first} {bracket = bracket} {tokens = tokens} {rest = rest} (number k) e same here s = absurd (cc)
indexed_cut {v' = v'} {first = first} {bracket = bracket} {tokens = tokens} {rest = rest} (truth k) e same here s = absurd (cc)
indexed_cut {v' = v'} {first = first} {bracket = bracket} {tokens = tokens} {rest = rest} (named {rest = r} k) e same here s = let follows : r ≡ bracket ∷ tokens = cc in absurd
    (begins_clash _ s.no_index follows here)
indexed_cut {v' = v'} {first = first} {bracket = bracket} {tokens = tokens} {rest = rest} (indexed {opening = z} {closing = q} {tokens = w} {name = v} {index = x} k o d c) e same here s = let
    at_tokens : w ≡ tokens = cc in let on : List Token → Type 0 = λ y. SpellsExpr whole y (q ∷ rest) x in record
    { middle = q ∷ rest; part = x; one = subst on at_tokens d; stopped = stops_at c refl (λ h. cc) (λ h. cc); two = (q, refl, c, (cc)) }
indexed_cut {v' = v'} {first = first} {bracket = bracket} {tokens = tokens} {rest = rest} (called {opening = z} {closing = q} {tokens = w} {name = v} {args = x} k o d c) e same here s = absurd (cc)
indexed_cut {v' = v'} {first = first} {bracket = bracket} {tokens = tokens} {rest = rest} (paren k d c) e same here s = absurd (cc)

pub indexed_rule : (name : Name) (first bracket : Token) → first.kind ≡ kind.Named name → bracket.kind ≡ kind.Mark mark.OpenBracket
    → Sequence (SpellsExpr whole) (Stops whole) (λ index. Closes mark.CloseBracket (expr first.at (node.Read (place name (Some index))))) (behind bracket (behind first (SpellsExpr 0))) (Stops 0)
indexed_rule name first bracket same here = record {
  join = λ tokens middle rest part tree d r.
      let as_tree : Expr → Type 0 = λ x. SpellsExpr 0 (first ∷ bracket ∷ tokens) rest x in
      let to : List Token → Type 0 = λ x. SpellsExpr whole tokens x part in
      subst as_tree (sym r.3) (indexed same here (subst to r.1 d) r.2);
  cut = λ tokens rest tree d s. indexed_cut d refl same here s;
  unique = unique_expr whole;
  same_first = stops_same whole;
  ending = λ part. some_token (kind.Mark mark.CloseBracket) ∷ [];
  finished = λ part. expr first.at (node.Read (place name (Some part)));
  some = λ part others. (some_token (kind.Mark mark.CloseBracket), refl, refl, refl);
}

-- a name and a parenthesis, and then the arguments with the other one
called_cut : {v' : Name} {first bracket : Token} {tokens rest all : List Token} {tree : Expr} → SpellsExpr 0 all rest tree → all ≡ first ∷ bracket ∷ tokens → first.kind ≡ kind.Named v'
    → bracket.kind ≡ kind.Mark mark.OpenParen → Stops 0 rest → Cut SpellsClosed stops_anywhere (λ args. Returns (expr first.at (node.CallOf (call v' args)))) tokens rest tree
called_cut {v' = v'} {first = first} {bracket = bracket} {tokens = tokens} {rest = rest} (prefixed k d) e same here s = absurd (cc)
called_cut {v' = v'} {first = first} {bracket = bracket} {tokens = tokens} {rest = rest} (number k) e same here s = absurd (cc)
called_cut {v' = v'} {first = first} {bracket = bracket} {tokens = tokens} {rest = rest} (truth k) e same here s = absurd (cc)
called_cut {v' = v'} {first = first} {bracket = bracket} {tokens = tokens} {rest = rest} (named {rest = r} k) e same here s = let follows : r ≡ bracket ∷ tokens = cc in absurd
    (begins_clash _ s.no_call follows here)
called_cut {v' = v'} {first = first} {bracket = bracket} {tokens = tokens} {rest = rest} (indexed {opening = z} {closing = q} {tokens = w} {name = v} {index = x} k o d c) e same here s = absurd (cc)
called_cut {v' = v'} {first = first} {bracket = bracket} {tokens = tokens} {rest = rest} (called {opening = z} {closing = q} {tokens = w} {name = v} {args = x} k o d c) e same here s = let
    at_tokens : w ≡ tokens = cc in let on : List Token → Type 0 = λ y. SpellsArguments y (q ∷ rest) x in record
    { middle = rest; part = x; one = (q, subst on at_tokens d, c); stopped = tt; two = (refl, (cc)) }
called_cut {v' = v'} {first = first} {bracket = bracket} {tokens = tokens} {rest = rest} (paren k d c) e same here s = absurd (cc)

tail_same : {x y : Token} {xs ys : List Token} → x ∷ xs ≡ y ∷ ys → xs ≡ ys
tail_same e = cc

pub unique_closed : (tokens middle middle' : List Token) (args args' : List Expr) → SpellsClosed tokens middle args → SpellsClosed tokens middle' args' → stops_anywhere middle → stops_anywhere middle'
    → (middle ≡ middle') × (args ≡ args')
unique_closed tokens middle middle' args args' d d' s s' =
    let both : (d.0 ∷ middle ≡ d'.0 ∷ middle') × (args ≡ args') = unique_arguments d.1 d'.1 refl refl refl d.2 d'.2 in
    (tail_same both.0, both.1)

pub called_rule : (name : Name) (first bracket : Token) → first.kind ≡ kind.Named name → bracket.kind ≡ kind.Mark mark.OpenParen
    → Sequence SpellsClosed stops_anywhere (λ args. Returns (expr first.at (node.CallOf (call name args)))) (behind bracket (behind first (SpellsExpr 0))) (Stops 0)
called_rule name first bracket same here = record {
  join = λ tokens middle rest part tree d r.
      let as_tree : Expr → Type 0 = λ x. SpellsExpr 0 (first ∷ bracket ∷ tokens) rest x in
      let to : List Token → Type 0 = λ x. SpellsArguments tokens (d.0 ∷ x) part in
      subst as_tree (sym r.1) (called same here (subst to r.0 d.1) d.2);
  cut = λ tokens rest tree d s. called_cut d refl same here s;
  unique = unique_closed;
  same_first = λ token xs ys s. tt;
  ending = λ part. [];
  finished = λ part. expr first.at (node.CallOf (call name part));
  some = λ part others. (refl, refl);
}

-- no bracket comes next
stops_first : (next : Token) (rest : List Token) → (next.kind ≡ kind.Mark mark.OpenBracket → ⊥) → (next.kind ≡ kind.Mark mark.OpenParen → ⊥) → Stops 0 (next ∷ rest)
stops_first next rest bracket round = record {
  no_index = bracket;
  no_call = round;
  no_operator = λ op h same. let least : suc zero ≤ level_of op = level_of-positive op in absurd (omega arith);
}

pub stops_here : (tokens : List Token) (next : Token) (rest : List Token) → tokens ≡ next ∷ rest → (next.kind ≡ kind.Mark mark.OpenBracket → ⊥) → (next.kind ≡ kind.Mark mark.OpenParen → ⊥)
    → Stops 0 tokens
stops_here tokens next rest split bracket round = subst (λ (x : List Token). Stops 0 x) (sym split) (stops_first next rest bracket round)
