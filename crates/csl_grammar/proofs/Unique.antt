-- What stands at the front of a token list is one tree and one rest, where the rest cannot go on with it.
use Rattle.std.proofs.Common.{◌≡◌, ◌≤◌, ℕ, zero, suc, Bool, true, false, List, [], ◌∷◌, Some, None, refl, ap, sym, ◌∙◌, subst, arith}
use Rattle.csl_tree.specs.declared.token.Token.{Token}
use Rattle.csl_tree.specs.declared.token.TokenKind.{TokenKind}
use Rattle.csl_tree.specs.declared.token.TokenKind.TheVariants as kind
use Rattle.csl_tree.specs.declared.token.Mark.{Mark}
use Rattle.csl_tree.specs.declared.token.Mark.TheVariants as mark
use Rattle.csl_tree.specs.declared.program.UnaryOp.{UnaryOp}
use Rattle.csl_tree.specs.declared.program.UnaryOp.TheVariants as unary_op
use Rattle.csl_tree.specs.declared.program.BinaryOp.{BinaryOp}
use Rattle.csl_tree.specs.declared.program.BinaryOp.TheVariants as binary_op
use Rattle.csl_tree.specs.declared.program.Expr.{Expr}
use Rattle.csl_grammar.specs.Expressions.{SpellsExpr, SpellsChain, SpellsArguments, SpellsMore, chain, prefixed, number, truth, named, indexed, called, paren, ends, goes_on, nothing, something}
use Rattle.csl_grammar.specs.Expressions.{no_more, more, level_of, mark_of, prefix_mark, truth_word, whole}
use Rattle.csl_grammar.specs.Stops.{BeginsOtherThan, Stops, operator_of}

pub operator_of-mark_of : (op : BinaryOp) → operator_of (mark_of op) ≡ Some op
operator_of-mark_of binary_op.Mul = refl
operator_of-mark_of binary_op.Div = refl
operator_of-mark_of binary_op.Rem = refl
operator_of-mark_of binary_op.Add = refl
operator_of-mark_of binary_op.Sub = refl
operator_of-mark_of binary_op.Lt = refl
operator_of-mark_of binary_op.Le = refl
operator_of-mark_of binary_op.Gt = refl
operator_of-mark_of binary_op.Ge = refl
operator_of-mark_of binary_op.Eq = refl
operator_of-mark_of binary_op.Ne = refl
operator_of-mark_of binary_op.And = refl
operator_of-mark_of binary_op.Or = refl

pub mark_of-same : (a b : BinaryOp) → mark_of a ≡ mark_of b → a ≡ b
mark_of-same a b e = some_same (sym (operator_of-mark_of a) ∙ ap operator_of e ∙ operator_of-mark_of b)
  where
    some_same : {x y : BinaryOp} → Some x ≡ Some y → x ≡ y
    some_same e = cc

-- a mark that is no operator's stands before no operand
pub no_operator_mark : (m : Mark) → operator_of m ≡ None → (op : BinaryOp) → m ≡ mark_of op → ⊥
no_operator_mark m none op e = let h : Some op ≡ None = sym (operator_of-mark_of op) ∙ ap operator_of (sym e) ∙ none in cc

pub level_of-positive : (op : BinaryOp) → suc zero ≤ level_of op
level_of-positive binary_op.Mul = omega arith
level_of-positive binary_op.Div = omega arith
level_of-positive binary_op.Rem = omega arith
level_of-positive binary_op.Add = omega arith
level_of-positive binary_op.Sub = omega arith
level_of-positive binary_op.Lt = omega arith
level_of-positive binary_op.Le = omega arith
level_of-positive binary_op.Gt = omega arith
level_of-positive binary_op.Ge = omega arith
level_of-positive binary_op.Eq = omega arith
level_of-positive binary_op.Ne = omega arith
level_of-positive binary_op.And = omega arith
level_of-positive binary_op.Or = omega arith

pub prefix_mark-same : (a b : UnaryOp) → prefix_mark a ≡ prefix_mark b → a ≡ b
prefix_mark-same unary_op.Neg unary_op.Neg e = refl
prefix_mark-same unary_op.Neg unary_op.Not e = cc
prefix_mark-same unary_op.Not unary_op.Neg e = cc
prefix_mark-same unary_op.Not unary_op.Not e = refl

pub prefix_mark-open : (op : UnaryOp) → prefix_mark op ≡ mark.OpenParen → ⊥
prefix_mark-open unary_op.Neg e = cc
prefix_mark-open unary_op.Not e = cc

pub truth_word-same : (a b : Bool) → truth_word a ≡ truth_word b → a ≡ b
truth_word-same true true e = refl
truth_word-same true false e = cc
truth_word-same false true e = cc
truth_word-same false false e = refl

pub begins_clash : {k : TokenKind} (rest : List Token) {first : Token} {ts : List Token} → BeginsOtherThan k rest → rest ≡ first ∷ ts → first.kind ≡ k → ⊥
begins_clash [] h e same = cc
begins_clash (x ∷ xs) h e same = h (cc)

-- tokens with which no expression goes on
pub stops_at : {level : ℕ} {m : Mark} {first : Token} {ts : List Token} → first.kind ≡ kind.Mark m → operator_of m ≡ None → (m ≡ mark.OpenBracket → ⊥) → (m ≡ mark.OpenParen → ⊥)
    → Stops level (first ∷ ts)
stops_at {m = m} e none bracket round = record {
  no_index = λ same. bracket (cc);
  no_call = λ same. round (cc);
  no_operator = λ op h same. no_operator_mark m none op (cc);
}

pub stops_below : {level : ℕ} {rest : List Token} → Stops (suc level) rest → Stops level rest
stops_below s = record {
  no_index = s.no_index;
  no_call = s.no_call;
  no_operator = λ op h. s.no_operator op (omega arith);
}

-- in front of a chain an operand of the level below has come to its end
pub chain_stops : {level : ℕ} {left e : Expr} {ts rest : List Token} → SpellsChain level left ts rest e → Stops (suc level) rest → Stops level ts
chain_stops ends s = stops_below s
chain_stops (goes_on {op = op} here sign d c) s = record {
  no_index = λ same. no_operator_mark mark.OpenBracket refl op (cc);
  no_call = λ same. no_operator_mark mark.OpenParen refl op (cc);
  no_operator = λ other h same. let two : mark_of op ≡ mark_of other = cc in let one : level_of op ≡ level_of other = ap level_of (mark_of-same op other two) in absurd (omega arith);
}

pub more_stops : {ts rest : List Token} {es : List Expr} {first : Token} {behind : List Token} → SpellsMore ts rest es → rest ≡ first ∷ behind → first.kind ≡ kind.Mark mark.CloseParen → Stops whole ts
more_stops {rest = rest} no_more e same = subst (λ (x : List Token). Stops whole x) (sym e) (stops_at same refl (λ h. cc) (λ h. cc))
more_stops (more comma d m) e same = stops_at comma refl (λ h. cc) (λ h. cc)

-- no expression begins with a closing parenthesis
pub not_closing : {level : ℕ} {ts rest behind : List Token} {t : Expr} {closing : Token} → SpellsExpr level ts rest t → ts ≡ closing ∷ behind → closing.kind ≡ kind.Mark mark.CloseParen → ⊥
not_closing (chain d c) e close = not_closing d e close
not_closing (prefixed {op = p} k d) e close = prefix_mark-close p (cc)
  where
    prefix_mark-close : (op : UnaryOp) → prefix_mark op ≡ mark.CloseParen → ⊥
    prefix_mark-close unary_op.Neg e = cc
    prefix_mark-close unary_op.Not e = cc
not_closing (number k) e close = cc
not_closing (truth k) e close = cc
not_closing (named k) e close = cc
not_closing (indexed k o d c) e close = cc
not_closing (called k o d c) e close = cc
not_closing (paren k d c) e close = cc

mutual
  pub unique : {level : ℕ} {ts rest ts' rest' : List Token} {t t' : Expr} → SpellsExpr level ts rest t → SpellsExpr level ts' rest' t' → ts ≡ ts' → Stops level rest → Stops level rest'
      → (rest ≡ rest') × (t ≡ t')
  unique (chain d c) (chain d' c') e s s' =
      let both : _ × _ = unique d d' e (chain_stops c s) (chain_stops c' s') in
      unique_chain c c' both.1 both.0 s s'
  unique (prefixed {op = p} k d) (prefixed {op = p'} k' d') e s s' = let op : p ≡ p' = prefix_mark-same p p' (cc) in let both : _ × _ = unique d d' (cc) s s' in (both.0, (cc (op, both.1)))
  unique (prefixed {op = p} k d) (number k') e s s' = absurd (cc)
  unique (prefixed {op = p} k d) (truth {b = b'} k') e s s' = absurd (cc)
  unique (prefixed {op = p} k d) (named k') e s s' = absurd (cc)
  unique (prefixed {op = p} k d) (indexed k' o' d' c') e s s' = absurd (cc)
  unique (prefixed {op = p} k d) (called k' o' d' c') e s s' = absurd (cc)
  unique (prefixed {op = p} k d) (paren k' d' c') e s s' = absurd (prefix_mark-open p (cc))
  unique (number k) (prefixed {op = p'} k' d') e s s' = absurd (cc)
  unique (number k) (number k') e s s' = ((cc), (cc))
  unique (number k) (truth {b = b'} k') e s s' = absurd (cc)
  unique (number k) (named k') e s s' = absurd (cc)
  unique (number k) (indexed k' o' d' c') e s s' = absurd (cc)
  unique (number k) (called k' o' d' c') e s s' = absurd (cc)
  unique (number k) (paren k' d' c') e s s' = absurd (cc)
  unique (truth {b = b} k) (prefixed {op = p'} k' d') e s s' = absurd (cc)
  unique (truth {b = b} k) (number k') e s s' = absurd (cc)
  unique (truth {b = b} k) (truth {b = b'} k') e s s' = let same : b ≡ b' = truth_word-same b b' (cc) in ((cc), (cc same))
  unique (truth {b = b} k) (named k') e s s' = absurd (cc)
  unique (truth {b = b} k) (indexed k' o' d' c') e s s' = absurd (cc)
  unique (truth {b = b} k) (called k' o' d' c') e s s' = absurd (cc)
  unique (truth {b = b} k) (paren k' d' c') e s s' = absurd (cc)
  unique (named k) (prefixed {op = p'} k' d') e s s' = absurd (cc)
  unique (named k) (number k') e s s' = absurd (cc)
  unique (named k) (truth {b = b'} k') e s s' = absurd (cc)
  unique (named k) (named k') e s s' = ((cc), (cc))
  unique (named {rest = r} k) (indexed {opening = q'} {tokens = w'} k' o' d' c') e s s' = let same : r ≡ q' ∷ w' = cc in absurd (begins_clash _ s.no_index same o')
  unique (named {rest = r} k) (called {opening = q'} {tokens = w'} k' o' d' c') e s s' = let same : r ≡ q' ∷ w' = cc in absurd (begins_clash _ s.no_call same o')
  unique (named k) (paren k' d' c') e s s' = absurd (cc)
  unique (indexed k o d c) (prefixed {op = p'} k' d') e s s' = absurd (cc)
  unique (indexed k o d c) (number k') e s s' = absurd (cc)
  unique (indexed k o d c) (truth {b = b'} k') e s s' = absurd (cc)
  unique (indexed {opening = q} {tokens = w} k o d c) (named {rest = r'} k') e s s' = let same : r' ≡ q ∷ w = cc in absurd (begins_clash _ s'.no_index same o)
  unique (indexed k o d c) (indexed k' o' d' c') e s s' = let both : _ × _ = unique d d' (cc) (stops_at c refl (λ h. cc) (λ h. cc)) (stops_at c' refl (λ h. cc) (λ h. cc)) in ((cc both.0), (cc both.1))
  unique (indexed k o d c) (called k' o' d' c') e s s' = absurd (cc)
  unique (indexed k o d c) (paren k' d' c') e s s' = absurd (cc)
  unique (called k o d c) (prefixed {op = p'} k' d') e s s' = absurd (cc)
  unique (called k o d c) (number k') e s s' = absurd (cc)
  unique (called k o d c) (truth {b = b'} k') e s s' = absurd (cc)
  unique (called {opening = q} {tokens = w} k o d c) (named {rest = r'} k') e s s' = let same : r' ≡ q ∷ w = cc in absurd (begins_clash _ s'.no_call same o)
  unique (called k o d c) (indexed k' o' d' c') e s s' = absurd (cc)
  unique (called k o d c) (called k' o' d' c') e s s' = let both : _ × _ = unique_arguments d d' (cc) refl refl c c' in ((cc both.0), (cc both.1))
  unique (called k o d c) (paren k' d' c') e s s' = absurd (cc)
  unique (paren k d c) (prefixed {op = p'} k' d') e s s' = absurd (prefix_mark-open p' (cc))
  unique (paren k d c) (number k') e s s' = absurd (cc)
  unique (paren k d c) (truth {b = b'} k') e s s' = absurd (cc)
  unique (paren k d c) (named k') e s s' = absurd (cc)
  unique (paren k d c) (indexed k' o' d' c') e s s' = absurd (cc)
  unique (paren k d c) (called k' o' d' c') e s s' = absurd (cc)
  unique (paren k d c) (paren k' d' c') e s s' = let both : _ × _ = unique d d' (cc) (stops_at c refl (λ h. cc) (λ h. cc)) (stops_at c' refl (λ h. cc) (λ h. cc)) in ((cc both.0), (cc both.1))

  pub unique_chain : {level : ℕ} {left left' t t' : Expr} {ts rest ts' rest' : List Token} → SpellsChain level left ts rest t → SpellsChain level left' ts' rest' t' → left ≡ left' → ts ≡ ts'
      → Stops (suc level) rest → Stops (suc level) rest' → (rest ≡ rest') × (t ≡ t')
  unique_chain ends ends l e s s' = (e, l)
  unique_chain ends (goes_on {op = p'} here' sign' d' c') l e s s' = absurd (begins_clash _ (s.no_operator p' (omega arith)) e sign')
  unique_chain (goes_on {op = p} here sign d c) ends l e s s' = absurd (begins_clash _ (s'.no_operator p (omega arith)) (sym e) sign)
  unique_chain (goes_on {op = p} here sign d c) (goes_on {op = p'} here' sign' d' c') l e s s' =
      let op : p ≡ p' = mark_of-same p p' (cc) in
      let both : _ × _ = unique d d' (cc) (chain_stops c s) (chain_stops c' s') in
      unique_chain c c' (cc (l, op, both.1)) both.0 s s'

  pub unique_arguments : {ts rest ts' rest' behind behind' : List Token} {es es' : List Expr} {closing closing' : Token} → SpellsArguments ts rest es → SpellsArguments ts' rest' es' → ts ≡ ts'
      → rest ≡ closing ∷ behind → rest' ≡ closing' ∷ behind' → closing.kind ≡ kind.Mark mark.CloseParen → closing'.kind ≡ kind.Mark mark.CloseParen → (rest ≡ rest') × (es ≡ es')
  unique_arguments nothing nothing e r r' c c' = (e, refl)
  unique_arguments nothing (something d m) e r r' c c' = absurd (not_closing d (sym e ∙ r) c)
  unique_arguments (something d m) nothing e r r' c c' = absurd (not_closing d (e ∙ r') c')
  unique_arguments (something d m) (something d' m') e r r' c c' =
      let both : _ × _ = unique d d' e (more_stops m r c) (more_stops m' r' c') in
      let ends : _ × _ = unique_more m m' both.0 r r' c c' in
      (ends.0, (cc (both.1, ends.1)))

  pub unique_more : {ts rest ts' rest' behind behind' : List Token} {es es' : List Expr} {closing closing' : Token} → SpellsMore ts rest es → SpellsMore ts' rest' es' → ts ≡ ts'
      → rest ≡ closing ∷ behind → rest' ≡ closing' ∷ behind' → closing.kind ≡ kind.Mark mark.CloseParen → closing'.kind ≡ kind.Mark mark.CloseParen → (rest ≡ rest') × (es ≡ es')
  unique_more no_more no_more e r r' c c' = (e, refl)
  unique_more no_more (more comma d m) e r r' c c' = absurd (cc)
  unique_more (more comma d m) no_more e r r' c c' = absurd (cc)
  unique_more (more comma d m) (more comma' d' m') e r r' c c' =
      let both : _ × _ = unique d d' (cc) (more_stops m r c) (more_stops m' r' c') in
      let ends : _ × _ = unique_more m m' both.0 r r' c c' in
      (ends.0, (cc (both.1, ends.1)))
