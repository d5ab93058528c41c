-- An expression's tokens are those of its tree.
use Rattle.std.proofs.Common.{◌≡◌, ℕ, List, [], ◌∷◌, ◌++◌, refl, sym, ap, ◌∙◌, append_assoc}
use Rattle.csl_tree.specs.declared.token.Token.{Token}
use Rattle.csl_tree.specs.declared.token.TokenKind.{TokenKind}
use Rattle.csl_tree.specs.declared.token.Mark.TheVariants.{Comma}
use Rattle.csl_tree.specs.declared.program.BinaryOp.{BinaryOp}
use Rattle.csl_tree.specs.declared.program.Expr.{Expr}
use Rattle.csl_grammar.specs.Expressions.{SpellsExpr, chain, prefixed, number, truth, named, indexed, called, paren, SpellsChain, ends, goes_on, SpellsArguments, nothing, something, SpellsMore}
use Rattle.csl_grammar.specs.Expressions.{no_more, more, binary, mark_of}
use Rattle.csl_print.specs.TreeTokens.{mark, expr_tokens, separated, further}
use Rattle.csl_print.proofs.Leads.{leads_none, leads_one, leads_then, leads_as, Reduced, keeps, Normal}
use Rattle.csl_print.proofs.Trees.{tokens_unary, tokens_binary, tokens_paren, place_name, place_element, call_is}

-- the tokens of a chain behind its first operand
pub record Chained (level : ℕ) (ts rest : List Token) (left e : Expr) : Type 0 where
  pub kinds : List TokenKind
  pub is : expr_tokens e ≡ expr_tokens left ++ kinds
  pub normal : Normal (SpellsChain level left) ts rest e kinds

longer : (op : BinaryOp) (left right e : Expr) (ks : List TokenKind) → expr_tokens e ≡ expr_tokens (binary op left right) ++ ks
    → expr_tokens e ≡ expr_tokens left ++ (mark (mark_of op) ++ expr_tokens right ++ ks)
longer op left right e ks is = is ∙ ap (λ x. x ++ ks) (tokens_binary _ op left right refl) ∙ simp append_assoc

append_none : {X : Type 0} (xs : List X) → xs ≡ xs ++ []
append_none [] = refl
append_none (x ∷ xs) = ap (λ r. x ∷ r) (append_none xs)

mutual
  pub normal_expr : {level : ℕ} {ts rest : List Token} {e : Expr} → SpellsExpr level ts rest e → (rest' : List Token) → Reduced rest rest' → Normal (SpellsExpr level) ts rest' e (expr_tokens e)
  normal_expr (chain d c) rest' r =
      let behind : Chained _ _ rest' _ _ = normal_chain c rest' r in
      let first : Normal _ _ behind.normal.tokens _ _ = normal_expr d behind.normal.tokens behind.normal.reduced in
      record { tokens = first.tokens; reduced = first.reduced; spelled = chain first.spelled behind.normal.spelled; leads = leads_as (sym behind.is) (leads_then first.leads behind.normal.leads) }
  normal_expr (prefixed {op = op} {sign = sign} {e = e} s d) rest' r =
      let n : Normal _ _ rest' _ _ = normal_expr d rest' r in
      record { tokens = sign ∷ n.tokens; reduced = keeps sign n.reduced; spelled = prefixed s n.spelled; leads = leads_as (sym (tokens_unary _ op e refl)) (leads_then (leads_one s) n.leads) }
  normal_expr (number {token = token} s) rest' r = record { tokens = token ∷ rest'; reduced = keeps token r; spelled = number s; leads = leads_one s }
  normal_expr (truth {token = token} s) rest' r = record { tokens = token ∷ rest'; reduced = keeps token r; spelled = truth s; leads = leads_one s }
  normal_expr (named {token = token} {name = name} s) rest' r = record { tokens = token ∷ rest'; reduced = keeps token r; spelled = named s; leads = leads_as (sym (place_name name)) (leads_one s) }
  normal_expr (indexed {token = token} {opening = opening} {closing = closing} {name = name} {index = i} s o d c) rest' r =
      let n : Normal _ _ (closing ∷ rest') _ _ = normal_expr d (closing ∷ rest') (keeps closing r) in
      record { tokens = token ∷ opening ∷ n.tokens; reduced = keeps token (keeps opening n.reduced); spelled = indexed s o n.spelled c; leads = leads_as (sym (place_element name i)) (leads_then (leads_then (leads_then (leads_one s) (leads_one o)) n.leads) (leads_one c)) }
  normal_expr (called {token = token} {opening = opening} {closing = closing} {name = name} {args = args} s o d c) rest' r =
      let n : Normal _ _ (closing ∷ rest') _ _ = normal_arguments d (closing ∷ rest') (keeps closing r) in
      record { tokens = token ∷ opening ∷ n.tokens; reduced = keeps token (keeps opening n.reduced); spelled = called s o n.spelled c; leads = leads_as (sym (call_is name args)) (leads_then (leads_one s) (leads_then (leads_then (leads_one o) n.leads) (leads_one c))) }
  normal_expr (paren {opening = opening} {closing = closing} {e = e} s d c) rest' r =
      let n : Normal _ _ (closing ∷ rest') _ _ = normal_expr d (closing ∷ rest') (keeps closing r) in
      record { tokens = opening ∷ n.tokens; reduced = keeps opening n.reduced; spelled = paren s n.spelled c; leads = leads_as (sym (tokens_paren _ e refl)) (leads_then (leads_then (leads_one s) n.leads) (leads_one c)) }

  normal_chain : {level : ℕ} {ts rest : List Token} {left e : Expr} → SpellsChain level left ts rest e → (rest' : List Token) → Reduced rest rest' → Chained level ts rest' left e
  normal_chain (ends {e = e}) rest' r = record { kinds = []; is = append_none (expr_tokens e); normal = record { tokens = rest'; reduced = r; spelled = ends; leads = leads_none rest' } }
  normal_chain (goes_on {op = op} {sign = sign} {left = left} {right = right} {e = e} l s d c) rest' r =
      let behind : Chained _ _ rest' _ _ = normal_chain c rest' r in
      let n : Normal _ _ behind.normal.tokens _ _ = normal_expr d behind.normal.tokens behind.normal.reduced in
      record {
        kinds = mark (mark_of op) ++ expr_tokens right ++ behind.kinds;
        is = longer op left right e behind.kinds behind.is;
        normal = record { tokens = sign ∷ n.tokens; reduced = keeps sign n.reduced; spelled = goes_on l s n.spelled behind.normal.spelled; leads = leads_then (leads_then (leads_one s) n.leads) behind.normal.leads };
      }

  pub normal_arguments : {ts rest : List Token} {es : List Expr} → SpellsArguments ts rest es → (rest' : List Token) → Reduced rest rest'
      → Normal SpellsArguments ts rest' es (separated expr_tokens es)
  normal_arguments nothing rest' r = record { tokens = rest'; reduced = r; spelled = nothing; leads = leads_none rest' }
  normal_arguments (something d m) rest' r =
      let others : Normal _ _ rest' _ _ = normal_more m rest' r in
      let n : Normal _ _ others.tokens _ _ = normal_expr d others.tokens others.reduced in
      record { tokens = n.tokens; reduced = n.reduced; spelled = something n.spelled others.spelled; leads = leads_then n.leads others.leads }

  normal_more : {ts rest : List Token} {es : List Expr} → SpellsMore ts rest es → (rest' : List Token) → Reduced rest rest' → Normal SpellsMore ts rest' es (further (mark Comma) expr_tokens es)
  normal_more no_more rest' r = record { tokens = rest'; reduced = r; spelled = no_more; leads = leads_none rest' }
  normal_more (more {comma = comma} k d m) rest' r =
      let others : Normal _ _ rest' _ _ = normal_more m rest' r in
      let n : Normal _ _ others.tokens _ _ = normal_expr d others.tokens others.reduced in
      record { tokens = comma ∷ n.tokens; reduced = keeps comma n.reduced; spelled = more k n.spelled others.spelled; leads = leads_then (leads_then (leads_one k) n.leads) others.leads }
