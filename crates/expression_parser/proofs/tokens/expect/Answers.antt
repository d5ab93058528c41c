use Rattle.std.proofs.Common.{refl, ap, arith, List, length}
use Rattle.csl_tree.specs.declared.token.Token.{Token}
use Rattle.csl_tree.specs.declared.token.TokenKind.TheVariants as kind
use Rattle.expression_parser.proofs.Single.{token_found, token_refused}
use Rattle.expression_parser.proofs.tokens.expect.Goals as goal

pub returns-then-is_mark : goal.returns-then-is_mark
returns-then-is_mark c = record {
  answer = token_found (kind.Mark c.args.mark) c.args.tokens.now _ _ c.requires c.front.ensures (c.if-is_mark.ensures.0 refl) (λ h. cc);
  shorter = omega (arith, ap (λ (x : List Token). length x) c.front.ensures);
}

pub returns-else-is_mark : goal.returns-else-is_mark
returns-else-is_mark c = record {
  answer = token_refused (kind.Mark c.args.mark) c.args.tokens.now _ _ c.front.ensures (λ h. cc (c.if-is_mark.ensures.1 h));
  shorter = tt;
}
