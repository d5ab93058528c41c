use Rattle.std.proofs.Common.{refl, ap, arith, List, length}
use Rattle.csl_tree.specs.declared.token.Token.{Token}
use Rattle.csl_tree.specs.declared.token.TokenKind.TheVariants as kind
use Rattle.expression_parser.proofs.Single.{token_found, token_refused}
use Rattle.expression_parser.proofs.tokens.expect_word.Goals as goal

pub returns-then-is_word : goal.returns-then-is_word
returns-then-is_word c = record {
  answer = token_found (kind.Word c.args.word) c.args.tokens.now _ _ c.requires c.front.ensures (c.if-is_word.ensures.0 refl) (λ h. cc);
  shorter = omega (arith, ap (λ (x : List Token). length x) c.front.ensures);
}

pub returns-else-is_word : goal.returns-else-is_word
returns-else-is_word c = record {
  answer = token_refused (kind.Word c.args.word) c.args.tokens.now _ _ c.front.ensures (λ h. cc (c.if-is_word.ensures.1 h));
  shorter = tt;
}
