use Rattle.std.proofs.Common.{ap, arith, List, length}
use Rattle.csl_tree.specs.declared.token.Token.{Token}
use Rattle.expression_parser.proofs.Then.{name_found, name_refused}
use Rattle.expression_parser.proofs.tokens.expect_name.Goals as goal

pub returns-in-Named : goal.returns-in-Named
returns-in-Named c = record { answer = name_found c.args.tokens.now _ _ _ c.requires c.front.ensures c.in-Named.is; shorter = omega (arith, ap (λ (x : List Token). length x) c.front.ensures) }

pub returns-in_default : goal.returns-in_default
returns-in_default c = record { answer = name_refused c.args.tokens.now _ _ c.front.ensures c.in_default.not-Named; shorter = tt }
