use Rattle.std.proofs.Common.{rules, ap, arith, List, length}
use Rattle.csl_tree.specs.declared.token.Token.{Token}
use Rattle.expression_parser.proofs.Then.{size_found, size_refused}
use mir.Val.{SFits}
use mir.Syntax.{w64}
use Rattle.std.proofs.lemmas.Int.{to_z-of_z}
use Rattle.expression_parser.proofs.tokens.expect_number.Goals as goal

pub returns-in-Some : goal.returns-in-Some
returns-in-Some c =
    let fits : SFits w64 c.in-Some.number = search rules in
    record {
      answer = rw (to_z-of_z w64 c.in-Some.number fits) (size_found c.args.tokens.now _ _ _ c.requires c.front.ensures (cc (c.number.ensures, c.in-Some.is)));
      shorter = omega (arith, ap (λ (x : List Token). length x) c.front.ensures);
    }

pub returns-in-None : goal.returns-in-None
returns-in-None c = record { answer = size_refused c.args.tokens.now _ _ c.front.ensures (cc (c.number.ensures, c.in-None.is)); shorter = tt }
