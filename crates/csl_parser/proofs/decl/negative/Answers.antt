use Rattle.std.proofs.Common.{Some, ◌≡◌, rules}
use mir.Val.{SFits}
use mir.Syntax.{w64}
use Rattle.std.proofs.lemmas.Int.{to_z-of_z}
use Rattle.expression_parser.specs.Reading.{natural_of}
use Rattle.csl_parser.proofs.Declared as d
use Rattle.csl_parser.proofs.decl.negative.Goals as goal

pub returns-in-Some-clause-answer : goal.returns-in-Some-clause-answer
returns-in-Some-clause-answer c =
    let fits : SFits w64 c.in-Some.n = search rules in
    let found : natural_of c.front.result.0.now.kind ≡ Some c.in-Some.n = cc (c.natural.ensures, c.in-Some.is) in
    rw (to_z-of_z w64 c.in-Some.n fits, d.negated c.in-Some.n _ found fits) (d.negative_found c.args.sign.now c.args.tokens.now _ _ c.in-Some.n c.requires.sign c.requires.ended c.front.ensures found)

pub returns-in-None-clause-answer : goal.returns-in-None-clause-answer
returns-in-None-clause-answer c = d.negative_refused c.args.sign.now c.args.tokens.now _ _ c.requires.sign c.front.ensures (cc (c.natural.ensures, c.in-None.is))
