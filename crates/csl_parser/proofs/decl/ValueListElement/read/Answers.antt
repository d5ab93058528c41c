use Rattle.std.proofs.Common.{rules}
use mir.Val.{SFits}
use mir.Syntax.{w64}
use Rattle.std.proofs.lemmas.Int.{to_z-of_z}
use Rattle.csl_grammar.specs.Programs.{SpellsValue}
use Rattle.expression_parser.specs.Reading.{stops_anywhere}
use Rattle.expression_parser.proofs.Steps.{from_first}
use Rattle.csl_parser.proofs.Declared as d
use Rattle.csl_parser.proofs.decl.ValueListElement.read.Goals as goal

pub returns-then-is_mark-clause-answer : goal.returns-then-is_mark-clause-answer
returns-then-is_mark-clause-answer c = from_first SpellsValue stops_anywhere _ c.args.tokens.now _ _ _ c.front.ensures c.negative.ensures.answer

pub returns-in-Some-clause-answer : goal.returns-in-Some-clause-answer
returns-in-Some-clause-answer c =
    let fits : SFits w64 c.in-Some.number = search rules in
    rw (to_z-of_z w64 c.in-Some.number fits) (d.value_found c.args.tokens.now _ _ _ c.requires c.front.ensures (cc (c.number.ensures, c.in-Some.is)))

pub returns-in-None-clause-answer : goal.returns-in-None-clause-answer
returns-in-None-clause-answer c = d.value_refused c.args.tokens.now _ _ c.front.ensures (λ h. cc (c.if-is_mark.ensures.1 h)) (cc (c.number.ensures, c.in-None.is))
