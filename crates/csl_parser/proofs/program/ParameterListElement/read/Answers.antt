use Rattle.csl_grammar.specs.Programs.{SpellsParam}
use Rattle.expression_parser.specs.Reading.{stops_anywhere}
use Rattle.expression_parser.proofs.Sequence.{passed}
use Rattle.expression_parser.proofs.Steps.{from_first}
use Rattle.csl_parser.proofs.Functions as d
use Rattle.csl_parser.proofs.program.ParameterListElement.read.Goals as goal

pub returns-in-Some-clause-answer : goal.returns-in-Some-clause-answer
returns-in-Some-clause-answer c =
    from_first SpellsParam stops_anywhere _ c.args.tokens.now _ _ _ c.front.ensures
    (passed _ _ stops_anywhere _ _ _ _ (d.param_same _ _ _ c.in-Some.ensures) c.named.ensures.answer)

pub returns-in-None-clause-answer : goal.returns-in-None-clause-answer
returns-in-None-clause-answer c = d.param_refused c.args.tokens.now _ _ c.front.ensures c.in-None.ensures
