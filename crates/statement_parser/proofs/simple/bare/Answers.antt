use Rattle.statement_parser.proofs.simple.bare.Goals as goal

pub returns-clause-answer : goal.returns-clause-answer
returns-clause-answer c = c.ended.ensures.answer
