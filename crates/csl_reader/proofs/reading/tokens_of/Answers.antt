use Rattle.csl_reader.proofs.Refusing.{lexer_refuses}
use Rattle.csl_reader.proofs.reading.tokens_of.Goals as goal

pub returns-in-Err-clause-refused : goal.returns-in-Err-clause-refused
returns-in-Err-clause-refused c = rw c.of_lexer.ensures (lexer_refuses c.args.text.now c.in-Err.fault c.in-Err.ensures.first_fault)
