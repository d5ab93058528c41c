use Rattle.csl_reader.proofs.Refusing.{parser_refuses}
use Rattle.csl_reader.proofs.reading.program_of.Goals as goal

pub returns-in-Err-clause-refused : goal.returns-in-Err-clause-refused
returns-in-Err-clause-refused c = rw c.of_parser.ensures (parser_refuses c.args.tokens.now c.parse.result c.in-Err.fault c.in-Err.is c.parse.ensures.too_deep c.parse.ensures.unexpected)
