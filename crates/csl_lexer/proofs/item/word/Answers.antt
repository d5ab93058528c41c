use Rattle.std.proofs.Common.{arith}
use Rattle.csl_lexer.proofs.Steps.{takes_word, long_word}
use Rattle.csl_lexer.proofs.item.word.Goals as goal

pub returns-then-length-gt-MOST_NAME_BYTES : goal.returns-then-length-gt-MOST_NAME_BYTES
returns-then-length-gt-MOST_NAME_BYTES c real =
    long_word c.args.at c.args.bytes.now c.run_length-length.result c.requires.some c.requires.letter c.run_length-length.ensures.within c.run_length-length.ensures.all
    c.run_length-length.ensures.stops c.if-length-gt-MOST_NAME_BYTES.true

pub returns : goal.returns
returns c =
    takes_word c.args.at c.args.bytes.now c.run_length-length.result c.in_ok-kind.kind c.requires.some c.requires.letter c.run_length-length.ensures.within c.run_length-length.ensures.all
    c.run_length-length.ensures.stops (omega (arith, c.if-length-gt-MOST_NAME_BYTES.false)) c.in_ok-kind.ensures
