use Rattle.std.proofs.Common.{refl}
use Rattle.csl_lexer.proofs.Steps.{takes_sign, begins_nothing}
use Rattle.csl_lexer.proofs.item.sign.Goals as goal

pub returns-in-Some : goal.returns-in-Some
returns-in-Some c = takes_sign c.args.at c.args.bytes.now c.in-Some.mark c.in-Some.length c.in-Some.ensures.found c.requires.other

pub returns-in-None : goal.returns-in-None
returns-in-None c real = begins_nothing c.args.at c.args.bytes.now c.requires.some (c.in-None.ensures.none refl) c.requires.other
