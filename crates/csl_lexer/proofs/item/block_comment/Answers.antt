use Rattle.std.proofs.Common.{refl}
use Rattle.csl_lexer.proofs.Steps.{takes_block, opens_comment}
use Rattle.csl_lexer.proofs.item.block_comment.Goals as goal

pub returns-in-Some : goal.returns-in-Some
returns-in-Some c = takes_block c.args.at c.args.body.now c.in-Some.length c.in-Some.ensures.found

pub returns-in-None : goal.returns-in-None
returns-in-None c real = opens_comment c.args.at c.args.body.now (c.in-None.ensures.none refl)
