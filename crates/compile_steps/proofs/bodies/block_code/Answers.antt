use Rattle.std.proofs.Common.{rules}
use Rattle.compile_steps.proofs.BodyLemmas.{block_is}
use Rattle.compile_steps.proofs.bodies.block_code.Goals as goal

pub returns : goal.returns
returns c = rw (block_is c.args.names.now c.args.block.now) (search rules)
