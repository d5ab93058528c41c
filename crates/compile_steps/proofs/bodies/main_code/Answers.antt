use Rattle.std.proofs.Common.{rules}
use Rattle.compile_steps.proofs.BodyLemmas.{main_is}
use Rattle.compile_steps.proofs.bodies.main_code.Goals as goal

pub returns : goal.returns
returns c = rw (main_is c.args.names.now) (search rules)
