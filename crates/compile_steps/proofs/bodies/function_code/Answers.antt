use Rattle.std.proofs.Common.{rules}
use Rattle.compile_steps.proofs.BodyLemmas.{function_is}
use Rattle.compile_steps.proofs.bodies.function_code.Goals as goal

pub returns : goal.returns
returns c = rw (function_is c.args.names.now c.args.f.now) (search rules)
