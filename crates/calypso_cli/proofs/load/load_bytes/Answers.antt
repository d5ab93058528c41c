use Rattle.std.proofs.Common.{Err, ap, arith}
use Rattle.calypso_cli.specs.Steps as step
use Rattle.calypso_cli.proofs.Loading.{holds_long}
use Rattle.calypso_cli.proofs.load.load_bytes.Goals as goal

pub returns-in-Err-Failed-clause-stops : goal.returns-in-Err-Failed-clause-stops
returns-in-Err-Failed-clause-stops g c = step.not_usable (c.in-Err-Failed.ensures.cause.failed (ap (λ e. Err e) c.in-Err-Failed.field-0-is))

pub returns-in-Err-NoMemory-clause-stops : goal.returns-in-Err-NoMemory-clause-stops
returns-in-Err-NoMemory-clause-stops g c = step.no_room

pub returns-then-len-limit-clause-stops : goal.returns-then-len-limit-clause-stops
returns-then-len-limit-clause-stops g c = step.long (holds_long c.args.limit (g.F.Files.holds c.args.files.now) c.args.file.now c.in-Ok.bytes.items c.in-Ok.ensures.ok (omega arith))
