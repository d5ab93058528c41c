use Rattle.std.proofs.Common.{refl}
use Rattle.std.specs.Fmt.{digits}
use Rattle.machine_meaning.proofs.worked_rows.Goals as goal

pub returns : goal.returns
unfolding digits
returns c = record { returns = refl; prints = refl; loops = refl }
