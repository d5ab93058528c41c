use Rattle.std.specs.Io.KnownBytes.{Keeps}
use Rattle.cal_base.proofs.host.write_some.Given as goal

abbrev pub invariant-loop : goal.invariant-loop
invariant-loop g l = Keeps (g.S.Write.contents l.initial.target) (g.S.Write.contents l.target)
