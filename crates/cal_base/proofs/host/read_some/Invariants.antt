use Rattle.std.proofs.Common.{◌≡◌, length}
use Rattle.std.specs.Io.KnownBytes.{Keeps}
use Rattle.cal_base.proofs.host.read_some.Given as goal

abbrev pub invariant-loop : goal.invariant-loop
invariant-loop g l = record {
  kept : Keeps (g.S.Read.remaining l.initial.source) (g.S.Read.remaining l.source);
  same : length l.buffer ≡ length l.initial.buffer;
}
