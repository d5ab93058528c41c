use Rattle.std.proofs.Common.{◌≡◌, map}
use Rattle.toml.specs.View.{members_view}
use Rattle.fault_script.specs.Scripts.{has_only}
use Rattle.fault_script.proofs.values.has_only.Given as goal

abbrev pub invariant-loop-key : goal.invariant-loop-key
invariant-loop-key l = has_only (map (λ known. known.now) l.names) (members_view l.key-iterator) ≡ has_only (map (λ known. known.now) l.names) (members_view l.table.entries)
