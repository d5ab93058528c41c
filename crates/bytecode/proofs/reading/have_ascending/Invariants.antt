use Rattle.std.proofs.Common.{◌≡◌, drop, map}
use Rattle.std.specs.Prelude.{ℕ, ℤ}
use Rattle.bytecode.specs.Reading.{are_ascending_from}
use Rattle.bytecode.proofs.reading.have_ascending.Given as goal

abbrev pub invariant-loop-address : goal.invariant-loop-address
invariant-loop-address l = are_ascending_from 0 (map (λ (e : ℕ × ℤ). e.0) l.initial_words) ≡ are_ascending_from l.least (map (λ (e : ℕ × ℤ). e.0) (drop l.address-index l.initial_words))
