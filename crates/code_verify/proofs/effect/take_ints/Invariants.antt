use Rattle.std.proofs.Common.{◌≡◌, ◌-◌}
use Rattle.code_verify.specs.Kinds.{below, ints}
use Rattle.code_verify.proofs.effect.take_ints.Given as goal

abbrev pub invariant-loop : goal.invariant-loop
invariant-loop l = record { hand : below (ints l.count) l.fn.kinds.hand ≡ below (ints (l.count - l.counter)) l.kinds.hand; known : l.kinds.known ≡ l.fn.kinds.known }
