use Rattle.std.proofs.Common.{◌≡◌, drop}
use Rattle.compiled_code.specs.Slots.{slot_of}
use Rattle.expression_code.proofs.scope.Scope.find.Given as goal

-- the locals that were passed have other names
abbrev pub invariant-loop-slot : goal.invariant-loop-slot
invariant-loop-slot l = slot_of (drop l.slot-index l.slot-items) l.name ≡ slot_of l.fn.self.slots l.fn.name
