use Rattle.std.proofs.Common.{◌≡◌, ◌≤◌, ◌++◌, take}
use Rattle.std.specs.List.{AllByRecursion}
use Rattle.event_engine.proofs.delivery.keep.Given as goal

-- those so far are kept
abbrev pub invariant-loop-one : goal.invariant-loop-one
invariant-loop-one g l = record {
  kept : l.deliveries.items ≡ l.initial.deliveries.items ++ take l.one-index l.fresh;
  older : AllByRecursion (λ d. d.step ≤ l.step) l.deliveries.items;
}
