use Rattle.std.proofs.Common.{◌≡◌, ◌+◌, ◌++◌, drop, length, map}
use Rattle.compiled_code.specs.Slots.{kind_of}
use Rattle.compiled_code.specs.Modules.{with_params}
use Rattle.compile_steps.proofs.bodies.declare_params.Given as goal

-- what is declared so far, and the parameters that are left
abbrev pub invariant-loop-param : goal.invariant-loop-param
invariant-loop-param l = record {
  numbered : l.scope.next ≡ length l.scope.slots;
  slots : with_params l.scope.slots (drop l.param-index l.params) ≡ with_params l.fn.scope.slots l.fn.params;
  next : l.scope.next + length (drop l.param-index l.params) ≡ l.fn.scope.next + length l.fn.params;
  locals : l.locals ++ map (λ q. kind_of q.ty) (drop l.param-index l.params) ≡ l.fn.locals ++ map (λ q. kind_of q.ty) l.fn.params;
}
