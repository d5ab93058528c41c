use Rattle.std.proofs.Common.{◌≡◌, ◌++◌, drop, map}
use Rattle.compiled_code.specs.Modules.{function_code}
use Rattle.compile_steps.proofs.module.function_codes.Given as goal

-- the code so far, and that of the functions that are left
abbrev pub invariant-loop-f : goal.invariant-loop-f
invariant-loop-f l = l.codes ++ map (λ f. function_code l.names f) (drop l.f-index l.functions) ≡ map (λ f. function_code l.fn.names f) l.fn.functions
