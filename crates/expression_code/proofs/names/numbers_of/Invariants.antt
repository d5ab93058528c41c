use Rattle.std.proofs.Common.{◌≡◌, ◌+◌, ℕ, List, drop}
use Rattle.std.specs.Prelude.{unwrap_or}
use Rattle.compiled_code.specs.Values.{function_number}
use Rattle.type_check.specs.Places.{place_among}
use Rattle.expression_code.proofs.names.numbers_of.Given as goal

-- the number of a name is the one that is kept, else the functions that were passed have other names
abbrev pub invariant-loop-i : goal.invariant-loop-i
invariant-loop-i l = (name : List ℕ) → unwrap_or (place_among l.numbers name) (l.i + function_number (drop l.i l.functions) name) ≡ function_number l.fn.functions name
