-- The words of shared names and the numbers of functions, as they are kept.
use Rattle.std.specs.Prelude.{ℕ, List, length, unwrap_or, Option, Vec}
use Rattle.std.specs.Ordering.{nat_cmp}
use Rattle.std.specs.Cmp.Lexicographic.{slice_cmp}
use Rattle.std.specs.BTreeMap.{BTreeMap, get_by}
use Rattle.csl_tree.specs.declared.program.Function.{Function}
use Rattle.csl_meaning.specs.declared.state.Area.{Area}
use Rattle.csl_meaning.specs.Layout.{Text}
use Rattle.type_check.specs.Places.{place_among}

-- the words that are kept under a name
abbrev pub area_among : {A : Type 0} → BTreeMap (Vec ℕ A) Area → Text → Option Area
area_among areas name = get_by (λ k. slice_cmp nat_cmp name k.items) areas

-- the number that is kept under a name; a name without one stands for no function
abbrev pub number_among : {A : Type 0} → BTreeMap (Vec ℕ A) ℕ → List Function → Text → ℕ
number_among numbers functions name = unwrap_or (place_among numbers name) (length functions)
