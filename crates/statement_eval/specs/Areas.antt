-- The words of shared names, as they are kept.
use Rattle.std.specs.Prelude.{ℕ, Option, Vec}
use Rattle.std.specs.Ordering.{nat_cmp}
use Rattle.std.specs.Cmp.Lexicographic.{slice_cmp}
use Rattle.std.specs.BTreeMap.{BTreeMap, get_by}
use Rattle.csl_meaning.specs.declared.state.Area.{Area}
use Rattle.csl_meaning.specs.Layout.{Text}

-- the words that are kept under a name
abbrev pub area_among : {A : Type 0} → BTreeMap (Vec ℕ A) Area → Text → Option Area
area_among areas name = get_by (λ k. slice_cmp nat_cmp name k.items) areas
