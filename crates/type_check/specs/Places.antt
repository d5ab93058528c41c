-- Where names stand among those that are visible.
use Rattle.std.specs.Prelude.{◌≡◌, ℕ, List, Option, Some, Vec, slice_get}
use Rattle.std.specs.Ordering.{nat_cmp}
use Rattle.std.specs.Cmp.Lexicographic.{slice_cmp}
use Rattle.std.specs.BTreeMap.{BTreeMap, get_by}
use Rattle.type_check.specs.Names.{Names}

-- the place that is kept under a name
abbrev pub place_among : {A : Type 0} → BTreeMap (Vec ℕ A) ℕ → List ℕ → Option ℕ
place_among places name = get_by (λ k. slice_cmp nat_cmp name k.items) places

-- the place of each visible name is kept under it
abbrev pub HavePlaces : {A : Type 0} → BTreeMap (Vec ℕ A) ℕ → Names → Type 0
HavePlaces places names = (i : ℕ) (e : List ℕ × _) → slice_get names i ≡ Some e → place_among places e.0 ≡ Some i
