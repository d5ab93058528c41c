-- The parameters and locals of a body, in the order of declaration. No two that are visible have one name.
use Rattle.std.specs.Prelude.{if◌then◌else◌, List, [], ◌∷◌, ◌++◌, Option, Some, None}
use Rattle.std.specs.Str.{bytes_eq}
use Rattle.cal_base.specs.declared.value.Val.{Val}
use Rattle.csl_meaning.specs.declared.state.Local.{Local}
use Rattle.csl_meaning.specs.Layout.{Text}

-- the parameters first, then the locals
abbrev pub Locals : Type 0
Locals = List Local

-- one more local
abbrev pub declare : Locals → Text → Val → Locals
declare locals name v = locals ++ record { name = name; value = v } ∷ []

-- the value of a local, if there is one with this name
abbrev pub local_value : Locals → Text → Option Val
local_value [] name = None
local_value (l ∷ rest) name = if bytes_eq l.name name then Some l.value else local_value rest name

-- another value for a local
abbrev pub set_local : Locals → Text → Val → Locals
set_local [] name v = []
set_local (l ∷ rest) name v =
    if bytes_eq l.name name then record l { value = v } ∷ rest else l ∷ set_local rest name v

-- each parameter with its argument
abbrev pub bound : List Text → List Val → Locals
bound [] vs = []
bound (name ∷ names) [] = []
bound (name ∷ names) (v ∷ vs) = record { name = name; value = v } ∷ bound names vs
