-- Where the locals of a body are kept: each declaration of the body has a slot of its own, in the order of declaration.
use Rattle.std.specs.Prelude.{ℕ, if◌then◌else◌, List, [], ◌∷◌, ◌++◌, Option, Some, None}
use Rattle.std.specs.Str.{bytes_eq}
use Rattle.cal_terms.specs.declared.types.Ty.{Ty}
use Rattle.cal_terms.specs.declared.types.Ty.TheVariants as ty
use Rattle.csl_meaning.specs.Layout.{Text}

-- a visible local: its slot, and the kind of its value
pub record Slot : Type 0 where
  pub name : Text
  pub number : ℕ
  pub kind : Ty

-- the visible locals, in the order of declaration
abbrev pub Slots : Type 0
Slots = List Slot

-- the slot of the local with this name, if there is one
abbrev pub slot_of : Slots → Text → Option Slot
slot_of [] name = None
slot_of (s ∷ rest) name = if bytes_eq s.name name then Some s else slot_of rest name

-- one more local
abbrev pub with_slot : Slots → Text → ℕ → Ty → Slots
with_slot slots name number kind = slots ++ record { name = name; number = number; kind = kind } ∷ []

-- the kind of a declared type
abbrev pub kind_of : Ty → Ty
kind_of ty.Int = ty.Int
kind_of ty.Bool = ty.Bool
