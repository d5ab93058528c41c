-- The names of the checks and the places of the code agree.
use Rattle.std.specs.Prelude.{◌≡◌, ℕ, ◌<◌, ◌≤◌, Option, Some, None, map, take, length, slice_get}
use Rattle.std.specs.Str.{bytes_eq}
use Rattle.std.specs.Map.{lookup}
use Rattle.csl_tree.specs.declared.program.Program.{Program}
use Rattle.csl_meaning.specs.declared.state.Area.{Area}
use Rattle.csl_meaning.specs.Layout.{Text, area_of}
use Rattle.csl_meaning.specs.Effect.{function_named}
use Rattle.type_check.specs.declared.names.Declaration.{Declaration}
use Rattle.type_check.specs.declared.names.Declaration.TheVariants as declared
use Rattle.type_check.specs.declared.names.Signature.{Signature}
use Rattle.type_check.specs.Names.{Names}
use Rattle.bytecode.specs.declared.module.Code.{Code}
use Rattle.bytecode.specs.declared.module.Module.{Module}
use Rattle.code_verify.specs.Rules.{IsWord, IsArray, IsTally, HoldsNoTally}
use Rattle.compiled_code.specs.Slots.{Slot, Slots, slot_of, kind_of}
use Rattle.compiled_code.specs.Sizes.{given_by}
use Rattle.compiled_code.specs.Values.{function_number}
use Rattle.compiled_code.specs.Modules.{gives_of}

-- a shared word, which is no tally word
pub record WordIs (p : Program) (m : Module) (name : Text) : Type 0 where
  pub area : Area
  pub found : area_of p.shared name ≡ Some area
  pub scalar : area.items ≡ None
  pub in_range : IsWord m area.first
  pub plain : IsTally m area.first → ⊥

-- a tally word
pub record TallyIs (p : Program) (m : Module) (name : Text) : Type 0 where
  pub area : Area
  pub found : area_of p.shared name ≡ Some area
  pub scalar : area.items ≡ None
  pub in_range : IsWord m area.first

-- a shared array, which holds no tally word
pub record ArrayIs (p : Program) (m : Module) (name : Text) : Type 0 where
  pub area : Area
  pub size : ℕ
  pub found : area_of p.shared name ≡ Some area
  pub array : area.items ≡ Some size
  pub in_range : IsArray m area.first size
  pub plain : HoldsNoTally m area.first size

-- one of the first functions of the program, with this signature
pub record FunctionIs (p : Program) (m : Module) (visible : ℕ) (name : Text) (d : Signature) : Type 0 where
  pub code : Code
  pub there : slice_get m.functions (function_number p.functions name) ≡ Some code
  pub params : take code.params code.locals ≡ map kind_of d.params
  pub gives : code.gives ≡ gives_of d.gives
  pub given : given_by (function_named p.functions name) ≡ d.gives
  pub few : length d.params ≤ 8
  pub number : function_number p.functions name < visible

-- a local of this kind
pub record LocalIs (c : Code) (slots : Slots) (name : Text) (kind : _) : Type 0 where
  pub slot : Slot
  pub found : slot_of slots name ≡ Some slot
  pub right : slot.kind ≡ kind
  pub local : slice_get c.locals slot.number ≡ Some kind

-- what a name is declared as is what the code takes it for
abbrev pub Means : Program → Module → Code → ℕ → Slots → Text → Option Declaration → Type 0
Means p m c visible slots name None = slot_of slots name ≡ None
Means p m c visible slots name (Some declared.Word) = (slot_of slots name ≡ None) × WordIs p m name
Means p m c visible slots name (Some declared.Tally) = (slot_of slots name ≡ None) × TallyIs p m name
Means p m c visible slots name (Some declared.Array) = (slot_of slots name ≡ None) × ArrayIs p m name
Means p m c visible slots name (Some (declared.Local ty)) = LocalIs c slots name (kind_of ty)
Means p m c visible slots name (Some (declared.Function d)) = (slot_of slots name ≡ None) × FunctionIs p m visible name d

-- so it is for each name
abbrev pub Agrees : Program → Module → Code → ℕ → Names → Slots → Type 0
Agrees p m c visible names slots = (name : Text) → Means p m c visible slots name (lookup (bytes_eq name) names)
