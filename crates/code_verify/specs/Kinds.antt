-- What an instruction does to the kinds of the operands. In each list the operand on top comes first.
use Rattle.std.specs.Prelude.{ℕ, zero, suc, Bool, true, false, List, [], ◌∷◌, ◌++◌, Option, Some, None, slice_get, take, reverse}
use Rattle.std.specs.Option.{option_map}
use Rattle.bytecode.specs.declared.instr.PrintItem.{PrintItem}
use Rattle.bytecode.specs.declared.instr.PrintItem.TheVariants as item
use Rattle.bytecode.specs.declared.instr.Instr.{Instr}
use Rattle.bytecode.specs.declared.instr.Instr.TheVariants as i
use Rattle.cal_terms.specs.declared.types.Ty.{Ty}
use Rattle.cal_terms.specs.declared.types.Ty.TheVariants.{Int, Bool as Truth}
use Rattle.cal_terms.specs.declared.types.Gives.{Gives}
use Rattle.cal_terms.specs.declared.types.Gives.TheVariants as gives
use Rattle.bytecode.specs.declared.module.Code.{Code}
use Rattle.bytecode.specs.declared.module.Module.{Module}

-- the kinds of the operands, that on top first
abbrev pub Kinds : Type 0
Kinds = List Ty

-- are both the same kind?
abbrev pub same_kind : Ty → Ty → Bool
same_kind Int Int = true
same_kind Truth Truth = true
same_kind Int Truth = false
same_kind Truth Int = false

-- the kinds of a call's operands: the last parameter on top
abbrev pub parameters : Code → Kinds
parameters f = reverse (take f.params f.locals)

-- what a call or a return leaves
abbrev pub result : Gives → Kinds
result gives.Nothing = []
result gives.Int = Int ∷ []
result gives.Bool = Truth ∷ []

-- the kind of a printed item's value, if it has one
abbrev pub item_kinds : PrintItem → Kinds
item_kinds (item.Text index) = []
item_kinds item.Int = Int ∷ []
item_kinds item.Truth = Truth ∷ []

-- the values of a line, the last on top
abbrev pub items_kinds : List PrintItem → Kinds
items_kinds [] = []
items_kinds (x ∷ items) = items_kinds items ++ item_kinds x

-- this many ints
abbrev pub ints : ℕ → Kinds
ints zero = []
ints (suc n) = Int ∷ ints n

-- the kinds below these, where these are on top
abbrev pub below : Kinds → Kinds → Option Kinds
below [] ks = Some ks
below (k ∷ wanted) [] = None
below (Int ∷ wanted) (Int ∷ ks) = below wanted ks
below (Truth ∷ wanted) (Truth ∷ ks) = below wanted ks
below (Int ∷ wanted) (Truth ∷ ks) = None
below (Truth ∷ wanted) (Int ∷ ks) = None

-- finds these on top, and leaves those in their place
abbrev pub swaps : Kinds → Kinds → Kinds → Option Kinds
swaps popped pushed ks = option_map (λ rest. pushed ++ rest) (below popped ks)

-- two of one kind
abbrev pub compares : Kinds → Option Kinds
compares (Int ∷ Int ∷ ks) = Some (Truth ∷ ks)
compares (Truth ∷ Truth ∷ ks) = Some (Truth ∷ ks)
compares _ = None

-- a value of a local's kind on top, if there is such a local
abbrev pub loads : Option Ty → Kinds → Option Kinds
loads None ks = None
loads (Some k) ks = Some (k ∷ ks)

-- a value of a local's kind taken from the top, if there is such a local
abbrev pub stores : Option Ty → Kinds → Option Kinds
stores None ks = None
stores (Some k) ks = below (k ∷ []) ks

-- one of any kind
abbrev pub drops : Kinds → Option Kinds
drops [] = None
drops (k ∷ ks) = Some ks

-- a call of a function, if there is one of this number
abbrev pub calls : Option Code → Kinds → Option Kinds
calls None ks = None
calls (Some f) ks = swaps (parameters f) (result f.gives) ks

-- the kinds after an instruction of the code, or none where it does not find what it pops
abbrev pub after : Module → Code → Instr → Kinds → Option Kinds
after m c (i.Int z) = swaps [] (Int ∷ [])
after m c i.False = swaps [] (Truth ∷ [])
after m c i.True = swaps [] (Truth ∷ [])
after m c i.Add = swaps (Int ∷ Int ∷ []) (Int ∷ [])
after m c i.Sub = swaps (Int ∷ Int ∷ []) (Int ∷ [])
after m c i.Mul = swaps (Int ∷ Int ∷ []) (Int ∷ [])
after m c i.Div = swaps (Int ∷ Int ∷ []) (Int ∷ [])
after m c i.Rem = swaps (Int ∷ Int ∷ []) (Int ∷ [])
after m c i.Neg = swaps (Int ∷ []) (Int ∷ [])
after m c i.Not = swaps (Truth ∷ []) (Truth ∷ [])
after m c i.Eq = compares
after m c i.Ne = compares
after m c i.Lt = swaps (Int ∷ Int ∷ []) (Truth ∷ [])
after m c i.Le = swaps (Int ∷ Int ∷ []) (Truth ∷ [])
after m c i.Gt = swaps (Int ∷ Int ∷ []) (Truth ∷ [])
after m c i.Ge = swaps (Int ∷ Int ∷ []) (Truth ∷ [])
after m c (i.Load l) = loads (slice_get c.locals l)
after m c (i.Store l) = stores (slice_get c.locals l)
after m c (i.Word a) = swaps [] (Int ∷ [])
after m c (i.Put a) = swaps (Int ∷ []) []
after m c (i.AddWord a) = swaps (Int ∷ []) []
after m c (i.Item b n) = swaps (Int ∷ []) (Int ∷ [])
after m c (i.SetItem b n) = swaps (Int ∷ Int ∷ []) []
after m c (i.AddItem b n) = swaps (Int ∷ Int ∷ []) []
after m c (i.Jump t) = swaps [] []
after m c (i.Branch t) = swaps (Truth ∷ []) []
after m c (i.Loop t) = swaps [] []
after m c (i.Call f) = calls (slice_get m.functions f)
after m c i.Return = swaps (result c.gives) []
after m c i.Pop = drops
after m c i.Assert = swaps (Truth ∷ []) []
after m c (i.Print items) = swaps (items_kinds items) []
after m c (i.Par b n) = swaps (ints n) []
