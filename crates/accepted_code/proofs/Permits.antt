-- What the rules allow to stand in one code of a module.
use Rattle.std.specs.Prelude.{◌≡◌, ℕ, ◌+◌, ◌<◌, ◌≤◌, Bool, true, List, length}
use Rattle.std.specs.List.{AllByRecursion}
use Rattle.bytecode.specs.declared.instr.PrintItem.{PrintItem}
use Rattle.bytecode.specs.declared.instr.Instr.{Instr}
use Rattle.bytecode.specs.declared.instr.Instr.TheVariants as i
use Rattle.bytecode.specs.declared.module.Code.{Code}
use Rattle.bytecode.specs.declared.module.Module.{Module}
use Rattle.bytecode.specs.Spelling.{FitsZig}
use Rattle.code_verify.specs.Rules.{IsWord, IsArray, IsPlace, HasText, HoldsNoTally}

-- an instruction without operands
abbrev pub IsPlain : Instr → Type 0
IsPlain (i.Int z) = ⊥
IsPlain (i.Load l) = ⊥
IsPlain (i.Store l) = ⊥
IsPlain (i.Word a) = ⊥
IsPlain (i.Put a) = ⊥
IsPlain (i.AddWord a) = ⊥
IsPlain (i.Item b n) = ⊥
IsPlain (i.SetItem b n) = ⊥
IsPlain (i.AddItem b n) = ⊥
IsPlain (i.Jump t) = ⊥
IsPlain (i.Branch t) = ⊥
IsPlain (i.Loop t) = ⊥
IsPlain (i.Call f) = ⊥
IsPlain (i.Print items) = ⊥
IsPlain (i.Par b n) = ⊥
IsPlain _ = Unit {0}

-- each instruction with operands in range is allowed; a call of one of the first functions; prints and steps in main
pub record Permits (m : Module) (c : Code) (visible : ℕ) (main : Bool) (Ok : Instr → Type 0) : Type 0 where
  pub plain : (instr : Instr) → IsPlain instr → Ok instr
  pub ints : (z : _) → FitsZig z → Ok (i.Int z)
  pub loads : (l : ℕ) → l < length c.locals → Ok (i.Load l)
  pub stores : (l : ℕ) → l < length c.locals → Ok (i.Store l)
  pub words : (a : ℕ) → IsWord m a → Ok (i.Word a)
  pub puts : (a : ℕ) → IsWord m a → Ok (i.Put a)
  pub add_words : (a : ℕ) → IsWord m a → Ok (i.AddWord a)
  pub items : (b n : ℕ) → IsArray m b n → HoldsNoTally m b n → Ok (i.Item b n)
  pub set_items : (b n : ℕ) → IsArray m b n → HoldsNoTally m b n → Ok (i.SetItem b n)
  pub add_items : (b n : ℕ) → IsArray m b n → HoldsNoTally m b n → Ok (i.AddItem b n)
  pub jumps : (t : ℕ) → IsPlace c t → Ok (i.Jump t)
  pub branches : (t : ℕ) → IsPlace c t → Ok (i.Branch t)
  pub loops : (t : ℕ) → IsPlace c t → Ok (i.Loop t)
  pub calls : (f : ℕ) → f < visible → Ok (i.Call f)
  pub prints : main ≡ true → (items : List PrintItem) → length items ≤ 64 → AllByRecursion (HasText m) items → Ok (i.Print items)
  pub steps : main ≡ true → (b n : ℕ) → 1 ≤ n → n ≤ 64 → b + n ≤ length m.blocks → Ok (i.Par b n)
