-- Right pieces of code, put together.
use Rattle.std.proofs.Common.{◌≡◌, ℕ, ◌+◌, ◌≤◌, List, [], ◌∷◌, ◌++◌, length, Some, subst, arith}
use Rattle.std.proofs.lemmas.Option.{slice_get_within}
use Rattle.bytecode.specs.declared.instr.Instr.{Instr}
use Rattle.bytecode.specs.declared.module.Code.{Code}
use Rattle.bytecode.specs.declared.module.Module.{Module}
use Rattle.code_verify.specs.Kinds.{Kinds, after}
use Rattle.code_verify.specs.Rules.{Taken, KindsAt, IsInRange, IsPlace, most_operands}
use Rattle.accepted_code.proofs.Fine.{Held, in_front, behind, Falls, Right, join, falls}

-- behind a piece of this length
pub past : {A : Type 0} (whole : List A) (at n : ℕ) (a b : List A) → length a ≡ n → Held whole at (a ++ b) → Held whole (at + n) b
past whole at n a b e h = behind whole at (at + n) a b (omega (arith, e)) h

pub at_end : (taken : Taken) (ks : Kinds) (place to : ℕ) → place ≡ to → KindsAt taken place ks → KindsAt taken to ks
at_end taken ks place to e h = subst (λ (n : ℕ). KindsAt taken n ks) e h

module _ (m : Module) (c : Code) (taken : Taken) (Ok : Instr → Type 0) where
  -- two pieces
  pub then_piece : (at n : ℕ) (a b : List Instr) (ta tb : Taken) (middle : Kinds) → length a ≡ n → length ta ≡ n
      → Held c.instrs at (a ++ b) → Held taken at (ta ++ tb)
      → (Held taken (at + n) tb → KindsAt taken (at + n) middle)
      → (Held c.instrs at a → Held taken at ta → KindsAt taken (at + n) middle → Right m c taken Ok at a)
      → (Held c.instrs (at + n) b → Held taken (at + n) tb → KindsAt taken (at + n) middle → Right m c taken Ok (at + n) b)
      → Right m c taken Ok at (a ++ b)
  then_piece at n a b ta tb middle e f h t starts one two =
      let hb = past c.instrs at n a b e h in
      let tb' = past taken at n ta tb f t in
      let begins = starts tb' in
      join m c taken Ok at (at + n) a b (omega (arith, e)) (one (in_front c.instrs at a b h) (in_front taken at ta tb t) begins) (two hb tb' begins)

  -- a piece and an instruction that leads on
  pub then_one : (at n : ℕ) (a : List Instr) (ta : Taken) (x : Instr) (here rest : Kinds) → length a ≡ n → length ta ≡ n
      → Falls x → IsInRange m c x → Ok x → after m c x here ≡ Some rest → length here ≤ most_operands
      → Held c.instrs at (a ++ x ∷ []) → Held taken at (ta ++ here ∷ []) → KindsAt taken (at + (n + 1)) rest
      → (Held c.instrs at a → Held taken at ta → KindsAt taken (at + n) here → Right m c taken Ok at a)
      → Right m c taken Ok at (a ++ x ∷ [])
  then_one at n a ta x here rest e f plain in_range allowed leaves short h t end one =
      then_piece at n a (x ∷ []) ta (here ∷ []) here e f h t (λ tb. tb.0) one
      (λ hb tb begins. (falls m c taken Ok (at + n) x here rest plain hb.0 begins in_range leaves short allowed (at_end taken rest (at + (n + 1)) (at + n + 1) (omega arith) end), tt))

  -- a place at which kinds are known is one of the code
  pub inside : length taken ≡ length c.instrs → (place : ℕ) (ks : Kinds) → KindsAt taken place ks → IsPlace c place
  inside long place ks at = let lt = slice_get_within taken place ks at in omega (arith, lt, long)
