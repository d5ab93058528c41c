-- The code of operators keeps the rules.
use Rattle.std.proofs.Common.{◌≡◌, ℕ, ◌+◌, ◌≤◌, Bool, List, [], ◌∷◌, ◌++◌, length, Some, refl, sym, subst, arith, length-append}
use Rattle.csl_tree.specs.declared.program.UnaryOp.{UnaryOp}
use Rattle.csl_tree.specs.declared.program.UnaryOp.TheVariants.{Neg, Not}
use Rattle.csl_tree.specs.declared.program.BinaryOp.{BinaryOp}
use Rattle.csl_tree.specs.declared.program.BinaryOp.TheVariants.{Add, Sub, Mul, Div, Rem, Eq, Ne, Lt, Le, Gt, Ge, And, Or}
use Rattle.bytecode.specs.declared.instr.Instr.{Instr}
use Rattle.bytecode.specs.declared.instr.Instr.TheVariants as i
use Rattle.cal_terms.specs.declared.types.Ty.{Ty}
use Rattle.cal_terms.specs.declared.types.Ty.TheVariants as ty
use Rattle.bytecode.specs.declared.module.Code.{Code}
use Rattle.bytecode.specs.declared.module.Module.{Module}
use Rattle.code_verify.specs.Kinds.{Kinds, compares, after}
use Rattle.code_verify.specs.Rules.{Taken, KindsAt, IsInRange, most_operands}
use Rattle.compiled_code.specs.Sizes.{operator_size}
use Rattle.compiled_code.specs.Values.{unary_instr, unary_kind, binary_instr, binary_code, binary_kind}
use Rattle.accepted_code.proofs.Permits.{IsPlain, Permits}
use Rattle.accepted_code.proofs.Fits.{OperandsFit}
use Rattle.accepted_code.proofs.Taken.{binary_taken}
use Rattle.accepted_code.proofs.Fine.{Held, in_front, behind, Falls, Right, join, falls, jumps, branches, branch_comes}
use Rattle.accepted_code.proofs.Pieces.{past, at_end, then_piece, then_one, inside}

-- the operator takes both operands
abbrev pub IsStrict : BinaryOp → Type 0
IsStrict And = ⊥
IsStrict Or = ⊥
IsStrict _ = Unit {0}

module _ (m : Module) (c : Code) where
  pub unary_leaves : (op : UnaryOp) (k : Ty) (ks : Kinds) → k ≡ unary_kind op → after m c (unary_instr op) (k ∷ ks) ≡ Some (unary_kind op ∷ ks)
  unary_leaves Neg k ks e = subst (λ (x : Ty). after m c i.Neg (x ∷ ks) ≡ Some (ty.Int ∷ ks)) (sym e) refl
  unary_leaves Not k ks e = subst (λ (x : Ty). after m c i.Not (x ∷ ks) ≡ Some (ty.Bool ∷ ks)) (sym e) refl

  pub unary_plain : (op : UnaryOp) → Falls (unary_instr op) × IsInRange m c (unary_instr op) × IsPlain (unary_instr op)
  unary_plain Neg = (tt, tt, tt)
  unary_plain Not = (tt, tt, tt)

  ints_leave : (x : Instr) (a b out : Ty) (ks : Kinds) → (a ≡ ty.Int) × (b ≡ ty.Int) → after m c x (ty.Int ∷ ty.Int ∷ ks) ≡ Some (out ∷ ks) → after m c x (b ∷ a ∷ ks) ≡ Some (out ∷ ks)
  ints_leave x a b out ks e h =
      subst (λ (y : Ty). after m c x (y ∷ a ∷ ks) ≡ Some (out ∷ ks)) (sym e.1) (subst (λ (y : Ty). after m c x (ty.Int ∷ y ∷ ks) ≡ Some (out ∷ ks)) (sym e.0) h)

  equals_leave : (a b : Ty) (ks : Kinds) → a ≡ b → compares (b ∷ a ∷ ks) ≡ Some (ty.Bool ∷ ks)
  equals_leave ty.Int ty.Int ks e = refl
  equals_leave ty.Int ty.Bool ks e = absurd cc
  equals_leave ty.Bool ty.Int ks e = absurd cc
  equals_leave ty.Bool ty.Bool ks e = refl

  binary_leaves : (op : BinaryOp) (a b : Ty) (ks : Kinds) → IsStrict op → OperandsFit op a b → after m c (binary_instr op) (b ∷ a ∷ ks) ≡ Some (binary_kind op ∷ ks)
  binary_leaves Add a b ks s e = ints_leave i.Add a b ty.Int ks e refl
  binary_leaves Sub a b ks s e = ints_leave i.Sub a b ty.Int ks e refl
  binary_leaves Mul a b ks s e = ints_leave i.Mul a b ty.Int ks e refl
  binary_leaves Div a b ks s e = ints_leave i.Div a b ty.Int ks e refl
  binary_leaves Rem a b ks s e = ints_leave i.Rem a b ty.Int ks e refl
  binary_leaves Lt a b ks s e = ints_leave i.Lt a b ty.Bool ks e refl
  binary_leaves Le a b ks s e = ints_leave i.Le a b ty.Bool ks e refl
  binary_leaves Gt a b ks s e = ints_leave i.Gt a b ty.Bool ks e refl
  binary_leaves Ge a b ks s e = ints_leave i.Ge a b ty.Bool ks e refl
  binary_leaves Eq a b ks s e = equals_leave a b ks e
  binary_leaves Ne a b ks s e = equals_leave a b ks e
  binary_leaves And a b ks s e = absurd s
  binary_leaves Or a b ks s e = absurd s

  strict_plain : (op : BinaryOp) → IsStrict op → Falls (binary_instr op) × IsInRange m c (binary_instr op) × IsPlain (binary_instr op)
  strict_plain And s = absurd s
  strict_plain Or s = absurd s
  strict_plain _ s = (tt, tt, tt)

module _ (m : Module) (c : Code) (taken : Taken) (Ok : Instr → Type 0) (visible : ℕ) (main : Bool) (permits : Permits m c visible main Ok) (long : length taken ≡ length c.instrs) where
  -- what is known of an operand's code: where it stands with its kinds, it is right
  pub record Operand (n : ℕ) (code : ℕ → List Instr) (kinds : Kinds → Taken) (kind : Ty) (most : ℕ) : Type 0 where
    pub code_long : (at : ℕ) → length (code at) ≡ n
    pub kinds_long : (ks : Kinds) → length (kinds ks) ≡ n
    pub starts : (at : ℕ) (ks : Kinds) → Held taken at (kinds ks) → KindsAt taken at ks
    pub right : (at : ℕ) (ks : Kinds) → length ks ≤ most → Held c.instrs at (code at) → Held taken at (kinds ks) → KindsAt taken (at + n) (kind ∷ ks) → Right m c taken Ok at (code at)

  module _ (n k most : ℕ) (a b : Ty) (left right : ℕ → List Instr) (lt rt : Kinds → Taken) (one : Operand n left lt a most) (two : Operand k right rt b (most + 1)) (at : ℕ) (ks : Kinds)
      (short : length ks ≤ most) (few : most + 2 ≤ most_operands) where
    strict_right : (op : BinaryOp) → IsStrict op → OperandsFit op a b
        → Held c.instrs at (left at ++ right (at + n) ++ binary_instr op ∷ []) → Held taken at (lt ks ++ rt (a ∷ ks) ++ (b ∷ a ∷ ks) ∷ []) → KindsAt taken (at + (n + k + 1)) (binary_kind op ∷ ks)
        → Right m c taken Ok at (left at ++ right (at + n) ++ binary_instr op ∷ [])
    strict_right op s fit h t end =
        let plain : _ × _ × _ = strict_plain m c op s in
        let l = length-append (left at) (right (at + n)) in
        let l1 = one.code_long at in
        let l2 = two.code_long (at + n) in
        let q = length-append (lt ks) (rt (a ∷ ks)) in
        let q1 = one.kinds_long ks in
        let q2 = two.kinds_long (a ∷ ks) in
        then_one m c taken Ok at (n + k) (left at ++ right (at + n)) (lt ks ++ rt (a ∷ ks)) (binary_instr op) (b ∷ a ∷ ks) (binary_kind op ∷ ks)
        (omega (arith, l, l1, l2)) (omega (arith, q, q1, q2)) plain.0 plain.1 (permits.plain (binary_instr op) plain.2) (binary_leaves m c op a b ks s fit) (omega (arith, short, few)) h t end
        (λ h1 t1 there. then_piece m c taken Ok at n (left at) (right (at + n)) (lt ks) (rt (a ∷ ks)) (a ∷ ks) l1 q1 h1 t1 (λ tb. two.starts (at + n) (a ∷ ks) tb)
        (λ ha ta begins. one.right at ks short ha ta begins)
        (λ hb tb begins. two.right (at + n) (a ∷ ks) (omega (arith, short)) hb tb (at_end taken (b ∷ a ∷ ks) (at + (n + k)) (at + n + k) (omega arith) there)))

    -- `&&`: the branch goes to `False`, the jump behind it
    and_right : (a ≡ ty.Bool) → (b ≡ ty.Bool)
        → Held c.instrs at (binary_code And at n k (left at) right) → Held taken at (binary_taken And ks a b (lt ks) rt) → KindsAt taken (at + (n + k + 3)) (ty.Bool ∷ ks)
        → Right m c taken Ok at (binary_code And at n k (left at) right)
    and_right ea eb h t end =
        let no = at + n + 1 + k + 1 in
        let out = at + n + 1 + k + 2 in
        let l1 = one.code_long at in
        let l2 = two.code_long (at + n + 1) in
        let q1 = one.kinds_long ks in
        let q2 = two.kinds_long ks in
        let l = length-append (left at) (i.Branch no ∷ right (at + n + 1)) in
        let q = length-append (lt ks) ((a ∷ ks) ∷ rt ks) in
        let front = left at ++ i.Branch no ∷ right (at + n + 1) in
        let front_t = lt ks ++ (a ∷ ks) ∷ rt ks in
        let jump : at + n + 1 + k ≡ at + (n + 1 + k) = omega arith in
        let h1 = in_front c.instrs at front (i.Jump out ∷ i.False ∷ []) h in
        let h2 = behind c.instrs at (at + n + 1 + k) front (i.Jump out ∷ i.False ∷ []) (omega (arith, l, l1, l2)) h in
        let t1 = in_front taken at front_t ((b ∷ ks) ∷ ks ∷ []) t in
        let t2 = behind taken at (at + n + 1 + k) front_t ((b ∷ ks) ∷ ks ∷ []) (omega (arith, q, q1, q2)) t in
        let hr = past c.instrs at n (left at) (i.Branch no ∷ right (at + n + 1)) l1 h1 in
        let tr = past taken at n (lt ks) ((a ∷ ks) ∷ rt ks) q1 t1 in
        let test : KindsAt taken (at + n) (ty.Bool ∷ ks) = subst (λ (x : Ty). KindsAt taken (at + n) (x ∷ ks)) ea tr.0 in
        let left_over : KindsAt taken (at + n + 1 + k) (ty.Bool ∷ ks) = subst (λ (x : Ty). KindsAt taken (at + n + 1 + k) (x ∷ ks)) eb t2.0 in
        let false_at : KindsAt taken no ks = at_end taken ks (at + n + 1 + k + 1) no refl t2.1.0 in
        let end_at : KindsAt taken out (ty.Bool ∷ ks) = at_end taken (ty.Bool ∷ ks) (at + (n + k + 3)) out (omega arith) end in
        let behind_false : KindsAt taken (no + 1) (ty.Bool ∷ ks) = at_end taken (ty.Bool ∷ ks) out (no + 1) (omega arith) end_at in
        let begins = two.starts (at + n + 1) ks tr.1 in
        let branch = branches m c taken Ok (at + n) no ks hr.0 test (inside m c taken Ok long no ks false_at) (omega arith) (omega (arith, short, few))
        (permits.branches no (inside m c taken Ok long no ks false_at)) false_at begins in
        let leap = jumps m c taken Ok (at + n + 1 + k) out (ty.Bool ∷ ks) left_over (inside m c taken Ok long out (ty.Bool ∷ ks) end_at) (omega arith) (omega (arith, short, few))
        (permits.jumps out (inside m c taken Ok long out (ty.Bool ∷ ks) end_at)) end_at
        (λ lt none. absurd (branch_comes m c taken Ok (at + n) no (at + n + 1 + k + 1) ks hr.0 test refl none)) in
        let no_value = falls m c taken Ok no i.False ks (ty.Bool ∷ ks) tt h2.1.0 false_at tt refl (omega (arith, short, few)) (permits.plain i.False tt) behind_false in
        join m c taken Ok at (at + n + 1 + k) front (i.Jump out ∷ i.False ∷ []) (omega (arith, l, l1, l2))
        (join m c taken Ok at (at + n) (left at) (i.Branch no ∷ right (at + n + 1)) (omega (arith, l1))
        (one.right at ks short (in_front c.instrs at (left at) _ h1) (in_front taken at (lt ks) _ t1) tr.0)
        (branch, two.right (at + n + 1) ks (omega (arith, short)) hr.1 tr.1 t2.0))
        (leap, (no_value, tt))

    -- `||`: the branch goes to the right operand, the jump behind it
    or_right : (a ≡ ty.Bool) → (b ≡ ty.Bool)
        → Held c.instrs at (binary_code Or at n k (left at) right) → Held taken at (binary_taken Or ks a b (lt ks) rt) → KindsAt taken (at + (n + k + 3)) (ty.Bool ∷ ks)
        → Right m c taken Ok at (binary_code Or at n k (left at) right)
    or_right ea eb h t end =
        let other = at + n + 3 in
        let out = at + n + 3 + k in
        let l1 = one.code_long at in
        let q1 = one.kinds_long ks in
        let rest = i.Branch other ∷ i.True ∷ i.Jump out ∷ right other in
        let hr = past c.instrs at n (left at) rest l1 h in
        let tr = past taken at n (lt ks) ((a ∷ ks) ∷ ks ∷ (ty.Bool ∷ ks) ∷ rt ks) q1 t in
        let third : at + n + 1 + 1 + 1 ≡ at + n + 3 = omega arith in
        let held_right : Held c.instrs other (right other) = subst (λ (x : ℕ). Held c.instrs x (right other)) third hr.1.1.1 in
        let held_kinds : Held taken other (rt ks) = subst (λ (x : ℕ). Held taken x (rt ks)) third tr.1.1.1 in
        let test : KindsAt taken (at + n) (ty.Bool ∷ ks) = subst (λ (x : Ty). KindsAt taken (at + n) (x ∷ ks)) ea tr.0 in
        let begins = two.starts other ks held_kinds in
        let end_at : KindsAt taken out (ty.Bool ∷ ks) = at_end taken (ty.Bool ∷ ks) (at + (n + k + 3)) out (omega arith) end in
        let end_b : KindsAt taken out (b ∷ ks) = subst (λ (x : Ty). KindsAt taken out (x ∷ ks)) (sym eb) end_at in
        let branch = branches m c taken Ok (at + n) other ks hr.0 test (inside m c taken Ok long other ks begins) (omega arith) (omega (arith, short, few))
        (permits.branches other (inside m c taken Ok long other ks begins)) begins tr.1.0 in
        let yes_value = falls m c taken Ok (at + n + 1) i.True ks (ty.Bool ∷ ks) tt hr.1.0 tr.1.0 tt refl (omega (arith, short, few)) (permits.plain i.True tt) tr.1.1.0 in
        let leap = jumps m c taken Ok (at + n + 1 + 1) out (ty.Bool ∷ ks) tr.1.1.0 (inside m c taken Ok long out (ty.Bool ∷ ks) end_at) (omega arith) (omega (arith, short, few))
        (permits.jumps out (inside m c taken Ok long out (ty.Bool ∷ ks) end_at)) end_at
        (λ lt none. absurd (branch_comes m c taken Ok (at + n) other (at + n + 1 + 1 + 1) ks hr.0 test (omega arith) none)) in
        let last = two.right other ks (omega (arith, short)) held_right held_kinds end_b in
        let last' : Right m c taken Ok (at + n + 1 + 1 + 1) (right other) = subst (λ (x : ℕ). Right m c taken Ok x (right other)) (sym third) last in
        join m c taken Ok at (at + n) (left at) rest (omega (arith, l1)) (one.right at ks short (in_front c.instrs at (left at) _ h) (in_front taken at (lt ks) _ t) tr.0)
        (branch, (yes_value, (leap, last')))

    pub binary_right : (op : BinaryOp) → OperandsFit op a b
        → Held c.instrs at (binary_code op at n k (left at) right) → Held taken at (binary_taken op ks a b (lt ks) rt) → KindsAt taken (at + (n + k + operator_size op)) (binary_kind op ∷ ks)
        → Right m c taken Ok at (binary_code op at n k (left at) right)
    binary_right And fit h t end = and_right fit.0 fit.1 h t end
    binary_right Or fit h t end = or_right fit.0 fit.1 h t end
    binary_right op fit h t end = strict_right op tt fit h t end
