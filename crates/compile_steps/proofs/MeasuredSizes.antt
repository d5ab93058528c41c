-- The measured sizes are taken one behind the other.
use Rattle.std.proofs.Common.{◌≡◌, ℕ, ◌+◌, ◌<◌, List, [], ◌∷◌, ◌++◌, Option, length, get_or, take, drop, refl, sym, ap, ◌∙◌, subst, arith, append_assoc}
use Rattle.std.proofs.Math.Seq.{take-append_seam, drop-append_seam}
use Rattle.std.proofs.lemmas.List.{take-append-drop, drop-drop, get_or-drop, length-drop}
use Rattle.std.specs.Io.{StartsWith}
use Rattle.csl_tree.specs.declared.program.Program.{Program}
use Rattle.csl_tree.specs.declared.program.Expr.{Expr}
use Rattle.csl_tree.specs.declared.program.Stmt.{Stmt}
use Rattle.csl_tree.specs.declared.program.Arm.{Arm, out-Arm}
use Rattle.csl_tree.specs.declared.program.Form.{Form}
use Rattle.csl_tree.specs.declared.program.Form.TheVariants as form
use Rattle.bytecode.specs.declared.instr.Instr.{Instr}
use Rattle.compiled_code.specs.Sizes.{kinds_in}
use Rattle.compiled_code.specs.Places.{slots_after, form_size}
use Rattle.compiled_code.specs.Statements.{Exits}
use Rattle.expression_code.specs.declared.writer.Writer.{Writer}
use Rattle.expression_code.specs.Lists.{kinds_of, kinds_of_arms, statements_size, all_arms_size, last_block_size}
use Rattle.expression_code.specs.Asked.{asked, asked_by, asked_inside, asked_by_arms, asked_by_last}
use Rattle.expression_code.proofs.AskedLemmas.{asked_if, asked_while, asked_block, asked_for_parts}
use Rattle.expression_code.proofs.StatementSizes.{size_if}
use Rattle.compile_steps.specs.Writing.{Measured, FormMeasured, AllMeasured, InsideMeasured, ArmsMeasured, LastMeasured, Wrote, WroteForm, WroteBlock, WroteArms}

-- what a list begins with, and the rest
begins : (xs a : List ℕ) → StartsWith xs a → xs ≡ a ++ drop (length a) xs
begins xs a h = sym (take-append-drop (length a) xs) ∙ ap (λ (t : List ℕ). t ++ drop (length a) xs) h

begun : (xs a rest : List ℕ) → xs ≡ a ++ rest → StartsWith xs a
begun xs a rest e = ap (take (length a)) e ∙ take-append_seam a rest

both_begin : (xs a b : List ℕ) → StartsWith xs (a ++ b) → xs ≡ a ++ (b ++ drop (length (a ++ b)) xs)
both_begin xs a b h = begins xs (a ++ b) h ∙ append_assoc a b (drop (length (a ++ b)) xs)

-- the first of two parts
pub measured_front : (a b : List ℕ) (w : Writer) → Measured (a ++ b) w → Measured a w
measured_front a b w h = begun (drop w.asked w.sizes) a _ (both_begin (drop w.asked w.sizes) a b h)

-- the second, behind the first
pub measured_rest : (a b : List ℕ) (w new : Writer) → Measured (a ++ b) w → new.sizes ≡ w.sizes → new.asked ≡ w.asked + length a → Measured b new
measured_rest a b w new h sizes asked =
    let xs : List ℕ = drop w.asked w.sizes in
    let left : drop new.asked new.sizes ≡ drop (length a) xs = (λ j. drop (asked j) (sizes j)) ∙ sym (drop-drop (length a) w.asked w.sizes) in
    let e = both_begin xs a b h in
    begun (drop new.asked new.sizes) b _ (left ∙ ap (drop (length a)) e ∙ drop-append_seam a _)

-- there is one
pub measured_here : (n : ℕ) (a : List ℕ) (w : Writer) → Measured (n ∷ a) w → w.asked < length w.sizes
measured_here n a w h =
    let whole = ap length (begins (drop w.asked w.sizes) (n ∷ a) h) in
    let left = length-drop w.asked w.sizes in
    omega (arith, whole, left)

-- and it is the next
pub measured_first : (n size : ℕ) (a : List ℕ) (w : Writer) → Measured (n ∷ a) w → size ≡ get_or w.sizes w.asked 0 → size ≡ n
measured_first n size a w h e =
    let none : w.asked + 0 ≡ w.asked = omega arith in
    e ∙ ap (λ k. get_or w.sizes k 0) (sym none) ∙ sym (get_or-drop w.asked w.sizes 0 0) ∙ ap (λ (xs : List ℕ). get_or xs 0 0) (begins (drop w.asked w.sizes) (n ∷ a) h)

-- the others are those behind it
pub measured_next : (n : ℕ) (a : List ℕ) (w taken : Writer) → Measured (n ∷ a) w → taken ≡ record w { asked = w.asked + 1 } → Measured a taken
measured_next n a w taken h e = measured_rest (n ∷ []) a w taken h (ap (λ (x : Writer). x.sizes) e) (ap (λ (x : Writer). x.asked) e)

module _ (p : Program) where
  -- ---- several statements

  pub first_measured : (s : Stmt) (rest : List Stmt) (w : Writer) → AllMeasured p (s ∷ rest) w → FormMeasured p s.form w
  first_measured s rest w h = measured_front (asked p s.form w.scope.slots w.scope.next) _ w h

  pub rest_measured : (s : Stmt) (rest : List Stmt) (exits : Exits) (old new : Writer) → AllMeasured p (s ∷ rest) old → WroteForm p s.form exits old new → AllMeasured p rest new
  rest_measured s rest exits old new h wrote =
      subst (λ (a : List ℕ). Measured a new) (λ j. asked_by p rest (sym wrote.slots j) (sym wrote.locals j))
      (measured_rest (asked p s.form old.scope.slots old.scope.next) _ old new h wrote.sizes wrote.asked)

  -- ---- a block that a branch leads past

  pub inside_measured : {code : List Instr} (body : List Stmt) (old new : Writer) → InsideMeasured p body old → Wrote code old.scope.slots 0 0 0 1 old new → AllMeasured p body new
  inside_measured {code} body old new h wrote =
      let next : new.scope.next ≡ old.scope.next = let e = wrote.locals in omega (arith, e) in
      subst (λ (a : List ℕ). Measured a new) (λ j. asked_by p body (sym wrote.slots j) (sym next j))
      (measured_rest (statements_size p body old.scope.slots old.scope.next ∷ []) _ old new h wrote.sizes wrote.asked)

  pub while_measured : (f : Form) (test : Expr) (body shown : List Stmt) (w : Writer) → f ≡ form.While test body → shown ≡ body → FormMeasured p f w → InsideMeasured p shown w
  while_measured f test body shown w is e h =
      subst (λ (b : List Stmt). InsideMeasured p b w) (sym e) (subst (λ (a : List ℕ). Measured a w) (asked_while p f test body w.scope.slots w.scope.next is) h)

  pub block_measured : (f : Form) (body shown : List Stmt) (w : Writer) → f ≡ form.Block body → shown ≡ body → FormMeasured p f w → AllMeasured p shown w
  block_measured f body shown w is e h =
      subst (λ (b : List Stmt). AllMeasured p b w) (sym e) (subst (λ (a : List ℕ). Measured a w) (asked_block p f body w.scope.slots w.scope.next is) h)

  -- ---- an `if`

  module _ (f : Form) (arms : List Arm) (last : Option (List Stmt)) (w : Writer) (is : f ≡ form.If arms last) (h : FormMeasured p f w) where
    abbrev size : ℕ
    size = all_arms_size p arms w.scope.slots w.scope.next + last_block_size p last w.scope.slots (w.scope.next + length (kinds_of_arms arms))

    abbrev parts : List ℕ
    parts = asked_by_arms p arms w.scope.slots w.scope.next ++ asked_by_last p last w.scope.slots (w.scope.next + length (kinds_of_arms arms))

    opened : Measured (size ∷ parts) w
    opened = subst (λ (a : List ℕ). Measured a w) (asked_if p f arms last w.scope.slots w.scope.next is) h

    pub if_here : w.asked < length w.sizes
    if_here = measured_here size parts w opened

    -- the size that is taken is that of the whole `if`
    pub if_size : (n : ℕ) → n ≡ get_or w.sizes w.asked 0 → n ≡ form_size p f w.scope.slots w.scope.next
    if_size n e = measured_first size n parts w opened e ∙ sym (size_if p f arms last w.scope.slots w.scope.next is)

    module _ (taken : Writer) (e : taken ≡ record w { asked = w.asked + 1 }) where
      behind : Measured parts taken
      behind = measured_next size parts w taken opened e

      pub arms_measured : (shown : List Arm) → shown ≡ arms → ArmsMeasured p shown taken
      arms_measured shown same =
          subst (λ (a : List ℕ). Measured a taken) (λ j. asked_by_arms p (sym same j) (sym e j).scope.slots (sym e j).scope.next)
          (measured_front (asked_by_arms p arms w.scope.slots w.scope.next) _ taken behind)

      pub last_measured : (shown : List Arm) (exits : Exits) (end : ℕ) (mid : Writer) → shown ≡ arms → WroteArms p shown exits end taken mid → LastMeasured p last mid
      last_measured shown exits end mid same wrote =
          let arms_part : WroteArms p arms exits end (record w { asked = w.asked + 1 }) mid =
          subst (λ (x : Writer). WroteArms p arms exits end x mid) e (subst (λ (a : List Arm). WroteArms p a exits end taken mid) same wrote) in
          let here : Measured parts (record w { asked = w.asked + 1 }) = subst (Measured parts) e behind in
          subst (λ (a : List ℕ). Measured a mid) (λ j. asked_by_last p last (sym arms_part.slots j) (sym arms_part.locals j))
          (measured_rest (asked_by_arms p arms w.scope.slots w.scope.next) _ (record w { asked = w.asked + 1 }) mid here arms_part.sizes arms_part.asked)

  -- the block of the first arm
  pub arm_measured : (a : Arm) (rest : List Arm) (w : Writer) → ArmsMeasured p (a ∷ rest) w → InsideMeasured p (out-Arm a).body w
  arm_measured a rest w h = measured_front (asked_inside p (out-Arm a).body w.scope.slots w.scope.next) _ w h

  -- the arms behind it
  pub other_arms_measured : {code : List Instr} (a : Arm) (rest : List Arm) (exits : Exits) (old mid after : Writer) (instrs : List Instr) → ArmsMeasured p (a ∷ rest) old
      → Wrote code old.scope.slots 0 0 0 1 old mid → WroteBlock p (out-Arm a).body exits mid after → ArmsMeasured p rest (record after { instrs = instrs })
  other_arms_measured {code} a rest exits old mid after instrs h test block =
      let body = (out-Arm a).body in
      let next : mid.scope.next ≡ old.scope.next = let e = test.locals in omega (arith, e) in
      let slots : after.scope.slots ≡ old.scope.slots = block.slots ∙ test.slots in
      let locals : after.scope.next ≡ old.scope.next + length (kinds_of body) = let e = block.locals in omega (arith, e, next) in
      let same : length (asked_by p body mid.scope.slots mid.scope.next) ≡ length (asked_by p body old.scope.slots old.scope.next) = (λ j. length (asked_by p body (test.slots j) (next j))) in
      let count : after.asked ≡ old.asked + length (asked_inside p body old.scope.slots old.scope.next) = let e = test.asked in let f = block.asked in omega (arith, e, f, same) in
      subst (λ (x : List ℕ). Measured x (record after { instrs = instrs })) (λ j. asked_by_arms p rest (sym slots j) (sym locals j))
      (measured_rest (asked_inside p body old.scope.slots old.scope.next) _ old (record after { instrs = instrs }) h (block.sizes ∙ test.sizes) count)

  -- ---- a `for`

  module _ (f : Form) (first first' : Stmt) (test : Expr) (next next' : Stmt) (body inside : List Stmt) (exits : Exits) (old one : Writer) (is : f ≡ form.For first test next body)
      (first_is : first' ≡ first) (next_is : next' ≡ next) (inside_is : inside ≡ body) (h : FormMeasured p f old) where
    -- its first statement
    pub for_first_measured : FormMeasured p first'.form old
    for_first_measured =
        let slots = slots_after old.scope.slots old.scope.next first'.form in
        let begin = old.scope.next + length (kinds_in first'.form) in
        measured_front (asked p first'.form old.scope.slots old.scope.next) _ old
        (subst (λ (a : List ℕ). Measured a old)
        (asked_for_parts p f first first' test next next' body inside old.scope.slots old.scope.next (record { slots = slots; next = begin })
        (record { slots = slots; next = begin + length (kinds_of inside) })
        is first_is next_is inside_is refl refl refl refl) h)

    module _ (w : WroteForm p first'.form exits old one) where
      abbrev step : ℕ
      step = form_size p next'.form one.scope.slots (one.scope.next + length (kinds_of inside))

      abbrev block : List ℕ
      block = asked_inside p inside one.scope.slots one.scope.next

      abbrev last : List ℕ
      last = asked p next'.form one.scope.slots (one.scope.next + length (kinds_of inside))

      -- what is behind it
      loop_measured : Measured (step ∷ block ++ last) one
      loop_measured =
          measured_rest (asked p first'.form old.scope.slots old.scope.next) _ old one
          (subst (λ (a : List ℕ). Measured a old)
          (asked_for_parts p f first first' test next next' body inside old.scope.slots old.scope.next one.scope (record { slots = one.scope.slots; next = one.scope.next + length (kinds_of inside) })
          is first_is next_is inside_is w.slots w.locals refl refl) h) w.sizes w.asked

      pub step_here : one.asked < length one.sizes
      step_here = measured_here step (block ++ last) one loop_measured

      pub step_first : (n : ℕ) → n ≡ get_or one.sizes one.asked 0 → n ≡ step
      step_first n e = measured_first step n (block ++ last) one loop_measured e

      module _ (taken : Writer) (e : taken ≡ record one { asked = one.asked + 1 }) where
        block_left : Measured (block ++ last) taken
        block_left = measured_next step (block ++ last) one taken loop_measured e

        pub inside_here : taken.asked < length taken.sizes
        inside_here = measured_here (statements_size p inside one.scope.slots one.scope.next) _ taken block_left

        pub inside_first : (n : ℕ) → n ≡ get_or taken.sizes taken.asked 0 → n ≡ statements_size p inside one.scope.slots one.scope.next
        inside_first n e = measured_first (statements_size p inside one.scope.slots one.scope.next) n _ taken block_left e

      module _ {code : List Instr} (after : Writer) (t : Wrote code one.scope.slots 0 0 0 2 one after) where
        slot_stays : after.scope.next ≡ one.scope.next
        slot_stays = let e = t.locals in omega (arith, e)

        -- its block
        pub for_body_measured : (inside' : List Stmt) → inside' ≡ inside → AllMeasured p inside' after
        for_body_measured inside' same =
            subst (λ (a : List ℕ). Measured a after) (λ j. asked_by p (sym same j) (sym t.slots j) (sym slot_stays j))
            (measured_front (asked_by p inside one.scope.slots one.scope.next) last after
            (measured_rest (step ∷ statements_size p inside one.scope.slots one.scope.next ∷ []) (asked_by p inside one.scope.slots one.scope.next ++ last) one after loop_measured t.sizes t.asked))

        -- and the statement behind it
        pub for_next_measured : (inside' : List Stmt) (exits' : Exits) (three : Writer) → inside' ≡ inside → WroteBlock p inside' exits' after three → FormMeasured p next'.form three
        for_next_measured inside' exits' three same wrote =
            let inner : WroteBlock p inside exits' after three = subst (λ (b : List Stmt). WroteBlock p b exits' after three) same wrote in
            let slots : three.scope.slots ≡ one.scope.slots = inner.slots ∙ t.slots in
            let locals : three.scope.next ≡ one.scope.next + length (kinds_of inside) = let e = inner.locals in let stays = slot_stays in omega (arith, e, stays) in
            let count : length (asked_by p inside after.scope.slots after.scope.next) ≡ length (asked_by p inside one.scope.slots one.scope.next) =
            (λ j. length (asked_by p inside (t.slots j) (slot_stays j))) in
            let taken : three.asked ≡ one.asked + length (step ∷ block) = let e = t.asked in let g = inner.asked in omega (arith, e, g, count) in
            subst (λ (a : List ℕ). Measured a three) (λ j. asked p next'.form (sym slots j) (sym locals j))
            (measured_rest (step ∷ block) last one three loop_measured (inner.sizes ∙ t.sizes) taken)
