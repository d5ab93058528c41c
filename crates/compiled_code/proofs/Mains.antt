-- The code of main's own statements: lines and parallel steps.
use Rattle.std.proofs.Common.{◌≡◌, ℕ, zero, suc, ◌+◌, ◌⊎◌, inl, inr, Bool, true, false, if◌then◌else◌, List, [], ◌∷◌, ◌++◌, length, take, drop, map, Option, Some, None, refl, sym, ap, ◌∙◌, subst}
use Rattle.std.proofs.Common.{arith, append_assoc}
use Rattle.std.specs.Prelude.{ℤ, pos, negsuc, slice_get, nat_lt, nat_le, sum}
use Rattle.std.proofs.lemmas.List.{append-nil, length-map, take-map}
use Rattle.std.proofs.Math.Seq.{take-append_seam, drop-append_seam}
use Rattle.cal_base.specs.declared.ends.Cause.TheVariants as cause
use Rattle.cal_base.specs.declared.value.Val.{Val}
use Rattle.cal_base.specs.declared.value.Val.TheVariants as val
use Rattle.cal_base.specs.declared.value.Store.TheVariants.{Main}
use Rattle.cal_base.specs.Stores.{memory_in}
use Rattle.cal_base.specs.Printing.{shown, line_of}
use Rattle.cal_base.specs.Widths.{step_widths, naturals, and_natural, unless_too_many}
use Rattle.csl_tree.specs.declared.program.Program.{Program}
use Rattle.csl_tree.specs.declared.program.Item.{Item}
use Rattle.csl_tree.specs.declared.program.Item.TheVariants as item
use Rattle.csl_tree.specs.declared.program.RoutineBlock.{RoutineBlock, RoutineBlock'}
use Rattle.csl_tree.specs.declared.program.Form.TheVariants as variant
use Rattle.csl_meaning.specs.declared.state.World.{World}
use Rattle.csl_meaning.specs.declared.state.Ending.TheVariants as ending
use Rattle.csl_meaning.specs.Layout.{Text}
use Rattle.csl_meaning.specs.Locals.{Locals}
use Rattle.csl_meaning.specs.Operators.{number_in}
use Rattle.csl_meaning.specs.Runs.{and_then, ◌>>=◌, ◌>>◌, pure, spend, take_unit}
use Rattle.csl_meaning.specs.Value.{value_of}
use Rattle.csl_meaning.specs.Effect.{Went, Printing, Stepping, calls_to}
use Rattle.csl_meaning.specs.Meaning.{show, pieces, widths_of, good_widths, open_step, in_main}
use Rattle.bytecode.specs.declared.instr.PrintItem.{PrintItem}
use Rattle.bytecode.specs.declared.instr.PrintItem.TheVariants as printed
use Rattle.bytecode.specs.declared.instr.Instr.TheVariants as i
use Rattle.cal_terms.specs.declared.types.Ty.{Ty}
use Rattle.cal_terms.specs.declared.types.Ty.TheVariants as ty
use Rattle.bytecode.specs.declared.module.Code.{Code}
use Rattle.code_verify.specs.Rules.{IsVerified}
use Rattle.machine_meaning.specs.Machine as machine
use Rattle.machine_meaning.specs.Machine.{Call, State, Next, On, Prints, Opens, Traps, in_routine, number, truth, many_numbers, on_with, opens, spends, next}
use Rattle.machine_meaning.specs.Meaning as machine_means
use Rattle.machine_meaning.specs.Meaning.{blocks_of}
use Rattle.machine_meaning.proofs.Steps.{Good, Follows}
use Rattle.machine_meaning.proofs.Never.{next_good, function_runs}
use Rattle.machine_meaning.proofs.Composes.{here}
use Rattle.compiled_code.specs.Slots.{Slots}
use Rattle.compiled_code.specs.Sizes.{size_of, items_size, widths_size, item_texts, texts_in, steps_in}
use Rattle.compiled_code.specs.Values.{code_of, kind_in}
use Rattle.compiled_code.specs.Statements.{At, items_code, printed_kind, printed_items, widths_code}
use Rattle.compiled_code.specs.Modules.{block_code, module_of}
use Rattle.compiled_code.specs.Shape.{HasShape, ItemsAre, WidthsAre, RoutineIs}
use Rattle.compiled_code.proofs.Does.{Sound, Does, then_does, trap_does, no_step}
use Rattle.compiled_code.proofs.Pieces.{Holds, front, back}
use Rattle.compiled_code.proofs.Frames.{Agree}
use Rattle.compiled_code.proofs.Lengths.{expr_length, items_length, widths_length}
use Rattle.compiled_code.proofs.Operands.{pushed}
use Rattle.compiled_code.proofs.Values.{CallsDo, at_instr, from, mk, Left, value_does}
use Rattle.compiled_code.proofs.Statements.{Plain}
use Rattle.compiled_code.proofs.Bodies.{calls_do}
use Rattle.compiled_code.proofs.Routines.{answers_same}

-- ---- lists

drop_none : {A : Type 0} (j : ℕ) → drop {A = A} j [] ≡ []
drop_none zero = refl
drop_none (suc j) = refl

drop_add : {A : Type 0} (n k : ℕ) (xs : List A) → drop (n + k) xs ≡ drop k (drop n xs)
drop_add zero k xs = let e : 0 + k ≡ k = omega arith in ap (λ (j : ℕ). drop j xs) e
drop_add (suc n) k [] = drop_none (suc n + k) ∙ sym (drop_none k)
drop_add (suc n) k (x ∷ xs) = let e : suc n + k ≡ suc (n + k) = omega arith in ap (λ (j : ℕ). drop j (x ∷ xs)) e ∙ drop_add n k xs

drop_map : {A B : Type 0} (f : A → B) (n : ℕ) (xs : List A) → drop n (map f xs) ≡ map f (drop n xs)
drop_map f zero xs = refl
drop_map f (suc n) [] = refl
drop_map f (suc n) (x ∷ xs) = drop_map f n xs

-- what stands at the head behind some others
get_drop : {A : Type 0} (n k : ℕ) (xs : List A) → slice_get (drop n xs) k ≡ slice_get xs (n + k)
get_drop zero k xs = let e : 0 + k ≡ k = omega arith in ap (λ (j : ℕ). slice_get xs j) (sym e)
get_drop (suc n) k [] = refl
get_drop (suc n) k (x ∷ xs) = let e : suc n + k ≡ suc (n + k) = omega arith in get_drop n k xs ∙ ap (λ (j : ℕ). slice_get (x ∷ xs) j) (sym e)

get_front : {A : Type 0} (xs ys : List A) (k : ℕ) (x : A) → slice_get xs k ≡ Some x → slice_get (xs ++ ys) k ≡ Some x
get_front [] ys k x e = absurd cc
get_front (z ∷ xs) ys zero x e = e
get_front (z ∷ xs) ys (suc k) x e = get_front xs ys k x e

pub get_map : {A B : Type 0} (f : A → B) (xs : List A) (k : ℕ) (x : A) → slice_get xs k ≡ Some x → slice_get (map f xs) k ≡ Some (f x)
get_map f [] k x e = absurd cc
get_map f (z ∷ xs) zero x e = let same : z ≡ x = cc in ap (λ (y : _). Some (f y)) same
get_map f (z ∷ xs) (suc k) x e = get_map f xs k x e

-- ---- widths

naturals_length : (zs : List ℤ) (ns : List ℕ) → naturals zs ≡ Some ns → length ns ≡ length zs
naturals_length [] ns e = let same : [] ≡ ns = cc in ap (λ (l : List ℕ). length l) (sym same)
naturals_length (pos n ∷ zs) ns e = by (naturals zs) e (λ ms e'. naturals_length zs ms e')
  where
    by : (o : Option (List ℕ)) → and_natural (pos n) o ≡ Some ns → ((ms : List ℕ) → o ≡ Some ms → length ms ≡ length zs) → length ns ≡ suc (length zs)
    by None e' more = absurd cc
    by (Some ms) e' more = let same : n ∷ ms ≡ ns = cc in ap (λ (l : List ℕ). length l) (sym same) ∙ ap suc (more ms refl)
naturals_length (negsuc n ∷ zs) ns e = absurd cc

widths_length' : (zs : List ℤ) (ns : List ℕ) → step_widths zs ≡ Some ns → length ns ≡ length zs
widths_length' zs ns e = by (naturals zs) e (λ ms e'. naturals_length zs ms e')
  where
    small : (b : Bool) (ms : List ℕ) → (if b then Some ms else None) ≡ Some ns → length ms ≡ length zs → length ns ≡ length zs
    small true ms e' h = let same : ms ≡ ns = cc in ap (λ (l : List ℕ). length l) (sym same) ∙ h
    small false ms e' h = absurd cc

    by : (o : Option (List ℕ)) → unless_too_many o ≡ Some ns → ((ms : List ℕ) → o ≡ Some ms → length ms ≡ length zs) → length ns ≡ length zs
    by None e' more = absurd cc
    by (Some ms) e' more = small (nat_le (sum ms) 65536) ms e' (more ms refl)

-- numbers on the operands, above others
taken_numbers : (vs : List Val) (k : ℕ) (ops : List Val) → (many_numbers (length vs + k) (pushed vs ops) ≡ None)
    ⊎ ((x : List ℤ × List Val) × (many_numbers k ops ≡ Some x) × (many_numbers (length vs + k) (pushed vs ops) ≡ Some (x.0 ++ map number_in vs, x.1)))
taken_numbers [] k ops =
    let e : 0 + k ≡ k = omega arith in
    by (many_numbers k ops) refl (ap (λ (n : ℕ). many_numbers n ops) e)
  where
    by : (o : Option (List ℤ × List Val)) → many_numbers k ops ≡ o → many_numbers (0 + k) ops ≡ many_numbers k ops
        → (many_numbers (0 + k) ops ≡ None) ⊎ ((x : List ℤ × List Val) × (many_numbers k ops ≡ Some x) × (many_numbers (0 + k) ops ≡ Some (x.0 ++ [], x.1)))
    by None is same = inl (same ∙ is)
    by (Some x) is same = inr (x, is, same ∙ is ∙ ap (λ (l : List ℤ). Some (l, x.1)) (sym (append-nil x.0)))
taken_numbers (v ∷ vs) k ops =
    let e : length vs + suc k ≡ suc (length vs) + k = omega arith in
    from_more (subst (λ (n : ℕ). (many_numbers n (pushed vs (v ∷ ops)) ≡ None) ⊎ ((x : List ℤ × List Val) × (many_numbers (suc k) (v ∷ ops) ≡ Some x)
    × (many_numbers n (pushed vs (v ∷ ops)) ≡ Some (x.0 ++ map number_in vs, x.1)))) e (taken_numbers vs (suc k) (v ∷ ops)))
  where
    last : (u : Val) (x : List ℤ × List Val) → many_numbers (suc k) (u ∷ ops) ≡ Some x → (y : List ℤ × List Val) × (many_numbers k ops ≡ Some y) × (x ≡ (y.0 ++ number_in u ∷ [], y.1))
    last (val.Truth b) x is = absurd cc
    last (val.Int z) x is = by' (many_numbers k ops) is
      where
        by' : (o : Option (List ℤ × List Val)) → machine.◌>>=◌ o (λ others. Some (others.0 ++ z ∷ [], others.1)) ≡ Some x → (y : List ℤ × List Val) × (o ≡ Some y) × (x ≡ (y.0 ++ z ∷ [], y.1))
        by' None is' = absurd cc
        by' (Some y) is' = let same : (y.0 ++ z ∷ [], y.1) ≡ x = cc in (y, refl, sym same)

    from_more : (many_numbers (suc (length vs) + k) (pushed vs (v ∷ ops)) ≡ None) ⊎ ((x : List ℤ × List Val) × (many_numbers (suc k) (v ∷ ops) ≡ Some x)
        × (many_numbers (suc (length vs) + k) (pushed vs (v ∷ ops)) ≡ Some (x.0 ++ map number_in vs, x.1)))
        → (many_numbers (suc (length vs) + k) (pushed vs (v ∷ ops)) ≡ None) ⊎ ((x : List ℤ × List Val) × (many_numbers k ops ≡ Some x)
        × (many_numbers (suc (length vs) + k) (pushed vs (v ∷ ops)) ≡ Some (x.0 ++ number_in v ∷ map number_in vs, x.1)))
    from_more (inl none) = inl none
    from_more (inr found) =
        let y = last v found.0 found.1 in
        inr (y.0, y.1, found.2 ∙ ap (λ (x : List ℤ × List Val). Some (x.0 ++ map number_in vs, x.1)) y.2 ∙ ap (λ (l : List ℤ). Some (l, y.0.1)) (append_assoc y.0.0 (number_in v ∷ []) (map number_in vs)))

-- ---- what stands in the module from here on

-- the texts and blocks of a part of main, from these numbers on
pub record Listed (p : Program) (text block : ℕ) (texts : List Text) (steps : List RoutineBlock) : Type 0 where
  pub more_texts : List Text
  pub texts_are : drop text (texts_in (variant.Block p.main)) ≡ texts ++ more_texts
  pub more_steps : List RoutineBlock
  pub steps_are : drop block (steps_in (variant.Block p.main)) ≡ steps ++ more_steps

pub listed_front : (p : Program) (t b : ℕ) (a a' : List Text) (x x' : List RoutineBlock) → Listed p t b (a ++ a') (x ++ x') → Listed p t b a x
listed_front p t b a a' x x' h = record {
  more_texts = a' ++ h.more_texts;
  texts_are = h.texts_are ∙ append_assoc a a' h.more_texts;
  more_steps = x' ++ h.more_steps;
  steps_are = h.steps_are ∙ append_assoc x x' h.more_steps;
}

behind_front : {A : Type 0} (n : ℕ) (xs a a' more : List A) → drop n xs ≡ (a ++ a') ++ more → drop (n + length a) xs ≡ a' ++ more
behind_front n xs a a' more e = drop_add n (length a) xs ∙ ap (λ (l : List _). drop (length a) l) (e ∙ append_assoc a a' more) ∙ drop-append_seam a (a' ++ more)

pub listed_back : (p : Program) (t b : ℕ) (a a' : List Text) (x x' : List RoutineBlock) → Listed p t b (a ++ a') (x ++ x') → Listed p (t + length a) (b + length x) a' x'
listed_back p t b a a' x x' h = record {
  more_texts = h.more_texts;
  texts_are = behind_front t (texts_in (variant.Block p.main)) a a' h.more_texts h.texts_are;
  more_steps = h.more_steps;
  steps_are = behind_front b (steps_in (variant.Block p.main)) x x' h.more_steps h.steps_are;
}

module _ (p : Program) (ok : IsVerified (module_of p)) (shape : HasShape p) (whole : ℕ) where
  abbrev pub calls : CallsDo p ok false whole 64
  calls = calls_do p ok false whole shape 64

  pub deep : length {A = Call} [] + 64 ≡ 64
  deep = omega arith

  module _ (c : Code) where
    abbrev mk' : List Val → ℕ → List Val → World → State
    mk' ml place ops w = mk p ok false whole c ml [] place ops w

    -- ---- lines

    module _ (slots : Slots) (ls : Locals) (ml : List Val) (agree : Agree slots ls ml) where
      -- the values of the items lie on the operands; the machine makes the texts of them, or is stuck
      abbrev Pieces : List Item → ℕ → ℕ → List Val → List (List ℕ) → World → State → Type 0
      Pieces items text place ops texts u s' =
          (vs : List Val) × (s' ≡ mk' ml place (pushed vs ops) u)
          × ((machine.pieces (module_of p) (printed_items p slots items text) (pushed vs ops) ≡ None)
          ⊎ (machine.pieces (module_of p) (printed_items p slots items text) (pushed vs ops) ≡ Some (texts, ops)))

      -- one more text in front
      text_piece : (index : ℕ) (name : Text) (items : List Item) (texts : List (List ℕ)) (vs ops : List Val) → slice_get (module_of p).texts index ≡ Some name
          → (machine.pieces (module_of p) (printed_items p slots items (index + 1)) vs ≡ None) ⊎ (machine.pieces (module_of p) (printed_items p slots items (index + 1)) vs ≡ Some (texts, ops))
          → (machine.pieces (module_of p) (printed.Text index ∷ printed_items p slots items (index + 1)) vs ≡ None)
          ⊎ (machine.pieces (module_of p) (printed.Text index ∷ printed_items p slots items (index + 1)) vs ≡ Some (name ∷ texts, ops))
      text_piece index name items texts vs ops at (inl none) = inl (ap (λ (o : Option (List (List ℕ) × List Val)). machine.◌>>=◌ o
          (λ others. machine.◌>>=◌ (slice_get (module_of p).texts index) (λ text. Some (text ∷ others.0, others.1)))) none)
      text_piece index name items texts vs ops at (inr some) =
          inr (ap (λ (o : Option (List (List ℕ) × List Val)). machine.◌>>=◌ o (λ others. machine.◌>>=◌ (slice_get (module_of p).texts index) (λ text. Some (text ∷ others.0, others.1)))) some
          ∙ ap (λ (o : Option Text). machine.◌>>=◌ o (λ text. Some (text ∷ texts, ops))) at)

      -- one more value in front
      value_piece : (kind : Ty) (v : Val) (others : List PrintItem) (texts : List (List ℕ)) (vs ops : List Val)
          → (machine.pieces (module_of p) others vs ≡ None) ⊎ (machine.pieces (module_of p) others vs ≡ Some (texts, v ∷ ops))
          → (machine.pieces (module_of p) (printed_kind kind ∷ others) vs ≡ None) ⊎ (machine.pieces (module_of p) (printed_kind kind ∷ others) vs ≡ Some (shown v ∷ texts, ops))
      value_piece ty.Int v others texts vs ops (inl none) = inl (ap (λ (o : Option (List (List ℕ) × List Val)). machine.◌>>=◌ o
          (λ x. machine.◌>>=◌ (number x.1) (λ z. Some (shown (val.Int z.0) ∷ x.0, z.1)))) none)
      value_piece ty.Int (val.Int z) others texts vs ops (inr some) = inr (ap (λ (o : Option (List (List ℕ) × List Val)). machine.◌>>=◌ o
          (λ x. machine.◌>>=◌ (number x.1) (λ y. Some (shown (val.Int y.0) ∷ x.0, y.1)))) some)
      value_piece ty.Int (val.Truth b) others texts vs ops (inr some) = inl (ap (λ (o : Option (List (List ℕ) × List Val)). machine.◌>>=◌ o
          (λ x. machine.◌>>=◌ (number x.1) (λ y. Some (shown (val.Int y.0) ∷ x.0, y.1)))) some)
      value_piece ty.Bool v others texts vs ops (inl none) = inl (ap (λ (o : Option (List (List ℕ) × List Val)). machine.◌>>=◌ o
          (λ x. machine.◌>>=◌ (truth x.1) (λ z. Some (shown (val.Truth z.0) ∷ x.0, z.1)))) none)
      value_piece ty.Bool (val.Truth b) others texts vs ops (inr some) = inr (ap (λ (o : Option (List (List ℕ) × List Val)). machine.◌>>=◌ o
          (λ x. machine.◌>>=◌ (truth x.1) (λ y. Some (shown (val.Truth y.0) ∷ x.0, y.1)))) some)
      value_piece ty.Bool (val.Int z) others texts vs ops (inr some) = inl (ap (λ (o : Option (List (List ℕ) × List Val)). machine.◌>>=◌ o
          (λ x. machine.◌>>=◌ (truth x.1) (λ y. Some (shown (val.Truth y.0) ∷ x.0, y.1)))) some)

      items_do : (items : List Item) (text block place : ℕ) (ops : List Val) (w : World) → ItemsAre p items → Listed p text block (item_texts items) [] → Sound p ok false whole (mk' ml place ops w)
          → Holds c.instrs place (items_code p slots items place)
          → Does p ok false whole (Pieces items text (place + items_size items) ops) (pieces p (calls_to p 64) ls items w) (mk' ml place ops w)
      items_do [] text block place ops w is at sound has =
          let same : place ≡ place + 0 = omega arith in
          (mk' ml place ops w, here (module_of p) (mk' ml place ops w), sound, ([], ap (λ (n : ℕ). mk' ml n ops w) same, inr refl))
      items_do (item.Text name ∷ rest) text block place ops w is at sound has =
          let one : text + length (name.text ∷ []) ≡ text + 1 = refl in
          let first : slice_get (texts_in (variant.Block p.main)) text ≡ Some name.text = let e : text + 0 ≡ text = omega arith in ap (λ (n : ℕ). slice_get (texts_in (variant.Block p.main)) n) (sym e)
          ∙ sym (get_drop text 0 (texts_in (variant.Block p.main))) ∙ ap (λ (l : List Text). slice_get l 0) at.texts_are in
          then_does p ok false whole (Pieces rest (text + 1) (place + items_size rest) ops) (Pieces (item.Text name ∷ rest) text (place + items_size rest) ops) (pieces p (calls_to p 64) ls rest w)
          (λ more. pure (name.text ∷ more)) (mk' ml place ops w)
          (items_do rest (text + 1) (block + 0) place ops w is (listed_back p text block (name.text ∷ []) (item_texts rest) [] [] at) sound has) (λ texts u s' sound' q.
          (s', here (module_of p) s', sound', (q.0, q.1, text_piece text name.text rest texts (pushed q.0 ops) ops first q.2)))
      items_do (item.Value e ∷ rest) text block place ops w is at sound has =
          let same : place + size_of e + items_size rest ≡ place + (size_of e + items_size rest) = omega arith in
          then_does p ok false whole (Left p ok false whole c ml [] (place + size_of e) ops) (Pieces (item.Value e ∷ rest) text (place + (size_of e + items_size rest)) ops)
          (value_of p (calls_to p 64) ls e w) (λ v. pieces p (calls_to p 64) ls rest >>= (λ more. pure (shown v ∷ more))) (mk' ml place ops w)
          (value_does p ok false whole c ml [] slots ls agree 64 calls deep e.node place ops w is.0 sound
          (front c.instrs place (code_of p slots e place) (items_code p slots rest (place + size_of e)) has)) (λ v u s' sound' q.
          from p ok false whole (Pieces (item.Value e ∷ rest) text (place + (size_of e + items_size rest)) ops) ((pieces p (calls_to p 64) ls rest >>= (λ more. pure (shown v ∷ more))) u) s'
          (mk' ml (place + size_of e) (v ∷ ops) u) q sound' (λ sound1.
          then_does p ok false whole (Pieces rest text (place + size_of e + items_size rest) (v ∷ ops)) (Pieces (item.Value e ∷ rest) text (place + (size_of e + items_size rest)) ops)
          (pieces p (calls_to p 64) ls rest u) (λ more. pure (shown v ∷ more)) (mk' ml (place + size_of e) (v ∷ ops) u)
          (items_do rest text block (place + size_of e) (v ∷ ops) u is.1 at sound1 (back c.instrs place (code_of p slots e place) (items_code p slots rest (place + size_of e)) (size_of e)
          (expr_length p slots e place) has)) (λ texts x s'' sound'' q'.
          (s'', here (module_of p) s'', sound'', (v ∷ q'.0, q'.1 ∙ ap (λ (n : ℕ). mk' ml n (pushed q'.0 (v ∷ ops)) x) same, value_piece (kind_in p slots e.node) v (printed_items p slots rest text) texts (pushed q'.0 (v ∷ ops)) ops q'.2)))))

      -- a line is shown
      line_does : (items : List Item) (text place : ℕ) (texts : List (List ℕ)) (vs : List Val) (u : World) → Sound p ok false whole (mk' ml place (pushed vs []) u)
          → slice_get c.instrs place ≡ Some (i.Print (printed_items p slots items text))
          → (machine.pieces (module_of p) (printed_items p slots items text) (pushed vs []) ≡ None)
          ⊎ (machine.pieces (module_of p) (printed_items p slots items text) (pushed vs []) ≡ Some (texts, []))
          → Does p ok false whole (Plain p ok false whole c [] 64 calls deep (place + 1) slots (length ml)) ((show (line_of texts) >> pure (ending.Normal, ls)) u) (mk' ml place (pushed vs []) u)
      line_does items text place texts vs u sound h found =
          by found (at_instr p ok false whole (mk' ml place (pushed vs []) u) (i.Print (printed_items p slots items text)) h
          ∙ ap (λ (b : Bool). machine.prints (module_of p) (mk' ml place (pushed vs []) u) (printed_items p slots items text) b) sound.fits.owner)
        where
          s : State
          s = mk' ml place (pushed vs []) u

          by : (machine.pieces (module_of p) (printed_items p slots items text) (pushed vs []) ≡ None)
              ⊎ (machine.pieces (module_of p) (printed_items p slots items text) (pushed vs []) ≡ Some (texts, []))
              → next (module_of p) s ≡ machine.◌>>=◌ (machine.pieces (module_of p) (printed_items p slots items text) (pushed vs [])) (λ x. Some (Prints (line_of x.0) (on_with s x.1)))
              → Does p ok false whole (Plain p ok false whole c [] 64 calls deep (place + 1) slots (length ml)) ((show (line_of texts) >> pure (ending.Normal, ls)) u) s
          by (inl none) e = no_step p ok false whole s sound (e ∙ ap (λ (o : Option (List (List ℕ) × List Val)). machine.◌>>=◌ o (λ x. Some (Prints (line_of x.0) (on_with s x.1)))) none)
          by (inr some) e =
              let shows = e ∙ ap (λ (o : Option (List (List ℕ) × List Val)). machine.◌>>=◌ o (λ x. Some (Prints (line_of x.0) (on_with s x.1)))) some in
              let good = subst (λ (o : Option Next). Good false (Follows (module_of p) false (function_runs (module_of p) ok false) s) o) shows (next_good (module_of p) ok false s sound.fits) in
              let sound' : Sound p ok false whole (mk' ml (place + 1) [] u) = record { fits = good.1.0; kinds = sound.kinds } in
              (mk' ml (place + 1) [] u, (s, here (module_of p) s, shows), sound', (mk' ml (place + 1) [] u, here (module_of p) (mk' ml (place + 1) [] u), sound', (refl, (ml, refl, agree, refl))))

    pub print_does : (items : List Item) (slots : Slots) (ls : Locals) (ml : List Val) (at : At) (w : World) → ItemsAre p items → Listed p at.text at.block (item_texts items) [] → Agree slots ls ml
        → Sound p ok false whole (mk' ml at.place [] w)
        → Holds c.instrs at.place (items_code p slots items at.place ++ i.Print (printed_items p slots items at.text) ∷ [])
        → Does p ok false whole (Plain p ok false whole c [] 64 calls deep (at.place + (items_size items + 1)) slots (length ml)) (in_main p whole (Printing items) ls w) (mk' ml at.place [] w)
    print_does items slots ls ml at w is listed agree sound has =
        let same : at.place + items_size items + 1 ≡ at.place + (items_size items + 1) = omega arith in
        subst (λ (n : ℕ). Does p ok false whole (Plain p ok false whole c [] 64 calls deep n slots (length ml)) (in_main p whole (Printing items) ls w) (mk' ml at.place [] w)) same
        (then_does p ok false whole (Pieces slots ls ml agree items at.text (at.place + items_size items) [])
        (Plain p ok false whole c [] 64 calls deep (at.place + items_size items + 1) slots (length ml)) (pieces p (calls_to p 64) ls items w)
        (λ texts. show (line_of texts) >> pure (ending.Normal, ls)) (mk' ml at.place [] w)
        (items_do slots ls ml agree items at.text at.block at.place [] w is listed sound (front c.instrs at.place (items_code p slots items at.place)
        (i.Print (printed_items p slots items at.text) ∷ []) has)) (λ texts u s' sound' q.
        from p ok false whole (Plain p ok false whole c [] 64 calls deep (at.place + items_size items + 1) slots (length ml)) ((show (line_of texts) >> pure (ending.Normal, ls)) u) s'
        (mk' ml (at.place + items_size items) (pushed q.0 []) u) q.1 sound' (λ sound1.
        line_does slots ls ml agree items at.text (at.place + items_size items) texts q.0 u sound1
        (back c.instrs at.place (items_code p slots items at.place) (i.Print (printed_items p slots items at.text) ∷ []) (items_size items) (items_length p slots items at.place) has).0 q.2)))

    -- ---- parallel steps

    module _ (slots : Slots) (ls : Locals) (ml : List Val) (agree : Agree slots ls ml) where
      -- the widths lie on the operands
      abbrev Widths : ℕ → ℕ → List Val → List ℤ → World → State → Type 0
      Widths n place ops numbers u s' = (vs : List Val) × (s' ≡ mk' ml place (pushed vs ops) u) × (numbers ≡ map number_in vs) × (length vs ≡ n)

      widths_do : (bs : List RoutineBlock) (place : ℕ) (ops : List Val) (w : World) → WidthsAre p bs → Sound p ok false whole (mk' ml place ops w) → Holds c.instrs place (widths_code p slots bs place)
          → Does p ok false whole (Widths (length bs) (place + widths_size bs) ops) (widths_of p (calls_to p 64) ls bs w) (mk' ml place ops w)
      widths_do [] place ops w is sound has =
          let same : place ≡ place + 0 = omega arith in
          (mk' ml place ops w, here (module_of p) (mk' ml place ops w), sound, ([], ap (λ (n : ℕ). mk' ml n ops w) same, refl, refl))
      widths_do (RoutineBlock' where' width width_name id_name form body ∷ rest) place ops w is sound has =
          let same : place + size_of width + widths_size rest ≡ place + (size_of width + widths_size rest) = omega arith in
          then_does p ok false whole (Left p ok false whole c ml [] (place + size_of width) ops) (Widths (suc (length rest)) (place + (size_of width + widths_size rest)) ops)
          (value_of p (calls_to p 64) ls width w) (λ v. widths_of p (calls_to p 64) ls rest >>= (λ more. pure (number_in v ∷ more))) (mk' ml place ops w)
          (value_does p ok false whole c ml [] slots ls agree 64 calls deep width.node place ops w is.0 sound
          (front c.instrs place (code_of p slots width place) (widths_code p slots rest (place + size_of width)) has)) (λ v u s' sound' q.
          from p ok false whole (Widths (suc (length rest)) (place + (size_of width + widths_size rest)) ops) ((widths_of p (calls_to p 64) ls rest >>= (λ more. pure (number_in v ∷ more))) u) s'
          (mk' ml (place + size_of width) (v ∷ ops) u) q sound' (λ sound1.
          then_does p ok false whole (Widths (length rest) (place + size_of width + widths_size rest) (v ∷ ops)) (Widths (suc (length rest)) (place + (size_of width + widths_size rest)) ops)
          (widths_of p (calls_to p 64) ls rest u) (λ more. pure (number_in v ∷ more)) (mk' ml (place + size_of width) (v ∷ ops) u)
          (widths_do rest (place + size_of width) (v ∷ ops) u is.1 sound1 (back c.instrs place (code_of p slots width place) (widths_code p slots rest (place + size_of width)) (size_of width)
          (expr_length p slots width place) has)) (λ numbers x s'' sound'' q'.
          (s'', here (module_of p) s'', sound'', (v ∷ q'.0, q'.1 ∙ ap (λ (n : ℕ). mk' ml n (pushed q'.0 (v ∷ ops)) x) same, ap (λ (l : List ℤ). number_in v ∷ l) q'.2, ap suc q'.3)))))

      module _ (bs : List RoutineBlock) (text block place : ℕ) (vs : List Val) (numbers : List ℤ) (u : World) (long : length vs ≡ length bs) (are : numbers ≡ map number_in vs)
          (routines : (b : RoutineBlock) (k : ℕ) → slice_get bs k ≡ Some b → RoutineIs p b) (listed : Listed p text block [] bs)
          (sound : Sound p ok false whole (mk' ml place (pushed vs []) u)) where
        abbrev s : State
        s = mk' ml place (pushed vs []) u

        abbrev After' : Went → World → State → Type 0
        After' = Plain p ok false whole c [] 64 calls deep (place + 1) slots (length ml)

        -- the blocks of the step are those that stand in the module from this number on
        the_blocks : (n : ℕ) → n ≡ length bs → blocks_of (module_of p) block n ≡ map (λ b. block_code p b) bs
        the_blocks n e =
            ap (λ (l : List Code). take n l) (drop_map (λ b. block_code p b) block (steps_in (variant.Block p.main)))
            ∙ ap (λ (l : List RoutineBlock). take n (map (λ b. block_code p b) l)) listed.steps_are
            ∙ take-map (λ b. block_code p b) n (bs ++ listed.more_steps)
            ∙ ap (λ (k : ℕ). map (λ b. block_code p b) (take k (bs ++ listed.more_steps))) e
            ∙ ap (λ (l : List RoutineBlock). map (λ b. block_code p b) l) (take-append_seam bs listed.more_steps)

        stands_there : (b : RoutineBlock) (k : ℕ) → slice_get bs k ≡ Some b → RoutineIs p b × ((n : ℕ) × (slice_get (module_of p).blocks n ≡ Some (block_code p b)))
        stands_there b k e = (
          routines b k e,
          (block + k, get_map (λ x. block_code p x) (steps_in (variant.Block p.main)) (block + k) b (sym (get_drop block k (steps_in (variant.Block p.main))) ∙ ap (λ (l : List RoutineBlock). slice_get l k) listed.steps_are ∙ get_front bs listed.more_steps k b e)),
        )

        -- a unit is there: the step opens
        opens_step : (ns : List ℕ) (left : ℕ) → length ns ≡ length bs → next (module_of p) s ≡ Some (Opens block ns (record (on_with s []) { fuel = left }))
            → Does p ok false whole After' ((open_step p whole bs ns >> pure (ending.Normal, ls)) (record u { fuel = left })) s
        opens_step ns left few e =
            let good = subst (λ (o : Option Next). Good false (Follows (module_of p) false (function_runs (module_of p) ok false) s) o) e (next_good (module_of p) ok false s sound.fits) in
            let fits' = good.1.0 in (
              mk' ml (place + 1) [] (record u { fuel = left }),
              block,
              ns,
              (s, here (module_of p) s, e),
              record { fits = fits'; kinds = sound.kinds },
              record {
                opening = refl;
                answers = answers_same p ok shape whole bs ns (memory_in u.store) whole stands_there sound.kinds
                    ∙ ap (λ (codes : List Code). machine_means.answers (module_of p) whole (memory_in u.store) codes ns) (sym (the_blocks (length ns) few));
              },
              λ later kinds.
                  let t = mk' ml (place + 1) [] (record u { fuel = left; store = Main later }) in
                  let sound' : Sound p ok false whole t = record { fits = record { owner = refl; call = fits'.call; waits = fits'.waits; few = fits'.few }; kinds = kinds } in
                  (t, here (module_of p) t, sound', (refl, (ml, refl, agree, refl))),
            )

        unit_or_not : (ns : List ℕ) (k : ℕ) → u.fuel ≡ k → length ns ≡ length bs → next (module_of p) s ≡ Some (spends (on_with s []) k (λ s'. Opens block ns s'))
            → Does p ok false whole After' (and_then (spend k u) (λ _. open_step p whole bs ns >> pure (ending.Normal, ls))) s
        unit_or_not ns zero is few e = trap_does p ok false whole After' cause.FuelSpent u s e
        unit_or_not ns (suc left) is few e = opens_step ns left few e

        by_widths : (o : Option (List ℕ)) → step_widths numbers ≡ o → next (module_of p) s ≡ Some (opens block (on_with s []) o)
            → Does p ok false whole After' ((good_widths o >>= (λ ns. take_unit >> (open_step p whole bs ns >> pure (ending.Normal, ls)))) u) s
        by_widths None is e = trap_does p ok false whole After' cause.BadWidth u s e
        by_widths (Some ns) is e =
            let few : length ns ≡ length bs = widths_length' numbers ns is ∙ ap (λ (l : List ℤ). length l) are ∙ length-map vs number_in ∙ long in
            unit_or_not ns u.fuel refl few e

        par_step : slice_get c.instrs place ≡ Some (i.Par block (length bs)) → Does p ok false whole After'
            ((good_widths (step_widths numbers) >>= (λ ns. take_unit >> (open_step p whole bs ns >> pure (ending.Normal, ls)))) u) s
        par_step h =
            by_room (nat_lt (length (module_of p).blocks) (block + length bs))
            (at_instr p ok false whole s (i.Par block (length bs)) h ∙ ap (λ (b : Bool). machine.opens_blocks (module_of p) s block (length bs) b) sound.fits.owner)
          where
            counted : length vs + 0 ≡ length bs
            counted = omega (arith, long)

            by_numbers : (many_numbers (length vs + 0) (pushed vs []) ≡ None) ⊎ ((x : List ℤ × List Val) × (many_numbers 0 [] ≡ Some x)
                × (many_numbers (length vs + 0) (pushed vs []) ≡ Some (x.0 ++ map number_in vs, x.1)))
                → next (module_of p) s ≡ machine.◌>>=◌ (many_numbers (length bs) (pushed vs [])) (λ x. Some (opens block (on_with s x.1) (step_widths x.0)))
                → Does p ok false whole After' ((good_widths (step_widths numbers) >>= (λ ns. take_unit >> (open_step p whole bs ns >> pure (ending.Normal, ls)))) u) s
            by_numbers (inl none) e = no_step p ok false whole s sound (e ∙ ap (λ (n : ℕ). machine.◌>>=◌ (many_numbers n (pushed vs [])) (λ x. Some (opens block (on_with s x.1) (step_widths x.0))))
                (sym counted) ∙ ap (λ (o : Option (List ℤ × List Val)). machine.◌>>=◌ o (λ x. Some (opens block (on_with s x.1) (step_widths x.0)))) none)
            by_numbers (inr found) e =
                let empty' : ([], []) ≡ found.0 = let f = found.1 in cc in
                by_widths (step_widths numbers) refl
                (e ∙ ap (λ (n : ℕ). machine.◌>>=◌ (many_numbers n (pushed vs [])) (λ x. Some (opens block (on_with s x.1) (step_widths x.0)))) (sym counted)
                ∙ ap (λ (o : Option (List ℤ × List Val)). machine.◌>>=◌ o (λ x. Some (opens block (on_with s x.1) (step_widths x.0)))) found.2
                ∙ ap (λ (x : List ℤ × List Val). Some (opens block (on_with s x.1) (step_widths (x.0 ++ map number_in vs)))) (sym empty')
                ∙ ap (λ (zs : List ℤ). Some (opens block (on_with s []) (step_widths zs))) (sym are))

            by_room : (b : Bool) → next (module_of p) s ≡ (if b then None else machine.◌>>=◌ (many_numbers (length bs) (pushed vs [])) (λ x. Some (opens block (on_with s x.1) (step_widths x.0))))
                → Does p ok false whole After' ((good_widths (step_widths numbers) >>= (λ ns. take_unit >> (open_step p whole bs ns >> pure (ending.Normal, ls)))) u) s
            by_room true e = no_step p ok false whole s sound e
            by_room false e = by_numbers (taken_numbers vs 0 []) e

    pub par_does : ((b : RoutineBlock) (k : ℕ) → slice_get (steps_in (variant.Block p.main)) k ≡ Some b → RoutineIs p b)
        → (bs : List RoutineBlock) (slots : Slots) (ls : Locals) (ml : List Val) (at : At) (w : World) → WidthsAre p bs → Listed p at.text at.block [] bs → Agree slots ls ml
        → Sound p ok false whole (mk' ml at.place [] w)
        → Holds c.instrs at.place (widths_code p slots bs at.place ++ i.Par at.block (length bs) ∷ [])
        → Does p ok false whole (Plain p ok false whole c [] 64 calls deep (at.place + (widths_size bs + 1)) slots (length ml)) (in_main p whole (Stepping bs) ls w) (mk' ml at.place [] w)
    par_does routines bs slots ls ml at w is listed agree sound has =
        let same : at.place + widths_size bs + 1 ≡ at.place + (widths_size bs + 1) = omega arith in
        subst (λ (n : ℕ). Does p ok false whole (Plain p ok false whole c [] 64 calls deep n slots (length ml)) (in_main p whole (Stepping bs) ls w) (mk' ml at.place [] w)) same
        (then_does p ok false whole (Widths slots ls ml agree (length bs) (at.place + widths_size bs) []) (Plain p ok false whole c [] 64 calls deep (at.place + widths_size bs + 1) slots (length ml))
        (widths_of p (calls_to p 64) ls bs w)
        (λ numbers. good_widths (step_widths numbers) >>= (λ ns. take_unit >> (open_step p whole bs ns >> pure (ending.Normal, ls)))) (mk' ml at.place [] w)
        (widths_do slots ls ml agree bs at.place [] w is sound (front c.instrs at.place (widths_code p slots bs at.place) (i.Par at.block (length bs) ∷ []) has)) (λ numbers u s' sound' q.
        from p ok false whole (Plain p ok false whole c [] 64 calls deep (at.place + widths_size bs + 1) slots (length ml))
        ((good_widths (step_widths numbers) >>= (λ ns. take_unit >> (open_step p whole bs ns >> pure (ending.Normal, ls)))) u) s' (mk' ml (at.place + widths_size bs) (pushed q.0 []) u) q.1 sound'
        (λ sound1.
        par_step slots ls ml agree bs at.text at.block (at.place + widths_size bs) q.0 numbers u q.3 q.2
        (λ b k e. routines b (at.block + k) (sym (get_drop at.block k (steps_in (variant.Block p.main))) ∙ ap (λ (l : List RoutineBlock). slice_get l k) listed.steps_are
        ∙ get_front bs listed.more_steps k b e)) listed sound1
        (back c.instrs at.place (widths_code p slots bs at.place) (i.Par at.block (length bs) ∷ []) (widths_size bs) (widths_length p slots bs at.place) has).0)))
