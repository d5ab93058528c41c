-- What single instructions of statements leave.
use Rattle.std.proofs.Common.{◌≡◌, ℕ, suc, zero, ◌+◌, Bool, List, [], ◌∷◌, ◌++◌, length, Option, Some, None, refl, sym, ap, subst, ◌∙◌, arith}
use Rattle.std.specs.Prelude.{slice_get}
use Rattle.std.specs.Option.{option_map}
use Rattle.std.proofs.lemmas.Option.{slice_get_within}
use Rattle.csl_tree.specs.declared.program.Program.{Program}
use Rattle.csl_tree.specs.declared.program.Item.{Item}
use Rattle.csl_tree.specs.declared.program.Item.TheVariants as item
use Rattle.csl_tree.specs.declared.program.RoutineBlock.{RoutineBlock, RoutineBlock'}
use Rattle.csl_meaning.specs.declared.state.Area.{Area}
use Rattle.bytecode.specs.declared.instr.Instr.{Instr}
use Rattle.bytecode.specs.declared.instr.Instr.TheVariants as i
use Rattle.cal_terms.specs.declared.types.Ty.{Ty}
use Rattle.cal_terms.specs.declared.types.Ty.TheVariants as ty
use Rattle.bytecode.specs.declared.module.Code.{Code}
use Rattle.bytecode.specs.declared.module.Module.{Module}
use Rattle.code_verify.specs.Kinds.{Kinds, below, stores, ints, item_kinds, items_kinds, after}
use Rattle.code_verify.specs.Rules.{IsInRange}
use Rattle.compiled_code.specs.Slots.{Slot, Slots}
use Rattle.compiled_code.specs.Values.{kind_in}
use Rattle.compiled_code.specs.Statements.{store_instr, printed_kind, printed_items}
use Rattle.accepted_code.proofs.Permits.{Permits}
use Rattle.accepted_code.proofs.Fits.{items_pushed, StoreFits, WidthsFit}
use Rattle.accepted_code.proofs.Taken.{widths_pushed}
use Rattle.accepted_code.proofs.Fine.{Falls}

-- one of this kind on top
pub below_one : (k : Ty) (ks : Kinds) → below (k ∷ []) (k ∷ ks) ≡ Some ks
below_one ty.Int ks = refl
below_one ty.Bool ks = refl

-- these below others
below_more : (xs ys zs ws : Kinds) → below xs zs ≡ Some ws → below (xs ++ ys) zs ≡ below ys ws
below_more [] ys zs ws e = let same : zs ≡ ws = cc in ap (below ys) same
below_more (x ∷ xs) ys [] ws e = absurd cc
below_more (ty.Int ∷ xs) ys (ty.Int ∷ zs) ws e = below_more xs ys zs ws e
below_more (ty.Bool ∷ xs) ys (ty.Bool ∷ zs) ws e = below_more xs ys zs ws e
below_more (ty.Int ∷ xs) ys (ty.Bool ∷ zs) ws e = absurd cc
below_more (ty.Bool ∷ xs) ys (ty.Int ∷ zs) ws e = absurd cc

below_ints : (n : ℕ) → below (ints n) (ints n) ≡ Some []
below_ints zero = refl
below_ints (suc n) = below_ints n

printed_one : (k : Ty) (ks : Kinds) → below (item_kinds (printed_kind k)) (k ∷ ks) ≡ Some ks
printed_one ty.Int ks = refl
printed_one ty.Bool ks = refl

-- the values of a line are those that it takes
printed_below : (p : Program) (slots : Slots) (items : List Item) (text : ℕ) (ks : Kinds) → below (items_kinds (printed_items p slots items text)) (items_pushed p slots items ks) ≡ Some ks
printed_below p slots [] text ks = refl
printed_below p slots (item.Text name ∷ rest) text ks =
    below_more (items_kinds (printed_items p slots rest (text + 1))) [] (items_pushed p slots rest ks) ks (printed_below p slots rest (text + 1) ks)
printed_below p slots (item.Value e ∷ rest) text ks =
    below_more (items_kinds (printed_items p slots rest text)) (item_kinds (printed_kind (kind_in p slots e.node))) (items_pushed p slots rest (kind_in p slots e.node ∷ ks))
    (kind_in p slots e.node ∷ ks) (printed_below p slots rest text (kind_in p slots e.node ∷ ks))
    ∙ printed_one (kind_in p slots e.node) ks

module _ (m : Module) (c : Code) (Ok : Instr → Type 0) (p : Program) (slots : Slots) where
  -- a line takes its values
  pub print_leaves : (items : List Item) (text : ℕ) → after m c (i.Print (printed_items p slots items text)) (items_pushed p slots items []) ≡ Some []
  print_leaves items text = ap (λ (o : Option Kinds). option_map (λ rest. rest) o) (printed_below p slots items text [])

  -- the widths of a step are ints
  widths_are : (blocks : List RoutineBlock) (n : ℕ) → WidthsFit m c Ok p slots blocks → widths_pushed p slots blocks (ints n) ≡ ints (length blocks + n)
  widths_are [] n fit = let same : n ≡ 0 + n = omega arith in ap ints same
  widths_are (RoutineBlock' where' width width_name id_name shape body ∷ rest) n fit =
      let same : length rest + suc n ≡ suc (length rest) + n = omega arith in
      ap (λ (k : Ty). widths_pushed p slots rest (k ∷ ints n)) fit.0.1 ∙ widths_are rest (suc n) fit.1 ∙ ap ints same

  -- a step takes them
  pub step_leaves : (blocks : List RoutineBlock) (first : ℕ) → WidthsFit m c Ok p slots blocks → after m c (i.Par first (length blocks)) (widths_pushed p slots blocks []) ≡ Some []
  step_leaves blocks first fit =
      let same : length blocks + 0 ≡ length blocks = omega arith in
      ap (λ (ks : Kinds). after m c (i.Par first (length blocks)) ks) (widths_are blocks 0 fit ∙ ap ints same) ∙ ap (λ (o : Option Kinds). option_map (λ rest. rest) o) (below_ints (length blocks))

  -- how many widths there are
  pub widths_length : (blocks : List RoutineBlock) → WidthsFit m c Ok p slots blocks → length (widths_pushed p slots blocks []) ≡ length blocks
  widths_length blocks fit =
      let same : length blocks + 0 ≡ length blocks = omega arith in
      ap length (widths_are blocks 0 fit ∙ ap ints same) ∙ many (length blocks)
    where
      many : (n : ℕ) → length (ints n) ≡ n
      many zero = refl
      many (suc n) = ap suc (many n)

  pub store_leaves : (o : Option Ty) (k other : Ty) → o ≡ Some k → other ≡ k → stores o (other ∷ []) ≡ Some []
  store_leaves o k other e same = ap (λ (x : Option Ty). stores x (other ∷ [])) e ∙ subst (λ (x : Ty). below (k ∷ []) (x ∷ []) ≡ Some []) (sym same) (below_one k [])

  -- what is known of the instruction that sets a name
  pub record Sets (x : Instr) (kind : Ty) : Type 0 where
    pub plain : Falls x
    pub in_range : IsInRange m c x
    pub allowed : Ok x
    pub leaves : after m c x (kind ∷ []) ≡ Some []

  pub name_sets : (visible : ℕ) (main : Bool) → Permits m c visible main Ok → (o : Option Slot) (area : Area) (kind : Ty) → StoreFits m c Ok p o area kind → Sets (store_instr o area) kind
  name_sets visible main permits (Some s) area kind fit =
      let within = slice_get_within c.locals s.number s.kind fit.0 in
      record { plain = tt; in_range = within; allowed = permits.stores s.number within; leaves = store_leaves (slice_get c.locals s.number) s.kind kind fit.0 fit.1 }
  name_sets visible main permits None area kind fit =
      record { plain = tt; in_range = fit.0; allowed = fit.1; leaves = subst (λ (x : Ty). after m c (i.Put area.first) (x ∷ []) ≡ Some []) (sym fit.2) refl }
