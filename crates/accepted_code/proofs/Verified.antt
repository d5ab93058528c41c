-- The module of an accepted program keeps the rules of the machine.
use Rattle.std.proofs.Common.{◌≡◌, ℕ, ◌+◌, ◌<◌, ◌≤◌, ◌^◌, Bool, true, false, List, [], ◌∷◌, ◌++◌, length, map, Some, refl, subst, arith, length-append}
use Rattle.std.specs.Prelude.{slice_get}
use Rattle.std.specs.List.{AllByRecursion}
use Rattle.std.specs.Str.{bytes_eq}
use Rattle.std.specs.Map.{lookup}
use Rattle.std.proofs.lemmas.List.{length-map}
use Rattle.std.proofs.lemmas.Option.{slice_get_within}
use Rattle.csl_tree.specs.declared.program.Program.{Program}
use Rattle.csl_tree.specs.declared.program.Function.{Function}
use Rattle.csl_tree.specs.declared.program.RoutineBlock.{RoutineBlock, RoutineBlock'}
use Rattle.cal_terms.specs.declared.types.Gives.TheVariants as result'
use Rattle.csl_tree.specs.declared.program.Form.TheVariants as variant
use Rattle.csl_grammar.specs.Texts.{IsSpelledWithin, text_limit}
use Rattle.type_check.specs.Faults.{IsAccepted, with_shared}
use Rattle.type_check.proofs.Facts.{accepted-count}
use Rattle.bytecode.specs.declared.instr.PrintItem.{PrintItem}
use Rattle.bytecode.specs.declared.instr.PrintItem.TheVariants as item
use Rattle.bytecode.specs.declared.instr.Instr.{Instr}
use Rattle.bytecode.specs.declared.instr.Instr.TheVariants as i
use Rattle.cal_terms.specs.declared.types.Ty.{Ty}
use Rattle.cal_terms.specs.declared.types.Ty.TheVariants as ty
use Rattle.bytecode.specs.declared.module.Code.{Code}
use Rattle.bytecode.specs.declared.module.Module.{Module}
use Rattle.bytecode.specs.Spelling.{FitsItem, FitsKind, FitsInstr, FitsCode, FitsFunction, FitsBlock, HasSpelling}
use Rattle.code_verify.specs.declared.owner.Owner.{Owner}
use Rattle.code_verify.specs.declared.owner.Owner.TheVariants as owner
use Rattle.code_verify.specs.Rules.{Stands, HasText, IsPlainArray, IsNotMains, CallsNoLater, IsFunction, IsBlock, IsVerified}
use Rattle.code_verify.specs.Tests.{MayStandIn}
use Rattle.compiled_code.specs.Slots.{kind_of}
use Rattle.compiled_code.specs.Sizes.{kinds_in, kinds_in_row, steps_in}
use Rattle.compiled_code.specs.Places.{form_size, row_size}
use Rattle.compiled_code.specs.Statements.{form_code, row_code}
use Rattle.compiled_code.specs.Modules.{beginning, ends_at, closing, with_params, function_code, routine_slots, block_code, main_code, module_of}
use Rattle.compiled_code.specs.Shape.{HasShape, RoutineIs}
use Rattle.compiled_code.proofs.Lengths.{form_length, row_length}
use Rattle.compiled_code.proofs.Meaning.{in_form}
use Rattle.accepted_code.proofs.Accepted.{accepted_shape}
use Rattle.accepted_code.proofs.Lists.{all_at, all_from, made_from}
use Rattle.accepted_code.proofs.Spelled.{RoutineSpelled}
use Rattle.accepted_code.proofs.Permits.{IsPlain, Permits}
use Rattle.accepted_code.proofs.Agrees.{Means}
use Rattle.accepted_code.proofs.Taken.{form_taken, row_taken}
use Rattle.accepted_code.proofs.Starts.{form_many, row_many, form_starts, row_starts}
use Rattle.accepted_code.proofs.FormsRight.{body_exits, form_right, row_right}
use Rattle.accepted_code.proofs.Sound.{closing_taken, Keeps, keeps}
use Rattle.accepted_code.proofs.CodeSizes.{RoutineFits}
use Rattle.accepted_code.proofs.Parts.{code_limit, BodyFits, SpelledProgram, spelled_program, function_spelled, block_spelled}
use Rattle.accepted_code.proofs.ModuleLists.{ListsFit, lists_fit}
use Rattle.accepted_code.proofs.SharedWords.{shared_means}
use Rattle.accepted_code.proofs.Named.{named_is}
use Rattle.accepted_code.proofs.Bodies.{main_locals, block_locals, function_locals, few_params, function_fits, BlockFits, block_fits, main_fits}
use Rattle.accepted_code.proofs.Untouched.{blocks_untouched}

-- ---- what may stand in a code of this owner

-- its operands have a spelling, it touches no array with tally words, and it may stand there
abbrev pub OkIn : Module → Owner → Instr → Type 0
OkIn m o instr = FitsInstr instr × IsPlainArray m instr × MayStandIn m o instr

-- what may stand in each code
abbrev IsCommon : Instr → Type 0
IsCommon (i.Call f) = ⊥
IsCommon (i.Print items) = ⊥
IsCommon (i.Par b n) = ⊥
IsCommon _ = Unit {0}

common_not_mains : (x : Instr) → IsCommon x → IsNotMains x
common_not_mains (i.Call f) h = absurd h
common_not_mains (i.Print items) h = absurd h
common_not_mains (i.Par b n) h = absurd h
common_not_mains _ h = tt

common_no_later : (f : ℕ) (x : Instr) → IsCommon x → CallsNoLater f x
common_no_later f (i.Call g) h = absurd h
common_no_later f (i.Print items) h = absurd h
common_no_later f (i.Par b n) h = absurd h
common_no_later f _ h = tt

common_stands : (m : Module) (o : Owner) (x : Instr) → IsCommon x → MayStandIn m o x
common_stands m (owner.Function f) x h = (common_not_mains x h, common_no_later f x h)
common_stands m owner.Block x h = common_not_mains x h
common_stands m owner.Main x h = main_stands x h
  where
    main_stands : (x : Instr) → IsCommon x → MayStandIn m owner.Main x
    main_stands (i.Call g) h' = absurd h'
    main_stands (i.Print items) h' = absurd h'
    main_stands (i.Par b n) h' = absurd h'
    main_stands _ h' = tt

plain_ok : (m : Module) (x : Instr) → IsPlain x → FitsInstr x × IsPlainArray m x × IsCommon x
plain_ok m (i.Int z) h = absurd h
plain_ok m (i.Load l) h = absurd h
plain_ok m (i.Store l) h = absurd h
plain_ok m (i.Word a) h = absurd h
plain_ok m (i.Put a) h = absurd h
plain_ok m (i.AddWord a) h = absurd h
plain_ok m (i.Item b n) h = absurd h
plain_ok m (i.SetItem b n) h = absurd h
plain_ok m (i.AddItem b n) h = absurd h
plain_ok m (i.Jump t) h = absurd h
plain_ok m (i.Branch t) h = absurd h
plain_ok m (i.Loop t) h = absurd h
plain_ok m (i.Call f) h = absurd h
plain_ok m (i.Print items) h = absurd h
plain_ok m (i.Par b n) h = absurd h
plain_ok m _ h = (tt, tt, tt)

items_fit : (m : Module) (items : List PrintItem) → length m.texts < 2 ^ 32 → AllByRecursion (HasText m) items → AllByRecursion FitsItem items
items_fit m [] few h = tt
items_fit m (item.Text index ∷ items) few h = (let there = h.0 in omega (arith, there, few), items_fit m items few h.1)
items_fit m (item.Int ∷ items) few h = (tt, items_fit m items few h.1)
items_fit m (item.Truth ∷ items) few h = (tt, items_fit m items few h.1)

-- the sizes of a module and of a code, which bound the operands
record IsSmall (m : Module) (c : Code) (visible : ℕ) : Type 0 where
  words : m.words ≤ 262144
  instrs : length c.instrs < 2 ^ 32
  locals : length c.locals ≤ 64
  functions : visible ≤ 256
  texts : length m.texts < 2 ^ 32
  blocks : length m.blocks < 2 ^ 32

permits : (m : Module) (c : Code) (visible : ℕ) (main : Bool) (o : Owner) → IsSmall m c visible → ((f : ℕ) → f < visible → MayStandIn m o (i.Call f))
    → (main ≡ true → (items : List PrintItem) → length items ≤ 64 → MayStandIn m o (i.Print items))
    → (main ≡ true → (b n : ℕ) → 1 ≤ n → n ≤ 64 → b + n ≤ length m.blocks → MayStandIn m o (i.Par b n))
    → Permits m c visible main (OkIn m o)
permits m c visible main o small call print step =
    let few_words = small.words in
    let few_instrs = small.instrs in
    let few_locals = small.locals in
    let few_functions = small.functions in
    let few_texts = small.texts in
    let few_blocks = small.blocks in
    record {
      plain = λ x h. let ok : _ × _ × _ = plain_ok m x h in (ok.0, ok.1, common_stands m o x ok.2);
      ints = λ z h. (h, tt, common_stands m o (i.Int z) tt);
      loads = λ l h. (omega (arith, h, few_locals), tt, common_stands m o (i.Load l) tt);
      stores = λ l h. (omega (arith, h, few_locals), tt, common_stands m o (i.Store l) tt);
      words = λ a h. (omega (arith, h, few_words), tt, common_stands m o (i.Word a) tt);
      puts = λ a h. (omega (arith, h, few_words), tt, common_stands m o (i.Put a) tt);
      add_words = λ a h. (omega (arith, h, few_words), tt, common_stands m o (i.AddWord a) tt);
      items = λ b n h none. ((let top = h.1 in omega (arith, top, few_words), let top = h.1 in omega (arith, top, few_words)), none, common_stands m o (i.Item b n) tt);
      set_items = λ b n h none. ((let top = h.1 in omega (arith, top, few_words), let top = h.1 in omega (arith, top, few_words)), none, common_stands m o (i.SetItem b n) tt);
      add_items = λ b n h none. ((let top = h.1 in omega (arith, top, few_words), let top = h.1 in omega (arith, top, few_words)), none, common_stands m o (i.AddItem b n) tt);
      jumps = λ t h. (omega (arith, h, few_instrs), tt, common_stands m o (i.Jump t) tt);
      branches = λ t h. (omega (arith, h, few_instrs), tt, common_stands m o (i.Branch t) tt);
      loops = λ t h. (omega (arith, h, few_instrs), tt, common_stands m o (i.Loop t) tt);
      calls = λ f h. (omega (arith, h, few_functions), tt, call f h);
      prints = λ e items few there. ((omega (arith, few), items_fit m items few_texts there), tt, print e items few);
      steps = λ e b n some few there. ((omega (arith, there, few_blocks), omega (arith, few)), tt, step e b n some few there);
    }

-- ---- lists of codes

all_kinds : (ks : List Ty) → AllByRecursion FitsKind ks
all_kinds [] = tt
all_kinds (k ∷ ks) = (tt, all_kinds ks)

-- ---- the codes of an accepted program

-- what is known of a code: it keeps the rules, and its instructions and locals are few
record IsCodeOf (m : Module) (o : Owner) (c : Code) : Type 0 where
  keeps_rules : Keeps m c (OkIn m o)
  instrs : length c.instrs < 2 ^ 32
  locals : length c.locals ≤ 64

instrs_fit : (m : Module) (o : Owner) (xs : List Instr) → AllByRecursion (OkIn m o) xs → AllByRecursion FitsInstr xs
instrs_fit m o [] h = tt
instrs_fit m o (x ∷ xs) h = (h.0.0, instrs_fit m o xs h.1)

code_fits : (m : Module) (o : Owner) (c : Code) → IsCodeOf m o c → FitsCode c.params c.gives c
code_fits m o c is =
    let few = is.locals in
    record { params = refl; gives = refl; locals = (omega (arith, few), all_kinds c.locals); instrs = (is.instrs, instrs_fit m o c.instrs is.keeps_rules.allowed) }

module _ (p : Program) (spelled : IsSpelledWithin text_limit p) (accepted : IsAccepted p) where
  abbrev m : Module
  m = module_of p

  parts : SpelledProgram p
  parts = spelled_program p spelled

  lists : ListsFit p
  lists = lists_fit p parts accepted

  shape : HasShape p
  shape = accepted_shape p spelled accepted

  shared : (name : List ℕ) (c : Code) (visible : ℕ) → Means p (module_of p) c visible [] name (lookup (bytes_eq name) (with_shared [] p.shared))
  shared = shared_means p accepted parts.arrays

  few_functions : length p.functions ≤ 256
  few_functions = accepted-count p accepted

  small : (c : Code) (visible : ℕ) → length c.instrs < 2 ^ 32 → length c.locals ≤ 64 → visible ≤ 256 → IsSmall (module_of p) c visible
  small c visible instrs locals functions =
      let few_texts = parts.few_texts in
      let few_blocks = parts.few_blocks in
      let same = length-map (steps_in (variant.Block p.main)) (λ b. block_code p b) in
      record { words = lists.few_words; instrs = instrs; locals = locals; functions = functions; texts = omega (arith, few_texts); blocks = omega (arith, few_blocks, same) }

  -- the code of a function
  function_is : (k : ℕ) (f : Function) → slice_get p.functions k ≡ Some f → IsCodeOf (module_of p) (owner.Function k) (function_code p f)
  function_is k f e =
      let c = function_code p f in
      let body = variant.Block f.body in
      let slots = with_params [] f.params in
      let at = beginning (length f.params) in
      let size = form_size p body slots (length f.params) in
      let fits : BodyFits p f.body = function_spelled p parts k f e in
      let limit = fits.1 slots (length f.params) in
      let is = shape.functions f.name.text f (named_is p accepted k f e) in
      let locals = function_locals p accepted shared k f e in
      let params = few_params p accepted shared k f e in
      let within = slice_get_within p.functions k f e in
      let few = few_functions in
      let body_long = form_length p body slots at (ends_at size) in
      let l = length-append (form_code p body slots at (ends_at size)) (closing f.gives) in
      let short = closing_short f.gives in
      let instrs : length c.instrs < 2 ^ 32 = omega (arith, limit, body_long, l, short) in
      let allowed = permits (module_of p) c (k + 1) false (owner.Function k) (small c (k + 1) instrs locals (omega (arith, within, few))) (λ g h. (tt, omega (arith, h))) (λ no. absurd cc)
      (λ no. absurd cc) in
      let right = function_fits p accepted shared k f e is.body fits.0 (OkIn (module_of p) (owner.Function k)) allowed in
      let same_params = length-map f.params (λ q. kind_of q.ty) in
      let local_parts = length-append (map (λ q. kind_of q.ty) f.params) (kinds_in body) in
      record {
        keeps_rules = keeps (module_of p) c (OkIn (module_of p) (owner.Function k)) (k + 1) false allowed f.gives refl (form_code p body slots at (ends_at size))
            (form_taken p body slots (length f.params)) size
            refl body_long (form_many p body slots (length f.params)) locals params (omega (arith, same_params, local_parts))
            (λ long t end. form_starts p (form_taken p body slots (length f.params) ++ closing_taken f.gives) body slots 0 (length f.params) fits.0 t end)
            (λ long h t end. form_right (module_of p) c (form_taken p body slots (length f.params) ++ closing_taken f.gives) (OkIn (module_of p) (owner.Function k)) (k + 1) false allowed long p body
            slots at (ends_at size) right fits.0
            (body_exits (module_of p) c (form_taken p body slots (length f.params) ++ closing_taken f.gives) (OkIn (module_of p) (owner.Function k)) (k + 1) false allowed long p size end) h t end);
        instrs = instrs;
        locals = locals;
      }
    where
      closing_short : (g : _) → length (closing g) ≤ 2
      closing_short result'.Nothing = omega arith
      closing_short result'.Int = omega arith
      closing_short result'.Bool = omega arith

  -- the code of a routine block
  block_is : (n : ℕ) (b : RoutineBlock) → slice_get (steps_in (variant.Block p.main)) n ≡ Some b → IsCodeOf (module_of p) owner.Block (block_code p b)
  block_is n b e =
      by b (block_locals p accepted n b e) (block_spelled p parts n b e) (in_form p (variant.Block p.main) shape.main b n e)
      (λ instrs locals is spelled' ok. block_fits p accepted shared n b e is spelled' (OkIn (module_of p) owner.Block) ok)
    where
      by : (b : RoutineBlock) → length (block_code p b).locals ≤ 64 → RoutineFits p code_limit b → RoutineIs p b
          → ((instrs : length (block_code p b).instrs < 2 ^ 32) → length (block_code p b).locals ≤ 64 → RoutineIs p b → RoutineSpelled b
          → Permits (module_of p) (block_code p b) (length p.functions) false (OkIn (module_of p) owner.Block) → BlockFits (OkIn (module_of p) owner.Block) p b)
          → IsCodeOf (module_of p) owner.Block (block_code p b)
      by (RoutineBlock' where' width width_name id_name form' body) locals fits is fit =
          let c = block_code p (RoutineBlock' where' width width_name id_name form' body) in
          let slots = routine_slots width_name.text id_name.text in
          let size = row_size p body slots 2 in
          let limit = fits.1 slots 2 in
          let few = few_functions in
          let code = row_code p body slots (beginning 2) (ends_at size) in
          let kinds = row_taken p body slots 2 in
          let body_long = row_length p body slots (beginning 2) (ends_at size) in
          let l = length-append code (closing result'.Nothing) in
          let instrs : length c.instrs < 2 ^ 32 = omega (arith, limit, body_long, l) in
          let allowed = permits (module_of p) c (length p.functions) false owner.Block (small c (length p.functions) instrs locals few) (λ g h. tt) (λ no. absurd cc) (λ no. absurd cc) in
          let right = fit instrs locals is fits.0 allowed in
          record {
            keeps_rules = keeps (module_of p) c (OkIn (module_of p) owner.Block) (length p.functions) false allowed result'.Nothing refl code kinds size
                refl body_long (row_many p body slots 2) locals (omega arith) (omega arith)
                (λ long t end. row_starts p (kinds ++ closing_taken result'.Nothing) body slots 0 2 fits.0 t end)
                (λ long h t end. row_right (module_of p) c (kinds ++ closing_taken result'.Nothing) (OkIn (module_of p) owner.Block) (length p.functions) false allowed long p body slots (beginning 2)
                (ends_at size) right fits.0
                (body_exits (module_of p) c (kinds ++ closing_taken result'.Nothing) (OkIn (module_of p) owner.Block) (length p.functions) false allowed long p size end) h t end);
            instrs = instrs;
            locals = locals;
          }

  -- main's code
  main_is : IsCodeOf (module_of p) owner.Main (main_code p)
  main_is =
      let c = main_code p in
      let body = variant.Block p.main in
      let size = form_size p body [] 0 in
      let fits : BodyFits p p.main = parts.main in
      let limit = fits.1 [] 0 in
      let few = few_functions in
      let code = form_code p body [] (beginning 0) (ends_at size) in
      let kinds = form_taken p body [] 0 in
      let locals = main_locals p accepted in
      let body_long = form_length p body [] (beginning 0) (ends_at size) in
      let l = length-append code (closing result'.Nothing) in
      let instrs : length c.instrs < 2 ^ 32 = omega (arith, limit, body_long, l) in
      let allowed = permits (module_of p) c (length p.functions) true owner.Main (small c (length p.functions) instrs locals few) (λ g h. tt) (λ yes items short. short)
      (λ yes b n some short there. (some, short, there)) in
      let right = main_fits p accepted shared shape.main fits.0 (OkIn (module_of p) owner.Main) allowed in
      record {
        keeps_rules = keeps (module_of p) c (OkIn (module_of p) owner.Main) (length p.functions) true allowed result'.Nothing refl code kinds size
            refl body_long (form_many p body [] 0) locals (omega arith) (omega arith)
            (λ long t end. form_starts p (kinds ++ closing_taken result'.Nothing) body [] 0 0 fits.0 t end)
            (λ long h t end. form_right (module_of p) c (kinds ++ closing_taken result'.Nothing) (OkIn (module_of p) owner.Main) (length p.functions) true allowed long p body [] (beginning 0)
            (ends_at size) right fits.0
            (body_exits (module_of p) c (kinds ++ closing_taken result'.Nothing) (OkIn (module_of p) owner.Main) (length p.functions) true allowed long p size end) h t end);
        instrs = instrs;
        locals = locals;
      }

  each_function : (k : ℕ) (c : Code) → slice_get (module_of p).functions k ≡ Some c → (f : Function) × (slice_get p.functions k ≡ Some f) × (function_code p f ≡ c)
  each_function k c e = let made = made_from (λ f. function_code p f) p.functions k c e in (made.entry, made.there, made.same)

  each_block : (n : ℕ) (c : Code) → slice_get (module_of p).blocks n ≡ Some c → (b : RoutineBlock) × (slice_get (steps_in (variant.Block p.main)) n ≡ Some b) × (block_code p b ≡ c)
  each_block n c e = let made = made_from (λ b. block_code p b) (steps_in (variant.Block p.main)) n c e in (made.entry, made.there, made.same)

  ok_at : (o : Owner) (c : Code) → IsCodeOf (module_of p) o c → (place : ℕ) (instr : Instr) → Stands c place instr → OkIn (module_of p) o instr
  ok_at o c is place instr stands = all_at (OkIn (module_of p) o) c.instrs place instr is.keeps_rules.allowed stands

  function_fits_rules : (k : ℕ) (f : Function) → slice_get p.functions k ≡ Some f → IsFunction (module_of p) k (function_code p f)
  function_fits_rules k f e =
      let is = function_is k f e in
      record { sound = is.keeps_rules.sound; each = λ place instr stands. let ok = ok_at (owner.Function k) (function_code p f) is place instr stands in (ok.1, ok.2.0, ok.2.1) }

  block_fits_rules : (n : ℕ) (b : RoutineBlock) → slice_get (steps_in (variant.Block p.main)) n ≡ Some b → IsBlock (module_of p) (block_code p b)
  block_fits_rules n b e =
      let is = block_is n b e in
      record {
        sound = is.keeps_rules.sound;
        params = int_params b;
        each = λ place instr stands. let ok = ok_at owner.Block (block_code p b) is place instr stands in (ok.1, ok.2, blocks_untouched p accepted parts.arrays n b e place instr stands);
      }
    where
      int_params : (b : RoutineBlock) → (rest : List Ty) × ((block_code p b).locals ≡ ty.Int ∷ ty.Int ∷ rest)
      int_params (RoutineBlock' where' width width_name id_name form' body) = (kinds_in_row body, refl)

  fits_block : (b : RoutineBlock) → IsCodeOf (module_of p) owner.Block (block_code p b) → FitsBlock (block_code p b)
  fits_block (RoutineBlock' where' width width_name id_name form' body) is = code_fits (module_of p) owner.Block (block_code p (RoutineBlock' where' width width_name id_name form' body)) is

  spelling : HasSpelling (module_of p)
  spelling =
      let few = few_functions in
      let same_functions = length-map p.functions (λ f. function_code p f) in
      let same_blocks = length-map (steps_in (variant.Block p.main)) (λ b. block_code p b) in
      let few_blocks = parts.few_blocks in
      record {
        words = lists.words;
        tallies = lists.tallies;
        initial = lists.initial;
        texts = lists.texts;
        functions = (
          omega (arith, few, same_functions),
          all_from FitsFunction (module_of p).functions (λ k c e.
              let made = each_function k c e in
              subst FitsFunction made.2 (let params = few_params p accepted shared k made.0 made.1 in
              (omega (arith, params), code_fits (module_of p) (owner.Function k) (function_code p made.0) (function_is k made.0 made.1)))),
        );
        blocks = (
          omega (arith, few_blocks, same_blocks),
          all_from FitsBlock (module_of p).blocks (λ n c e.
              let made = each_block n c e in
              subst FitsBlock made.2 (fits_block made.0 (block_is n made.0 made.1))),
        );
        main = code_fits (module_of p) owner.Main (main_code p) main_is;
      }

  pub is_verified : IsVerified (module_of p)
  is_verified =
      let few = few_functions in
      let same_functions = length-map p.functions (λ f. function_code p f) in
      record {
        spelled = spelling;
        few_words = lists.few_words;
        few_functions = omega (arith, few, same_functions);
        tallies = lists.tallies_within;
        initial = lists.initial_within;
        functions = λ k c e. let made = each_function k c e in subst (λ (d : Code). IsFunction (module_of p) k d) made.2 (function_fits_rules k made.0 made.1);
        blocks = λ n c e. let made = each_block n c e in subst (λ (d : Code). IsBlock (module_of p) d) made.2 (block_fits_rules n made.0 made.1);
        main = record { sound = main_is.keeps_rules.sound; each = λ place instr stands. let ok = ok_at owner.Main (main_code p) main_is place instr stands in (ok.1, ok.2) };
      }
