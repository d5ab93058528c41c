-- What an accepted program gives to those that write its code.
use Rattle.std.proofs.Common.{suc, refl, length-append, arith, append_assoc, drop, get_or, ◌+◌, ◌≡◌, ◌≤◌, ◌<◌, ℕ, ℤ, List, [], ◌∷◌, ◌++◌, length, map, Some, sym, ap, subst, ◌∙◌}
use Rattle.std.specs.Prelude.{slice_get}
use Rattle.std.specs.List.{AllByRecursion}
use Rattle.csl_tree.specs.declared.program.Program.{Program}
use Rattle.csl_tree.specs.declared.program.Function.{Function}
use Rattle.csl_tree.specs.declared.program.Shared.{Shared}
use Rattle.csl_tree.specs.declared.program.Stmt.{Stmt}
use Rattle.csl_tree.specs.declared.program.Form.TheVariants as form
use Rattle.csl_tree.specs.declared.program.RoutineBlock.{RoutineBlock, out-RoutineBlock, is-RoutineBlock'}
use Rattle.std.proofs.lemmas.List.{length-map}
use Rattle.compiled_code.specs.Slots.{Slots, kind_of}
use Rattle.compiled_code.specs.Sizes.{texts_in, steps_in}
use Rattle.compiled_code.specs.Places.{form_size}
use Rattle.bytecode.specs.declared.module.Code.{Code}
use Rattle.csl_grammar.specs.Texts.{IsSpelledWithin, text_limit}
use Rattle.csl_meaning.specs.Layout.{Text, first_memory}
use Rattle.cal_base.specs.Main as opened
use Rattle.csl_meaning.specs.Meaning as language
use Rattle.csl_meaning.specs.Meaning.{meaning}
use Rattle.bytecode.specs.declared.module.Module.{Module}
use Rattle.code_verify.specs.Rules.{IsVerified}
use Rattle.machine_meaning.specs.Meaning.{machine_main, machine_meaning}
use Rattle.compiled_code.specs.Modules.{with_params, routine_slots, tallies_from, initial_from, function_code, block_code, main_code, module_of}
use Rattle.compiled_code.specs.Laws.{HasRoutines}
use Rattle.compiled_code.proofs.Meaning.{means_the_same, opens_the_same, has_routines}
use Rattle.type_check.specs.Faults.{IsAccepted}
use Rattle.type_check.proofs.Facts.{accepted-count}
use Rattle.accepted_code.proofs.Accepted.{accepted_shape}
use Rattle.cal_terms.proofs.Lists.{next_item}
use Rattle.accepted_code.proofs.Verified.{is_verified}
use Rattle.accepted_code.proofs.Named.{named_is}
use Rattle.accepted_code.proofs.Parts.{code_limit, spelled_program, function_spelled, block_spelled}
use Rattle.accepted_code.proofs.CodeSizes.{RoutineFits}
use Rattle.accepted_code.proofs.SharedWords.{shared_means}
use Rattle.accepted_code.proofs.Bodies.{few_params, main_locals, block_locals, function_locals}
use Rattle.accepted_code.proofs.ModuleLists.{module_words}
use Rattle.expression_code.specs.Counts.{IsSmall, words_in_all}
use Rattle.compile_steps.proofs.SharedLemmas.{all_words}
use Rattle.expression_code.specs.Lists.{kinds_of, texts_of, steps_of, StatementsAre}
use Rattle.expression_code.proofs.StatementSizes.{row_is}
use Rattle.compile_steps.specs.Writing.{BodyFits, BlockFits, BlocksFit}
use Rattle.compile_steps.proofs.Bridges.{texts_row, steps_row}
use Rattle.compile_steps.proofs.BodyLemmas.{function_is, main_is, block_is, body_shape}

module _ (p : Program) (spelled : IsSpelledWithin text_limit p) (accepted : IsAccepted p) where
  -- the body of a function has the shape that its code asks for
  pub function_shape : (k : ℕ) (f : Function) → slice_get p.functions k ≡ Some f → StatementsAre p f.body
  function_shape k f e = body_shape p f.body ((accepted_shape p spelled accepted).functions f.name.text f (named_is p accepted k f e)).body

  -- it has 8 parameters at most
  pub function_params : (k : ℕ) (f : Function) → slice_get p.functions k ≡ Some f → length f.params ≤ 8
  function_params k f e = few_params p accepted (shared_means p accepted (spelled_program p spelled).arrays) k f e

  -- and so has main
  pub main_shape : StatementsAre p p.main
  main_shape = body_shape p p.main (accepted_shape p spelled accepted).main

-- all entries of a list, by their places
all_places : {X : Type 0} {P : X → Type 0} (xs : List X) → ((n : ℕ) (x : X) → slice_get xs n ≡ Some x → P x) → AllByRecursion P xs
all_places [] h = tt
all_places (x ∷ xs) h = (h 0 x refl, all_places xs (λ n y e. h (suc n) y e))

module _ (p : Program) (spelled : IsSpelledWithin text_limit p) (accepted : IsAccepted p) where
  -- there is room for the code of a body, of so many instructions and locals
  body_room : (body : List Stmt) (slots : Slots) (slot : ℕ) → form_size p (form.Block body) slots slot ≤ code_limit → slot + length (kinds_of body) ≤ 64
      → length (texts_in (form.Block body)) ≤ code_limit → length (steps_in (form.Block body)) ≤ code_limit → BodyFits p body slots slot
  body_room body slots slot size locals texts steps = record {
    room = let same = row_is p body slots slot in omega (arith, size, same, locals);
    text = let same = ap length (texts_row body) in omega (arith, texts, same);
    block = let same = ap length (steps_row body) in omega (arith, steps, same);
  }

  -- for that of a function
  pub function_room : (k : ℕ) (f : Function) → slice_get p.functions k ≡ Some f → BodyFits p f.body (with_params [] f.params) (length f.params)
  function_room k f e =
      let parts = function_spelled p (spelled_program p spelled) k f e in
      let locals = function_locals p accepted (shared_means p accepted (spelled_program p spelled).arrays) k f e in
      let same = ap (λ (c : Code). length c.locals) (function_is p f) in
      let both = length-append (map (λ q. kind_of q.ty) f.params) (kinds_of f.body) in
      let params = length-map f.params (λ q. kind_of q.ty) in
      body_room f.body (with_params [] f.params) (length f.params) (parts.1 (with_params [] f.params) (length f.params)) (omega (arith, locals, same, both, params)) parts.2 parts.3

  -- for that of main
  pub main_room : BodyFits p p.main [] 0
  main_room =
      let parts = (spelled_program p spelled).main in
      let locals = main_locals p accepted in
      let same = ap (λ (c : Code). length c.locals) (main_is p) in
      body_room p.main [] 0 (parts.1 [] 0) (omega (arith, locals, same)) parts.2 parts.3

  block_room : (b : RoutineBlock) → RoutineFits p code_limit b → length (block_code p b).locals ≤ 64 → BlockFits p b
  block_room b h locals =
      let body = (out-RoutineBlock b).body in
      let slots = routine_slots (out-RoutineBlock b).width_name.text (out-RoutineBlock b).id_name.text in
      let parts = subst (RoutineFits p code_limit) (is-RoutineBlock' b) h in
      let same = ap (λ (c : Code). length c.locals) (block_is p b) in
      body_room body slots 2 (parts.1 slots 2) (omega (arith, locals, same)) parts.2 parts.3

  -- and for those of the routine blocks
  pub blocks_room : BlocksFit p (steps_of p.main)
  blocks_room =
      subst (BlocksFit p) (steps_row p.main)
      (all_places (steps_in (form.Block p.main)) (λ n b e. block_room b (block_spelled p (spelled_program p spelled) n b e) (block_locals p accepted n b e)))

-- an accepted program has fewer than 2^32 words, by one of two counts, and functions
pub few_words : (p : Program) (shared : List Shared) → shared ≡ p.shared → IsAccepted p → IsSmall (length (first_memory shared))
few_words p shared e accepted = omega (arith, ap (λ (l : List Shared). length (first_memory l)) e, module_words p accepted)

pub few_words_in_all : (p : Program) → IsAccepted p → IsSmall (words_in_all p.shared)
few_words_in_all p accepted = omega (arith, all_words p.shared, module_words p accepted)

pub few_functions : (p : Program) → IsAccepted p → IsSmall (length p.functions)
few_functions p accepted = omega (arith, accepted-count p accepted)

-- the module of a program, over the lists of its parts
pub module_is : (p : Program) → module_of p ≡ record {
  words = length (first_memory p.shared);
  tallies = tallies_from 0 (first_memory p.shared);
  initial = initial_from 0 (first_memory p.shared);
  texts = texts_of p.main;
  functions = map (λ f. function_code p f) p.functions;
  blocks = map (λ b. block_code p b) (steps_of p.main);
  main = main_code p;
}
module_is p = λ j. record {
  words = length (first_memory p.shared);
  tallies = tallies_from 0 (first_memory p.shared);
  initial = initial_from 0 (first_memory p.shared);
  texts = texts_row p.main j;
  functions = map (λ f. function_code p f) p.functions;
  blocks = map (λ b. block_code p b) (steps_row p.main j);
  main = main_code p;
}

-- so it is one that was made of these parts
pub module_made : (p q : Program) (shared : List Shared) (one two : List Stmt) (fs : List Function) (words : ℕ) (t0 tallies : List ℕ) (i0 initial : List (ℕ × ℤ)) (x0 texts : List Text)
    (functions b0 blocks : List Code) (main : Code)
    → q ≡ p → shared ≡ p.shared → one ≡ p.main → two ≡ p.main → fs ≡ p.functions → t0 ≡ [] → i0 ≡ [] → x0 ≡ [] → b0 ≡ []
    → words ≡ length (first_memory shared)
    → tallies ≡ t0 ++ tallies_from 0 (first_memory shared)
    → initial ≡ i0 ++ initial_from 0 (first_memory shared)
    → texts ≡ x0 ++ texts_of one
    → functions ≡ map (λ f. function_code q f) fs
    → blocks ≡ b0 ++ map (λ b. block_code q b) (steps_of two)
    → main ≡ main_code q
    → record { words = words; tallies = tallies; initial = initial; texts = texts; functions = functions; blocks = blocks; main = main } ≡ module_of p
module_made p q shared one two fs words t0 tallies i0 initial x0 texts functions b0 blocks main eq es e1 e2 ef et ei ex eb w t i x f b m =
    (λ j. record {
      words = (w ∙ ap (λ (l : List Shared). length (first_memory l)) es) j;
      tallies = (t ∙ (λ k. et k ++ tallies_from 0 (first_memory (es k)))) j;
      initial = (i ∙ (λ k. ei k ++ initial_from 0 (first_memory (es k)))) j;
      texts = (x ∙ (λ k. ex k ++ texts_of (e1 k))) j;
      functions = (f ∙ (λ k. map (λ g. function_code (eq k) g) (ef k))) j;
      blocks = (b ∙ (λ k. eb k ++ map (λ g. block_code (eq k) g) (steps_of (e2 k)))) j;
      main = (m ∙ ap main_code eq) j;
    })
    ∙ sym (module_is p)

module _ (p : Program) (spelled : IsSpelledWithin text_limit p) (accepted : IsAccepted p) (m : Module) (same : m ≡ module_of p) where
  -- the module keeps the rules, and means what the program means
  pub module_verified : IsVerified m
  module_verified = subst (λ (n : Module). IsVerified n) (sym same) (is_verified p spelled accepted)

  pub module_means : (fuel : ℕ) → machine_meaning m fuel ≡ meaning p fuel
  module_means fuel = ap (λ (n : Module). machine_meaning n fuel) same ∙ means_the_same p (is_verified p spelled accepted) (accepted_shape p spelled accepted) fuel

  -- it opens the steps that the program opens, and its routines do what the program's do
  pub module_steps : (fuel : ℕ) → opened.steps_of (machine_main m fuel) ≡ opened.steps_of (language.main p fuel)
  module_steps fuel = ap (λ (n : Module). opened.steps_of (machine_main n fuel)) same ∙ opens_the_same p (is_verified p spelled accepted) (accepted_shape p spelled accepted) fuel

  pub module_routines : HasRoutines p m
  module_routines = subst (λ (n : Module). HasRoutines p n) (sym same) (has_routines p (is_verified p spelled accepted) (accepted_shape p spelled accepted))

-- the code of one more function
pub next_codes : (p : Program) (codes next all : List Code) (code : Code) (fs : List Function) (k : ℕ) (f : Function) → next ≡ codes ++ code ∷ [] → code ≡ function_code p f → k < length fs
    → f ≡ get_or fs k f
    → codes ++ map (λ g. function_code p g) (drop k fs) ≡ all → next ++ map (λ g. function_code p g) (drop (k + 1) fs) ≡ all
next_codes p codes next all code fs k f pushed is lt there so_far =
    ap (λ (l : List Code). l ++ map (λ g. function_code p g) (drop (k + 1) fs)) pushed
    ∙ append_assoc codes (code ∷ []) (map (λ g. function_code p g) (drop (k + 1) fs))
    ∙ ap (λ (x : Code). codes ++ (x ∷ map (λ g. function_code p g) (drop (k + 1) fs))) is
    ∙ sym (ap (λ (l : List Function). codes ++ map (λ g. function_code p g) l) (next_item fs k f lt there))
    ∙ so_far
