-- The parts of a spelled program: how its bodies are spelled, how long their code is, and what it declares.
use Rattle.std.proofs.Common.{◌≡◌, ◌≤◌, ◌<◌, ◌+◌, ◌*◌, ◌^◌, ℕ, zero, suc, pos, List, Some, length, refl, arith}
use Rattle.std.specs.Prelude.{neg_ℤ, slice_get}
use Rattle.std.specs.List.{AllByRecursion}
use Rattle.cal_terms.specs.declared.kinds.WordKind.TheVariants.{Ordinary}
use Rattle.csl_tree.specs.declared.token.Token.{Token}
use Rattle.csl_tree.specs.declared.token.TokenKind.TheVariants as kind
use Rattle.csl_tree.specs.declared.program.Program.{Program}
use Rattle.csl_tree.specs.declared.program.Function.{Function}
use Rattle.csl_tree.specs.declared.program.Param.{Param}
use Rattle.csl_tree.specs.declared.program.Shared.{Shared}
use Rattle.csl_tree.specs.declared.program.ArraySize.{ArraySize}
use Rattle.csl_tree.specs.declared.program.Valued.{Valued}
use Rattle.csl_tree.specs.declared.program.Stmt.{Stmt}
use Rattle.csl_tree.specs.declared.program.RoutineBlock.{RoutineBlock}
use Rattle.csl_tree.specs.declared.program.Form.TheVariants as variant
use Rattle.csl_tree.specs.declared.program.Form.TheBlock.{hidden-the_row-Stmt-1}
use Rattle.csl_grammar.specs.Levels.{Stays, outermost}
use Rattle.csl_grammar.specs.Programs.{Each, stop, again, MoreOf, no_more, more, ListOf, nothing, something, SpellsBlock, SpellsValue, plain, minus, SpellsInitial, unlisted, listed, SpellsShared}
use Rattle.csl_grammar.specs.Programs.{scalar, array, tally, SpellsParam, param, SpellsFunction, function, SpellsProgram, program}
use Rattle.csl_grammar.specs.Texts.{Spells, IsSpelledWithin, text_limit}
use Rattle.bytecode.specs.Spelling.{FitsZig}
use Rattle.compiled_code.specs.Slots.{Slots}
use Rattle.compiled_code.specs.Sizes.{texts_in, steps_in}
use Rattle.compiled_code.specs.Places.{form_size}
use Rattle.accepted_code.proofs.Lists.{all_at}
use Rattle.accepted_code.proofs.Spelled.{FormSpelled}
use Rattle.accepted_code.proofs.TokenFacts.{TextFits, tokens_fit_within, few_tokens}
use Rattle.accepted_code.proofs.SpelledValues.{first, zig_fits}
use Rattle.accepted_code.proofs.SpelledForms.{Onward, onward, RowStands, block_stands}
use Rattle.accepted_code.proofs.CodeSizes.{row_tokens, block_counted, row_bounded, row_texts_bounded, row_steps_bounded, RoutineFits, row_steps_fit}

-- the most instructions of a body of a text within the limit
abbrev pub code_limit : ℕ
code_limit = 4 * (text_limit + 1)

-- a body is spelled, and its code, its texts and its routine blocks are within the limit
abbrev pub BodyFits : Program → List Stmt → Type 0
BodyFits p body = FormSpelled (variant.Block body) × ((slots : Slots) (slot : ℕ) → form_size p (variant.Block body) slots slot ≤ code_limit)
    × (length (texts_in (variant.Block body)) ≤ code_limit) × (length (steps_in (variant.Block body)) ≤ code_limit)

-- an array is of ordinary words
abbrev pub IsPlainArray : Shared → Type 0
IsPlainArray s = (size : ArraySize) → s.size ≡ Some size → s.kind ≡ Ordinary

abbrev pub ArraysArePlain : List Shared → Type 0
ArraysArePlain shared = AllByRecursion IsPlainArray shared

-- the values that are listed have 64 bits
abbrev pub ValuesFit : Shared → Type 0
ValuesFit s = AllByRecursion (λ (v : Valued). FitsZig v.number) s.values

pub record SpelledProgram (p : Program) : Type 0 where
  pub functions : AllByRecursion (λ (f : Function). BodyFits p f.body) p.functions
  pub main : BodyFits p p.main
  pub blocks : AllByRecursion (RoutineFits p code_limit) (steps_in (variant.Block p.main))
  pub few_blocks : length (steps_in (variant.Block p.main)) ≤ text_limit + 1
  pub few_texts : length (texts_in (variant.Block p.main)) ≤ text_limit + 1
  pub texts : AllByRecursion (TextFits text_limit) (texts_in (variant.Block p.main))
  pub arrays : ArraysArePlain p.shared
  pub values : AllByRecursion ValuesFit p.shared

-- ---- lists of parts

each_counted : {T : Type 0} {spells : List Token → List Token → T → Type 0} {tokens rest : List Token} {xs : List T} → ((ts after : List Token) (x : T) → spells ts after x → length after ≤ length ts)
    → Each spells tokens rest xs → length rest ≤ length tokens
each_counted h stop = omega arith
each_counted h (again {tokens = tokens} {middle = middle} {x = x} d m) = omega (arith, h tokens middle x d, each_counted h m)

more_counted : {T : Type 0} {spells : List Token → List Token → T → Type 0} {tokens rest : List Token} {xs : List T} → ((ts after : List Token) (x : T) → spells ts after x → length after ≤ length ts)
    → MoreOf spells tokens rest xs → length rest ≤ length tokens
more_counted h no_more = omega arith
more_counted h (more {tokens = tokens} {middle = middle} {x = x} k d m) = omega (arith, h tokens middle x d, more_counted h m)

list_counted : {T : Type 0} {spells : List Token → List Token → T → Type 0} {tokens rest : List Token} {xs : List T} → ((ts after : List Token) (x : T) → spells ts after x → length after ≤ length ts)
    → ListOf spells tokens rest xs → length rest ≤ length tokens
list_counted h nothing = omega arith
list_counted h (something {tokens = tokens} {middle = middle} {x = x} d m) = omega (arith, h tokens middle x d, more_counted h m)

more_onward : {T : Type 0} {spells : List Token → List Token → T → Type 0} {tokens rest : List Token} {xs : List T} {limit : ℕ}
    → ((ts after : List Token) (x : T) → spells ts after x → Onward limit ts → Onward limit after) → MoreOf spells tokens rest xs → Onward limit tokens → Onward limit rest
more_onward h no_more o = o
more_onward h (more {tokens = tokens} {middle = middle} {x = x} k d m) o = more_onward h m (h tokens middle x d (onward o))

list_onward : {T : Type 0} {spells : List Token → List Token → T → Type 0} {tokens rest : List Token} {xs : List T} {limit : ℕ}
    → ((ts after : List Token) (x : T) → spells ts after x → Onward limit ts → Onward limit after) → ListOf spells tokens rest xs → Onward limit tokens → Onward limit rest
list_onward h nothing o = o
list_onward h (something {tokens = tokens} {middle = middle} {x = x} d m) o = more_onward h m (h tokens middle x d o)

-- ---- shared declarations

value_counted : (ts after : List Token) (v : Valued) → SpellsValue ts after v → length after ≤ length ts
value_counted ts after v (plain k) = omega arith
value_counted ts after v (minus k n) = omega arith

initial_counted : {tokens rest : List Token} {b : _} {vs : List Valued} → SpellsInitial tokens rest b vs → length rest ≤ length tokens
initial_counted unlisted = omega arith
initial_counted (listed e o d c) = omega (arith, list_counted value_counted d)

shared_counted : (ts after : List Token) (s : Shared) → SpellsShared ts after s → length after ≤ length ts
shared_counted ts after s (scalar w n k) = omega arith
shared_counted ts after s (array w n o z c i k) = omega (arith, initial_counted i)
shared_counted ts after s (tally w i n k) = omega arith

-- a negated number of 63 bits
negated_fits : (n : ℕ) → n < 2 ^ 63 → FitsZig (neg_ℤ (pos n))
negated_fits zero h = omega arith
negated_fits (suc n) h = omega (arith, h)

module _ (limit : ℕ) where
  value_stands : {tokens rest : List Token} {v : Valued} → SpellsValue tokens rest v → Onward limit tokens → FitsZig v.number × Onward limit rest
  value_stands (plain {n = n} k) o = let token = first (kind.Number n) Stays k refl o.good in (zig_fits n token.fits, onward o)
  value_stands (minus {n = n} s k) o =
      let behind : Onward limit _ = onward o in
      let token = first (kind.Number (pos n)) Stays k refl behind.good in
      (negated_fits n token.fits, onward behind)

  more_values_stand : {tokens rest : List Token} {vs : List Valued} → MoreOf SpellsValue tokens rest vs → Onward limit tokens → AllByRecursion (λ (v : Valued). FitsZig v.number) vs × Onward limit rest
  more_values_stand no_more o = (tt, o)
  more_values_stand (more k d m) o =
      let one : _ × _ = value_stands d (onward o) in
      let others : _ × _ = more_values_stand m one.1 in
      ((one.0, others.0), others.1)

  values_stand : {tokens rest : List Token} {vs : List Valued} → ListOf SpellsValue tokens rest vs → Onward limit tokens → AllByRecursion (λ (v : Valued). FitsZig v.number) vs × Onward limit rest
  values_stand nothing o = (tt, o)
  values_stand (something d m) o =
      let one : _ × _ = value_stands d o in
      let others : _ × _ = more_values_stand m one.1 in
      ((one.0, others.0), others.1)

  initial_stands : {tokens rest : List Token} {b : _} {vs : List Valued} → SpellsInitial tokens rest b vs → Onward limit tokens
      → AllByRecursion (λ (v : Valued). FitsZig v.number) vs × Onward limit rest
  initial_stands unlisted o = (tt, o)
  initial_stands (listed e b d c) o = let all : _ × _ = values_stand d (onward (onward o)) in (all.0, onward all.1)

  shared_stands : {tokens rest : List Token} {s : Shared} → SpellsShared tokens rest s → Onward limit tokens → IsPlainArray s × ValuesFit s × Onward limit rest
  shared_stands (scalar w n k) o = (λ size e. refl, tt, onward (onward (onward o)))
  shared_stands (array w n b z c i k) o =
      let all : _ × _ = initial_stands i (onward (onward (onward (onward (onward o))))) in
      (λ size e. refl, all.0, onward all.1)
  shared_stands (tally w i n k) o = (λ size e. absurd cc, tt, onward (onward (onward (onward o))))

  all_shared_stand : {tokens rest : List Token} {shared : List Shared} → Each SpellsShared tokens rest shared → Onward limit tokens
      → ArraysArePlain shared × AllByRecursion ValuesFit shared × Onward limit rest
  all_shared_stand stop o = (tt, tt, o)
  all_shared_stand (again d m) o =
      let one : _ × _ × _ = shared_stands d o in
      let others : _ × _ × _ = all_shared_stand m one.2 in
      ((one.0, others.0), (one.1, others.1), others.2)

-- ---- functions

param_counted : (ts after : List Token) (q : Param) → SpellsParam ts after q → length after ≤ length ts
param_counted ts after q (param w n) = omega arith

param_onward : {limit : ℕ} (ts after : List Token) (q : Param) → SpellsParam ts after q → Onward limit ts → Onward limit after
param_onward ts after q (param w n) o = onward (onward o)

function_counted : (ts after : List Token) (f : Function) → SpellsFunction ts after f → length after ≤ length ts
function_counted ts after f (function w n o p c b) = omega (arith, list_counted param_counted p, block_counted b)

module _ (p : Program) where
  -- a body that is spelled by some of the tokens
  body_fits : {tokens rest : List Token} {body : List Stmt} → SpellsBlock tokens rest body → Onward text_limit tokens → length tokens ≤ text_limit + 1 → BodyFits p body
  body_fits {body = body} d o few =
      let all : _ × _ = block_stands text_limit d o in (
        all.0.0,
        λ slots slot. omega (arith, few, block_counted d, row_bounded p (hidden-the_row-Stmt-1 body) slots slot),
        omega (arith, few, block_counted d, row_texts_bounded (hidden-the_row-Stmt-1 body)),
        omega (arith, few, block_counted d, row_steps_bounded (hidden-the_row-Stmt-1 body)),
      )

  function_fits : {tokens rest : List Token} {f : Function} → SpellsFunction tokens rest f → Onward text_limit tokens → length tokens ≤ text_limit + 1 → BodyFits p f.body × Onward text_limit rest
  function_fits (function w n k q c b) o few =
      let inner : Onward text_limit _ = onward (list_onward param_onward q (onward (onward (onward o)))) in
      (body_fits b inner (omega (arith, few, list_counted param_counted q)), (block_stands text_limit b inner).1)

  functions_fit : {tokens rest : List Token} {fs : List Function} → Each SpellsFunction tokens rest fs → Onward text_limit tokens → length tokens ≤ text_limit + 1
      → AllByRecursion (λ (f : Function). BodyFits p f.body) fs × Onward text_limit rest
  functions_fit stop o few = (tt, o)
  functions_fit (again {tokens = tokens} {middle = middle} {x = x} d m) o few =
      let one : _ × _ = function_fits d o few in
      let others : _ × _ = functions_fit m one.1 (omega (arith, few, function_counted tokens middle x d)) in
      ((one.0, others.0), others.1)

-- ---- the whole program

program_parts : {tokens : List Token} {p : Program} → SpellsProgram tokens p → Onward text_limit tokens → length tokens ≤ text_limit + 1 → SpelledProgram p
program_parts (program {shared = shared} {functions = functions} {body = body} w o s c f m b k) on few =
    let p : Program = record { shared = shared; functions = functions; main = body } in
    let declarations : _ × _ × _ = all_shared_stand text_limit s (onward (onward on)) in
    let few_declared = each_counted shared_counted s in
    let bodies : _ × _ = functions_fit p f (onward declarations.2) (omega (arith, few, few_declared)) in
    let few_functions = each_counted function_counted f in
    let inner : Onward text_limit _ = onward bodies.1 in
    let few_main = block_counted b in
    let small : row_tokens (hidden-the_row-Stmt-1 body) ≤ text_limit + 1 = omega (arith, few, few_declared, few_functions, few_main) in
    let main_fits : BodyFits p body = body_fits p b inner (omega (arith, few, few_declared, few_functions)) in
    let main_stands : RowStands text_limit (hidden-the_row-Stmt-1 body) × Onward text_limit _ = block_stands text_limit b inner in
    record {
      functions = bodies.0;
      main = main_fits;
      blocks = (row_steps_fit p code_limit (hidden-the_row-Stmt-1 body) main_fits.0 (omega (arith, small))).each;
      few_blocks = omega (arith, small, row_steps_bounded (hidden-the_row-Stmt-1 body));
      few_texts = omega (arith, small, row_texts_bounded (hidden-the_row-Stmt-1 body));
      texts = main_stands.0.1.each;
      arrays = declarations.0;
      values = declarations.1;
    }

-- what a text gives of the program that it spells
pub spelled_program : (p : Program) → IsSpelledWithin text_limit p → SpelledProgram p
spelled_program p h =
    let text : List ℕ = h.0 in
    let spells : Spells text p = h.3 in
    let tokens : List Token = spells.tokens in
    program_parts spells.spelled
    (record { from = outermost; good = record { flat = spells.flat; fit = tokens_fit_within text_limit text tokens spells.read (h.1, h.2) } })
    (omega (arith, h.1, few_tokens text tokens spells.read))

-- ---- single parts

-- the function with this number
pub function_spelled : (p : Program) → SpelledProgram p → (k : ℕ) (f : Function) → slice_get p.functions k ≡ Some f → BodyFits p f.body
function_spelled p s k f e = all_at (λ (g : Function). BodyFits p g.body) p.functions k f s.functions e

-- the routine block with this number
pub block_spelled : (p : Program) → SpelledProgram p → (n : ℕ) (b : RoutineBlock) → slice_get (steps_in (variant.Block p.main)) n ≡ Some b → RoutineFits p code_limit b
block_spelled p s n b e = all_at (RoutineFits p code_limit) (steps_in (variant.Block p.main)) n b s.blocks e
