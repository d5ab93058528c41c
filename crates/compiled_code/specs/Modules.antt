-- The code of functions, of routine blocks and of main, and the module of a program.
use Rattle.std.specs.Prelude.{ℕ, suc, ℤ, pos, if◌then◌else◌, List, [], ◌∷◌, ◌++◌, length, map}
use Rattle.std.specs.Ordering.{int_eq}
use Rattle.cal_terms.specs.declared.kinds.WordKind.{WordKind}
use Rattle.cal_terms.specs.declared.kinds.WordKind.TheVariants.{Ordinary, Tally}
use Rattle.cal_base.specs.Memory.{Memory}
use Rattle.csl_tree.specs.declared.program.Program.{Program}
use Rattle.csl_tree.specs.declared.program.Function.{Function}
use Rattle.csl_tree.specs.declared.program.Param.{Param}
use Rattle.cal_terms.specs.declared.types.Gives.{Gives as Result}
use Rattle.cal_terms.specs.declared.types.Gives.TheVariants as result
use Rattle.csl_tree.specs.declared.program.Form.TheVariants as form
use Rattle.csl_tree.specs.declared.program.RoutineBlock.{RoutineBlock, RoutineBlock'}
use Rattle.csl_meaning.specs.Layout.{first_memory}
use Rattle.bytecode.specs.declared.instr.Instr.{Instr}
use Rattle.bytecode.specs.declared.instr.Instr.TheVariants as i
use Rattle.cal_terms.specs.declared.types.Ty.TheVariants as ty
use Rattle.bytecode.specs.declared.module.Code.{Code}
use Rattle.bytecode.specs.declared.module.Module.{Module}
use Rattle.compiled_code.specs.Slots.{Slots, with_slot, kind_of}
use Rattle.compiled_code.specs.Sizes.{kinds_in, kinds_in_row, texts_in, steps_in}
use Rattle.compiled_code.specs.Places.{form_size, row_size}
use Rattle.compiled_code.specs.Statements.{At, Exits, form_code, row_code}

-- ---- bodies

-- a body begins at place 0, behind the slots of this many parameters
abbrev pub beginning : ℕ → At
beginning params = record { place = 0; slot = params; text = 0; block = 0 }

-- a body ends at this place
abbrev pub ends_at : ℕ → Exits
ends_at place = record { on_break = place; on_continue = place }

-- what stands at the end of a body: it gives nothing back, or a value to which no accepted body comes
abbrev pub closing : Result → List Instr
closing result.Nothing = i.Return ∷ []
closing result.Int = i.Int (pos 0) ∷ i.Return ∷ []
closing result.Bool = i.False ∷ i.Return ∷ []

-- what a code gives back
abbrev pub gives_of : Result → Result
gives_of result.Nothing = result.Nothing
gives_of result.Int = result.Int
gives_of result.Bool = result.Bool

-- the parameters of a function, in the first slots
abbrev pub with_params : Slots → List Param → Slots
with_params slots [] = slots
with_params slots (q ∷ rest) = with_params (with_slot slots q.name.text (length slots) (kind_of q.ty)) rest

-- the code of a function
abbrev pub function_code : Program → Function → Code
function_code p f = record {
  params = length f.params;
  gives = gives_of f.gives;
  locals = map (λ q. kind_of q.ty) f.params ++ kinds_in (form.Block f.body);
  instrs =
      form_code p (form.Block f.body) (with_params [] f.params) (beginning (length f.params))
      (ends_at (form_size p (form.Block f.body) (with_params [] f.params) (length f.params)))
      ++ closing f.gives;
}

-- the two parameters of a routine block
abbrev pub routine_slots : (width id : List ℕ) → Slots
routine_slots width id = with_slot (with_slot [] width 0 ty.Int) id 1 ty.Int

-- the code of a routine block: its width and its number within the block are in the first two slots
abbrev pub block_code : Program → RoutineBlock → Code
block_code p (RoutineBlock' at width width_name id_name shape body) = record {
  params = 2;
  gives = result.Nothing;
  locals = ty.Int ∷ ty.Int ∷ kinds_in_row body;
  instrs = row_code p body (routine_slots width_name.text id_name.text) (beginning 2)
      (ends_at (row_size p body (routine_slots width_name.text id_name.text) 2)) ++ i.Return ∷ [];
}

-- main's code
abbrev pub main_code : Program → Code
main_code p = record {
  params = 0;
  gives = result.Nothing;
  locals = kinds_in (form.Block p.main);
  instrs = form_code p (form.Block p.main) [] (beginning 0) (ends_at (form_size p (form.Block p.main) [] 0)) ++ i.Return ∷ [];
}

-- ---- words

-- one more address in front, where the word is a tally word
abbrev pub with_tally : WordKind → ℕ → List ℕ → List ℕ
with_tally Ordinary at addresses = addresses
with_tally Tally at addresses = at ∷ addresses

-- the addresses of the tally words, where the words begin at this address
abbrev pub tallies_from : ℕ → Memory → List ℕ
tallies_from at [] = []
tallies_from at (word ∷ rest) = with_tally word.kind at (tallies_from (suc at) rest)

-- the addresses and values of the words that are not 0
abbrev pub initial_from : ℕ → Memory → List (ℕ × ℤ)
initial_from at [] = []
initial_from at (word ∷ rest) = if int_eq word.value (pos 0) then initial_from (suc at) rest else (at, word.value) ∷ initial_from (suc at)
    rest

-- the module of a program
abbrev pub module_of : Program → Module
module_of p = record {
  words = length (first_memory p.shared);
  tallies = tallies_from 0 (first_memory p.shared);
  initial = initial_from 0 (first_memory p.shared);
  texts = texts_in (form.Block p.main);
  functions = map (λ f. function_code p f) p.functions;
  blocks = map (λ b. block_code p b) (steps_in (form.Block p.main));
  main = main_code p;
}
