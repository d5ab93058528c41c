-- The code of bodies at the tree's own constructors.
use Rattle.std.proofs.Common.{◌≡◌, ℕ, List, [], ◌∷◌, ◌++◌, map, length, ap, ◌∙◌}
use Rattle.csl_tree.specs.declared.program.Program.{Program}
use Rattle.csl_tree.specs.declared.program.Function.{Function}
use Rattle.csl_tree.specs.declared.program.Stmt.{Stmt}
use Rattle.csl_tree.specs.declared.program.RoutineBlock.{RoutineBlock, out-RoutineBlock, is-RoutineBlock'}
use Rattle.csl_tree.specs.declared.program.Form.TheVariants as form
use Rattle.csl_tree.specs.declared.program.Form.TheBlock.{hidden-the_row-Stmt-1}
use Rattle.bytecode.specs.declared.instr.Instr.{Instr}
use Rattle.bytecode.specs.declared.instr.Instr.TheVariants as i
use Rattle.cal_terms.specs.declared.types.Ty.TheVariants as ty
use Rattle.cal_terms.specs.declared.types.Gives.TheVariants as gives
use Rattle.compiled_code.specs.Slots.{Slots, kind_of}
use Rattle.compiled_code.specs.Places.{row_size}
use Rattle.compiled_code.specs.Statements.{row_code}
use Rattle.compiled_code.specs.Modules.{beginning, ends_at, closing, gives_of, with_params, function_code, routine_slots, block_code, main_code}
use Rattle.compiled_code.specs.Shape.{FormIs}
use Rattle.expression_code.proofs.RowLemmas.{kinds_row}
use Rattle.expression_code.proofs.StatementSizes.{row_is}
use Rattle.compile_steps.proofs.Bridges.{row_code_is, row_are}
use Rattle.expression_code.specs.Lists.{kinds_of, statements_size, statements_code, StatementsAre}

module _ (p : Program) where
  -- the code of a body, with its own end as both exits
  abbrev pub body_of : List Stmt → Slots → ℕ → List Instr
  body_of body slots slot = statements_code p body slots (beginning slot) (ends_at (statements_size p body slots slot))

  row_is_body : (body : List Stmt) (slots : Slots) (slot : ℕ) → row_code p (hidden-the_row-Stmt-1 body) slots (beginning slot) (ends_at (row_size p (hidden-the_row-Stmt-1 body) slots slot)) ≡ body_of
      body slots slot
  row_is_body body slots slot = ap (λ n. row_code p (hidden-the_row-Stmt-1 body) slots (beginning slot) (ends_at n)) (row_is p body slots slot)
      ∙ row_code_is p body slots (beginning slot) (ends_at (statements_size p body slots slot))

  -- a function
  pub function_is : (f : Function) → function_code p f ≡ record {
    params = length f.params;
    gives = gives_of f.gives;
    locals = map (λ q. kind_of q.ty) f.params ++ kinds_of f.body;
    instrs = body_of f.body (with_params [] f.params) (length f.params) ++ closing f.gives;
  }
  function_is f = λ j. record {
    params = length f.params;
    gives = gives_of f.gives;
    locals = map (λ q. kind_of q.ty) f.params ++ kinds_row f.body j;
    instrs = row_is_body f.body (with_params [] f.params) (length f.params) j ++ closing f.gives;
  }

  -- main
  pub main_is : main_code p ≡ record {
    params = 0;
    gives = gives.Nothing;
    locals = kinds_of p.main;
    instrs = body_of p.main [] 0 ++ i.Return ∷ [];
  }
  main_is = λ j. record {
    params = 0;
    gives = gives.Nothing;
    locals = kinds_row p.main j;
    instrs = row_is_body p.main [] 0 j ++ i.Return ∷ [];
  }

  -- a routine block
  pub block_is : (b : RoutineBlock) → block_code p b ≡ record {
    params = 2;
    gives = gives.Nothing;
    locals = ty.Int ∷ ty.Int ∷ kinds_of (out-RoutineBlock b).body;
    instrs = body_of (out-RoutineBlock b).body (routine_slots (out-RoutineBlock b).width_name.text (out-RoutineBlock b).id_name.text) 2 ++ i.Return ∷ [];
  }
  block_is b =
      ap (block_code p) (is-RoutineBlock' b)
      ∙ (λ j. record {
        params = 2;
        gives = gives.Nothing;
        locals = ty.Int ∷ ty.Int ∷ kinds_row (out-RoutineBlock b).body j;
        instrs = row_is_body (out-RoutineBlock b).body (routine_slots (out-RoutineBlock b).width_name.text (out-RoutineBlock b).id_name.text) 2 j ++ i.Return ∷ [];
      })

  -- the shape of a body
  pub body_shape : (body : List Stmt) → FormIs p (form.Block body) → StatementsAre p body
  body_shape body h = row_are p body h
