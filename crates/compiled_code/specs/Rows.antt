-- Small programs and their code.
use Rattle.std.specs.Prelude.{◌≡◌, pos, [], ◌∷◌, codes}
use Rattle.csl_meaning.specs.Rows as rows
use Rattle.bytecode.specs.declared.instr.PrintItem.TheVariants as item
use Rattle.bytecode.specs.declared.instr.Instr.TheVariants as i
use Rattle.cal_terms.specs.declared.types.Ty.TheVariants as ty
use Rattle.cal_terms.specs.declared.types.Gives.TheVariants as gives
use Rattle.compiled_code.specs.Modules.{main_code, module_of}

-- `print(z != 0 && 1 / z > 0)`: the right operand is skipped where the left one is false
abbrev pub GuardedCode : Type 0
GuardedCode =
    (main_code rows.guarded).instrs
    ≡ i.Word 0 ∷ i.Int (pos 0) ∷ i.Ne ∷ i.Branch 10 ∷ i.Int (pos 1) ∷ i.Word 0 ∷ i.Div ∷ i.Int (pos 0) ∷ i.Gt ∷ i.Jump 11 ∷ i.False ∷
    i.Print (item.Truth ∷ []) ∷ i.Return ∷ []

-- `for (int i = 0; i < 9; i += 1) { if (i == 1) { continue; } if (i == 3) { break; } s += i; }` between other statements:
-- `continue` goes to the step statement, `break` behind the loop
abbrev pub LeavingCode : Type 0
LeavingCode =
    (main_code rows.leaving).instrs
    ≡ i.Int (pos 0) ∷ i.Store 0
    ∷ i.Int (pos 0) ∷ i.Store 1
    ∷ i.Load 1 ∷ i.Int (pos 9) ∷ i.Lt ∷ i.Branch 29
    ∷ i.Load 1 ∷ i.Int (pos 1) ∷ i.Eq ∷ i.Branch 14 ∷ i.Jump 24 ∷ i.Jump 14
    ∷ i.Load 1 ∷ i.Int (pos 3) ∷ i.Eq ∷ i.Branch 20 ∷ i.Jump 29 ∷ i.Jump 20
    ∷ i.Load 1 ∷ i.Load 0 ∷ i.Add ∷ i.Store 0
    ∷ i.Int (pos 1) ∷ i.Load 1 ∷ i.Add ∷ i.Store 1 ∷ i.Loop 4
    ∷ i.Load 0 ∷ i.Print (item.Int ∷ []) ∷ i.Return
    ∷ i.Load 0 ∷ i.Print (item.Int ∷ []) ∷ i.Return ∷ []

-- `int f(int n) { if (n == 0) { return 7; } return f(n - 1); }`: a value that no body comes to stands at the end
abbrev pub DescendingCode : Type 0
DescendingCode =
    (module_of (rows.descending 64)).functions
    ≡ record {
      params = 1;
      gives = gives.Int;
      locals = ty.Int ∷ [];
      instrs =
          i.Load 0 ∷ i.Int (pos 0) ∷ i.Eq ∷ i.Branch 7 ∷ i.Int (pos 7) ∷ i.Return ∷ i.Jump 7
          ∷ i.Load 0 ∷ i.Int (pos 1) ∷ i.Sub ∷ i.Call 0 ∷ i.Return
          ∷ i.Int (pos 0) ∷ i.Return ∷ [];
    } ∷ []

-- a module with an array, a step of one block, a loop over the array and a line with a text
abbrev pub SquaresModule : Type 0
SquaresModule =
    module_of rows.squares
    ≡ record {
      words = 5;
      tallies = [];
      initial = [];
      texts = codes "sum" ∷ [];
      functions = [];
      blocks = record {
        params = 2;
        gives = gives.Nothing;
        locals = ty.Int ∷ ty.Int ∷ [];
        instrs = i.Load 1 ∷ i.Load 1 ∷ i.Load 1 ∷ i.Mul ∷ i.SetItem 0 4 ∷ i.Return ∷ [];
      } ∷ [];
      main = record {
        params = 0;
        gives = gives.Nothing;
        locals = ty.Int ∷ [];
        instrs =
            i.Int (pos 4) ∷ i.Par 0 1
            ∷ i.Int (pos 0) ∷ i.Store 0
            ∷ i.Load 0 ∷ i.Int (pos 4) ∷ i.Lt ∷ i.Branch 16
            ∷ i.Load 0 ∷ i.Item 0 4 ∷ i.AddWord 4
            ∷ i.Int (pos 1) ∷ i.Load 0 ∷ i.Add ∷ i.Store 0 ∷ i.Loop 4
            ∷ i.Word 4 ∷ i.Print (item.Text 0 ∷ item.Int ∷ []) ∷ i.Return ∷ [];
      };
    }
