-- What takes a unit of fuel, and when.
use Rattle.std.specs.Prelude.{ℕ, List, [], ◌∷◌, ◌++◌, codes}
use Rattle.cal_base.specs.Text.{line}
use Rattle.cal_terms.specs.declared.types.Gives.TheVariants as gives
use Rattle.csl_tree.specs.declared.program.Program.{Program}
use Rattle.csl_tree.specs.declared.program.Function.{Function}
use Rattle.csl_tree.specs.declared.program.BinaryOp.TheVariants.{Add, Div}
use Rattle.csl_meaning.specs.Rows.{number, routine, id, endless, Writes}
use Rattle.meaning_rows.specs.Trees.{scalar, two, at_name, var, call, set, give, say, print, parallel, step, function, program}

-- with this much fuel the program prints this, and then main wants a unit where none is left, before any step is completed
abbrev pub Spent : Program → ℕ → List ℕ → Type 0
Spent p fuel out = Writes p fuel out (line (codes "fault: after step 0: fuel spent"))

-- int f(int n) { return 4 / n; }
abbrev quarter : Function
quarter = function gives.Int (codes "f") (codes "n" ∷ []) (give (two (number 4) Div (var (codes "n"))) ∷ [])

-- shared { } int f(int n) { return 4 / n; } main { parbegin routine[f(N)](int w, int id) { } parend; print("done"); }
abbrev pub step_of_width : ℕ → Program
step_of_width n = program [] (quarter ∷ [])
    (parallel (routine (call (codes "f") (number n ∷ [])) [] ∷ [])
    ∷ say (codes "done")
    ∷ [])

-- the call in the width takes a unit, and the step takes another
abbrev pub WidthAndStep : Type 0
WidthAndStep = Writes (step_of_width 2) 2 (line (codes "done")) []

-- with one unit less none is left for the step, which is not opened
abbrev pub NoUnitForStep : Type 0
NoUnitForStep = Spent (step_of_width 2) 1 []

-- a width is evaluated before the step's unit is taken: the one unit is there for the call, which then traps
abbrev pub WidthBeforeUnit : Type 0
WidthBeforeUnit = Writes (step_of_width 0) 1 [] (line (codes "fault: after step 0: division by zero"))

-- shared { } main { parbegin routine[0](int w, int id) { } parend; print("one"); parbegin routine[0](int w, int id) { } parend; print("two"); }
abbrev pub two_steps : Program
two_steps = program [] [] (step 0 [] ∷ say (codes "one") ∷ step 0 [] ∷ say (codes "two") ∷ [])

-- a step takes a unit also where it has no routines
abbrev pub UnitForEachStep : Type 0
UnitForEachStep = Writes two_steps 2 (line (codes "one") ++ line (codes "two")) []

-- where none is left for the second step, one step is completed
abbrev pub NoUnitForSecondStep : Type 0
NoUnitForSecondStep = Writes two_steps 1 (line (codes "one")) (line (codes "fault: after step 1: fuel spent"))

-- shared { } int f(int n) { return 4 / n; } main { print(f(f(N))); }
abbrev pub call_in_call : ℕ → Program
call_in_call n = program [] (quarter ∷ []) (print (call (codes "f") (call (codes "f") (number n ∷ []) ∷ []) ∷ []) ∷ [])

-- each call takes a unit
abbrev pub UnitForEachCall : Type 0
UnitForEachCall = Writes (call_in_call 2) 2 (line (codes "2")) []

-- and with one unit less there is none for the outer call
abbrev pub NoUnitForOuterCall : Type 0
NoUnitForOuterCall = Spent (call_in_call 2) 1 []

-- an argument is evaluated before the call's unit is taken: the one unit is there for the inner call, which then traps
abbrev pub ArgumentBeforeUnit : Type 0
ArgumentBeforeUnit = Writes (call_in_call 0) 1 [] (line (codes "fault: after step 0: division by zero"))

-- the 65th call takes its unit, and then is too deep
abbrev pub UnitThenTooDeep : Type 0
UnitThenTooDeep = Writes endless 65 [] (line (codes "fault: after step 0: too deep"))

-- where no unit is left for the 65th call, the fuel is spent
abbrev pub UnitBeforeTooDeep : Type 0
UnitBeforeTooDeep = Spent endless 64 []

-- shared { int x; } int f(int n) { return f(n + 1); } main { parbegin routine[1](int w, int id) { x = f(id); } parend; }
abbrev pub endless_in_routine : Program
endless_in_routine = program (scalar (codes "x") ∷ [])
    (function gives.Int (codes "f") (codes "n" ∷ []) (give (call (codes "f") (two (var (codes "n")) Add (number 1) ∷ [])) ∷ []) ∷ [])
    (step 1 (set (at_name (codes "x")) (call (codes "f") (id ∷ [])) ∷ []) ∷ [])

-- in a routine too 64 calls nest, and it has the whole fuel for them, of which the step's unit is no part
abbrev pub RoutineTooDeep : Type 0
RoutineTooDeep = Writes endless_in_routine 65 [] (line (codes "fault: step 1, routine 0: too deep"))

-- with one unit less the routine spends its fuel before the 65th call is too deep
abbrev pub RoutineSpent : Type 0
RoutineSpent = Writes endless_in_routine 64 [] (line (codes "fault: step 1, routine 0: fuel spent"))
