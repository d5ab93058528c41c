-- The laws of a program's faults: which of them a refusal names, and when there is none.
use Rattle.std.specs.Prelude.{◌≡◌, ◌↔◌, false, List, [], Option, Some}
use Rattle.std.specs.List.{AllByRecursion, Contains}
use Rattle.csl_tree.specs.declared.program.Program.{Program}
use Rattle.type_check.specs.declared.fault.Fault.{Fault}
use Rattle.type_check.specs.Listed.{is_before}
use Rattle.type_check.specs.Faults.{faults_of, first_fault, IsAccepted}

-- the first of some faults: it is one of them, and none of them stands before it
abbrev pub IsFirst : List Fault → Fault → Type 0
IsFirst faults f = Contains faults f × AllByRecursion (λ x. is_before x f ≡ false) faults

-- the fault that a refusal names is the first of the program's faults
abbrev pub RefusalNamesTheFirst : Type 0
RefusalNamesTheFirst = (p : Program) (f : Fault) → first_fault p ≡ Some f → IsFirst (faults_of p) f

-- the accepted programs are those that have no fault
abbrev pub AcceptedHaveNoFault : Type 0
AcceptedHaveNoFault = (p : Program) → IsAccepted p ↔ (faults_of p ≡ [])
