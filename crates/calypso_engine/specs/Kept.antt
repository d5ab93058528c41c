-- The words as they were before a step, which are kept where the words that a step changed are to be shown.
use Rattle.std.specs.Prelude.{◌≡◌, ℕ, Bool, true, false, List, [], None, Some, Ok, Err}
use Rattle.std.specs.declared.option.Option.{Option}
use Rattle.std.specs.declared.result.Result.{Result}
use Rattle.cal_base.specs.declared.ends.StepFault.{StepFault}
use Rattle.cal_base.specs.Memory.{Memory, kinds_of}
use Rattle.cal_base.specs.Pages.{Paged}
use Rattle.cal_base.specs.Text.{step_lines}

-- there is room for the words of the memory where steps are to be shown
abbrev pub HasRoom : Bool → Memory → Option Paged → Type 0
HasRoom false memory None = Unit {0}
HasRoom false memory (Some copy) = ⊥
HasRoom true memory None = ⊥
HasRoom true memory (Some copy) = kinds_of copy.memory ≡ kinds_of memory

-- the words of the memory are kept where there was room for them
abbrev pub KeepsCopy : Memory → Option Paged → Option Paged → Type 0
KeepsCopy memory None None = Unit {0}
KeepsCopy memory None (Some copy) = ⊥
KeepsCopy memory (Some room) None = ⊥
KeepsCopy memory (Some room) (Some copy) = copy.memory ≡ memory

-- the lines of a completed step, where the words before it were kept
abbrev pub lines_behind : Option Paged → (number : ℕ) → (later : Memory) → List ℕ
lines_behind None number later = []
lines_behind (Some before) number later = step_lines number before.memory later

-- the same by how the step ended: none behind a fault
abbrev pub lines_of_end : Result (Unit {0}) StepFault → Option Paged → (number : ℕ) → (later : Memory) → List ℕ
lines_of_end (Ok done) before number later = lines_behind before number later
lines_of_end (Err fault) before number later = []
