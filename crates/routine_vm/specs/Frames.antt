-- Frames, and fuel.
use Rattle.std.specs.Prelude.{◌≡◌, ℕ, suc, ◌+◌, Bool, true, false, List, [], ◌++◌, map, drop}
use Rattle.cal_base.specs.declared.value.Val.{Val}
use Rattle.bytecode.specs.declared.module.Code.{Code}
use Rattle.machine_meaning.specs.Machine.{first_value}
use Rattle.routine_vm.specs.declared.frame.Body.{Body}
use Rattle.routine_vm.specs.declared.frame.Frame.{Frame}

-- the frame behind its instruction, with these operands
abbrev pub behind : Frame → List Val → Frame
behind f operands = record f { place = f.place + 1; operands = operands }

-- a call of a body, whose code this is, with these arguments
abbrev pub begun_frame : Body → Code → List Val → Frame
begun_frame body code given = record { body = body; place = 0; locals = given ++ map first_value (drop code.params code.locals); operands = [] }

-- a unit of fuel is taken, or there is none
abbrev pub Spends : ℕ → Bool → ℕ → Type 0
Spends before true later = before ≡ suc later
Spends before false later = (before ≡ 0) × (later ≡ 0)
