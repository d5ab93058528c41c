-- Small modules and what they mean.
use Rattle.std.specs.Prelude.{◌≡◌, List, [], ◌∷◌, negsuc}
use Rattle.cal_base.specs.declared.ends.Cause.TheVariants.{FuelSpent}
use Rattle.cal_base.specs.declared.ends.RunEnd.TheVariants.{Done, MainFault}
use Rattle.cal_base.specs.Main.{Line}
use Rattle.bytecode.specs.declared.instr.PrintItem.TheVariants as item
use Rattle.bytecode.specs.declared.instr.Instr.{Instr}
use Rattle.bytecode.specs.declared.instr.Instr.TheVariants as i
use Rattle.cal_terms.specs.declared.types.Gives.TheVariants as gives
use Rattle.bytecode.specs.declared.module.Module.{Module}
use Rattle.machine_meaning.specs.Meaning.{machine_meaning}

-- a module of main alone, with these instructions
abbrev pub only_main : List Instr → Module
only_main instrs = record { words = 0; tallies = []; initial = []; texts = []; functions = []; blocks = []; main = record { params = 0; gives = gives.Nothing; locals = []; instrs = instrs } }

-- a Return alone shows nothing and is done; a line shows its value; a loop to itself spends its fuel
pub record WorkedRows : Type 0 where
  pub returns : machine_meaning (only_main (i.Return ∷ [])) 9 ≡ record { events = []; ending = Done 0 }
  pub prints : machine_meaning (only_main (i.Int (negsuc 2) ∷ i.Print (item.Int ∷ []) ∷ i.Return ∷ [])) 9 ≡ record
      { events = Line (45 ∷ 51 ∷ 10 ∷ []) ∷ []; ending = Done 0 }
  pub loops : machine_meaning (only_main (i.Loop 0 ∷ [])) 3 ≡ record { events = []; ending = MainFault 0 FuelSpent }
