-- Commands with their operands and options.
use Rattle.std.specs.Prelude.{ℕ, Bool, List, Option}

-- the options of a run
pub record Flags : Type 0 where
  pub workers : ℕ
  pub fuel : ℕ
  pub frames : ℕ
  pub script : Option (List ℕ)
  pub log : Option (List ℕ)
  pub report : Bool
  pub steps : Bool

-- a command with its operands
pub data Command : Type 0 where
  -- writes the canonical text of the program in a file
  check : (file : List ℕ) → Command
  -- runs the program in a file on one thread
  eval : (file : List ℕ) → Command
  -- compiles and runs the program in a file
  run : (file : List ℕ) (flags : Flags) → Command
  -- runs the program in a file where its workers do what a list of events says
  sim : (file events : List ℕ) (log : Option (List ℕ)) → Command
  -- compiles the program in a file, and writes its module
  build : (file «module» : List ℕ) → Command
  -- runs the module in a file
  exec : («module» : List ℕ) (flags : Flags) → Command
  -- writes a generated program
  gen : (number size : ℕ) → Command
  -- runs a generated program
  selfrun : (number size : ℕ) → Command
