-- Worked examples: words, and the command that they give.
use Rattle.std.specs.Prelude.{◌≡◌, true, false, [], ◌∷◌, codes, Some, None}
use Rattle.command_words.specs.Commands.{Flags, check, eval, run, sim, build, exec, gen, selfrun}
use Rattle.command_words.specs.Words.{command_of}

-- the options of a run where none is given
abbrev pub usual : Flags
usual = record { workers = 4; fuel = 1000000; frames = 64; script = None; log = None; report = false; steps = false }

-- each command with its operands, and with too few and too many
pub record Operands : Type 0 where
  pub check_one : command_of (codes "check" ∷ codes "p.csl" ∷ []) ≡ Some (check (codes "p.csl"))
  pub eval_one : command_of (codes "eval" ∷ codes "p.csl" ∷ []) ≡ Some (eval (codes "p.csl"))
  pub run_one : command_of (codes "run" ∷ codes "p.csl" ∷ []) ≡ Some (run (codes "p.csl") usual)
  pub sim_two : command_of (codes "sim" ∷ codes "p.csl" ∷ codes "e" ∷ []) ≡ Some (sim (codes "p.csl") (codes "e") None)
  pub build_two : command_of (codes "build" ∷ codes "p.csl" ∷ codes "m" ∷ []) ≡ Some (build (codes "p.csl") (codes "m"))
  pub exec_one : command_of (codes "exec" ∷ codes "m" ∷ []) ≡ Some (exec (codes "m") usual)
  pub gen_two : command_of (codes "gen" ∷ codes "7" ∷ codes "64" ∷ []) ≡ Some (gen 7 64)
  pub selfrun_two : command_of (codes "selfrun" ∷ codes "7" ∷ codes "64" ∷ []) ≡ Some (selfrun 7 64)
  pub none : command_of [] ≡ None
  pub run_none : command_of (codes "run" ∷ []) ≡ None
  pub run_two : command_of (codes "run" ∷ codes "p" ∷ codes "q" ∷ []) ≡ None
  pub sim_one : command_of (codes "sim" ∷ codes "p" ∷ []) ≡ None
  pub sim_three : command_of (codes "sim" ∷ codes "p" ∷ codes "q" ∷ codes "r" ∷ []) ≡ None
  pub unknown : command_of (codes "Run" ∷ codes "p" ∷ []) ≡ None

-- options and flags by name, before and behind the operand
pub record Options : Type 0 where
  pub all :
      command_of (codes "run" ∷ codes "--workers" ∷ codes "0" ∷ codes "--fuel=9" ∷ codes "p" ∷ codes "--frames" ∷ codes "2" ∷ codes
      "--script" ∷ codes "s" ∷ codes "--log=l" ∷ codes "--report" ∷ codes "--steps" ∷ [])
      ≡ Some (run (codes "p") (record { workers = 0; fuel = 9; frames = 2; script = Some (codes "s"); log = Some (codes "l"); report = true; steps = true }))
  pub of_exec : command_of (codes "exec" ∷ codes "--steps" ∷ codes "m" ∷ []) ≡ Some (exec (codes "m") (record usual { steps = true }))
  pub of_sim : command_of (codes "sim" ∷ codes "--log" ∷ codes "l" ∷ codes "p" ∷ codes "e" ∷ []) ≡ Some
      (sim (codes "p") (codes "e") (Some (codes "l")))
  pub not_of_sim : command_of (codes "sim" ∷ codes "p" ∷ codes "e" ∷ codes "--steps" ∷ []) ≡ None
  pub not_of_check : command_of (codes "check" ∷ codes "p" ∷ codes "--log=l" ∷ []) ≡ None
  pub not_of_eval : command_of (codes "eval" ∷ codes "p" ∷ codes "--fuel=9" ∷ []) ≡ None
  pub help : command_of (codes "run" ∷ codes "p" ∷ codes "--help" ∷ []) ≡ None

-- values
pub record Values : Type 0 where
  pub two_equals : command_of (codes "run" ∷ codes "p" ∷ codes "--log=a=b" ∷ []) ≡ Some
      (run (codes "p") (record usual { log = Some (codes "a=b") }))
  pub empty : command_of (codes "run" ∷ codes "p" ∷ codes "--log=" ∷ []) ≡ None
  pub dash : command_of (codes "run" ∷ codes "p" ∷ codes "--log=-l" ∷ []) ≡ None
  pub missing : command_of (codes "run" ∷ codes "p" ∷ codes "--log" ∷ []) ≡ None
  pub empty_word : command_of (codes "run" ∷ codes "p" ∷ codes "--log" ∷ [] ∷ []) ≡ None
  pub dash_word : command_of (codes "run" ∷ codes "p" ∷ codes "--log" ∷ codes "--steps" ∷ []) ≡ None
  pub flag_with_value : command_of (codes "run" ∷ codes "p" ∷ codes "--report=x" ∷ []) ≡ None

-- words that begin with a dash, and empty ones
pub record Places : Type 0 where
  pub dash : command_of (codes "run" ∷ codes "-" ∷ []) ≡ None
  pub two_dashes : command_of (codes "run" ∷ codes "--" ∷ codes "p" ∷ []) ≡ None
  pub short : command_of (codes "run" ∷ codes "-p" ∷ []) ≡ None
  pub in_folder : command_of (codes "run" ∷ codes "./-p" ∷ []) ≡ Some (run (codes "./-p") usual)
  pub empty : command_of (codes "run" ∷ [] ∷ []) ≡ None
  pub with_equals : command_of (codes "run" ∷ codes "a=b" ∷ []) ≡ Some (run (codes "a=b") usual)
  pub no_name : command_of (codes "run" ∷ codes "p" ∷ codes "--=x" ∷ []) ≡ None

-- an option or a flag twice
pub record Doubles : Type 0 where
  pub option : command_of (codes "run" ∷ codes "p" ∷ codes "--workers" ∷ codes "2" ∷ codes "--workers" ∷ codes "2" ∷ []) ≡ None
  pub both_ways : command_of (codes "run" ∷ codes "p" ∷ codes "--fuel=2" ∷ codes "--fuel" ∷ codes "2" ∷ []) ≡ None
  pub flag : command_of (codes "run" ∷ codes "--steps" ∷ codes "p" ∷ codes "--steps" ∷ []) ≡ None

-- numbers
pub record Numbers : Type 0 where
  pub leading_zeros : command_of (codes "run" ∷ codes "--fuel=09" ∷ codes "p" ∷ []) ≡ Some (run (codes "p") (record usual { fuel = 9 }))
  pub plus : command_of (codes "run" ∷ codes "--fuel=+9" ∷ codes "p" ∷ []) ≡ None
  pub letters : command_of (codes "run" ∷ codes "--fuel=9x" ∷ codes "p" ∷ []) ≡ None
  pub hexadecimal : command_of (codes "run" ∷ codes "--fuel=0x9" ∷ codes "p" ∷ []) ≡ None

-- the ends of each range
pub record Ranges : Type 0 where
  pub most_workers : command_of (codes "run" ∷ codes "p" ∷ codes "--workers=32" ∷ []) ≡ Some
      (run (codes "p") (record usual { workers = 32 }))
  pub more_workers : command_of (codes "run" ∷ codes "p" ∷ codes "--workers=33" ∷ []) ≡ None
  pub least_fuel : command_of (codes "run" ∷ codes "p" ∷ codes "--fuel=1" ∷ []) ≡ Some (run (codes "p") (record usual { fuel = 1 }))
  pub less_fuel : command_of (codes "run" ∷ codes "p" ∷ codes "--fuel=0" ∷ []) ≡ None
  pub most_fuel : command_of (codes "run" ∷ codes "p" ∷ codes "--fuel=4294967295" ∷ []) ≡ Some
      (run (codes "p") (record usual { fuel = 4294967295 }))
  pub more_fuel : command_of (codes "run" ∷ codes "p" ∷ codes "--fuel=4294967296" ∷ []) ≡ None
  pub fewer_frames : command_of (codes "run" ∷ codes "p" ∷ codes "--frames=1" ∷ []) ≡ None
  pub most_frames : command_of (codes "run" ∷ codes "p" ∷ codes "--frames=4096" ∷ []) ≡ Some
      (run (codes "p") (record usual { frames = 4096 }))
  pub more_frames : command_of (codes "run" ∷ codes "p" ∷ codes "--frames=4097" ∷ []) ≡ None
  pub least_size : command_of (codes "gen" ∷ codes "0" ∷ codes "1" ∷ []) ≡ Some (gen 0 1)
  pub less_size : command_of (codes "gen" ∷ codes "7" ∷ codes "0" ∷ []) ≡ None
  pub more_size : command_of (codes "gen" ∷ codes "7" ∷ codes "4097" ∷ []) ≡ None
  pub more_number : command_of (codes "gen" ∷ codes "4294967296" ∷ codes "1" ∷ []) ≡ None

-- no command
pub record Refused : Type 0 where
  pub option_first : command_of (codes "--steps" ∷ codes "run" ∷ codes "p" ∷ []) ≡ None
  pub two_commands : command_of (codes "run" ∷ codes "run" ∷ codes "p" ∷ []) ≡ None
  pub help : command_of (codes "--help" ∷ []) ≡ None
