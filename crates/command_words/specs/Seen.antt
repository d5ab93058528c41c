-- Commands and parts of the code, as contracts see them.
use Rattle.std.specs.Prelude.{option_map, string_bytes}
use Rattle.command_words.specs.declared.command.Flags.{Flags}
use Rattle.command_words.specs.declared.command.Command.{Command}
use Rattle.command_words.specs.declared.command.Command.TheVariants.{Check, Eval, Run, Sim, Build, Exec, Gen, Selfrun}
use Rattle.command_words.specs.Commands as spec

-- the options of a run
abbrev pub flags_seen : Flags → spec.Flags
flags_seen flags = record {
  workers = flags.workers;
  fuel = flags.fuel;
  frames = flags.frames;
  script = option_map string_bytes flags.script;
  log = option_map string_bytes flags.log;
  report = flags.report;
  steps = flags.steps;
}

-- the command
abbrev pub command_seen : Command → spec.Command
command_seen (Check file) = spec.check (string_bytes file)
command_seen (Eval file) = spec.eval (string_bytes file)
command_seen (Run file flags) = spec.run (string_bytes file) (flags_seen flags)
command_seen (Sim file events log) = spec.sim (string_bytes file) (string_bytes events) (option_map string_bytes log)
command_seen (Build file into) = spec.build (string_bytes file) (string_bytes into)
command_seen (Exec file flags) = spec.exec (string_bytes file) (flags_seen flags)
command_seen (Gen program) = spec.gen program.number program.size
command_seen (Selfrun program) = spec.selfrun program.number program.size
