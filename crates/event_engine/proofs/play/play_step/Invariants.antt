use Rattle.std.proofs.Common.{◌+◌}
use Rattle.engine_laws.specs.Steps.{step_job}
use Rattle.event_engine.proofs.play.play_step.Given as goal

-- the name means the job of this step
abbrev pub ghosts-named_play : goal.ghosts-named_play
ghosts-named_play a = record { job = step_job a.code.now a.options.now.fuel (a.steps + 1) a.image.now.memory a.first_block a.widths.now }
