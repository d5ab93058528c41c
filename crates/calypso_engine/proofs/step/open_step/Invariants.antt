use Rattle.std.proofs.Common.{◌+◌}
use Rattle.engine_laws.specs.Steps.{step_job}
use Rattle.calypso_engine.proofs.step.open_step.Given as goal

-- the names mean the job of this step and its four ledgers
abbrev pub ghosts-named_step-N-JobName : goal.ghosts-named_step-N-JobName
ghosts-named_step-N-JobName g a = record { job = step_job a.code.now a.options.now.fuel (a.steps + 1) a.image.now.memory a.first_block a.widths.now }

abbrev pub ghosts-named_step-C-Ledger : goal.ghosts-named_step-C-Ledger
ghosts-named_step-C-Ledger g a = record { name = a.claims.name; parts = a.claims.parts }

abbrev pub ghosts-named_step-A-Ledger : goal.ghosts-named_step-A-Ledger
ghosts-named_step-A-Ledger g a = record { name = a.arrivals.name; parts = a.arrivals.parts }

abbrev pub ghosts-named_step-H-Ledger : goal.ghosts-named_step-H-Ledger
ghosts-named_step-H-Ledger g a = record { name = a.held.name; parts = a.held.parts }

abbrev pub ghosts-named_step-E-Ledger : goal.ghosts-named_step-E-Ledger
ghosts-named_step-E-Ledger g a = record { name = a.ends.name; parts = a.ends.parts }
