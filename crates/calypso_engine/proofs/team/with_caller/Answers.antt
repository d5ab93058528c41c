use Rattle.std.proofs.Common.{ap, ◌∙◌}
use Rattle.fault_script.specs.Rows.{Row}
use Rattle.worker_gate.specs.Working.{first_tally}
use Rattle.calypso_engine.proofs.Beginning.{fresh}
use Rattle.calypso_engine.proofs.team.with_caller.Goals as goal

pub returns-in-Ok : goal.returns-in-Ok
returns-in-Ok c =
    fresh c.args.options.now.script.now c.args.options.now.workers c.args.image.now c.args.code.now (record { workers = c.args.workers; caller = c.in-Ok.caller }) c.requires.begun
    (c.in-Ok.ensures.tally ∙ ap (λ (row : Row). first_tally row.number) c.plain-row.ensures) c.in-Ok.ensures.may
