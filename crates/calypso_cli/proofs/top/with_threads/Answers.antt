use Rattle.std.proofs.Common.{refl}
use Rattle.command_words.specs.Seen.{command_seen}
use Rattle.calypso_cli.specs.Seen.{ending_seen, report_seen}
use Rattle.calypso_cli.proofs.Promises.{promise_of_run, counts_stay}
use Rattle.calypso_cli.proofs.top.with_threads.Goals as goal

pub returns : goal.returns
returns g c =
    promise_of_run _ _ _ (command_seen c.args.command.now) (ending_seen c.carry_out-ended.result.ending) (report_seen c.carry_out-ended.result.report)
    c.carry_out-ended.ensures.works c.conclude_run.ensures.line c.conclude_run.ensures.status
    (counts_stay _ _ c.carry_out-ended.ensures.files_later c.carry_out-ended.ensures.out_later c.conclude_run.ensures.later)
