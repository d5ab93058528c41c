use Rattle.command_words.specs.Seen.{command_seen}
use Rattle.calypso_cli.specs.Seen.{ending_seen}
use Rattle.calypso_cli.proofs.Promises.{promise_of_plain, counts_stay}
use Rattle.calypso_cli.proofs.no_threads.plain.Goals as goal

pub returns : goal.returns
returns g c =
    promise_of_plain _ _ _ (command_seen c.args.command.now) (ending_seen c.carry_out-ending.result)
    c.carry_out-ending.ensures.works c.conclude.ensures.line c.conclude.ensures.status
    (counts_stay _ _ c.carry_out-ending.ensures.files_later c.carry_out-ending.ensures.out_later c.conclude.ensures.later)
