use Rattle.std.proofs.Common.{◌≡◌, None, Err, map, string_bytes, ap}
use Rattle.command_words.specs.Words.{command_of}
use Rattle.calypso_cli.proofs.Promises.{promise_of_none, promise_of_no_memory}
use Rattle.calypso_cli.proofs.top.calypso.Goals as goal

pub returns-in-Err-NoCommand : goal.returns-in-Err-NoCommand
returns-in-Err-NoCommand g c =
    let none : command_of (map string_bytes c.args.words.now) ≡ None = c.in-Err-NoCommand.ensures.no_command (ap (λ e. Err e) c.in-Err-NoCommand.field-0-is) in
    promise_of_none _ _ _ _ _ _ _ none c.conclude.ensures.line c.conclude.ensures.status c.conclude.ensures.later

pub returns-in-Err-NoMemory : goal.returns-in-Err-NoMemory
returns-in-Err-NoMemory g c =
    promise_of_no_memory _ _ _ _ _ _ _ c.conclude-in-Err-NoMemory.ensures.line c.conclude-in-Err-NoMemory.ensures.status c.conclude-in-Err-NoMemory.ensures.later
