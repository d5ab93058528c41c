use Rattle.calypso_cli.proofs.ending.Ending.write.Goals as goal

pub returns-in-OutputFailed-clause-err : goal.returns-in-OutputFailed-clause-err
returns-in-OutputFailed-clause-err g c = rw c.in-OutputFailed.is c.write_all-in-OutputFailed.ensures.err

pub returns-in-ScriptRefused-clause-err : goal.returns-in-ScriptRefused-clause-err
returns-in-ScriptRefused-clause-err g c = rw c.in-ScriptRefused.is c.write_all-in-ScriptRefused.ensures.err
