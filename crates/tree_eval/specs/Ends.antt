-- How a run ends, by how main ended.
use Rattle.std.specs.Prelude.{ℕ, Result, Ok, Err}
use Rattle.cal_base.specs.declared.ends.RunEnd.{RunEnd}
use Rattle.cal_base.specs.declared.ends.RunEnd.TheVariants.{Done}
use Rattle.csl_meaning.specs.declared.state.Ending.{Ending}
use Rattle.tree_eval.specs.declared.main_halt.MainHalt.{MainHalt}
use Rattle.tree_eval.specs.declared.main_halt.MainHalt.TheVariants.{Ended, NoMemory, OutFailed}
use Rattle.tree_eval.specs.declared.run.EvalError.{EvalError}
use Rattle.tree_eval.specs.declared.run.EvalError.TheVariants as error

-- the end where main ended or stopped so, after this many steps
abbrev pub end_after : Result Ending MainHalt → ℕ → Result RunEnd EvalError
end_after (Ok e) steps = Ok (Done steps)
end_after (Err (Ended ending)) steps = Ok ending
end_after (Err NoMemory) steps = Err error.NoMemory
end_after (Err OutFailed) steps = Err error.OutFailed
