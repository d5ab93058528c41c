-- What a routine's run leaves.
use Rattle.std.specs.Prelude.{Result, Ok, Err}
use Rattle.cal_base.specs.declared.answer.Answer.{Answer}
use Rattle.cal_base.specs.declared.answer.Answer.TheVariants.{Update, Fault}
use Rattle.cal_terms.specs.declared.want.NoMemory.{NoMemory as MemoryWanted}
use Rattle.cal_base.specs.declared.value.Store.{Store}
use Rattle.cal_base.specs.Memory.{Memory}
use Rattle.cal_base.specs.Stores.{memory_in, written_in}
use Rattle.csl_meaning.specs.declared.state.Ending.{Ending}
use Rattle.statement_eval.specs.declared.halt.Halt.{Halt}
use Rattle.statement_eval.specs.declared.halt.Halt.TheVariants.{Cause, NoMemory}

-- the opening memory and the answer, by how the routine ended and what it wrote
abbrev pub finished : Result Ending Halt → Store → Result (Memory × Answer) MemoryWanted
finished (Ok e) s = Ok (memory_in s, Update (written_in s))
finished (Err (Cause c)) s = Ok (memory_in s, Fault c)
finished (Err NoMemory) s = Err (record {})
