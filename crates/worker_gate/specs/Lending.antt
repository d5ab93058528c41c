-- What an execution leaves of the worker, once its result is let go.
use Rattle.std.specs.Prelude.{⊤}
use Rattle.std.specs.Borrow.{MutBor, Fml, follows_so}
use mathlib.Core.Option.{none}
use Rattle.bytecode.specs.declared.module.Module.{Module}
use Rattle.cal_base.specs.Pages.{Paged}
use Rattle.worker_gate.specs.Working.{WorkerState, Executes}
use Rattle.worker_gate.specs.contracts.worker.Worker.{the_row}

-- the worker is as it was, but for the words that it wrote and the pages that it keeps, and may still work on the image
abbrev pub LendsBuffer : MutBor WorkerState → Paged → Module → Fml
LendsBuffer worker image m = follows_so the_row the_row worker.ghost_name none (λ _ _. ⊤) (λ after. Executes worker.now after image m)
