-- What a worker may still do as the image goes on.
use Rattle.std.proofs.Common.{sym, ◌∙◌}
use Rattle.cal_base.specs.Pages.{Paged, IsLater}
use Rattle.bytecode.specs.declared.module.Module.{Module}
use Rattle.shared_pages.proofs.Fitting.{fits_later}
use Rattle.worker_gate.specs.Working.{WorkerState, MayWork}

-- a worker that may work on an image may work on a later one
pub may_work_later : (worker : WorkerState) (image later : Paged) (m : Module) → MayWork worker image m → IsLater image later → MayWork worker later m
may_work_later worker image later m may after = record {
  kinds = after.kinds ∙ may.kinds;
  room = may.room ∙ sym after.kinds;
  fits = fits_later worker.kept.frames worker.kept.pages image later may.fits after;
}
