use Rattle.std.proofs.Common.{ap, ◌∙◌, sym, subst}
use Rattle.shared_pages.specs.Cached.{Fits}
use Rattle.worker_gate.specs.Working.{WorkerState}
use Rattle.worker_gate.proofs.worker.Worker.fetch.Goals as goal

pub fetch-requires : goal.fetch-requires
fetch-requires g c = record {
  may = record {
    words = ap (λ (w : WorkerState). w.words) c.self.view_is ∙ c.requires.may.room;
    fits = subst (λ (w : WorkerState). Fits w.kept.frames w.kept.pages c.args.job.now.image.now) (sym c.self.view_is) c.requires.may.fits;
  };
}
