use Rattle.std.proofs.Common.{ap, ◌∙◌, sym, subst}
use Rattle.shared_pages.specs.Cached.{Fits}
use Rattle.worker_gate.specs.Working.{WorkerState}
use Rattle.worker_gate.proofs.worker.Worker.run.Goals as goal

pub run-requires-clause-may : goal.run-requires-clause-may
run-requires-clause-may g c = record {
  words = ap (λ (w : WorkerState). w.words) c.self.view_is ∙ c.requires.may.room;
  fits = subst (λ (w : WorkerState). Fits w.kept.frames w.kept.pages c.args.job.now.image.now) (sym c.self.view_is) c.requires.may.fits;
}
