use Rattle.write_buffer.proofs.Views.{joined_stays}
use Rattle.routine_executor.proofs.executor.fetch_over.Goals as goal

pub returns-clause-joined : goal.returns-clause-joined
returns-clause-joined c =
    joined_stays c.args.pool.now c.prefetch.new.pool c.args.cache.now c.prefetch.new.self c.args.buffer.now c.args.image.now c.requires.joined c.prefetch.ensures.frames c.prefetch.ensures.fits
    c.prefetch.ensures.backed
