use Rattle.write_buffer.proofs.Views.{written_stays, view_stays}
use Rattle.write_buffer.proofs.view.View.value.Goals as goal

pub returns-in-None-clause-written : goal.returns-in-None-clause-written
returns-in-None-clause-written g c =
    let v = c.args.self.now in
    written_stays v.pool.now c.word.new.pool v.cache.now c.word.new.self v.buffer.now (g.S.PageSource.pages v.source.now) v.joined c.word.ensures.frames c.get.ensures.pages

pub returns-in-None-clause-keeps : goal.returns-in-None-clause-keeps
returns-in-None-clause-keeps g c =
    let v = c.args.self.now in
    view_stays v.pool.now c.word.new.pool v.cache.now c.word.new.self v.buffer.now _ _ c.word.ensures.frames c.word.ensures.serves
