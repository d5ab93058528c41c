use Rattle.write_buffer.specs.Keeping.{loans_on, view_on}
use Rattle.write_buffer.proofs.view.ViewWords.add.Goals as goal

pub returns-in-Some-clause-keeps : goal.returns-in-Some-clause-keeps
returns-in-Some-clause-keeps g c =
    let first = c.args.self.now in
    let middle = c.base.new.self in
    let last = c.put.new.self in (
      loans_on c.base.ensures.loans c.put.ensures.loans,
      view_on first.pool.now middle.pool.now last.pool.now first.cache.now middle.cache.now last.cache.now first.buffer.now middle.buffer.now last.buffer.now
          (g.S.PageSource.pages middle.source.now) middle.joined c.base.ensures.keeps c.put.ensures.keeps,
    )
