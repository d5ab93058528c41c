use Rattle.shared_pages.proofs.Giving.{giving_more}
use Rattle.shared_pages.proofs.cache.give_all.Goals as goal

pub loop-k-preserved : goal.loop-k-preserved
loop-k-preserved c =
    giving_more c.args.kept.items c.loop-k.kept.items c.pop.new.self.items c.args.pool.now c.loop-k.pool c.give.new.self c.in-Some.k c.loop-k.invariant c.in-Some.ensures.items c.requires.apart
    c.give.ensures.free c.give.ensures.count
