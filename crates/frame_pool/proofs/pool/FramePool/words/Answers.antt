use Rattle.std.proofs.Common.{[], Some, ◌∙◌, sym, ap, arith}
use Rattle.frame_pool.proofs.Frames.{kept_in, words_in}
use Rattle.frame_pool.proofs.pool.FramePool.words.Goals as goal

pub index-requires : goal.index-requires
index-requires c =
    omega (arith, c.self.inside.frames.ok.0, (kept_in c.self.inside.out.items c.self.inside.frames.items c.args.self.now c.f.inside.number c.args.f.now [] c.self.view_is c.f.view_is c.requires).there)

pub returns : goal.returns
returns c =
    words_in c.self.inside.out.items c.self.inside.frames.items c.args.self.now c.f.inside.number c.args.f.now c.index.result.now c.self.view_is c.f.view_is c.requires
    ∙ ap (λ ws. Some ws) (sym c.index.ensures)
