use Rattle.std.proofs.Common.{[], Some, ◌∙◌, sym, ap, refl, arith}
use Rattle.frame_pool.proofs.Frames.{kept_in, words_in, written_in}
use Rattle.frame_pool.proofs.pool.FramePool.words_mut.Goals as goal

pub index_mut-requires : goal.index_mut-requires
index_mut-requires c =
    omega (arith, c.self.inside.frames.ok.0, (kept_in c.self.inside.out.items c.self.inside.frames.items c.args.self.now c.f.inside.number c.args.f.now [] c.self.view_is c.f.view_is c.requires).there)

pub returns : goal.returns
returns c = (
  (refl, λ w. written_in c.self.inside.out.items c.self.inside.frames.items c.args.self.now c.f.inside.number c.args.f.now w c.self.view_is c.f.view_is c.requires),
  record {
    lends = tt;
    words =
        words_in c.self.inside.out.items c.self.inside.frames.items c.args.self.now c.f.inside.number c.args.f.now c.index_mut.result.now c.self.view_is c.f.view_is c.requires
        ∙ ap (λ ws. Some ws) (sym c.index_mut.ensures.value);
  },
)
