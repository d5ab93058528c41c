use Rattle.std.proofs.Common.{[], ◌∙◌, ap, arith}
use Rattle.frame_pool.specs.Pool.{Pool, free_count}
use Rattle.frame_pool.proofs.Frames.{kept_in, given_in, free_count-given}
use Rattle.frame_pool.proofs.pool.FramePool.give.Goals as goal

pub index_mut-requires : goal.index_mut-requires
index_mut-requires c =
    omega (arith, c.self.inside.out.ok.0, (kept_in c.self.inside.out.items c.self.inside.frames.items c.args.self.now c.f.inside.number c.args.f [] c.self.view_is c.f.view_is c.requires).flag)

pub returns-clause-free : goal.returns-clause-free
returns-clause-free c = given_in c.self.inside.out.items c.self.inside.frames.items c.args.self.now c.f.inside.number c.args.f c.self.view_is c.f.view_is

pub returns-clause-count : goal.returns-clause-count
returns-clause-count c =
    ap (λ (p : Pool). free_count p) (given_in c.self.inside.out.items c.self.inside.frames.items c.args.self.now c.f.inside.number c.args.f c.self.view_is c.f.view_is)
    ∙ free_count-given c.args.self.now c.args.f c.requires
