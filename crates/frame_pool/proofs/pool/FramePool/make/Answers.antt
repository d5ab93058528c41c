use Rattle.std.proofs.Common.{◌≡◌, List, Bool, length, replicate, false, None, ◌∙◌, ap, rules, arith}
use Rattle.frame_pool.specs.Pool.{Pool, free_count}
use Rattle.frame_pool.specs.Held.{held}
use Rattle.frame_pool.proofs.Frames.{held-first, free_count-first}
use Rattle.frame_pool.proofs.pool.FramePool.make.Goals as goal

all_free : (c : goal.In_ok-out) → held c.in_ok-out.out.items c.in_ok-frames.frames.items ≡ replicate c.args.n None
all_free c =
    let flags : c.in_ok-out.out.items ≡ replicate c.args.n false = c.in_ok-out.ensures.items_if_clones_equal (search rules) in
    let size : length c.in_ok-frames.frames.items ≡ c.args.n = omega (arith, c.in_ok-frames.ensures.len, c.in_ok-frames.frames.ok.0) in
    ap (λ (out : List Bool). held out c.in_ok-frames.frames.items) flags ∙ held-first c.args.n c.in_ok-frames.frames.items size

pub returns-clause-free : goal.returns-clause-free
returns-clause-free c = all_free c

pub returns-clause-count : goal.returns-clause-count
returns-clause-count c = ap (λ (p : Pool). free_count p) (all_free c) ∙ free_count-first c.args.n
