use Rattle.std.proofs.Common.{List, Bool, length, subst, ap, arith}
use Rattle.frame_pool.specs.Held.{IsFirstFree}
use Rattle.frame_pool.proofs.Frames.{length-held, all_out, takes_in}
use Rattle.frame_pool.proofs.pool.FramePool.take.Goals as goal

pub returns-then-f-len : goal.returns-then-f-len
returns-then-f-len c =
    let out = c.self.inside.out.items in
    let first = subst (λ (xs : List Bool). IsFirstFree xs c.self.inside.from c.first_free-f.result) c.deref.ensures.value c.first_free-f.ensures in
    let same = ap (λ (p : List _). length p) c.self.view_is in
    let lengths = length-held out c.self.inside.frames.items c.self.invariant.flags in (
      λ q there. all_out out c.self.inside.frames.items c.args.self.now c.self.inside.from c.first_free-f.result c.self.view_is c.self.invariant first q
          (omega (arith, there, same, lengths, c.if-f-len.true, c.len.ensures, c.self.inside.out.ok.0)),
      c.self.view_is,
    )

pub returns : goal.returns
returns c =
    let out = c.self.inside.out.items in
    let first = subst (λ (xs : List Bool). IsFirstFree xs c.self.inside.from c.first_free-f.result) c.deref.ensures.value c.first_free-f.ensures in
    takes_in out c.self.inside.frames.items c.args.self.now c.self.inside.from c.first_free-f.result c.self.view_is c.self.invariant first
    (omega (arith, first.within, c.if-f-len.false, c.len.ensures, c.self.inside.out.ok.0))
