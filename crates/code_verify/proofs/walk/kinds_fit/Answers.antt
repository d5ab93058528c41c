use Rattle.std.proofs.Common.{arith, ◌∙◌, ap, sym, length, refl}
use Rattle.code_verify.specs.Walk.{walk, walk_at, unknown}
use Rattle.code_verify.proofs.Walking.{changed, unchanged, walks_on, walks_off, walked, walk_long, unknown_long}
use Rattle.code_verify.proofs.walk.kinds_fit.Goals as goal

pub loop-instr-init : goal.loop-instr-init
loop-instr-init c =
    let start = sym (c.in_ok-kinds.ensures.1 ∙ ap unknown c.len.ensures) in
    record { walked = ap (walk c.args.m.now c.args.c.now 0 c.args.c.now.instrs) start; long = ap length (sym start) ∙ unknown_long (length c.args.c.now.instrs) }

pub returns-then-not-branch : goal.returns-then-not-branch
returns-then-not-branch c =
    let off = unchanged c.in_ok-walk_at.field-0 c.walk_at.new.kinds.known (walk_at c.args.m.now c.args.c.now c.loop-instr.place c.in-Some.instr.now c.loop-instr.kinds.known) c.in_ok-walk_at.ensures
    c.if-not-branch.true in
    (λ no. absurd cc, λ some. absurd (walks_off c.args.m.now c.args.c.now c.args.c.now.instrs _ c.loop-instr.place c.in-Some.instr.now c.loop-instr.kinds.known (sym c.in-Some.ensures.value) c.loop-instr.invariant.walked off some))

pub loop-instr-preserved : goal.loop-instr-preserved
loop-instr-preserved c =
    let on = changed c.in_ok-walk_at.field-0 c.walk_at.new.kinds.known (walk_at c.args.m.now c.args.c.now c.loop-instr.place c.in-Some.instr.now c.loop-instr.kinds.known) c.in_ok-walk_at.ensures
    c.if-not-branch.false in
    record {
      walked = walks_on c.args.m.now c.args.c.now c.args.c.now.instrs _ c.loop-instr.place c.in-Some.instr.now c.loop-instr.kinds.known c.walk_at.new.kinds.known (sym c.in-Some.ensures.value)
          c.loop-instr.invariant.walked on;
      long = walk_long c.args.m.now c.args.c.now c.loop-instr.place c.in-Some.instr.now c.loop-instr.kinds.known c.walk_at.new.kinds.known
          (omega (arith, c.in-Some.ensures.within, c.loop-instr.invariant.long)) on ∙ c.loop-instr.invariant.long;
    }

pub returns : goal.returns
returns c = (λ yes. walked c.args.m.now c.args.c.now c.args.c.now.instrs _ c.loop-instr.place c.loop-instr.kinds.known (sym c.in_default.ensures.value) c.loop-instr.invariant.walked, λ some. refl)
