use Rattle.std.proofs.Common.{◌≡◌, ◌-◌, length, drop}
use Rattle.code_verify.specs.Walk.{walk, unknown}
use Rattle.code_verify.proofs.walk.kinds_fit.Given as goal

abbrev pub invariant-loop-instr : goal.invariant-loop-instr
invariant-loop-instr l = record {
  walked : walk l.m l.c 0 l.c.instrs (unknown (length l.c.instrs)) ≡ walk l.m l.c l.place (drop l.place l.c.instrs) l.kinds.known;
  long : length l.kinds.known ≡ length l.c.instrs;
}

abbrev pub decreases-loop-instr : goal.decreases-loop-instr
decreases-loop-instr l = length l.c.instrs - l.place
