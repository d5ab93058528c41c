use Rattle.std.proofs.Common.{◌-◌, arith}
use Rattle.csl_lexer.proofs.Closing.{none_more, never_all, closes_first}
use Rattle.csl_lexer.proofs.scan.closing.Goals as goal
use Rattle.csl_lexer.proofs.scan.closing.Goals.{else-bytes-i-eq42-via-then-bytes-i-eq42+else-bytes-i-eq47, else-bytes-i-eq42-via-else-bytes-i-eq42}

pub loop-i-init : goal.loop-i-init
loop-i-init c = record { some = omega arith; none = λ k within first second. omega (arith, within) }

pub returns-then-bytes-i-eq47-clause-found : goal.returns-then-bytes-i-eq47-clause-found
returns-then-bytes-i-eq47-clause-found c =
    closes_first c.args.bytes.now c.loop-i.i (c.loop-i.i - 1) (omega (arith, c.loop-i.invariant.some)) c.loop-i-test.true c.loop-i.invariant.none c.if-bytes-i-eq42.true c.if-bytes-i-eq47.true

pub loop-i-preserved : goal.loop-i-preserved
loop-i-preserved c = record {
  some = omega arith;
  none = none_more c.args.bytes.now c.loop-i.i c.loop-i.invariant.some c.loop-i.invariant.none
      (λ star slash. elim c.else-bytes-i-eq42.branch [
        | else-bytes-i-eq42-via-then-bytes-i-eq42+else-bytes-i-eq47 w ↦ w.if-bytes-i-eq47.false slash
        | else-bytes-i-eq42-via-else-bytes-i-eq42 w ↦ w.if-bytes-i-eq42.false star
      ]);
}

pub returns-clause-none : goal.returns-clause-none
returns-clause-none c none = never_all c.args.bytes.now c.loop-i.i (omega (arith, c.loop-i-test.false)) c.loop-i.invariant.none
