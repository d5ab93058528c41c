use Rattle.std.proofs.Common.{◌==◌, sym, arith}
use Rattle.std.proofs.lemmas.Bool.{eq-eqb}
use Rattle.std.proofs.lemmas.List.Sums.{position_or_len_is}
use Rattle.fault_script.proofs.lines.place_of.Goals as goal

pub returns-else-bytes-place-clause-place : goal.returns-else-bytes-place-clause-place
returns-else-bytes-place-clause-place c =
    sym (position_or_len_is (λ byte. byte == c.args.wanted) c.args.bytes.now c.loop-place.place 0 c.loop-place.invariant.within c.loop-place.invariant.before
    (λ lt. eq-eqb _ _ (grind (arith, c.if-bytes-place.false))))

pub returns-after-loop-place-clause-place : goal.returns-after-loop-place-clause-place
returns-after-loop-place-clause-place c =
    sym (position_or_len_is (λ byte. byte == c.args.wanted) c.args.bytes.now c.loop-place.place 0 c.loop-place.invariant.within c.loop-place.invariant.before
    (λ lt. absurd (grind (arith, c.loop-place-test.false, lt))))
