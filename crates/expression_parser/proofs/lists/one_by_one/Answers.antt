use Rattle.std.proofs.Common.{refl}
use Rattle.std.proofs.lemmas.Result.{err_from_is_err_and}
use Rattle.expression_parser.specs.Reading.{stops_anywhere}
use Rattle.expression_parser.proofs.Sequence.{passed_error, passes_through}
use Rattle.expression_parser.proofs.Then.{begins_other, until_done, until_err, until_more}
use Rattle.expression_parser.proofs.lists.one_by_one.Goals as goal

pub returns-then-closes : goal.returns-then-closes
returns-then-closes g c = c.more.invariant.passes.found _ _ (until_done c.requires.elements c.more.elements c.more.rest.now _ _ c.more.invariant.ended c.front.ensures (c.if-closes.ensures.0 refl))

pub returns-in_err-another : goal.returns-in_err-another
returns-in_err-another g c =
    let p = err_from_is_err_and c.from_residual.result c.from_residual.ensures.1 in
    rw (p.1, p.2) (passed_error _ _ stops_anywhere _ c.args.tokens.now _ c.more.invariant.passes
    (until_err c.requires.elements c.more.elements c.more.rest.now _ (begins_other _ c.more.rest.now _ _ c.front.ensures (λ h. cc (c.if-closes.ensures.1 h))) c.in_err-another.ensures.answer))

pub more-preserved : goal.more-preserved
more-preserved g c = record {
  ended = c.in_ok-another.ensures.answer.ended;
  passes = rw c.in_ok-push.ensures.ok (passes_through (until_more c.requires.elements c.more.elements c.more.rest.now _ _
      (begins_other _ c.more.rest.now _ _ c.front.ensures (λ h. cc (c.if-closes.ensures.1 h))) c.in_ok-another.ensures.answer) c.more.invariant.passes);
}
