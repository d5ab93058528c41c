use Rattle.std.proofs.Common.{arith, append-nil, length-drop}
use Rattle.std.proofs.lemmas.Result.{err_from_is_err_and}
use Rattle.csl_lexer.proofs.Steps.{goes_on_more, text_ends, text_fails, to_the_end, takes_some}
use Rattle.csl_lexer.proofs.lex.Goals as goal
use Rattle.csl_lexer.proofs.lex.Goals.{in-Some+in_ok-push, in_default}

pub returns-in_err-kind-clause-first_fault : goal.returns-in_err-kind-clause-first_fault
returns-in_err-kind-clause-first_fault c =
    let p = err_from_is_err_and c.from_residual.result c.from_residual.ensures.1 in
    rw (p.1, p.2) (λ real. text_fails c.args.text.now c.items.at c.items.tokens.items c.items.invariant.goes_on _ (rw (to_the_end c.items.at c.args.text.now) at (c.in_err-kind.ensures real)))

pub items-preserved : goal.items-preserved
items-preserved c =
    let takes = rw (to_the_end c.items.at c.args.text.now) at c.in_ok-kind.ensures in
    record {
      within = omega (arith, (takes_some takes).1, length-drop c.items.at c.args.text.now);
      goes_on = goes_on_more c.args.text.now c.items.at c.items.tokens.items c.items.invariant.goes_on c.in_ok-kind.kind c.in_ok-kind.length c.match-kind.tokens.items
          (elim c.match-kind.branch [ in-Some+in_ok-push w ↦ rw w.in-Some.is (cc (w.in_ok-push.ensures.items)) | in_default w ↦ rw (w.in_default.is, append-nil) (cc) ])
          takes;
    }

pub items-smaller : goal.items-smaller
items-smaller c =
    let takes = rw (to_the_end c.items.at c.args.text.now) at c.in_ok-kind.ensures in
    omega (arith, (takes_some takes).0, (takes_some takes).1, length-drop c.items.at c.args.text.now)

pub returns-clause-tokens : goal.returns-clause-tokens
returns-clause-tokens c = text_ends c.args.text.now c.items.at c.items.tokens.items c.items.invariant.goes_on _ c.in_ok-push-2.ensures.items (omega arith)
