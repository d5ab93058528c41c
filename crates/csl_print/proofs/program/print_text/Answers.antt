use Rattle.std.proofs.Common.{◌≡◌, ap, ◌∙◌}
use Rattle.csl_print.specs.Layout.{adds_all, nothing}
use Rattle.csl_print.specs.TreeTokens.{tokens_of}
use Rattle.csl_print.proofs.Whole.{canonical_is}
use Rattle.csl_print.proofs.program.print_text.Goals as goal

pub returns : goal.returns
returns c =
    let laid : c.print_tokens.new.out ≡ adds_all nothing (tokens_of c.args.p.now) = c.in_ok-print_tokens.ensures ∙ ap (λ l. adds_all l (tokens_of c.args.p.now)) c.new-out.ensures in
    let is = canonical_is c.args.p.now in
    rw (← is, ← laid) c.finish.ensures
