use Rattle.std.proofs.Common.{[], ◌∷◌, ◌++◌, ap, ◌∙◌, append_assoc}
use Rattle.csl_print.specs.Canonical.{blanks}
use Rattle.csl_print.proofs.Layouts.{blanks_more}
use Rattle.csl_print.proofs.printer.write_blanks.Goals as goal

pub loop-written-preserved : goal.loop-written-preserved
loop-written-preserved c =
    c.in_ok-extend_from_slice.ensures.items
    ∙ ap (λ x. x ++ 32 ∷ 32 ∷ []) c.loop-written.invariant
    ∙ append_assoc c.args.text.now.items (blanks c.loop-written._written) (32 ∷ 32 ∷ [])
    ∙ ap (λ x. c.args.text.now.items ++ x) (blanks_more c.loop-written._written)
