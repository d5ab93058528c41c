use Rattle.std.proofs.Common.{ℕ, List, [], ◌∷◌, ◌++◌, take, sym, ap, ◌∙◌}
use Rattle.std.proofs.lemmas.List.{take_more}
use Rattle.std.proofs.lemmas.Option.{get_or_from_slice_get, slice_get_within}
use Rattle.calypso_engine.proofs.event.widths_of.Goals as goal

pub loop-i-preserved : goal.loop-i-preserved
loop-i-preserved c =
    let widths = c.args.machine.now.widths in
    let w = c.width.result in
    let i = c.loop-i.i in
    c.in_ok-push.ensures.items
    ∙ ap (λ (l : List ℕ). l ++ w ∷ []) c.loop-i.invariant
    ∙ sym (take_more widths i w (slice_get_within widths i w c.width.ensures) ∙ ap (λ (x : ℕ). take i widths ++ x ∷ []) (get_or_from_slice_get widths i w w c.width.ensures))
