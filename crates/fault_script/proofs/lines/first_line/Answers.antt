use Rattle.std.proofs.Common.{◌+◌, ◌∷◌, drop, sym, ap, ◌∙◌, arith}
use Rattle.fault_script.specs.Events.{lines_of}
use Rattle.fault_script.proofs.LineCuts.{last_line, cut_line, rest_from, rest_none}
use Rattle.fault_script.proofs.lines.first_line.Goals as goal

pub returns-then-end-bytes-clause-line : goal.returns-then-end-bytes-clause-line
returns-then-end-bytes-clause-line c =
    let bytes = c.args.bytes.now in
    last_line bytes c.requires (sym c.place_of-end.ensures.place ∙ c.if-end-bytes.true)
    ∙ ap (λ l. bytes ∷ lines_of l) (sym (rest_none bytes c.place_of-end.result c.if-end-bytes.true))

pub returns-clause-line : goal.returns-clause-line
returns-clause-line c =
    let bytes = c.args.bytes.now in
    cut_line bytes c.place_of-end.result c.place_of-end.ensures.place (grind (arith, c.place_of-end.ensures.within, c.if-end-bytes.false))
    ∙ ap (λ l. l ∷ lines_of (drop (c.place_of-end.result + 1) bytes)) (sym c.without_cr.ensures)
    ∙ ap (λ l. c.without_cr.result.now ∷ lines_of l) (sym (rest_from bytes (c.place_of-end.result + 1)))
