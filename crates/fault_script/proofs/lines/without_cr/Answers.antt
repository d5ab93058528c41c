use Rattle.std.proofs.Common.{◌∷◌, ◌++◌, [], cond, sym, ap, ◌∙◌}
use Rattle.std.proofs.lemmas.Bool.{eq-eqb, ne_eqb}
use Rattle.fault_script.specs.Pieces.{without_cr}
use Rattle.fault_script.proofs.LineCuts.{cr_at_end}
use Rattle.fault_script.proofs.lines.without_cr.Goals as goal

pub returns-in-Some : goal.returns-in-Some
returns-in-Some c =
    let whole = ap without_cr c.in-Some.ensures.cases.0 ∙ cr_at_end c.in-Some.front.now c.in-Some.last.now in
    sym (whole ∙ ap (λ t. cond t c.in-Some.front.now (c.in-Some.front.now ++ c.in-Some.last.now ∷ [])) (eq-eqb c.in-Some.last.now 13 c.if-last-eq13.true))

pub returns-in_default : goal.returns-in_default
returns-in_default c =
    let whole = ap without_cr c.in-Some.ensures.cases.0 ∙ cr_at_end c.in-Some.front.now c.in-Some.last.now in
    c.in-Some.ensures.cases.0 ∙ sym (whole ∙ ap (λ t. cond t c.in-Some.front.now (c.in-Some.front.now ++ c.in-Some.last.now ∷ [])) (ne_eqb c.in-Some.last.now 13 c.if-last-eq13.false))
