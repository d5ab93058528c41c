use Rattle.std.proofs.Common.{◌≡◌, SFits, w64, ap, ◌∙◌, rules, ◌&&◌, not, true, sym}
use Rattle.std.specs.Int.{w128}
use Rattle.std.proofs.lemmas.Int.{to_z-of_z}
use Rattle.cal_terms.specs.declared.kinds.WordKind.TheVariants.{Ordinary, Tally}
use Rattle.cal_base.specs.Arithmetic.{fits_word}
use Rattle.step_merge.specs.Steps.{entered}
use Rattle.step_merge.proofs.Merging.{kind_there, fits_back, ordinary_inside, outside_if}
use Rattle.step_merge.proofs.stage.Stage.is_outside_at.Goals as goal

pub returns-in-Ordinary : goal.returns-in-Ordinary
returns-in-Ordinary c =
    ordinary_inside c.args.self.now c.args.image.now.memory c.args.a (kind_there c.args.image.now.memory c.args.a Ordinary c.requires.word c.in-Ordinary.ensures)

pub returns-in-Tally : goal.returns-in-Tally
returns-in-Tally c =
    let read : SFits w64 c.word.result = search rules in
    let wide : SFits w128 c.value.result = search rules in
    let fits : fits_word c.word.result ≡ true = fits_back c.word.result read in
    c.is_outside_total.ensures
    ∙ (ap (λ t. c.is_entered.result && not (fits_word t)) (to_z-of_z w128 c.value.result wide)
    ∙ outside_if c.args.self.now c.args.image.now.memory c.args.a (kind_there c.args.image.now.memory c.args.a Tally c.requires.word c.in-Tally.ensures) c.is_entered.result c.value.result
    c.is_entered.ensures
    (ap fits_word (sym c.word.ensures) ∙ fits)
    (c.value.ensures.value ∙ ap (λ x. entered Tally c.args.self.now c.args.a x) (to_z-of_z w64 c.word.result read ∙ c.word.ensures)))
