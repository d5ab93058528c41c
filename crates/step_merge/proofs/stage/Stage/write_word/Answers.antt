use Rattle.std.proofs.Common.{SFits, w64, to_z, of_z, ap, ◌∙◌, rules}
use Rattle.std.specs.Int.{w128}
use Rattle.std.proofs.lemmas.Int.{to_z-of_z}
use Rattle.cal_base.specs.Memory.{with_value}
use Rattle.step_merge.specs.Steps.{entered}
use Rattle.step_merge.proofs.Merging.{fits_left, written_left, version_other}
use Rattle.step_merge.proofs.stage.Stage.write_word.Goals as goal

pub overflow_cast-v : goal.overflow_cast-v
overflow_cast-v c =
    let read : SFits w64 c.word.result = search rules in
    let wide : SFits w128 c.value-v.result = search rules in
    rw (to_z-of_z w128 c.value-v.result wide)
    (fits_left c.args.self.now c.args.image.now.memory c.args.a c.kind.result c.value-v.result c.requires.kinds c.requires.word c.kind.ensures c.requires.inside c.requires.entered
    (c.value-v.ensures.value ∙ ap (λ x. entered c.kind.result c.args.self.now c.args.a x) (to_z-of_z w64 c.word.result read ∙ c.word.ensures)) c.value-v.ensures.ordinary)

pub returns-clause-memory : goal.returns-clause-memory
returns-clause-memory c =
    let read : SFits w64 c.word.result = search rules in
    let wide : SFits w128 c.value-v.result = search rules in
    let fits : SFits w64 c.value-v.result =
    fits_left c.args.self.now c.args.image.now.memory c.args.a c.kind.result c.value-v.result c.requires.kinds c.requires.word c.kind.ensures c.requires.inside c.requires.entered
    (c.value-v.ensures.value ∙ ap (λ x. entered c.kind.result c.args.self.now c.args.a x) (to_z-of_z w64 c.word.result read ∙ c.word.ensures)) c.value-v.ensures.ordinary
    in
    c.set.ensures.memory
    ∙ ap (λ v. with_value c.args.image.now.memory c.args.a v)
    ((ap (λ v. to_z w64 (of_z w64 v)) (to_z-of_z w128 c.value-v.result wide) ∙ to_z-of_z w64 c.value-v.result fits)
    ∙ written_left c.args.self.now c.args.image.now.memory c.args.a c.kind.result c.word.result c.value-v.result c.kind.ensures c.word.ensures c.requires.entered
    (c.value-v.ensures.value ∙ ap (λ x. entered c.kind.result c.args.self.now c.args.a x) (to_z-of_z w64 c.word.result read)))

pub returns-clause-pages : goal.returns-clause-pages
returns-clause-pages c = λ p apart. version_other c.args.image.now c.set.new.self c.args.a p _ c.set.ensures.versions apart
