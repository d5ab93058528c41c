use Rattle.std.proofs.Common.{◌≡◌, ◌∙◌, ap, sym, arith, length, add-one, false}
use Rattle.std.proofs.lemmas.Result.{IfOk-at_ok}
use Rattle.cal_base.specs.After.{after}
use Rattle.cal_base.specs.Stores.{memory_in}
use Rattle.csl_meaning.specs.Routines.{answers}
use Rattle.tree_eval.specs.Asked.{until_fault}
use Rattle.tree_eval.proofs.Routines.{length-until_fault, asked_enough}
use Rattle.tree_eval.proofs.Telling.{step_done, step_failed, answers_few}
use Rattle.tree_eval.proofs.step.step.Goals as goal

pub merge-requires-clause-numbers : goal.merge-requires-clause-numbers
merge-requires-clause-numbers c =
    omega (
      arith,
      ap length (c.as_slice-2.ensures ∙ c.in_ok-memory.ensures.answers),
      length-until_fault false (answers c.args.p.now c.memory_in-opening.result c.args.fuel c.args.blocks.now c.args.widths.now),
      answers_few c.args.p.now c.memory_in-opening.result c.args.fuel c.args.blocks.now c.args.widths.now,
      c.requires.few,
    )

pub merge-requires-clause-words : goal.merge-requires-clause-words
merge-requires-clause-words c =
    let opening_is : c.memory_in-opening.result ≡ memory_in c.args.world.now.store = c.memory_in-opening.ensures ∙ ap memory_in c.replace.ensures.value in
    omega (arith, ap length (c.as_slice.ensures ∙ c.in_ok-memory.ensures.memory ∙ opening_is), c.requires.words)

pub returns-in-Ok-clause-tells : goal.returns-in-Ok-clause-tells
returns-in-Ok-clause-tells c = λ text.
    let opening_is : c.memory_in-opening.result ≡ memory_in c.args.world.now.store = c.memory_in-opening.ensures ∙ ap memory_in c.replace.ensures.value in
    let memory_is = sym (c.as_slice.ensures ∙ c.in_ok-memory.ensures.memory ∙ opening_is) in
    let given = answers c.args.p.now (memory_in c.args.world.now.store) c.args.fuel c.args.blocks.now c.args.widths.now in
    let answers_are = sym (c.as_slice-2.ensures ∙ c.in_ok-memory.ensures.answers ∙ ap (λ x. until_fault false (answers c.args.p.now x c.args.fuel c.args.blocks.now c.args.widths.now)) opening_is) in
    rw add-one (step_done c.args.p.now c.args.fuel c.args.blocks.now c.args.widths.now c.args.world.now c.in-Ok.memory text
    (sym (asked_enough (memory_in c.args.world.now.store) given) ∙ (λ i. after (memory_is i) (answers_are i)) ∙ c.in_ok-memory-2.ensures.merged ∙ c.in-Ok.is))

pub returns-in-Ok-clause-goes_on : goal.returns-in-Ok-clause-goes_on
returns-in-Ok-clause-goes_on c =
    let opening_is : c.memory_in-opening.result ≡ memory_in c.args.world.now.store = c.memory_in-opening.ensures ∙ ap memory_in c.replace.ensures.value in
    let as_many : length c.in-Ok.memory ≡ length c.as_slice.result.now = IfOk-at_ok _ c.in-Ok.is c.in_ok-memory-2.ensures.words in
    record {
      main = record { words = omega (arith, as_many, ap length (c.as_slice.ensures ∙ c.in_ok-memory.ensures.memory ∙ opening_is), c.requires.words); steps = omega (arith, c.requires.steps) };
      fuel = omega arith;
    }

pub returns-clause-tells : goal.returns-clause-tells
returns-clause-tells c = λ text.
    let opening_is : c.memory_in-opening.result ≡ memory_in c.args.world.now.store = c.memory_in-opening.ensures ∙ ap memory_in c.replace.ensures.value in
    let memory_is = sym (c.as_slice.ensures ∙ c.in_ok-memory.ensures.memory ∙ opening_is) in
    let given = answers c.args.p.now (memory_in c.args.world.now.store) c.args.fuel c.args.blocks.now c.args.widths.now in
    let answers_are = sym (c.as_slice-2.ensures ∙ c.in_ok-memory.ensures.answers ∙ ap (λ x. until_fault false (answers c.args.p.now x c.args.fuel c.args.blocks.now c.args.widths.now)) opening_is) in
    rw add-one (step_failed c.args.p.now c.args.fuel c.args.blocks.now c.args.widths.now c.args.world.now c.in-Err.fault text
    (sym (asked_enough (memory_in c.args.world.now.store) given) ∙ (λ i. after (memory_is i) (answers_are i)) ∙ c.in_ok-memory-2.ensures.merged ∙ c.in-Err.is))
