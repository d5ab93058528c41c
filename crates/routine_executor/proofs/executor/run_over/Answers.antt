use Rattle.std.proofs.Common.{ap, arith, refl, rules}
use Rattle.cal_base.specs.Pages.{Paged}
use Rattle.routine_executor.proofs.Numbers.{number_there, block_there, routine_answers}
use Rattle.routine_executor.proofs.executor.run_over.Goals as goal

pub place_of-place-requires-clause-there : goal.place_of-place-requires-clause-there
place_of-place-requires-clause-there g c =
    let job = c.args.job.now in
    number_there g.N.JobName.job job.code.now job.fuel job.step job.image.now.memory job.first_block job.widths.now c.args.k job.named job.there c.requires.number

pub overflow_add-job : goal.overflow_add-job
overflow_add-job g c =
    let job = c.args.job.now in
    omega (arith, block_there job.code.now job.first_block job.widths.now c.args.k c.place_of-place.result job.there c.place_of-place.ensures, c.module-code.ensures.verified.spelled.blocks.0)

pub run_routine-requires-clause-block : goal.run_routine-requires-clause-block
run_routine-requires-clause-block g c =
    let job = c.args.job.now in
    block_there job.code.now job.first_block job.widths.now c.args.k c.place_of-place.result job.there c.place_of-place.ensures

pub returns-clause-answer : goal.returns-clause-answer
returns-clause-answer g c =
    let job = c.args.job.now in
    let answers =
    routine_answers g.N.JobName.job job.code.now job.fuel job.step job.image.now.memory _ job.first_block job.widths.now c.args.k c.place_of-place.result job.named job.there c.place_of-place.ensures
    (ap (λ (p : Paged). p.memory) c.join-view.ensures.loans.source_same) c.run_routine.result _ _ c.run_routine.ensures.outcome refl
    in
    search rules
