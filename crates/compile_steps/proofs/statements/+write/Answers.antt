use Rattle.std.proofs.Common.{◌+◌, List, Option, length, drop, rules, ◌∙◌, ap, refl, sym, subst, arith}
use Rattle.std.proofs.lemmas.List.{at_drop_all}
use Rattle.std.proofs.lemmas.Result.{on_ok_weaker}
use Rattle.csl_tree.specs.declared.program.Arm.{Arm, out-Arm}
use Rattle.csl_tree.specs.declared.program.Stmt.{Stmt}
use Rattle.csl_tree.specs.declared.program.Form.TheViews.{the_lemmas}
use Rattle.compiled_code.specs.Shape.{FormIs}
use Rattle.expression_code.specs.declared.writer.Writer.{Writer}
use Rattle.expression_code.specs.Lists.{StatementsAre, AllArmsAre, LastBlockIs}
use Rattle.compiled_code.specs.Statements.{Exits}
use Rattle.compile_steps.specs.Writing.{AllFit, ArmsFit, LastFits, AllMeasured, ArmsMeasured, LastMeasured, WroteAll, WroteArms, WroteBlock}
use Rattle.compile_steps.proofs.Bridges.{is_while, is_block, is_if, is_for}
use Rattle.compile_steps.proofs.Written.{next_of, wrote_nothing, all_wrote, arms_wrote, block_wrote, while_wrote, if_wrote, form_while_wrote, form_block_wrote, form_par_wrote, form_for_wrote}
use Rattle.compile_steps.proofs.Written.{test_taken, test_taken_twice}
use Rattle.compile_steps.proofs.Room.{first_fits, rest_fits, test_fits, inside_fits, while_fits, block_fits, widths_fit, blocks_fit, arms_fit, last_fits, arm_fits, other_arms_fit, for_first_fits}
use Rattle.compile_steps.proofs.Room.{for_test_fits, for_body_fits, for_next_fits}
use Rattle.compile_steps.proofs.MeasuredSizes.{measured_here, measured_first, first_measured, rest_measured, inside_measured, while_measured, block_measured, if_here, if_size, arms_measured}
use Rattle.compile_steps.proofs.MeasuredSizes.{last_measured, arm_measured, other_arms_measured, for_first_measured, step_here, step_first, inside_here, inside_first}
use Rattle.compile_steps.proofs.MeasuredSizes.{for_body_measured, for_next_measured}
use Rattle.compile_steps.proofs.statements.+write.Goals as goal

-- ---- statements

pub push_form-returns-in-While : goal.push_form-returns-in-While
push_form-returns-in-While t c =
    on_ok_weaker c.push_while.result
    (form_while_wrote c.args.names.now c.args.form.now c.in-While.test c.in-While.body c.as_slice-in-While.result.now (record { on_break = c.args.on_break; on_continue = c.args.on_continue })
    c.args.w.now c.push_while.new.w c.in-While.is c.as_slice-in-While.ensures)
    c.push_while.ensures

pub push_form-push_while-requires : goal.push_form-push_while-requires
push_form-push_while-requires t c = (
  search (rules, the_lemmas),
  (
    is_while c.args.names.now c.args.form.now c.in-While.test c.in-While.body c.as_slice-in-While.result.now c.in-While.is c.as_slice-in-While.ensures c.requires.shape,
    (
      while_fits c.args.names.now c.args.form.now c.in-While.test c.in-While.body c.as_slice-in-While.result.now c.args.w.now c.in-While.is c.as_slice-in-While.ensures c.requires.room,
      while_measured c.args.names.now c.args.form.now c.in-While.test c.in-While.body c.as_slice-in-While.result.now c.args.w.now c.in-While.is c.as_slice-in-While.ensures c.requires.measured,
    ),
  ),
)

pub push_form-returns-in-Block : goal.push_form-returns-in-Block
push_form-returns-in-Block t c =
    on_ok_weaker c.push_block-in-Block.result
    (form_block_wrote c.args.names.now c.args.form.now c.in-Block.body c.as_slice-in-Block.result.now (record { on_break = c.args.on_break; on_continue = c.args.on_continue }) c.args.w.now
    c.push_block-in-Block.new.w c.in-Block.is c.as_slice-in-Block.ensures)
    c.push_block-in-Block.ensures

pub push_form-push_block-requires-in-Block : goal.push_form-push_block-requires-in-Block
push_form-push_block-requires-in-Block t c = (
  search (rules, the_lemmas),
  (
    is_block c.args.names.now c.args.form.now c.in-Block.body c.as_slice-in-Block.result.now c.in-Block.is c.as_slice-in-Block.ensures c.requires.shape,
    (
      block_fits c.args.names.now c.args.form.now c.in-Block.body c.as_slice-in-Block.result.now c.args.w.now c.in-Block.is c.as_slice-in-Block.ensures c.requires.room,
      block_measured c.args.names.now c.args.form.now c.in-Block.body c.as_slice-in-Block.result.now c.args.w.now c.in-Block.is c.as_slice-in-Block.ensures c.requires.measured,
    ),
  ),
)

pub push_form-returns-in-Par : goal.push_form-returns-in-Par
push_form-returns-in-Par t c =
    on_ok_weaker c.push_step.result
    (form_par_wrote c.args.names.now c.args.form.now c.in-Par.blocks c.as_slice-in-Par.result.now (record { on_break = c.args.on_break; on_continue = c.args.on_continue }) c.args.w.now
    c.push_step.new.w c.in-Par.is c.as_slice-in-Par.ensures)
    c.push_step.ensures

pub push_form-next_size-size-requires : goal.push_form-next_size-size-requires
push_form-next_size-size-requires t c = if_here c.args.names.now c.args.form.now c.in-If.arms c.in-If.last c.args.w.now c.in-If.is c.requires.measured

pub push_form-overflow_add-end : goal.push_form-overflow_add-end
push_form-overflow_add-end t c =
    omega (
      arith,
      c.requires.room.room,
      if_size c.args.names.now c.args.form.now c.in-If.arms c.in-If.last c.args.w.now c.in-If.is c.requires.measured c.next_size-size.result c.next_size-size.ensures.size,
      c.length_of.ensures,
      c.len.ensures,
      ap (λ (w : Writer). length w.instrs) c.next_size-size.ensures.others,
    )

pub push_form-returns-in_ok-push_arms-in-If : goal.push_form-returns-in_ok-push_arms-in-If
push_form-returns-in_ok-push_arms-in-If t c =
    on_ok_weaker c.push_last.result
    (if_wrote c.args.names.now c.args.form.now c.in-If.arms c.as_slice.result.now c.in-If.last (record { on_break = c.args.on_break; on_continue = c.args.on_continue })
    (c.length_of.result + c.next_size-size.result) c.args.w.now c.next_size-size.new.w c.push_arms.new.w c.push_last.new.w
    c.in-If.is c.as_slice.ensures c.next_size-size.ensures.others
    (λ j. (c.length_of.ensures ∙ c.len.ensures ∙ ap (λ (w : Writer). length w.instrs) c.next_size-size.ensures.others) j
    + if_size c.args.names.now c.args.form.now c.in-If.arms c.in-If.last c.args.w.now c.in-If.is c.requires.measured c.next_size-size.result c.next_size-size.ensures.size j)
    c.in_ok-push_arms-in-If.ensures)
    c.push_last.ensures

pub push_form-push_arms-requires : goal.push_form-push_arms-requires
push_form-push_arms-requires t c = (
  search (rules, the_lemmas),
  (
    (is_if c.args.names.now c.args.form.now c.in-If.arms c.as_slice.result.now c.in-If.last c.in-If.is c.as_slice.ensures c.requires.shape).0,
    (
      subst (λ (w : Writer). ArmsFit c.args.names.now c.as_slice.result.now w) (sym c.next_size-size.ensures.others)
          (arms_fit c.args.names.now c.args.form.now c.in-If.arms c.as_slice.result.now c.in-If.last c.args.w.now c.in-If.is c.as_slice.ensures c.requires.room),
      arms_measured c.args.names.now c.args.form.now c.in-If.arms c.in-If.last c.args.w.now c.in-If.is c.requires.measured c.next_size-size.new.w c.next_size-size.ensures.others
          c.as_slice.result.now c.as_slice.ensures,
    ),
  ),
)

pub push_form-push_last-requires : goal.push_form-push_last-requires
push_form-push_last-requires t c =
    let exits : Exits = record { on_break = c.args.on_break; on_continue = c.args.on_continue } in
    let end = c.length_of.result + c.next_size-size.result in (
      search (rules, the_lemmas),
      (
        (is_if c.args.names.now c.args.form.now c.in-If.arms c.as_slice.result.now c.in-If.last c.in-If.is c.as_slice.ensures c.requires.shape).1,
        (
          last_fits c.args.names.now c.args.form.now c.in-If.arms c.as_slice.result.now c.in-If.last exits end c.args.w.now c.next_size-size.new.w c.push_arms.new.w c.in-If.is c.as_slice.ensures
              c.next_size-size.ensures.others c.requires.room c.in_ok-push_arms-in-If.ensures,
          last_measured c.args.names.now c.args.form.now c.in-If.arms c.in-If.last c.args.w.now c.in-If.is c.requires.measured c.next_size-size.new.w c.next_size-size.ensures.others
              c.as_slice.result.now exits end c.push_arms.new.w c.as_slice.ensures c.in_ok-push_arms-in-If.ensures,
        ),
      ),
    )

pub push_last-push_block-requires : goal.push_last-push_block-requires
push_last-push_block-requires t c = (
  search (rules, the_lemmas),
  (
    subst (StatementsAre c.args.names.now) (sym c.as_slice.ensures) (subst (LastBlockIs c.args.names.now) c.in-Some.is c.requires.shape),
    (
      subst (λ (b : List Stmt). AllFit c.args.names.now b c.args.w.now) (sym c.as_slice.ensures)
          (subst (λ (l : Option (List Stmt)). LastFits c.args.names.now l c.args.w.now) c.in-Some.is c.requires.room),
      subst (λ (b : List Stmt). AllMeasured c.args.names.now b c.args.w.now) (sym c.as_slice.ensures)
          (subst (λ (l : Option (List Stmt)). LastMeasured c.args.names.now l c.args.w.now) c.in-Some.is c.requires.measured),
    ),
  ),
)

-- ---- a `for`

pub push_form-push_form-requires : goal.push_form-push_form-requires
push_form-push_form-requires t c =
    let shape = is_for c.args.names.now c.args.form.now c.in-For.first c.in-For.test c.in-For.next c.in-For.body c.in-For.is c.requires.shape in (
      search (rules, the_lemmas),
      (
        subst (λ (s : Stmt). FormIs c.args.names.now s.form) (sym c.get.ensures) shape.first_is,
        (
          for_first_fits c.args.names.now c.args.form.now c.in-For.first c.get.result.now c.in-For.test c.in-For.next c.in-For.body c.args.w.now c.in-For.is c.get.ensures shape c.requires.room,
          for_first_measured c.args.names.now c.args.form.now c.in-For.first c.get.result.now c.in-For.test c.in-For.next c.in-For.next c.in-For.body c.in-For.body
              (record { on_break = c.args.on_break; on_continue = c.args.on_continue }) c.args.w.now c.args.w.now c.in-For.is c.get.ensures refl refl c.requires.measured,
        ),
      ),
    )

pub push_form-next_size-step-requires : goal.push_form-next_size-step-requires
push_form-next_size-step-requires t c =
    step_here c.args.names.now c.args.form.now c.in-For.first c.get.result.now c.in-For.test c.in-For.next c.get-in-For.result.now c.in-For.body c.in-For.body
    (record { on_break = c.args.on_break; on_continue = c.args.on_continue }) c.args.w.now c.push_form.new.w c.in-For.is c.get.ensures c.get-in-For.ensures refl c.requires.measured
    c.in_ok-push_form-in-For.ensures

pub push_form-next_size-inside-requires : goal.push_form-next_size-inside-requires
push_form-next_size-inside-requires t c =
    inside_here c.args.names.now c.args.form.now c.in-For.first c.get.result.now c.in-For.test c.in-For.next c.get-in-For.result.now c.in-For.body c.in-For.body
    (record { on_break = c.args.on_break; on_continue = c.args.on_continue }) c.args.w.now c.push_form.new.w c.in-For.is c.get.ensures c.get-in-For.ensures refl c.requires.measured
    c.in_ok-push_form-in-For.ensures c.next_size-step.new.w c.next_size-step.ensures.others

pub push_form-push_test-requires : goal.push_form-push_test-requires
push_form-push_test-requires t c =
    let exits : Exits = record { on_break = c.args.on_break; on_continue = c.args.on_continue } in
    let shape = is_for c.args.names.now c.args.form.now c.in-For.first c.in-For.test c.in-For.next c.in-For.body c.in-For.is c.requires.shape in
    let step_is =
    step_first c.args.names.now c.args.form.now c.in-For.first c.get.result.now c.in-For.test c.in-For.next c.get-in-For.result.now c.in-For.body c.in-For.body exits c.args.w.now c.push_form.new.w
    c.in-For.is c.get.ensures c.get-in-For.ensures refl c.requires.measured c.in_ok-push_form-in-For.ensures c.next_size-step.result c.next_size-step.ensures.size in
    let inside_is =
    inside_first c.args.names.now c.args.form.now c.in-For.first c.get.result.now c.in-For.test c.in-For.next c.get-in-For.result.now c.in-For.body c.in-For.body exits c.args.w.now c.push_form.new.w
    c.in-For.is c.get.ensures c.get-in-For.ensures refl c.requires.measured c.in_ok-push_form-in-For.ensures c.next_size-step.new.w c.next_size-step.ensures.others c.next_size-inside.result
    c.next_size-inside.ensures.size in
    for_test_fits c.args.names.now c.args.form.now c.in-For.first c.get.result.now c.in-For.test c.in-For.next c.get-in-For.result.now c.in-For.body c.in-For.body exits c.args.w.now
    c.push_form.new.w c.in-For.is c.get.ensures c.get-in-For.ensures refl shape c.requires.room c.in_ok-push_form-in-For.ensures
    c.next_size-inside.result c.next_size-step.result c.next_size-step.new.w c.next_size-inside.new.w c.next_size-step.ensures.others c.next_size-inside.ensures.others step_is inside_is

pub push_form-push_block-requires : goal.push_form-push_block-requires
push_form-push_block-requires t c =
    let exits : Exits = record { on_break = c.args.on_break; on_continue = c.args.on_continue } in
    let shape = is_for c.args.names.now c.args.form.now c.in-For.first c.in-For.test c.in-For.next c.in-For.body c.in-For.is c.requires.shape in
    let tested = test_taken_twice c.args.names.now c.in-For.test _ c.next_size-inside.result _ c.next_size-step.result c.in_ok-at-in-For.at c.push_form.new.w c.next_size-step.new.w
    c.next_size-inside.new.w c.push_test.new.w c.next_size-step.ensures.others c.next_size-inside.ensures.others refl refl c.in_ok-at-in-For.ensures in (
      search (rules, the_lemmas),
      (
        subst (StatementsAre c.args.names.now) (sym c.as_slice-in-For.ensures) shape.body_are,
        (
          for_body_fits c.args.names.now c.args.form.now c.in-For.first c.get.result.now c.in-For.test c.in-For.next c.get-in-For.result.now c.in-For.body c.in-For.body exits c.args.w.now
              c.push_form.new.w c.in-For.is c.get.ensures c.get-in-For.ensures refl shape c.requires.room c.in_ok-push_form-in-For.ensures
              c.next_size-inside.result c.next_size-step.result 2 c.in_ok-at-in-For.at c.push_test.new.w tested c.as_slice-in-For.result.now c.as_slice-in-For.ensures,
          for_body_measured c.args.names.now c.args.form.now c.in-For.first c.get.result.now c.in-For.test c.in-For.next c.get-in-For.result.now c.in-For.body c.in-For.body exits c.args.w.now
              c.push_form.new.w c.in-For.is c.get.ensures c.get-in-For.ensures refl c.requires.measured c.in_ok-push_form-in-For.ensures c.push_test.new.w tested.code
              c.as_slice-in-For.result.now c.as_slice-in-For.ensures,
        ),
      ),
    )

pub push_form-push_form-requires-in-For : goal.push_form-push_form-requires-in-For
push_form-push_form-requires-in-For t c =
    let exits : Exits = record { on_break = c.args.on_break; on_continue = c.args.on_continue } in
    let inner : Exits = record { on_break = c.in_ok-at-in-For.at.out; on_continue = c.in_ok-at-in-For.at.behind } in
    let shape = is_for c.args.names.now c.args.form.now c.in-For.first c.in-For.test c.in-For.next c.in-For.body c.in-For.is c.requires.shape in
    let tested = test_taken_twice c.args.names.now c.in-For.test _ c.next_size-inside.result _ c.next_size-step.result c.in_ok-at-in-For.at c.push_form.new.w c.next_size-step.new.w
    c.next_size-inside.new.w c.push_test.new.w c.next_size-step.ensures.others c.next_size-inside.ensures.others refl refl c.in_ok-at-in-For.ensures in (
      search (rules, the_lemmas),
      (
        subst (λ (s : Stmt). FormIs c.args.names.now s.form) (sym c.get-in-For.ensures) shape.next_is,
        (
          for_next_fits c.args.names.now c.args.form.now c.in-For.first c.get.result.now c.in-For.test c.in-For.next c.get-in-For.result.now c.in-For.body c.in-For.body exits c.args.w.now
              c.push_form.new.w c.in-For.is c.get.ensures c.get-in-For.ensures refl shape c.requires.room c.in_ok-push_form-in-For.ensures
              c.next_size-inside.result c.next_size-step.result 2 c.in_ok-at-in-For.at c.push_test.new.w tested c.as_slice-in-For.result.now inner c.push_block.new.w c.as_slice-in-For.ensures
              c.in_ok-push_block-in-For.ensures,
          for_next_measured c.args.names.now c.args.form.now c.in-For.first c.get.result.now c.in-For.test c.in-For.next c.get-in-For.result.now c.in-For.body c.in-For.body exits c.args.w.now
              c.push_form.new.w c.in-For.is c.get.ensures c.get-in-For.ensures refl c.requires.measured c.in_ok-push_form-in-For.ensures c.push_test.new.w tested.code
              c.as_slice-in-For.result.now inner c.push_block.new.w c.as_slice-in-For.ensures c.in_ok-push_block-in-For.ensures,
        ),
      ),
    )

pub push_form-returns-in_ok-push-in-For : goal.push_form-returns-in_ok-push-in-For
push_form-returns-in_ok-push-in-For t c =
    let exits : Exits = record { on_break = c.args.on_break; on_continue = c.args.on_continue } in
    let step_is =
    step_first c.args.names.now c.args.form.now c.in-For.first c.get.result.now c.in-For.test c.in-For.next c.get-in-For.result.now c.in-For.body c.in-For.body exits c.args.w.now c.push_form.new.w
    c.in-For.is c.get.ensures c.get-in-For.ensures refl c.requires.measured c.in_ok-push_form-in-For.ensures c.next_size-step.result c.next_size-step.ensures.size in
    let inside_is =
    inside_first c.args.names.now c.args.form.now c.in-For.first c.get.result.now c.in-For.test c.in-For.next c.get-in-For.result.now c.in-For.body c.in-For.body exits c.args.w.now c.push_form.new.w
    c.in-For.is c.get.ensures c.get-in-For.ensures refl c.requires.measured c.in_ok-push_form-in-For.ensures c.next_size-step.new.w c.next_size-step.ensures.others c.next_size-inside.result
    c.next_size-inside.ensures.size in
    let tested =
    test_taken_twice c.args.names.now c.in-For.test _ c.next_size-inside.result _ c.next_size-step.result c.in_ok-at-in-For.at c.push_form.new.w c.next_size-step.new.w
    c.next_size-inside.new.w c.push_test.new.w c.next_size-step.ensures.others c.next_size-inside.ensures.others step_is inside_is c.in_ok-at-in-For.ensures in
    form_for_wrote c.args.names.now c.args.form.now c.in-For.first c.get.result.now c.in-For.test c.in-For.next c.get-in-For.result.now c.in-For.body c.in-For.body
    c.as_slice-in-For.result.now exits
    c.in_ok-at-in-For.at c.mark-mark.result c.args.w.now c.push_form.new.w c.push_test.new.w c.push_block.new.w c.push_form-in-For.new.w c.push.new.self c.leave.new.self
    c.in-For.is c.get.ensures c.get-in-For.ensures refl c.as_slice-in-For.ensures c.requires.shape c.mark-mark.ensures
    c.in_ok-push_form-in-For.ensures tested c.in_ok-push_block-in-For.ensures c.in_ok-push_form-in-For-2.ensures c.in_ok-push-in-For.ensures.ok c.leave.ensures

-- ---- a step

pub push_form-push_step-requires-clause-widths : goal.push_form-push_step-requires-clause-widths
push_form-push_step-requires-clause-widths t c = widths_fit c.args.names.now c.args.form.now c.in-Par.blocks c.as_slice-in-Par.result.now c.args.w.now c.in-Par.is c.as_slice-in-Par.ensures
    c.requires.room

pub push_form-push_step-requires-clause-blocks : goal.push_form-push_step-requires-clause-blocks
push_form-push_step-requires-clause-blocks t c = blocks_fit c.args.names.now c.args.form.now c.in-Par.blocks c.as_slice-in-Par.result.now c.args.w.now c.in-Par.is c.as_slice-in-Par.ensures
    c.requires.room

-- ---- loops and blocks

pub push_while-next_size-inside-requires : goal.push_while-next_size-inside-requires
push_while-next_size-inside-requires t c = measured_here _ _ c.args.w.now c.requires.measured

pub push_while-push_test-requires : goal.push_while-push_test-requires
push_while-push_test-requires t c =
    test_fits c.args.names.now c.args.test.now c.args.body.now c.next_size-inside.result c.args.w.now c.next_size-inside.new.w c.next_size-inside.ensures.others
    (measured_first _ c.next_size-inside.result _ c.args.w.now c.requires.measured c.next_size-inside.ensures.size) c.requires.room

pub push_while-returns : goal.push_while-returns
push_while-returns t c =
    let tested =
    test_taken c.args.names.now c.args.test.now _ c.next_size-inside.result 0 c.in_ok-at.at c.args.w.now c.next_size-inside.new.w c.push_test.new.w c.next_size-inside.ensures.others
    (measured_first _ c.next_size-inside.result _ c.args.w.now c.requires.measured c.next_size-inside.ensures.size) c.in_ok-at.ensures in
    while_wrote c.args.names.now c.args.test.now c.args.body.now c.in_ok-at.at c.args.w.now c.push_test.new.w c.push_block.new.w c.push.new.self tested c.in_ok-push_block.ensures
    c.in_ok-push.ensures.ok

pub push_while-push_block-requires : goal.push_while-push_block-requires
push_while-push_block-requires t c =
    let tested =
    test_taken c.args.names.now c.args.test.now _ c.next_size-inside.result 0 c.in_ok-at.at c.args.w.now c.next_size-inside.new.w c.push_test.new.w c.next_size-inside.ensures.others refl
    c.in_ok-at.ensures in (
      search (rules, the_lemmas),
      (
        c.requires.shape,
        (
          inside_fits c.args.names.now c.args.test.now c.args.body.now _ 0 1 c.in_ok-at.at c.args.w.now c.push_test.new.w c.requires.room tested,
          inside_measured c.args.names.now c.args.body.now c.args.w.now c.push_test.new.w c.requires.measured tested.code,
        ),
      ),
    )

pub push_block-returns : goal.push_block-returns
push_block-returns t c =
    block_wrote c.args.names.now c.args.body.now (record { on_break = c.args.on_break; on_continue = c.args.on_continue }) c.mark-mark.result c.args.w.now c.push_all.new.w c.leave.new.self
    c.in_ok-push_all.ensures c.mark-mark.ensures c.leave.ensures

pub push_all-push_form-requires : goal.push_all-push_form-requires
push_all-push_form-requires t c =
    let p = c.args.names.now in
    let rest = drop (c.loop-s.s-index + 1) c.args.body.now in
    let next = next_of c.args.body.now c.loop-s.s-index c.s-item.result c.loop-s-test.true c.s-item.is in (
      search (rules, the_lemmas),
      (
        (subst (StatementsAre p) next c.loop-s.invariant.shape).0,
        (
          first_fits p c.s-item.result rest c.loop-s.w (subst (λ (b : List Stmt). AllFit p b c.loop-s.w) next c.loop-s.invariant.room),
          first_measured p c.s-item.result rest c.loop-s.w (subst (λ (b : List Stmt). AllMeasured p b c.loop-s.w) next c.loop-s.invariant.measured),
        ),
      ),
    )

pub push_all-loop-s-preserved : goal.push_all-loop-s-preserved
push_all-loop-s-preserved t c =
    let p = c.args.names.now in
    let rest = drop (c.loop-s.s-index + 1) c.args.body.now in
    let next = next_of c.args.body.now c.loop-s.s-index c.s-item.result c.loop-s-test.true c.s-item.is in
    record {
      shape = (subst (StatementsAre p) next c.loop-s.invariant.shape).1;
      room =
          rest_fits p c.s-item.result rest (record { on_break = c.args.on_break; on_continue = c.args.on_continue }) c.loop-s.w c.push_form.new.w
          (subst (λ (b : List Stmt). AllFit p b c.loop-s.w) next c.loop-s.invariant.room) c.in_ok-push_form.ensures;
      measured =
          rest_measured p c.s-item.result rest (record { on_break = c.args.on_break; on_continue = c.args.on_continue }) c.loop-s.w c.push_form.new.w
          (subst (λ (b : List Stmt). AllMeasured p b c.loop-s.w) next c.loop-s.invariant.measured) c.in_ok-push_form.ensures;
      rest =
          λ new h.
          c.loop-s.invariant.rest new
          (subst (λ (b : List Stmt). WroteAll p b (record { on_break = c.args.on_break; on_continue = c.args.on_continue }) c.loop-s.w new) (sym next)
          (all_wrote p c.s-item.result rest (record { on_break = c.args.on_break; on_continue = c.args.on_continue }) c.loop-s.w c.push_form.new.w new c.in_ok-push_form.ensures h));
    }

pub push_all-returns : goal.push_all-returns
push_all-returns t c =
    let none = at_drop_all (λ (b : List Stmt). b) c.args.body.now c.loop-s.s-index c.loop-s-test.false in
    c.loop-s.invariant.rest c.loop-s.w
    (subst (λ (b : List Stmt). WroteAll c.args.names.now b (record { on_break = c.args.on_break; on_continue = c.args.on_continue }) c.loop-s.w c.loop-s.w) (sym none) (wrote_nothing c.loop-s.w))

pub push_arms-next_size-inside-requires : goal.push_arms-next_size-inside-requires
push_arms-next_size-inside-requires t c =
    let p = c.args.names.now in
    let rest = drop (c.loop-arm.arm-index + 1) c.args.arms.now in
    let next = next_of c.args.arms.now c.loop-arm.arm-index c.arm-item.result c.loop-arm-test.true c.arm-item.is in
    measured_here _ _ c.loop-arm.w (arm_measured p c.arm-item.result rest c.loop-arm.w (subst (λ (a : List Arm). ArmsMeasured p a c.loop-arm.w) next c.loop-arm.invariant.measured))

pub push_arms-push_test-requires : goal.push_arms-push_test-requires
push_arms-push_test-requires t c =
    let p = c.args.names.now in
    let rest = drop (c.loop-arm.arm-index + 1) c.args.arms.now in
    let next = next_of c.args.arms.now c.loop-arm.arm-index c.arm-item.result c.loop-arm-test.true c.arm-item.is in
    let fits = subst (λ (a : List Arm). ArmsFit p a c.loop-arm.w) next c.loop-arm.invariant.room in
    let measured = subst (λ (a : List Arm). ArmsMeasured p a c.loop-arm.w) next c.loop-arm.invariant.measured in
    test_fits p (out-Arm c.arm-item.result).test (out-Arm c.arm-item.result).body c.next_size-inside.result c.loop-arm.w c.next_size-inside.new.w c.next_size-inside.ensures.others
    (measured_first _ c.next_size-inside.result _ c.loop-arm.w (arm_measured p c.arm-item.result rest c.loop-arm.w measured) c.next_size-inside.ensures.size)
    (arm_fits p c.arm-item.result rest c.loop-arm.w fits)

pub push_arms-push_block-requires : goal.push_arms-push_block-requires
push_arms-push_block-requires t c =
    let p = c.args.names.now in
    let rest = drop (c.loop-arm.arm-index + 1) c.args.arms.now in
    let next = next_of c.args.arms.now c.loop-arm.arm-index c.arm-item.result c.loop-arm-test.true c.arm-item.is in
    let fits = subst (λ (a : List Arm). ArmsFit p a c.loop-arm.w) next c.loop-arm.invariant.room in
    let measured = subst (λ (a : List Arm). ArmsMeasured p a c.loop-arm.w) next c.loop-arm.invariant.measured in
    let a = c.arm-item.result in
    let tested =
    test_taken p (out-Arm a).test _ c.next_size-inside.result 0 c.in_ok-push_test.field-0 c.loop-arm.w c.next_size-inside.new.w c.push_test.new.w c.next_size-inside.ensures.others refl
    c.in_ok-push_test.ensures in (
      search (rules, the_lemmas),
      (
        subst (StatementsAre p) (sym c.as_slice.ensures) (subst (AllArmsAre p) next c.loop-arm.invariant.shape).1,
        (
          subst (λ (b : List Stmt). AllFit p b c.push_test.new.w) (sym c.as_slice.ensures)
              (inside_fits p (out-Arm a).test (out-Arm a).body _ 0 1 c.in_ok-push_test.field-0 c.loop-arm.w c.push_test.new.w (arm_fits p a rest c.loop-arm.w fits) tested),
          subst (λ (b : List Stmt). AllMeasured p b c.push_test.new.w) (sym c.as_slice.ensures)
              (inside_measured p (out-Arm a).body c.loop-arm.w c.push_test.new.w (arm_measured p a rest c.loop-arm.w measured) tested.code),
        ),
      ),
    )

pub push_arms-loop-arm-preserved : goal.push_arms-loop-arm-preserved
push_arms-loop-arm-preserved t c =
    let p = c.args.names.now in
    let rest = drop (c.loop-arm.arm-index + 1) c.args.arms.now in
    let next = next_of c.args.arms.now c.loop-arm.arm-index c.arm-item.result c.loop-arm-test.true c.arm-item.is in
    let a = c.arm-item.result in
    let exits : Exits = record { on_break = c.args.on_break; on_continue = c.args.on_continue } in
    let measured = subst (λ (x : List Arm). ArmsMeasured p x c.loop-arm.w) next c.loop-arm.invariant.measured in
    let tested =
    test_taken p (out-Arm a).test _ c.next_size-inside.result 0 c.in_ok-push_test.field-0 c.loop-arm.w c.next_size-inside.new.w c.push_test.new.w c.next_size-inside.ensures.others
    (measured_first _ c.next_size-inside.result _ c.loop-arm.w (arm_measured p a rest c.loop-arm.w measured) c.next_size-inside.ensures.size) c.in_ok-push_test.ensures in
    let block = subst (λ (b : List Stmt). WroteBlock p b exits c.push_test.new.w c.push_block.new.w) c.as_slice.ensures c.in_ok-push_block.ensures in
    record {
      shape = (subst (AllArmsAre p) next c.loop-arm.invariant.shape).2;
      room =
          other_arms_fit p a rest exits c.args.end _ 0 1 c.in_ok-push_test.field-0 c.loop-arm.w c.push_test.new.w c.push_block.new.w c.push.new.self
          (subst (λ (x : List Arm). ArmsFit p x c.loop-arm.w) next c.loop-arm.invariant.room) tested block
          c.in_ok-push.ensures.ok;
      measured = other_arms_measured p a rest exits c.loop-arm.w c.push_test.new.w c.push_block.new.w c.push.new.self measured tested.code block;
      rest =
          λ new h.
          c.loop-arm.invariant.rest new
          (subst (λ (a : List Arm). WroteArms p a exits c.args.end c.loop-arm.w new) (sym next)
          (arms_wrote p c.arm-item.result rest c.as_slice.result.now exits c.args.end c.in_ok-push_test.field-0 c.loop-arm.w c.push_test.new.w c.push_block.new.w new c.push.new.self
          c.as_slice.ensures tested c.in_ok-push_block.ensures c.in_ok-push.ensures.ok h));
    }

pub push_arms-returns : goal.push_arms-returns
push_arms-returns t c =
    let none = at_drop_all (λ (a : List Arm). a) c.args.arms.now c.loop-arm.arm-index c.loop-arm-test.false in
    c.loop-arm.invariant.rest c.loop-arm.w
    (subst (λ (a : List Arm). WroteArms c.args.names.now a (record { on_break = c.args.on_break; on_continue = c.args.on_continue }) c.args.end c.loop-arm.w c.loop-arm.w) (sym none)
    (wrote_nothing c.loop-arm.w))
