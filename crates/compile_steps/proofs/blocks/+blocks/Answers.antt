use Rattle.std.proofs.Common.{◌+◌, ◌++◌, ◌∙◌, List, arith, drop, map, ap, rules, refl, sym, subst}
use Rattle.cal_terms.proofs.Lists.{next_item}
use Rattle.csl_tree.specs.declared.program.Stmt.{Stmt}
use Rattle.csl_tree.specs.declared.program.Arm.{Arm, out-Arm}
use Rattle.compiled_code.specs.Sizes.{steps_in}
use Rattle.std.proofs.lemmas.Result.{on_ok_weaker}
use Rattle.csl_tree.specs.declared.program.Form.TheViews.{the_lemmas}
use Rattle.expression_code.specs.Lists.{steps_of, steps_of_arms, StatementsAre, AllArmsAre, LastBlockIs}
use Rattle.compiled_code.specs.Modules.{block_code}
use Rattle.compile_steps.specs.Writing.{BlocksFit}
use Rattle.compile_steps.proofs.BlockLemmas.{first_fit, others_fit, if_first_fit, if_last_fit, as_fit, steps_block, steps_while, steps_for, steps_if_none, steps_if_some, steps_par, codes_appended}
use Rattle.compile_steps.proofs.BlockLemmas.{is_par}
use Rattle.compile_steps.proofs.Bridges.{is_while, is_block, is_if, is_for}
use Rattle.compile_steps.proofs.blocks.+blocks.Goals as goal

-- ---- shapes

pub push_form_blocks-push_arm_blocks-requires : goal.push_form_blocks-push_arm_blocks-requires
push_form_blocks-push_arm_blocks-requires t c = (
  search (rules, the_lemmas),
  (
    (is_if c.args.names.now c.args.form.now c.in-If.arms c.as_slice.result.now c.in-If.last c.in-If.is c.as_slice.ensures c.requires.shape).0,
    if_first_fit c.args.names.now c.args.form.now c.in-If.arms c.as_slice.result.now c.in-If.last c.in-If.is c.as_slice.ensures c.requires.room,
  ),
)

pub push_form_blocks-push_blocks-requires : goal.push_form_blocks-push_blocks-requires
push_form_blocks-push_blocks-requires t c = (
  search (rules, the_lemmas),
  (
    subst (StatementsAre c.args.names.now) (sym c.as_slice-in-Some.ensures)
        (subst (LastBlockIs c.args.names.now) c.in-Some.is (is_if c.args.names.now c.args.form.now c.in-If.arms c.as_slice.result.now c.in-If.last c.in-If.is c.as_slice.ensures c.requires.shape).1),
    if_last_fit c.args.names.now c.args.form.now c.in-If.arms c.in-If.last c.in-Some.body c.as_slice-in-Some.result.now c.in-If.is c.in-Some.is c.as_slice-in-Some.ensures c.requires.room,
  ),
)

pub push_form_blocks-push_blocks-requires-in-While : goal.push_form_blocks-push_blocks-requires-in-While
push_form_blocks-push_blocks-requires-in-While t c = (
  search (rules, the_lemmas),
  (
    is_while c.args.names.now c.args.form.now c.in-While.test c.in-While.body c.as_slice-in-While.result.now c.in-While.is c.as_slice-in-While.ensures c.requires.shape,
    as_fit c.args.names.now c.args.form.now c.in-While.body c.as_slice-in-While.result.now (steps_while _ _ _ c.in-While.is) c.as_slice-in-While.ensures c.requires.room,
  ),
)

pub push_form_blocks-push_blocks-requires-in-For : goal.push_form_blocks-push_blocks-requires-in-For
push_form_blocks-push_blocks-requires-in-For t c = (
  search (rules, the_lemmas),
  (
    subst (StatementsAre c.args.names.now) (sym c.as_slice-in-For.ensures) (is_for c.args.names.now c.args.form.now c.in-For.first c.in-For.test c.in-For.next c.in-For.body c.in-For.is
        c.requires.shape).body_are,
    as_fit c.args.names.now c.args.form.now c.in-For.body c.as_slice-in-For.result.now (steps_for _ _ _ _ _ c.in-For.is) c.as_slice-in-For.ensures c.requires.room,
  ),
)

pub push_form_blocks-push_blocks-requires-in-Block : goal.push_form_blocks-push_blocks-requires-in-Block
push_form_blocks-push_blocks-requires-in-Block t c = (
  search (rules, the_lemmas),
  (
    is_block c.args.names.now c.args.form.now c.in-Block.body c.as_slice-in-Block.result.now c.in-Block.is c.as_slice-in-Block.ensures c.requires.shape,
    as_fit c.args.names.now c.args.form.now c.in-Block.body c.as_slice-in-Block.result.now (steps_block _ _ c.in-Block.is) c.as_slice-in-Block.ensures c.requires.room,
  ),
)

pub push_form_blocks-push_step_blocks-requires : goal.push_form_blocks-push_step_blocks-requires
push_form_blocks-push_step_blocks-requires t c = record {
  shape = is_par c.args.names.now c.args.form.now c.in-Par.blocks c.as_slice-in-Par.result.now c.in-Par.is c.as_slice-in-Par.ensures c.requires.shape;
  room = subst (BlocksFit c.args.names.now) (steps_par _ _ c.in-Par.is ∙ sym c.as_slice-in-Par.ensures) c.requires.room;
}

-- ---- codes

pub push_form_blocks-returns-in-None : goal.push_form_blocks-returns-in-None
push_form_blocks-returns-in-None t c = rw (steps_if_none _ _ _ c.in-If.is c.in-None.is) (search rules)

pub push_form_blocks-returns-in-Some : goal.push_form_blocks-returns-in-Some
push_form_blocks-returns-in-Some t c =
    rw (steps_if_some _ _ _ _ c.in-If.is c.in-Some.is)
    (on_ok_weaker c.push_blocks.result
    (λ h. codes_appended c.args.names.now c.args.codes.now c.push_arm_blocks.new.codes c.push_blocks.new.codes (steps_of_arms c.in-If.arms) (steps_of c.in-Some.body)
    (c.in_ok-push_arm_blocks-in-If.ensures ∙ ap (λ arms. c.args.codes.now ++ map (λ b. block_code c.args.names.now b) (steps_of_arms arms)) c.as_slice.ensures)
    (h ∙ ap (λ body. c.push_arm_blocks.new.codes ++ map (λ b. block_code c.args.names.now b) (steps_of body)) c.as_slice-in-Some.ensures))
    c.push_blocks.ensures)

pub push_form_blocks-returns-in-While : goal.push_form_blocks-returns-in-While
push_form_blocks-returns-in-While t c = rw (steps_while _ _ _ c.in-While.is) (search rules)

pub push_form_blocks-returns-in-For : goal.push_form_blocks-returns-in-For
push_form_blocks-returns-in-For t c = rw (steps_for _ _ _ _ _ c.in-For.is) (search rules)

pub push_form_blocks-returns-in-Block : goal.push_form_blocks-returns-in-Block
push_form_blocks-returns-in-Block t c = rw (steps_block _ _ c.in-Block.is) (search rules)

pub push_form_blocks-returns-in-Par : goal.push_form_blocks-returns-in-Par
push_form_blocks-returns-in-Par t c = rw (steps_par _ _ c.in-Par.is) (search rules)

-- ---- the next of several

pub push_blocks-push_form_blocks-requires : goal.push_blocks-push_form_blocks-requires
push_blocks-push_form_blocks-requires t c =
    let p = c.args.names.now in
    let rest = drop (c.loop-s.s-index + 1) c.args.body.now in
    let next = next_item c.args.body.now c.loop-s.s-index c.s-item.result (omega arith) c.s-item.is in (
      search (rules, the_lemmas),
      (
        (subst (StatementsAre p) next c.loop-s.invariant.shape).0,
        first_fit p (steps_in c.s-item.result.form) (steps_of rest) (subst (λ (b : List Stmt). BlocksFit p (steps_of b)) next c.loop-s.invariant.room),
      ),
    )

pub push_blocks-loop-s-preserved : goal.push_blocks-loop-s-preserved
push_blocks-loop-s-preserved t c =
    let p = c.args.names.now in
    let rest = drop (c.loop-s.s-index + 1) c.args.body.now in
    let next = next_item c.args.body.now c.loop-s.s-index c.s-item.result (omega arith) c.s-item.is in
    record {
      codes =
          codes_appended p c.loop-s.codes c.push_form_blocks.new.codes (c.push_form_blocks.new.codes ++ map (λ b. block_code p b) (steps_of rest)) (steps_in c.s-item.result.form) (steps_of rest)
          c.in_ok-push_form_blocks.ensures refl
          ∙ ap (λ (b : List Stmt). c.loop-s.codes ++ map (λ x. block_code p x) (steps_of b)) (sym next)
          ∙ c.loop-s.invariant.codes;
      shape = (subst (StatementsAre p) next c.loop-s.invariant.shape).1;
      room = others_fit p (steps_in c.s-item.result.form) (steps_of rest) (subst (λ (b : List Stmt). BlocksFit p (steps_of b)) next c.loop-s.invariant.room);
    }

pub push_arm_blocks-push_blocks-requires : goal.push_arm_blocks-push_blocks-requires
push_arm_blocks-push_blocks-requires t c =
    let p = c.args.names.now in
    let rest = drop (c.loop-arm.arm-index + 1) c.args.arms.now in
    let next = next_item c.args.arms.now c.loop-arm.arm-index c.arm-item.result (omega arith) c.arm-item.is in
    let body = (out-Arm c.arm-item.result).body in (
      search (rules, the_lemmas),
      (
        subst (StatementsAre p) (sym c.as_slice.ensures) (subst (AllArmsAre p) next c.loop-arm.invariant.shape).1,
        subst (λ (b : List Stmt). BlocksFit p (steps_of b)) (sym c.as_slice.ensures)
            (first_fit p (steps_of body) (steps_of_arms rest) (subst (λ (a : List Arm). BlocksFit p (steps_of_arms a)) next c.loop-arm.invariant.room)),
      ),
    )

pub push_arm_blocks-loop-arm-preserved : goal.push_arm_blocks-loop-arm-preserved
push_arm_blocks-loop-arm-preserved t c =
    let p = c.args.names.now in
    let rest = drop (c.loop-arm.arm-index + 1) c.args.arms.now in
    let next = next_item c.args.arms.now c.loop-arm.arm-index c.arm-item.result (omega arith) c.arm-item.is in
    let body = (out-Arm c.arm-item.result).body in
    record {
      codes =
          codes_appended p c.loop-arm.codes c.push_blocks.new.codes (c.push_blocks.new.codes ++ map (λ b. block_code p b) (steps_of_arms rest)) (steps_of body) (steps_of_arms rest)
          (c.in_ok-push_blocks.ensures ∙ ap (λ (b : List Stmt). c.loop-arm.codes ++ map (λ x. block_code p x) (steps_of b)) c.as_slice.ensures) refl
          ∙ ap (λ (a : List Arm). c.loop-arm.codes ++ map (λ x. block_code p x) (steps_of_arms a)) (sym next)
          ∙ c.loop-arm.invariant.codes;
      shape = (subst (AllArmsAre p) next c.loop-arm.invariant.shape).2;
      room = others_fit p (steps_of body) (steps_of_arms rest) (subst (λ (a : List Arm). BlocksFit p (steps_of_arms a)) next c.loop-arm.invariant.room);
    }
