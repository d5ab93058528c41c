use Rattle.std.proofs.Common.{◌≡◌, ◌∙◌, ap, sym, arith, ◌||◌, cond, Some, None, ℕ}
use Rattle.cal_base.specs.declared.answer.Answer.{Answer}
use Rattle.cal_base.specs.Answers.{is_fault}
use Rattle.csl_meaning.specs.Routines.{answer}
use Rattle.tree_eval.proofs.Routines.{one_more, one_more_failed}
use Rattle.tree_eval.proofs.routine.block_answers.Goals as goal
use Rattle.tree_eval.proofs.routine.block_answers.Goals.{then-failed+in_ok-push, else-failed+in_ok-lent+in_ok-push-2}

pub loop-id-preserved : goal.loop-id-preserved
loop-id-preserved c =
    let f : ℕ → Answer = λ id. answer c.args.p.now c.args.opening c.args.fuel c.args.block.now c.args.width id in
    let id = c.loop-id.id in
    let old = c.loop-id.failed in
    elim c.if-failed.branch [
      | then-failed+in_ok-push w ↦
          let flag : c.if-failed.failed ≡ (old || is_fault (Some (f id))) = w.failed-is ∙ w.if-failed.true ∙ sym (ap (λ b. b || is_fault (Some (f id))) w.if-failed.true) in
          record {
            same = w.memory-is ∙ c.loop-id.invariant.same;
            flag = one_more_failed f old c.if-failed.failed c.args.width id (omega arith) flag ∙ c.loop-id.invariant.flag;
            rest = one_more f old c.if-failed.failed c.loop-id.answers c.if-failed.answers None c.args.width id (omega arith) flag
                (sym (ap (λ b. cond b None (Some (f id))) w.if-failed.true)) (w.answers-is ∙ w.in_ok-push.ensures.ok) ∙ c.loop-id.invariant.rest;
          }
      | else-failed+in_ok-lent+in_ok-push-2 w ↦
          let given = w.in_ok-lent.ensures.answer ∙ ap (λ m. answer c.args.p.now m c.args.fuel c.args.block.now c.args.width id) c.loop-id.invariant.same in
          let flag : c.if-failed.failed ≡ (old || is_fault (Some (f id))) = w.failed-is ∙ w.is_failure-failed.ensures ∙ ap (λ g. is_fault (Some g)) given
          ∙ sym (ap (λ b. b || is_fault (Some (f id))) w.if-failed.false) in
          record {
            same = w.memory-is ∙ w.in_ok-lent.ensures.memory ∙ c.loop-id.invariant.same;
            flag = one_more_failed f old c.if-failed.failed c.args.width id (omega arith) flag ∙ c.loop-id.invariant.flag;
            rest = one_more f old c.if-failed.failed c.loop-id.answers c.if-failed.answers _ c.args.width id (omega arith) flag
                (ap (λ g. Some g) given ∙ sym (ap (λ b. cond b None (Some (f id))) w.if-failed.false)) (w.answers-is ∙ w.in_ok-push-2.ensures.ok) ∙ c.loop-id.invariant.rest;
          }
    ]
