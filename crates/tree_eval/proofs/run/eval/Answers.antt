use Rattle.std.proofs.Common.{◌≡◌, IfOk, OnErr, false, sym, subst, ◌∙◌}
use Rattle.std.specs.Io.KnownBytes.{Appends}
use Rattle.cal_base.specs.Contents.{AppendsPrefix}
use Rattle.cal_base.specs.Text.{text_of}
use Rattle.csl_tree.specs.declared.program.Program.{Program}
use Rattle.csl_meaning.specs.Meaning as meaning
use Rattle.statement_eval.specs.Fits.{FitsMemory}
use Rattle.tree_eval.proofs.Accepted.{accepted-fits}
use Rattle.tree_eval.proofs.run.eval.Goals as goal

pub of-requires : goal.of-requires
of-requires g c = subst (λ (q : Program). FitsMemory q.shared) (sym c.program.ensures.same) (accepted-fits c.args.p.now c.program.ensures.accepted)

pub eval_tree-requires : goal.eval_tree-requires
eval_tree-requires g c = subst (λ (q : Program). FitsMemory q.shared) (sym (c.in-Ok.ensures ∙ c.program.ensures.same)) (accepted-fits c.args.p.now c.program.ensures.accepted)

pub returns-in-Ok-clause-end : goal.returns-in-Ok-clause-end
returns-in-Ok-clause-end g c =
    subst (λ (q : Program). IfOk c.eval_tree.result (λ end. end ≡ (meaning.meaning q c.args.fuel).ending)) (c.in-Ok.ensures ∙ c.program.ensures.same) c.eval_tree.ensures.end

pub returns-in-Ok-clause-whole : goal.returns-in-Ok-clause-whole
returns-in-Ok-clause-whole g c =
    subst (λ (q : Program). IfOk c.eval_tree.result (λ x. Appends (g.S.Sink.written c.args.out.now) (g.S.Sink.written c.eval_tree.new.out) (text_of false (meaning.meaning q c.args.fuel).events)))
    (c.in-Ok.ensures ∙ c.program.ensures.same) c.eval_tree.ensures.whole

pub returns-in-Ok-clause-prefix : goal.returns-in-Ok-clause-prefix
returns-in-Ok-clause-prefix g c =
    subst (λ (q : Program). OnErr c.eval_tree.result (AppendsPrefix (g.S.Sink.written c.args.out.now) (g.S.Sink.written c.eval_tree.new.out) (text_of false (meaning.meaning q c.args.fuel).events)))
    (c.in-Ok.ensures ∙ c.program.ensures.same) c.eval_tree.ensures.prefix
