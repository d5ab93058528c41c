use Rattle.std.proofs.Common.{◌∙◌, ap, subst, arith, length}
use Rattle.csl_tree.specs.declared.program.Program.{Program}
use Rattle.csl_meaning.specs.Effect.{Went}
use Rattle.csl_meaning.specs.Layout.{first_memory}
use Rattle.csl_meaning.specs.Meaning.{run_of}
use Rattle.csl_meaning.specs.Runs.{Outcome}
use Rattle.tree_eval.specs.Told.{Tells}
use Rattle.tree_eval.proofs.Starting.{length_first, run_is, same_end, whole_text, prefix_text, failed_only}
use Rattle.tree_eval.proofs.run.eval_tree.Goals as goal

pub returns-clause-end : goal.returns-clause-end
returns-clause-end g c = rw c.run_end.ensures (same_end (run_of c.args.p.now c.args.fuel) (g.S.Sink.written c.args.out.now) (g.S.Sink.written c.main_statements-went.new.out)
    c.main_statements-went.result c.main_statements-went.new.locals c.main_statements-went.new.world
    (subst (λ (o : Outcome Went). Tells o c.main_statements-went.result c.main_statements-went.new.locals c.main_statements-went.new.world (g.S.Sink.written c.args.out.now)
    (g.S.Sink.written c.main_statements-went.new.out)) (run_is c.args.p.now c.args.fuel c.as_slice-2.result.now c.new-locals.result c.in-Ok.memory
    (c.as_slice-2.ensures ∙ ap (λ (q : Program). q.main) c.program-tree.ensures) c.new-locals.ensures
    (c.in-Ok.ensures ∙ ap first_memory (c.as_slice.ensures ∙ ap (λ (q : Program). q.shared) c.program-tree.ensures))) c.main_statements-went.ensures.tells))

pub returns-clause-whole : goal.returns-clause-whole
returns-clause-whole g c = rw c.run_end.ensures (whole_text (run_of c.args.p.now c.args.fuel) (g.S.Sink.written c.args.out.now) (g.S.Sink.written c.main_statements-went.new.out)
    c.main_statements-went.result c.main_statements-went.new.locals c.main_statements-went.new.world
    (subst (λ (o : Outcome Went). Tells o c.main_statements-went.result c.main_statements-went.new.locals c.main_statements-went.new.world (g.S.Sink.written c.args.out.now)
    (g.S.Sink.written c.main_statements-went.new.out)) (run_is c.args.p.now c.args.fuel c.as_slice-2.result.now c.new-locals.result c.in-Ok.memory
    (c.as_slice-2.ensures ∙ ap (λ (q : Program). q.main) c.program-tree.ensures) c.new-locals.ensures
    (c.in-Ok.ensures ∙ ap first_memory (c.as_slice.ensures ∙ ap (λ (q : Program). q.shared) c.program-tree.ensures))) c.main_statements-went.ensures.tells))

pub returns-clause-prefix : goal.returns-clause-prefix
returns-clause-prefix g c = rw c.run_end.ensures (prefix_text (run_of c.args.p.now c.args.fuel) (g.S.Sink.written c.args.out.now) (g.S.Sink.written c.main_statements-went.new.out)
    c.main_statements-went.result c.main_statements-went.new.locals c.main_statements-went.new.world
    (subst (λ (o : Outcome Went). Tells o c.main_statements-went.result c.main_statements-went.new.locals c.main_statements-went.new.world (g.S.Sink.written c.args.out.now)
    (g.S.Sink.written c.main_statements-went.new.out)) (run_is c.args.p.now c.args.fuel c.as_slice-2.result.now c.new-locals.result c.in-Ok.memory
    (c.as_slice-2.ensures ∙ ap (λ (q : Program). q.main) c.program-tree.ensures) c.new-locals.ensures
    (c.in-Ok.ensures ∙ ap first_memory (c.as_slice.ensures ∙ ap (λ (q : Program). q.shared) c.program-tree.ensures))) c.main_statements-went.ensures.tells))

pub returns-clause-failed : goal.returns-clause-failed
returns-clause-failed g c = rw c.run_end.ensures (failed_only c.main_statements-went.result c.main_statements-went.new.world.steps _ _ c.main_statements-went.ensures.failed)

pub main_statements-went-requires-clause-main : goal.main_statements-went-requires-clause-main
main_statements-went-requires-clause-main g c =
    let memory_is = c.in-Ok.ensures ∙ ap first_memory (c.as_slice.ensures ∙ ap (λ (q : Program). q.shared) c.program-tree.ensures) in
    record {
      words = omega (arith, ap length memory_is, length_first c.args.p.now.shared, c.requires);
      steps = omega arith;
    }
