use Rattle.std.proofs.Common.{◌∙◌, ◌+◌, sym, subst, arith, ℕ, List}
use Rattle.tree_eval.proofs.Tallies.{AreFirst, first_ordinary, first_tally, all_first}
use Rattle.tree_eval.proofs.merge.tallies_of.Goals.{in-Ordinary, in-Tally+in_ok-push-in-Tally}
use Rattle.tree_eval.proofs.merge.tallies_of.Goals as goal

pub loop-a-preserved : goal.loop-a-preserved
loop-a-preserved c =
    elim c.match-kind_at.branch [
      | in-Ordinary w ↦
          subst (λ (tallies : List ℕ). AreFirst (c.loop-a.a + 1) tallies c.args.memory.now) (sym w.tallies-is)
          (first_ordinary c.loop-a.a c.loop-a.tallies c.args.memory.now c.kind_at.result c.loop-a.invariant (sym w.in-Ordinary.is) c.kind_at.ensures)
      | in-Tally+in_ok-push-in-Tally w ↦
          subst (λ (tallies : List ℕ). AreFirst (c.loop-a.a + 1) tallies c.args.memory.now) (sym (w.tallies-is ∙ w.in_ok-push-in-Tally.ensures.ok))
          (first_tally c.loop-a.a c.loop-a.tallies c.args.memory.now c.kind_at.result c.loop-a.invariant (sym w.in-Tally.is) c.kind_at.ensures)
    ]

pub returns : goal.returns
returns c = all_first c.loop-a.a c.loop-a.tallies c.args.memory.now (omega arith) c.loop-a.invariant
