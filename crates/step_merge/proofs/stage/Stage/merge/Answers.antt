use Rattle.std.proofs.Common.{length, ap, ◌∙◌, arith, refl}
use Rattle.std.proofs.lemmas.List.{length-map}
use Rattle.cal_base.specs.declared.step.Word.{Word}
use Rattle.cal_base.proofs.Later.{later_refl, later_transitive}
use Rattle.step_merge.specs.Steps.{left_by}
use Rattle.step_merge.proofs.Merging.{merged_all, within_now, kinds_now, inside_now, merged_now}
use Rattle.step_merge.proofs.stage.Stage.merge.Goals as goal

pub loop-a-init : goal.loop-a-init
loop-a-init c = record { so_far = refl; later = later_refl _ _ refl; pages = λ p none. refl }

pub merge_word-requires-clause-kinds : goal.merge_word-requires-clause-kinds
merge_word-requires-clause-kinds c = c.requires.kinds ∙ kinds_now c.args.image.now.memory c.loop-a.image.memory (left_by c.args.self.now) c.loop-a.a c.loop-a.invariant.so_far (omega arith)

pub merge_word-requires-clause-word : goal.merge_word-requires-clause-word
merge_word-requires-clause-word c = within_now c.args.image.now.memory c.loop-a.image.memory (left_by c.args.self.now) c.loop-a.a c.loop-a.invariant.so_far (omega arith)

pub merge_word-requires-clause-inside : goal.merge_word-requires-clause-inside
merge_word-requires-clause-inside c = inside_now c.args.image.now.memory c.loop-a.image.memory (left_by c.args.self.now) c.loop-a.a c.loop-a.invariant.so_far (omega arith) c.requires.none

pub loop-a-preserved : goal.loop-a-preserved
loop-a-preserved c = record {
  so_far = merged_now c.args.image.now.memory c.loop-a.image.memory (left_by c.args.self.now) c.loop-a.a c.loop-a.invariant.so_far (omega arith) c.merge_word.new.image.memory
      c.merge_word.ensures.memory;
  later = later_transitive _ _ _ c.loop-a.invariant.later c.merge_word.ensures.later;
  pages = λ p none. c.merge_word.ensures.pages p (λ e. none c.loop-a.a (omega (arith, ap (λ ks. length ks) c.requires.kinds, length-map c.args.image.now.memory (λ (w : Word). w.kind))) e)
      ∙ c.loop-a.invariant.pages p none;
}

pub returns-clause-memory : goal.returns-clause-memory
returns-clause-memory c = c.loop-a.invariant.so_far ∙ merged_all c.args.image.now.memory (left_by c.args.self.now) c.loop-a.a (omega arith)
