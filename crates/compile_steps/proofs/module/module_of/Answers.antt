use Rattle.std.proofs.Common.{List, [], sym, subst}
use Rattle.csl_tree.specs.declared.program.Program.{Program}
use Rattle.csl_tree.specs.declared.program.Stmt.{Stmt}
use Rattle.expression_code.specs.Lists.{steps_of, StatementsAre}
use Rattle.compile_steps.specs.Writing.{BodyFits, BlocksFit}
use Rattle.compile_steps.proofs.ModuleLemmas.{main_room, blocks_room, main_shape, module_made, few_words, few_words_in_all, few_functions}
use Rattle.compile_steps.proofs.module.module_of.Goals as goal

pub of-requires-clause-words : goal.of-requires-clause-words
of-requires-clause-words c = few_words_in_all c.args.program.now c.requires.accepted

pub of-requires-clause-functions : goal.of-requires-clause-functions
of-requires-clause-functions c = few_functions c.args.program.now c.requires.accepted

pub push_words-requires : goal.push_words-requires
push_words-requires c = few_words c.args.program.now c.as_slice.result.now c.as_slice.ensures c.requires.accepted

pub push_blocks-requires : goal.push_blocks-requires
push_blocks-requires c = record {
  room =
      subst (λ (q : Program). BlocksFit q (steps_of c.as_slice-4.result.now)) (sym c.in_ok-names.ensures)
      (subst (λ (b : List Stmt). BlocksFit c.args.program.now (steps_of b)) (sym c.as_slice-4.ensures) (blocks_room c.args.program.now c.requires.spelled c.requires.accepted));
  shape = subst (λ (q : Program). StatementsAre q c.as_slice-4.result.now) (sym c.in_ok-names.ensures)
      (subst (StatementsAre c.args.program.now) (sym c.as_slice-4.ensures) (main_shape c.args.program.now c.requires.spelled c.requires.accepted));
}

pub main_code-requires-clause-room : goal.main_code-requires-clause-room
main_code-requires-clause-room c =
    subst (λ (q : Program). BodyFits q c.as_slice-5.result.now [] 0) (sym c.in_ok-names.ensures)
    (subst (λ (b : List Stmt). BodyFits c.args.program.now b [] 0) (sym c.as_slice-5.ensures) (main_room c.args.program.now c.requires.spelled c.requires.accepted))

pub main_code-requires-clause-shape : goal.main_code-requires-clause-shape
main_code-requires-clause-shape c = subst (λ (q : Program). StatementsAre q c.as_slice-5.result.now) (sym c.in_ok-names.ensures)
    (subst (StatementsAre c.args.program.now) (sym c.as_slice-5.ensures) (main_shape c.args.program.now c.requires.spelled c.requires.accepted))

pub returns : goal.returns
returns c =
    module_made c.args.program.now c.in_ok-names.names c.as_slice.result.now c.as_slice-2.result.now c.as_slice-4.result.now c.as_slice-3.result.now
    c.in_ok-words.words c.new-tallies.result c.push_words.new.tallies c.new-initial.result c.push_words.new.initial c.new-texts.result c.push_texts.new.texts c.in_ok-functions.functions
    c.new-blocks.result c.push_blocks.new.codes c.in_ok-main.main
    c.in_ok-names.ensures c.as_slice.ensures c.as_slice-2.ensures c.as_slice-4.ensures c.as_slice-3.ensures c.new-tallies.ensures c.new-initial.ensures c.new-texts.ensures c.new-blocks.ensures
    c.in_ok-words.ensures.count c.in_ok-words.ensures.tallies c.in_ok-words.ensures.initial c.in_ok-push_texts.ensures c.in_ok-functions.ensures c.in_ok-push_blocks.ensures c.in_ok-main.ensures
