use Rattle.std.proofs.Common.{refl, ◌∷◌}
use Rattle.csl_grammar.specs.Programs.{SpellsStmt}
use Rattle.statement_parser.specs.Statements.{NoElse}
use Rattle.expression_parser.proofs.Sequence.{passed}
use Rattle.expression_parser.proofs.Steps.{from_first}
use Rattle.statement_parser.proofs.Leaves as d
use Rattle.statement_parser.proofs.leaf.leaf.Goals as goal

pub returns-then-is_word-clause-answer : goal.returns-then-is_word-clause-answer
returns-then-is_word-clause-answer c = from_first SpellsStmt NoElse _ (c.args.first.now ∷ c.args.tokens.now) _ _ _ refl c.local.ensures.answer

pub returns-then-is_word-2-clause-answer : goal.returns-then-is_word-2-clause-answer
returns-then-is_word-2-clause-answer c = from_first SpellsStmt NoElse _ (c.args.first.now ∷ c.args.tokens.now) _ _ _ refl c.local-then-is_word-2.ensures.answer

pub returns-then-is_word-3-clause-answer : goal.returns-then-is_word-3-clause-answer
returns-then-is_word-3-clause-answer c = from_first SpellsStmt NoElse _ (c.args.first.now ∷ c.args.tokens.now) _ _ _ refl
    (passed _ _ NoElse _ _ _ _ (d.break_same _ _ (c.if-is_word-3.ensures.0 refl)) c.bare.ensures.answer)

pub returns-then-is_word-4-clause-answer : goal.returns-then-is_word-4-clause-answer
returns-then-is_word-4-clause-answer c = from_first SpellsStmt NoElse _ (c.args.first.now ∷ c.args.tokens.now) _ _ _ refl
    (passed _ _ NoElse _ _ _ _ (d.continue_same _ _ (c.if-is_word-4.ensures.0 refl)) c.bare-then-is_word-4.ensures.answer)

pub returns-then-is_word-5-clause-answer : goal.returns-then-is_word-5-clause-answer
returns-then-is_word-5-clause-answer c = from_first SpellsStmt NoElse _ (c.args.first.now ∷ c.args.tokens.now) _ _ _ refl
    (passed _ _ NoElse _ _ _ _ (d.return_same _ _ (c.if-is_word-5.ensures.0 refl)) c.returned.ensures.answer)

pub returns-then-is_word-6-clause-answer : goal.returns-then-is_word-6-clause-answer
returns-then-is_word-6-clause-answer c = from_first SpellsStmt NoElse _ (c.args.first.now ∷ c.args.tokens.now) _ _ _ refl
    (passed _ _ NoElse _ _ _ _ (d.assert_same _ _ (c.if-is_word-6.ensures.0 refl)) c.assertion.ensures.answer)

pub returns-then-is_word-7-clause-answer : goal.returns-then-is_word-7-clause-answer
returns-then-is_word-7-clause-answer c = from_first SpellsStmt NoElse _ (c.args.first.now ∷ c.args.tokens.now) _ _ _ refl
    (passed _ _ NoElse _ _ _ _ (d.print_same _ _ (c.if-is_word-7.ensures.0 refl)) c.printed.ensures.answer)

pub returns-clause-answer : goal.returns-clause-answer
returns-clause-answer c = d.leaf_refused c.args.first.now c.args.tokens.now c.requires.no_name c.requires.no_brace c.requires.holds_none (record {
  int = λ h. cc (c.if-is_word.ensures.1 h);
  bool = λ h. cc (c.if-is_word-2.ensures.1 h);
  break_ = λ h. cc (c.if-is_word-3.ensures.1 h);
  continue_ = λ h. cc (c.if-is_word-4.ensures.1 h);
  return_ = λ h. cc (c.if-is_word-5.ensures.1 h);
  assert_ = λ h. cc (c.if-is_word-6.ensures.1 h);
  print_ = λ h. cc (c.if-is_word-7.ensures.1 h);
})
