use Rattle.std.proofs.Common.{refl}
use Rattle.csl_grammar.specs.Programs.{SpellsShared}
use Rattle.expression_parser.specs.Reading.{stops_anywhere}
use Rattle.expression_parser.proofs.Sequence.{passed}
use Rattle.expression_parser.proofs.Steps.{from_first}
use Rattle.csl_parser.proofs.Declared as d
use Rattle.csl_parser.proofs.decl.SharedListElement.read.Goals as goal

pub returns-then-is_word-clause-answer : goal.returns-then-is_word-clause-answer
returns-then-is_word-clause-answer c =
    from_first SpellsShared stops_anywhere _ c.args.tokens.now _ _ _ c.front.ensures
    (passed _ _ stops_anywhere _ _ _ _ (d.tally_same _ _ (c.if-is_word.ensures.0 refl)) c.tally.ensures.answer)

pub returns-then-is_word-2-clause-answer : goal.returns-then-is_word-2-clause-answer
returns-then-is_word-2-clause-answer c =
    from_first SpellsShared stops_anywhere _ c.args.tokens.now _ _ _ c.front.ensures
    (passed _ _ stops_anywhere _ _ _ _ (d.int_same _ _ (c.if-is_word-2.ensures.0 refl)) c.ordinary.ensures.answer)

pub returns-clause-answer : goal.returns-clause-answer
returns-clause-answer c = d.shared_refused c.args.tokens.now _ _ c.front.ensures (λ h. cc (c.if-is_word-2.ensures.1 h)) (λ h. cc (c.if-is_word.ensures.1 h))
