use Rattle.std.proofs.Common.{refl}
use Rattle.cal_terms.specs.declared.types.Ty.TheVariants as ty
use Rattle.csl_grammar.specs.Expressions.{whole}
use Rattle.csl_grammar.specs.Stops.{Stops}
use Rattle.csl_grammar.specs.Programs.{SpellsDecl}
use Rattle.expression_parser.proofs.Sequence.{passed}
use Rattle.expression_parser.proofs.Steps.{from_first}
use Rattle.statement_parser.proofs.StatementParts as d
use Rattle.statement_parser.proofs.heads.start.Goals as goal

pub returns-then-is_word-clause-answer : goal.returns-then-is_word-clause-answer
returns-then-is_word-clause-answer c =
    let k = c.if-is_word.ensures.0 refl in
    passed _ _ (Stops whole) _ _ _ _ (d.start_decl ty.Int c.args.tokens.now _ _ c.front.ensures k)
    (from_first SpellsDecl (Stops whole) _ c.args.tokens.now _ _ _ c.front.ensures (passed _ _ (Stops whole) _ _ _ _ (d.decl_same _ ty.Int _ k) c.declaration.ensures.answer))

pub returns-then-is_word-2-clause-answer : goal.returns-then-is_word-2-clause-answer
returns-then-is_word-2-clause-answer c =
    let k = c.if-is_word-2.ensures.0 refl in
    passed _ _ (Stops whole) _ _ _ _ (d.start_decl ty.Bool c.args.tokens.now _ _ c.front.ensures k)
    (from_first SpellsDecl (Stops whole) _ c.args.tokens.now _ _ _ c.front.ensures (passed _ _ (Stops whole) _ _ _ _ (d.decl_same _ ty.Bool _ k) c.declaration-then-is_word-2.ensures.answer))

pub returns-clause-answer : goal.returns-clause-answer
returns-clause-answer c =
    passed _ _ (Stops whole) _ _ _ _ (d.start_change c.args.tokens.now _ _ c.front.ensures (λ h. cc (c.if-is_word.ensures.1 h)) (λ h. cc (c.if-is_word-2.ensures.1 h))) c.changed.ensures.answer
