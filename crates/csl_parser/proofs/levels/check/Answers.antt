use Rattle.std.proofs.Common.{◌≤◌, ap, arith}
use Rattle.csl_grammar.specs.Levels.{Nesting, behind, most_levels}
use Rattle.csl_parser.proofs.Depth.{keeps_deep, keeps_more, low_behind}
use Rattle.csl_parser.proofs.levels.check.Goals as goal

pub returns-then-level-gt-MOST_LEVELS : goal.returns-then-level-gt-MOST_LEVELS
returns-then-level-gt-MOST_LEVELS c =
    keeps_deep c.tokens.nesting c.tokens.rest.now c.args.tokens.now c.in-Some.token.now c.in-Some.left.now c.tokens.invariant.keeps c.in-Some.ensures.cases.0
    (omega (arith, c.if-level-gt-MOST_LEVELS.true, c.level.ensures, ap (λ (n : Nesting). n.level) c.in_ok-turn.ensures))

pub tokens-preserved : goal.tokens-preserved
tokens-preserved c =
    let low : (behind c.in-Some.token.now c.tokens.nesting).level ≤ most_levels = omega (arith, c.if-level-gt-MOST_LEVELS.false, c.level.ensures, ap (λ (n : Nesting). n.level) c.in_ok-turn.ensures) in
    rw c.in_ok-turn.ensures (record {
      low = low_behind c.in-Some.token.now c.tokens.nesting c.tokens.invariant.low low;
      keeps = keeps_more c.tokens.nesting c.tokens.rest.now c.args.tokens.now c.in-Some.token.now c.in-Some.left.now c.tokens.invariant.keeps c.in-Some.ensures.cases.0 low;
    })
