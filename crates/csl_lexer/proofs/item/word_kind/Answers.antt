use Rattle.std.proofs.Common.{refl}
use Rattle.csl_lexer.specs.Tokens.{keyword, name}
use Rattle.csl_lexer.proofs.item.word_kind.Goals as goal

pub returns-in-Some : goal.returns-in-Some
returns-in-Some c = rw c.in-Some.ensures.found keyword

pub returns : goal.returns
returns c = rw c.in_ok-text.ensures (name (λ w. c.in_default.ensures.none refl w))
