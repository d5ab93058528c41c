use Rattle.csl_lexer.proofs.Shape.{lists_end, places_ascend}
use Rattle.csl_lexer.proofs.token_lists.Goals as goal

pub returns-clause-end : goal.returns-clause-end
returns-clause-end c = lists_end

pub returns-clause-places : goal.returns-clause-places
returns-clause-places c = places_ascend
