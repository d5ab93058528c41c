use Rattle.std.proofs.Common.{rules}
use Rattle.expression_code.proofs.Codes.{kind_paren}
use Rattle.expression_code.proofs.values.+kind_in.Goals as goal

pub returns-in-Paren : goal.returns-in-Paren
returns-in-Paren t c = rw (kind_paren _ _ _ _ c.in-Paren.is) (search rules)
