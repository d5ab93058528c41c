use Rattle.std.proofs.Common.{sym}
use Rattle.decimal_number.proofs.Numerals.{numeral_is_text}
use Rattle.decimal_number.proofs.number_between.Goals as goal

pub returns-in-Err : goal.returns-in-Err
returns-in-Err c = absurd (c.in-Err.ensures.cases.0 (numeral_is_text c.args.text.now (sym c.if-not-is_numeral.ensures)))
