use Rattle.std.proofs.Common.{arith}
use Rattle.decimal_number.proofs.Numerals.{too_large}
use Rattle.decimal_number.proofs.parsed_between.Goals as goal

pub returns-in-Err : goal.returns-in-Err
returns-in-Err c =
    too_large c.args.least c.args.most c.args.digits.now (omega arith) c.requires c.in-Err.ensures.value.0
