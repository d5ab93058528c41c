use Rattle.std.proofs.Common.{sym, ap, ◌∙◌}
use Rattle.std.proofs.Math.ListN.{drop_of_length-le}
use Rattle.fault_script.specs.Scripts.{are_apart}
use Rattle.fault_script.proofs.ScriptParts.{apart_from}
use Rattle.fault_script.proofs.values.are_apart.Goals as goal

pub returns-clause-apart : goal.returns-clause-apart
returns-clause-apart c _ = apart_from c.args.some.now c.args.others.now
    (sym c.loop-number.invariant ∙ ap (λ l. are_apart l c.args.others.now) (drop_of_length-le c.args.some.now c.loop-number-test.false))
