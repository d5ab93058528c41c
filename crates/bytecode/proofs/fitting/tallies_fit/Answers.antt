use Rattle.std.proofs.Common.{sym, ◌∙◌}
use Rattle.bytecode.proofs.Forms.{ascending_holds, ascending_tested}
use Rattle.bytecode.proofs.fitting.tallies_fit.Goals as goal

pub returns-then-counted_fit : goal.returns-then-counted_fit
returns-then-counted_fit c = (λ yes. (c.counted_fit.ensures.0 c.if-counted_fit.true, ascending_holds 0 c.args.tallies.now (sym c.are_ascending.ensures ∙ yes)), λ h. c.are_ascending.ensures ∙ ascending_tested 0 c.args.tallies.now h.1)
