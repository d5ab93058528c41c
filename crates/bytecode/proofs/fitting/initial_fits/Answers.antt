use Rattle.std.proofs.Common.{sym, ◌∙◌, map, ℕ}
use Rattle.std.specs.Prelude.{ℤ}
use Rattle.bytecode.proofs.Forms.{ascending_holds, ascending_tested}
use Rattle.bytecode.proofs.fitting.initial_fits.Goals as goal

pub returns-then-counted_fit : goal.returns-then-counted_fit
returns-then-counted_fit c = (λ yes. (c.counted_fit.ensures.0 c.if-counted_fit.true, ascending_holds 0 (map (λ (e : ℕ × ℤ). e.0) c.args.initial_words.now) (sym c.have_ascending.ensures ∙ yes)), λ h. c.have_ascending.ensures ∙ ascending_tested 0 (map (λ (e : ℕ × ℤ). e.0) c.args.initial_words.now) h.1)
