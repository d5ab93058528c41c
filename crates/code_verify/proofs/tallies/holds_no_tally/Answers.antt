use Rattle.std.proofs.Common.{subst, List}
use Rattle.std.specs.Prelude.{ℕ, ◌↔◌, IsTrue}
use Rattle.code_verify.specs.Tests.{HoldsTally}
use Rattle.code_verify.proofs.Lists.{no_tally}
use Rattle.code_verify.proofs.tallies.holds_no_tally.Goals as goal

pub returns : goal.returns
returns c = no_tally c.holds_tally.result c.args.m.now c.args.first c.args.count (subst (λ (l : List ℕ). IsTrue c.holds_tally.result ↔ HoldsTally l c.args.first c.args.count) c.as_slice.ensures
    c.holds_tally.ensures)
