use Rattle.std.proofs.Common.{subst, List}
use Rattle.std.specs.Prelude.{ℕ, ◌↔◌, IsTrue}
use Rattle.code_verify.specs.Tests.{HoldsTally}
use Rattle.code_verify.proofs.Lists.{one_tally}
use Rattle.code_verify.proofs.tallies.is_tally.Goals as goal

pub returns : goal.returns
returns c = one_tally c.holds_tally.result c.args.m.now.tallies c.args.word (subst (λ (l : List ℕ). IsTrue c.holds_tally.result ↔ HoldsTally l c.args.word 1) c.as_slice.ensures c.holds_tally.ensures)
