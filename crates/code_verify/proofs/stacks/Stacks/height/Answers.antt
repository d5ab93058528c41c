use Rattle.std.proofs.Common.{sym, ap, length}
use Rattle.code_verify.specs.Kinds.{Kinds}
use Rattle.code_verify.proofs.Sharing.{none_at, height_at}
use Rattle.code_verify.proofs.stacks.Stacks.height.Goals as goal

pub returns-in-None : goal.returns-in-None
returns-in-None c = sym (ap (λ (ks : Kinds). length ks) (none_at c.self.inside.nodes c.args.self.now c.self.view_is c.args.at (sym c.in-None.ensures.value)))

pub returns-in-Some : goal.returns-in-Some
returns-in-Some c = height_at c.self.inside.nodes c.args.self.now c.self.view_is c.args.at c.self.invariant c.in-Some.node.now (sym c.in-Some.ensures.value)
