use Rattle.std.proofs.Common.{sym}
use Rattle.code_verify.proofs.Sharing.{none_at, root_at, split_at}
use Rattle.code_verify.proofs.stacks.Stacks.split.Goals as goal

pub returns-in-None : goal.returns-in-None
returns-in-None c = none_at c.self.inside.nodes c.args.self.now c.self.view_is c.args.at (sym c.in-None.ensures.value)

pub returns-in-None-top : goal.returns-in-None-top
returns-in-None-top c = root_at c.self.inside.nodes c.args.self.now c.self.view_is c.args.at c.self.invariant c.in-Some.node.now (sym c.in-Some.ensures.value) c.in-None-top.is

pub returns-in-Some-top : goal.returns-in-Some-top
returns-in-Some-top c = split_at c.self.inside.nodes c.args.self.now c.self.view_is c.args.at c.self.invariant c.in-Some.node.now (sym c.in-Some.ensures.value) c.in-Some-top.kind c.in-Some-top.is
