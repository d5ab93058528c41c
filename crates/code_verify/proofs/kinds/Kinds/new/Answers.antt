use Rattle.std.proofs.Common.{ap, ◌∙◌}
use Rattle.code_verify.specs.Stacks.{known_in}
use Rattle.code_verify.proofs.Sharing.{known_none}
use Rattle.code_verify.proofs.kinds.Kinds.new.Goals as goal

pub returns : goal.returns
returns c = (c.empty-hand.ensures.is, ap (known_in c.in_ok-stacks.stacks) c.in_ok-places.ensures ∙ known_none c.in_ok-stacks.stacks c.args.places)
