use Rattle.std.proofs.Common.{ap, ◌∙◌}
use Rattle.code_verify.specs.Stacks.{Held}
use Rattle.code_verify.proofs.Sharing.{known_kept}
use Rattle.code_verify.proofs.kinds.Kinds.push.Goals as goal

pub returns-in_err-self-inside-clause-known : goal.returns-in_err-self-inside-clause-known
returns-in_err-self-inside-clause-known c = known_kept c.self.inside.stacks c.push.new.self c.push.ensures.keeps c.self.inside.places c.self.invariant.at_places
    ∙ ap (λ (h : Held). h.known) c.self.view_is

pub returns-clause-known : goal.returns-clause-known
returns-clause-known c = known_kept c.self.inside.stacks c.push.new.self c.push.ensures.keeps c.self.inside.places c.self.invariant.at_places ∙ ap (λ (h : Held). h.known) c.self.view_is
