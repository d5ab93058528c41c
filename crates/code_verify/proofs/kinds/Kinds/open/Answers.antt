use Rattle.std.proofs.Common.{sym, ap, ◌∙◌, ℕ, Option, Some}
use Rattle.code_verify.specs.Stacks.{known_in}
use Rattle.code_verify.proofs.Sharing.{opens_new}
use Rattle.code_verify.proofs.kinds.Kinds.open.Goals as goal

pub returns-in-Some-None-clause-known : goal.returns-in-Some-None-clause-known
returns-in-Some-None-clause-known c = ap (known_in c.self.inside.stacks) c.set.ensures ∙ opens_new c.self.inside.stacks c.self.inside.hand c.self.inside.places c.args.self.now c.self.view_is
    c.args.place c.empty-self-inside.result c.empty-self-inside.ensures.is (sym c.in-Some-None.ensures.value ∙ ap (λ (o : Option ℕ). Some o) c.in-Some-None.field-0-is)
