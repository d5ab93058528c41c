use Rattle.std.proofs.Common.{sym, ap, ◌∙◌, ℕ, Option, Some}
use Rattle.code_verify.proofs.Sharing.{looped_known, looped_new, looped_past}
use Rattle.code_verify.proofs.kinds.Kinds.are_at.Goals as goal

pub returns-in-Some-Some : goal.returns-in-Some-Some
returns-in-Some-Some c = looped_known c.self.inside.stacks c.self.inside.hand c.self.inside.places c.args.self.now c.self.view_is c.args.place c.is_same.result c.in-Some-Some.known
    (sym c.in-Some-Some.ensures.value ∙ ap (λ (o : Option ℕ). Some o) c.in-Some-Some.field-0-is) c.is_same.ensures

pub returns-in-Some-None : goal.returns-in-Some-None
returns-in-Some-None c = looped_new c.self.inside.stacks c.self.inside.hand c.self.inside.places c.args.self.now c.self.view_is c.args.place
    (sym c.in-Some-None.ensures.value ∙ ap (λ (o : Option ℕ). Some o) c.in-Some-None.field-0-is)

pub returns-in-None : goal.returns-in-None
returns-in-None c = looped_past c.self.inside.stacks c.self.inside.hand c.self.inside.places c.args.self.now c.self.view_is c.args.place (sym c.in-None.ensures.value)
