use Rattle.std.proofs.Common.{sym, ap, subst, ◌∙◌, ℕ, List, Option, Some}
use Rattle.code_verify.specs.Stacks.{AreHeld, known_in}
use Rattle.code_verify.proofs.Sharing.{expects_known, expects_new, held_put}
use Rattle.code_verify.proofs.kinds.Kinds.expect.Goals as goal

pub returns-in-Some-Some-clause-known : goal.returns-in-Some-Some-clause-known
returns-in-Some-Some-clause-known c = expects_known c.self.inside.stacks c.self.inside.hand c.self.inside.places c.args.self.now c.self.view_is c.args.to c.is_same.result c.in-Some-Some.known
    (sym c.in-Some-Some.ensures.value ∙ ap (λ (o : Option ℕ). Some o) c.in-Some-Some.field-0-is) c.is_same.ensures

pub invariant_of-self : goal.invariant_of-self
invariant_of-self c = subst (λ (l : List (Option ℕ)). AreHeld c.self.inside.stacks c.self.inside.hand l) (sym c.set.ensures)
    (held_put c.self.inside.stacks c.self.inside.hand c.self.inside.hand c.self.inside.places c.args.to c.self.invariant c.self.invariant.at_hand)

pub returns-clause-known : goal.returns-clause-known
returns-clause-known c = expects_new c.self.inside.stacks c.self.inside.hand c.self.inside.places c.args.self.now c.self.view_is c.args.to
    (sym c.in-Some-None.ensures.value ∙ ap (λ (o : Option ℕ). Some o) c.in-Some-None.field-0-is) ∙ ap (λ (l : List (Option ℕ)). Some (known_in c.self.inside.stacks l)) (sym c.set.ensures)
