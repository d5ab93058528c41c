use Rattle.std.proofs.Common.{◌≡◌, sym, ◌∙◌, ap, arith}
use Rattle.step_board.specs.Amounts.{Amounts}
use Rattle.step_board.proofs.Counting.{few_claims, all_arrivals, ends_tell}
use Rattle.step_board.proofs.board.Board.unwrap.Goals as goal

pub returns-clause-few : goal.returns-clause-few
returns-clause-few g c =
    let seen = c.shares.view_is in
    let claims : c.self.inside.claims.total ≡ c.args.shares.claims = sym (c.audit.ensures.whole (ap (λ (a : Amounts). a.parts) seen ∙ c.requires.0)) ∙ ap (λ (a : Amounts). a.claims) seen in
    let few = few_claims c.self.invariant c.history-legal.ensures.legal in
    omega (arith, few, claims)

pub returns-clause-full : goal.returns-clause-full
returns-clause-full g c = λ past.
    let seen = c.shares.view_is in
    let parts = ap (λ (a : Amounts). a.parts) seen in
    let arrivals : c.self.inside.arrivals.total ≡ c.args.shares.arrivals = sym (c.audit-2.ensures.whole (c.shares.invariant.1 ∙ (parts ∙ c.requires.1))) ∙ ap (λ (a : Amounts). a.arrivals) seen in
    let held : c.self.inside.held.total ≡ c.args.shares.held = sym (c.audit-3.ensures.whole (c.shares.invariant.2 ∙ (parts ∙ c.requires.2))) ∙ ap (λ (a : Amounts). a.held) seen in
    all_arrivals c.self.invariant c.history-legal.ensures.legal (omega (arith, past, arrivals, held))

pub returns-clause-ends : goal.returns-clause-ends
returns-clause-ends g c = λ some.
    let seen = c.shares.view_is in
    let ends : c.self.inside.ends.total ≡ c.args.shares.ends = sym (c.audit-4.ensures.whole (c.shares.invariant.3 ∙ (ap (λ (a : Amounts). a.parts) seen ∙ c.requires.3)))
    ∙ ap (λ (a : Amounts). a.ends) seen in
    ends_tell c.self.invariant c.history-legal.ensures.legal (omega (arith, some, ends))
