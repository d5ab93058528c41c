use Rattle.std.proofs.Common.{sym, ap, ◌∙◌}
use Rattle.std.specs.Prelude.{slice_get}
use Rattle.std.specs.Option.{option_copied}
use Rattle.compiled_code.specs.Sizes.{given_by}
use Rattle.compiled_code.specs.Values.{function_number}
use Rattle.expression_code.proofs.AreaLemmas.{given_at}
use Rattle.expression_code.proofs.names.Names.gives.Goals as goal

pub returns-in-Some : goal.returns-in-Some
returns-in-Some c =
    ap (λ r. given_by (option_copied r)) (sym c.in-Some.is)
    ∙ ap given_by c.get.ensures.value
    ∙ ap (λ k. given_by (slice_get c.self.inside.program.now.functions k)) c.place.ensures.number
    ∙ ap (λ p. given_by (slice_get p.functions (function_number c.args.self.now.functions c.args.name.now))) c.self.view_is
    ∙ given_at c.args.self.now.functions c.args.name.now

pub returns-in-None : goal.returns-in-None
returns-in-None c =
    ap (λ r. given_by (option_copied r)) (sym c.in-None.is)
    ∙ ap given_by c.get.ensures.value
    ∙ ap (λ k. given_by (slice_get c.self.inside.program.now.functions k)) c.place.ensures.number
    ∙ ap (λ p. given_by (slice_get p.functions (function_number c.args.self.now.functions c.args.name.now))) c.self.view_is
    ∙ given_at c.args.self.now.functions c.args.name.now
