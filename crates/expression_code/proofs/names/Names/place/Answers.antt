use Rattle.std.proofs.Common.{◌≡◌, length, sym, ap, ◌∙◌, arith}
use Rattle.std.specs.Prelude.{unwrap_or}
use Rattle.std.specs.Option.{option_copied}
use Rattle.compiled_code.specs.Values.{function_number}
use Rattle.type_check.specs.Places.{place_among}
use Rattle.expression_code.proofs.AreaLemmas.{number_within}
use Rattle.expression_code.proofs.names.Names.place.Goals as goal

pub returns-in-Some-clause-number : goal.returns-in-Some-clause-number
returns-in-Some-clause-number c =
    let all = length c.self.inside.program.now.functions in
    ap (λ r. unwrap_or (option_copied r) all) (sym c.in-Some.is)
    ∙ ap (λ o. unwrap_or o all) (c.get.ensures.value ∙ ap (place_among c.self.inside.functions) c.as_slice.ensures)
    ∙ c.self.invariant.functions c.args.name.now
    ∙ ap (λ p. function_number p.functions c.args.name.now) c.self.view_is

pub returns-in-None-clause-number : goal.returns-in-None-clause-number
returns-in-None-clause-number c =
    let all = length c.self.inside.program.now.functions in
    ap length c.as_slice-in-None.ensures
    ∙ ap (λ r. unwrap_or (option_copied r) all) (sym c.in-None.is)
    ∙ ap (λ o. unwrap_or o all) (c.get.ensures.value ∙ ap (place_among c.self.inside.functions) c.as_slice.ensures)
    ∙ c.self.invariant.functions c.args.name.now
    ∙ ap (λ p. function_number p.functions c.args.name.now) c.self.view_is

pub returns-in-Some-clause-few : goal.returns-in-Some-clause-few
returns-in-Some-clause-few c =
    let functions = c.self.inside.program.now.functions in
    let is : c.in-Some.place.now ≡ function_number functions c.args.name.now =
    ap (λ r. unwrap_or (option_copied r) (length functions)) (sym c.in-Some.is)
    ∙ ap (λ o. unwrap_or o (length functions)) (c.get.ensures.value ∙ ap (place_among c.self.inside.functions) c.as_slice.ensures)
    ∙ c.self.invariant.functions c.args.name.now in
    omega (arith, is, number_within functions c.args.name.now, c.self.invariant.few)

pub returns-in-None-clause-few : goal.returns-in-None-clause-few
returns-in-None-clause-few c = omega (arith, ap length c.as_slice-in-None.ensures, c.self.invariant.few)
