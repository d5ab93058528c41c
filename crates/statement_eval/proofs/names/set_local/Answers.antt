use Rattle.std.proofs.Common.{◌∙◌, ◌≡◌, ◌<◌, ap, subst, arith, rules, true, length, set, get_or}
use Rattle.std.specs.Str.{bytes_eq}
use Rattle.csl_meaning.specs.Locals.{Locals}
use Rattle.statement_eval.proofs.Words.{set_local-there}
use Rattle.statement_eval.proofs.names.set_local.Goals as goal

pub returns-then-same_text : goal.returns-then-same_text
returns-then-same_text c =
    let x = c.index-as_slice-at.result in
    let within : c.loop-at.at < length c.loop-at.all = omega (arith, ap length c.loop-at.invariant.same) in
    let same : bytes_eq x.name c.args.name.now ≡ true = search rules in
    c.set.ensures
    ∙ ap (λ n. set c.loop-at.all c.loop-at.at (record { name = n; value = c.args.value })) (c.in_ok-name.ensures ∙ c.as_slice-then-same_text.ensures)
    ∙ set_local-there c.loop-at.all c.loop-at.at x c.args.name.now c.args.value within (subst (λ (l : Locals). x ≡ get_or l c.loop-at.at x) c.as_slice.ensures c.index-as_slice-at.is) same
    ∙ c.loop-at.invariant.rest
