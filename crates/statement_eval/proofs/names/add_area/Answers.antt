use Rattle.std.proofs.Common.{◌≡◌, ap, sym, ◌∙◌, cond, Some, is_some, true, false}
use Rattle.std.specs.Map.{lookup}
use Rattle.std.specs.Str.{bytes_eq}
use Rattle.type_check.proofs.PlaceLemmas.{named, lookup-inserted}
use Rattle.statement_eval.specs.Areas.{area_among}
use Rattle.statement_eval.proofs.AreaLemmas.{kept, added, none_is, copied-is_some}
use Rattle.statement_eval.proofs.names.add_area.Goals as goal

pub returns-then-is_some : goal.returns-then-is_some
returns-then-is_some c =
    let old = area_among c.args.areas.now in
    let there : is_some (old c.args.name.now) ≡ true =
    ap (λ n. is_some (old n)) (sym c.as_slice.ensures) ∙ ap is_some (sym c.get.ensures.value) ∙ copied-is_some _ ∙ sym c.is_some.ensures ∙ c.if-is_some.true in
    λ other. kept old c.args.name.now other c.args.area there

pub returns : goal.returns
returns c =
    let old = area_among c.args.areas.now in
    let same = c.in_ok-key.ensures.items ∙ c.as_slice-2.ensures in
    let absent : is_some (old c.args.name.now) ≡ false =
    ap (λ n. is_some (old n)) (sym c.as_slice.ensures) ∙ ap is_some (sym c.get.ensures.value) ∙ copied-is_some _ ∙ sym c.is_some.ensures ∙ c.if-is_some.false in
    λ other.
    added old (area_among c.insert.new.self) c.args.name.now other c.args.area (none_is _ absent)
    (ap (lookup (named other)) c.in_ok-insert.ensures.entries
    ∙ lookup-inserted c.args.areas.now.entries c.in_ok-key.key c.args.area other
    ∙ ap (λ n. cond (bytes_eq n other) (Some c.args.area) (old other)) same)
