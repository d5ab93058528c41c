use Rattle.std.proofs.Common.{◌≡◌, ℕ, Option, false, sym, ap, ◌∙◌}
use Rattle.shared_pages.specs.Kept.{version_at}
use Rattle.shared_pages.specs.Cached.{is_same_version}
use Rattle.shared_pages.proofs.Held.{kept_absent, kept_otherwise}
use Rattle.shared_pages.proofs.holding.current.Goals as goal

pub returns-in-None : goal.returns-in-None
returns-in-None c = kept_absent c.args.shelf.now.kept c.args.p c.args.version c.in-None.ensures

pub returns-else-is_same : goal.returns-else-is_same
returns-else-is_same c =
    let other : is_same_version (version_at c.args.shelf.now.kept c.in-Some.i) c.args.version ≡ false =
    ap (λ (v : Option ℕ). is_same_version v c.args.version) (sym c.version.ensures) ∙ sym c.is_same.ensures ∙ c.if-is_same.false
    in
    kept_otherwise c.args.shelf.now.kept c.args.p c.args.version c.in-Some.i c.in-Some.ensures other
