use Rattle.std.proofs.Common.{◌<◌, length, sym, ap, ◌∙◌, subst}
use Rattle.progress_table.specs.Progress.{is_wanted_in}
use Rattle.progress_table.proofs.Tables.{mark_table}
use Rattle.progress_table.proofs.table.ProgressTable.mark.Goals as goal

pub invariant_of-self : goal.invariant_of-self
invariant_of-self c =
    mark_table _ c.self.inside.next.items c.self.inside.prev.items c.self.inside.cursor c.args.k c.self.invariant
    (ap (λ t. is_wanted_in t c.args.k) c.self.view_is ∙ c.requires.unwanted)
    (subst (λ t. c.args.k < length t.claims) (sym c.self.view_is) c.requires.in_range)
