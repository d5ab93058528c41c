use Rattle.std.proofs.Common.{sym, ap, subst, ◌∙◌}
use Rattle.progress_table.specs.Progress.{is_wanted_in}
use Rattle.progress_table.specs.Ring.{IsTable}
use Rattle.progress_table.proofs.Tables.{lower_table}
use Rattle.progress_table.proofs.table.ProgressTable.lower.Goals as goal

pub invariant_of-self : goal.invariant_of-self
invariant_of-self c =
    subst (λ b. IsTable (record { claims = c.self.inside.claims.items; done = c.self.inside.done.items; bound = b }) c.self.inside.next.items c.self.inside.prev.items c.self.inside.cursor)
    (sym c.min-self-inside.ensures)
    (lower_table _ c.self.inside.next.items c.self.inside.prev.items c.self.inside.cursor c.args.k c.self.invariant
    (λ j w. c.requires.unwanted j (ap (λ t. is_wanted_in t j) (sym c.self.view_is) ∙ w)))
