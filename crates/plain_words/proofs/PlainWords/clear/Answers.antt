use Rattle.std.proofs.Common.{rules, ◌≡◌, ◌∙◌, List, ap, vec_len}
use Rattle.plain_words.specs.Own.{Own}
use Rattle.cal_base.specs.Entries.{own_from}
use Rattle.cal_base.proofs.Entries.{own_none}
use Rattle.std.specs.FinMap.{empty}
use Rattle.plain_words.proofs.PlainWords.clear.Goals as goal

pub returns : goal.returns
returns c =
    let none : own_from 0 c.fill.new.self.items ≡ empty = ap (λ (l : List _). own_from 0 l) (c.fill.ensures.items (search rules)) ∙ own_none (vec_len c.self.inside.own) 0 in
    rw none (ap (λ (w : Own). record w { written = empty }) c.self.view_is)
