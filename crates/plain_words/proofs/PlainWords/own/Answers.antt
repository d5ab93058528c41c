use Rattle.std.proofs.Common.{◌∙◌, ◌<◌, length, None, sym, ap, arith}
use Rattle.std.specs.FinMap.{get}
use Rattle.plain_words.specs.Own.{Own}
use Rattle.cal_base.proofs.Entries.{get_own, same_default}
use Rattle.plain_words.proofs.PlainWords.own.Goals as goal

pub returns : goal.returns
returns c =
    let same = ap (λ (w : Own). length w.opening) c.self.view_is in
    let within : c.args.a < length c.self.inside.own.items = omega (arith, c.requires, same, c.self.invariant.0) in
    c.index.ensures
    ∙ same_default c.self.inside.own.items c.args.a c.index.result.now None within
    ∙ sym (get_own c.self.inside.own.items c.args.a)
    ∙ ap (λ (w : Own). get w.written c.args.a) c.self.view_is
