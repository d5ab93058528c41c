use Rattle.std.proofs.Common.{◌<◌, length, ap, rules, SFits, w64, arith}
use Rattle.std.specs.FinMap.{insert}
use Rattle.std.proofs.lemmas.Int.{to_z-of_z}
use Rattle.plain_words.specs.Own.{Own}
use Rattle.cal_base.proofs.Entries.{own_put}
use Rattle.plain_words.proofs.PlainWords.put.Goals as goal

pub returns : goal.returns
returns c =
    let fits : SFits w64 c.args.v = search rules in
    let same = ap (λ (w : Own). length w.opening) c.self.view_is in
    let within : c.args.a < length c.self.inside.own.items = omega (arith, c.requires, same, c.self.invariant.0) in
    rw (to_z-of_z w64 c.args.v fits, own_put c.self.inside.own.items c.args.a c.args.v within) (ap (λ (w : Own). record w { written = insert w.written c.args.a c.args.v }) c.self.view_is)
