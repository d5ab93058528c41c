use Rattle.std.proofs.Common.{◌≡◌, sym, ap, subst, ◌∙◌, ◌^◌, rules, SFits, w64, cond, Some}
use Rattle.std.proofs.lemmas.Int.{to_z-of_z}
use Rattle.std.specs.FinMap.{insert, from_entries}
use Rattle.std.specs.Map.{lookup}
use Rattle.std.specs.BTreeMap.{is_at}
use Rattle.std.specs.Ordering.{nat_cmp, is_eq}
use Rattle.cal_base.specs.Updates.{Written, IsBelow}
use Rattle.cal_base.proofs.Updates.{put_is, put_below}
use Rattle.cal_base.proofs.update.KeptUpdate.put.Goals as goal

put_in_tree : (c : goal.In_ok-insert) → from_entries {R = nat_cmp} c.insert.new.self.entries ≡ insert (from_entries c.self.inside.words.entries) c.args.a c.args.v
put_in_tree c =
    let fits : SFits w64 c.args.v = search rules in
    put_is c.self.inside.words.entries c.insert.new.self.entries c.args.a c.args.v
    (λ q. c.in_ok-insert.ensures.updates.0 q
    ∙ ap (λ v. cond (is_eq (nat_cmp c.args.a q)) (Some v) (lookup (is_at (nat_cmp q)) c.self.inside.words.entries)) (to_z-of_z w64 c.args.v fits))

pub returns-clause-put : goal.returns-clause-put
returns-clause-put c = put_in_tree c ∙ ap (λ u. insert u c.args.a c.args.v) c.self.view_is

pub invariant_of-self-2 : goal.invariant_of-self-2
invariant_of-self-2 c =
    subst (λ (u : Written). IsBelow (2 ^ 32) u) (sym (put_in_tree c)) (put_below (2 ^ 32) (from_entries c.self.inside.words.entries) c.args.a c.args.v c.self.invariant c.ranges.a.fits)
