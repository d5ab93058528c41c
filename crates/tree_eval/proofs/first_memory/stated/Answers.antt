use Rattle.std.proofs.Common.{◌∙◌, rules, SFits, w64}
use Rattle.std.proofs.lemmas.Int.{to_z-of_z}
use Rattle.tree_eval.proofs.Starting.{stated_there, stated_none}
use Rattle.tree_eval.proofs.first_memory.stated.Goals as goal

pub returns-in-Some : goal.returns-in-Some
returns-in-Some c =
    let is = stated_there c.args.values.now c.args.at c.in-Some.value.now c.in-Some.ensures.lookup.3.0 c.in-Some.ensures.lookup.1 in
    let fits : SFits w64 c.in-Some.value.now.number = search rules in
    to_z-of_z w64 c.in-Some.value.now.number fits ∙ is

pub returns-in-None : goal.returns-in-None
returns-in-None c = stated_none c.args.values.now c.args.at c.in-None.ensures.lookup.3
