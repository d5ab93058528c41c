use Rattle.std.proofs.Common.{◌∙◌, ap, rules, SFits, w64}
use Rattle.std.proofs.lemmas.Int.{to_z-of_z}
use Rattle.cal_base.specs.Memory.{with_value}
use Rattle.statement_eval.proofs.Words.{with_value-there, with_value-none}
use Rattle.statement_eval.proofs.store.set_value.Goals as goal

pub returns-in-None : goal.returns-in-None
returns-in-None c = with_value-none _ _ _ c.in-None.ensures.value

pub returns : goal.returns
returns c =
    let fits : SFits w64 c.args.value = search rules in
    c.set.ensures ∙ with_value-there _ _ _ c.in-Some.word.now c.in-Some.ensures.value
    ∙ ap (λ v. with_value c.args.memory.now c.args.address v) (to_z-of_z w64 c.args.value fits)
