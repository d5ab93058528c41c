use Rattle.std.proofs.Common.{◌≡◌, length, replicate, pos, false, ap, arith, rules}
use Rattle.std.proofs.lemmas.List.{length-map}
use Rattle.cal_base.specs.declared.step.Word.{Word}
use Rattle.step_merge.proofs.Making.{made_empty}
use Rattle.step_merge.proofs.stage.Stage.make.Goals as goal

pub returns-clause-empty : goal.returns-clause-empty
returns-clause-empty c =
    let laid : c.in_ok-vec.field-0.items ≡ replicate c.args.n false = search rules in
    let owners : c.in_ok-vec-2.field-0.items ≡ replicate c.len-words.result c.args.n = search rules in
    let values : c.in_ok-vec-3.field-0.items ≡ replicate c.len-words.result (pos 0) = search rules in
    rw (laid, owners, values)
    (made_empty c.in_ok-kinds.kinds.items c.len-words.result c.args.n
    (omega (arith, ap (λ l. length l) c.in_ok-kinds.ensures.items, ap (λ l. length l) c.kinds.ensures, length-map c.args.image.now.memory (λ (w : Word). w.kind))))
