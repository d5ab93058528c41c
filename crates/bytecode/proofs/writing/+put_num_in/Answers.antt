use Rattle.std.proofs.Common.{◌≡◌, ◌-◌, ◌+◌, ◌/◌, ◌%◌, ◌∷◌, arith}
use Rattle.std.proofs.lemmas.Grind.{common_steps}
use Rattle.bytecode.specs.Spelling.{num_in}
use Rattle.bytecode.proofs.Numbers.{num_in_more}
use Rattle.bytecode.proofs.writing.+put_num_in.Goals as goal

pub returns : goal.returns
returns t c =
    let more : num_in c.args.most c.args.n ≡ (128 + c.args.n % 128) ∷ num_in (c.args.most - 1) (c.args.n / 128) = num_in_more c.args.most c.args.n (omega arith) (omega arith) in
    rw more (grind (arith, common_steps))
