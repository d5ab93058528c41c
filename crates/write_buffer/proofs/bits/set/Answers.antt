use Rattle.std.proofs.Common.{◌/◌, ◌%◌, ◌*◌, ◌^◌, bit_or, ap, ◌∙◌, arith, set}
use Rattle.std.proofs.lemmas.List.{get_or_default}
use Rattle.write_buffer.specs.Bits.{with_mark}
use Rattle.write_buffer.proofs.bits.set.Goals as goal

pub returns : goal.returns
unfolding with_mark
returns c =
    let masks = c.args.masks.now.items in
    let p = c.args.a / 64 in
    ap (λ m. set masks p (bit_or m (1 * 2 ^ (c.args.a % 64) % 2 ^ 64)))
    (c.index.ensures ∙ get_or_default masks p c.index.result.now 0 (omega (arith, c.requires, c.args.masks.now.ok.0)))
