use Rattle.std.proofs.Common.{◌≡◌, ◌++◌, ◌+◌, ◌-◌, ◌<◌, ◌≤◌, ℕ, List, arith, ap, ◌∙◌, append_assoc}
use Rattle.std.specs.List.{flat_map, range_with_len}
use Rattle.std.specs.Fmt.{decimal}
use Rattle.program_gen.specs.Generated.{first_value, next_value, values}
use Rattle.program_gen.proofs.Ranges.{one_more}
use Rattle.program_gen.proofs.program.push_values.Invariants.{Written}
use Rattle.program_gen.proofs.program.push_values.Goals as goal

-- a word more
next : (number : ℕ) (initial now later : List ℕ) (i : ℕ) → i < 256 → Written number initial now i → later ≡ now ++ next_value number i → Written number initial later (i + 1)
next number initial now later i inside so_far more = record {
  least = omega arith;
  most = omega arith;
  text = one_more (next_value number) 1 (i - 1) (i + 1 - 1) i (initial ++ decimal (first_value number 0)) now later (omega (arith, so_far.least)) (omega (arith, so_far.least)) so_far.text more;
}

-- all words
last : (number : ℕ) (initial now : List ℕ) (i : ℕ) → 256 ≤ i → Written number initial now i → now ≡ initial ++ values number
unfolding values
last number initial now i end so_far =
    let all : i - 1 ≡ 255 = omega (arith, so_far.most) in
    so_far.text ∙ ap (λ n. (initial ++ decimal (first_value number 0)) ++ flat_map (next_value number) (range_with_len 1 n)) all
    ∙ append_assoc initial (decimal (first_value number 0)) (flat_map (next_value number) (range_with_len 1 255))

pub loop-i-preserved : goal.loop-i-preserved
loop-i-preserved c = next c.args.number c.args.text.now.items c.loop-i.text.items c.push_next.new.text.items c.loop-i.i c.loop-i-test.true c.loop-i.invariant c.in_ok-push_next.ensures

pub returns : goal.returns
returns c = last c.args.number c.args.text.now.items c.loop-i.text.items c.loop-i.i c.loop-i-test.false c.loop-i.invariant
