use Rattle.std.proofs.Common.{refl, rules, w64, SFits, ℤ, pos, take, subst, arith}
use Rattle.csl_lexer.specs.Tokens.{value_of}
use Rattle.std.proofs.lemmas.Int.{to_z-of_z}
use Rattle.csl_lexer.proofs.Steps.{takes_number, large_number}
use Rattle.csl_lexer.proofs.item.number.Goals as goal

pub returns-in-Some : goal.returns-in-Some
returns-in-Some c =
    let fits : SFits w64 c.in-Some.number = search rules in
    let same = to_z-of_z w64 c.in-Some.number fits in
    let small : SFits w64 (pos (value_of (take c.run_length-length.result c.args.bytes.now))) = subst (λ (z : ℤ). SFits w64 z) c.in-Some.ensures.found fits in
    rw (same, c.in-Some.ensures.found) (takes_number c.args.at c.args.bytes.now c.run_length-length.result c.requires.some c.requires.digit c.run_length-length.ensures.within
    c.run_length-length.ensures.all c.run_length-length.ensures.stops (omega (arith, small.sfits)))

pub returns-in-None : goal.returns-in-None
returns-in-None c real = large_number c.args.at c.args.bytes.now c.run_length-length.result c.requires.some c.requires.digit c.run_length-length.ensures.all c.run_length-length.ensures.stops
    (c.in-None.ensures.none refl)
