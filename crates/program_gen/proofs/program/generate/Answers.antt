use Rattle.std.specs.Prelude.{ℕ, ◌≤◌, ◌≡◌, List, [], ◌++◌, length}
use Rattle.std.proofs.Common.{ap, sym, subst, ◌∙◌}
use Rattle.program_gen.specs.Generated.{head, middle, tail, values, steps, generated}
use Rattle.program_gen.proofs.Ranges.{five}
use Rattle.program_gen.proofs.Sizes.{program_short}
use Rattle.program_gen.proofs.program.generate.Goals as goal

-- the pieces, one behind another
whole : (number size : ℕ) (start first second third fourth fifth : List ℕ) → start ≡ [] → first ≡ start ++ head → second ≡ first ++ values number → third ≡ second ++ middle
    → fourth ≡ third ++ steps number size → fifth ≡ fourth ++ tail → fifth ≡ generated number size
unfolding generated
whole number size start first second third fourth fifth empty one two three four last =
    five start head (values number) middle (steps number size) tail first second third fourth fifth one two three four last
    ∙ ap (λ t. t ++ (head ++ values number ++ middle ++ steps number size ++ tail)) empty

-- the whole text is no longer than a program may be
short : (number size : ℕ) (text : List ℕ) → text ≡ generated number size → size ≤ 4096 → length text ≤ 1048576
short number size text is most = subst (λ t. length t ≤ 1048576) (sym is) (program_short number size most)

pub returns-clause-text : goal.returns-clause-text
returns-clause-text c =
    whole c.args.number c.args.size c.new-text.result.items _ _ _ _ _ c.new-text.ensures.items
    c.in_ok-extend_from_slice.ensures.items c.in_ok-push_values.ensures c.in_ok-extend_from_slice-2.ensures.items c.in_ok-push_steps.ensures c.in_ok-extend_from_slice-3.ensures.items

pub returns-clause-fits : goal.returns-clause-fits
returns-clause-fits c = short c.args.number c.args.size _
    (whole c.args.number c.args.size c.new-text.result.items _ _ _ _ _ c.new-text.ensures.items
    c.in_ok-extend_from_slice.ensures.items c.in_ok-push_values.ensures c.in_ok-extend_from_slice-2.ensures.items c.in_ok-push_steps.ensures c.in_ok-extend_from_slice-3.ensures.items)
