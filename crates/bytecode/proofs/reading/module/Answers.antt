use Rattle.std.proofs.Common.{◌≡◌, true, map, length, eqb, refl}
use Rattle.std.specs.Prelude.{ℕ, ℤ}
use Rattle.bytecode.specs.Reading.{module_of, are_ascending_from}
use Rattle.bytecode.proofs.reading.module.Goals as goal

pub returns-then-is_empty : goal.returns-then-is_empty
unfolding module_of
returns-then-is_empty c =
    let up : are_ascending_from 0 c.in_ok-tallies.tallies ≡ true = cc (c.are_ascending.ensures, c.as_slice.ensures, c.if-are_ascending.true, c.if-are_ascending.ensures) in
    let up_too : are_ascending_from 0 (map (λ (e : ℕ × ℤ). e.0) c.in_ok-initial.initial) ≡ true = cc
    (c.have_ascending.ensures, c.as_slice-then-are_ascending.ensures, c.if-have_ascending.true, c.if-have_ascending.ensures) in
    let whole : eqb (length c.in_ok-main.rest.now) 0 ≡ true = cc (c.is_empty.ensures, c.if-is_empty.true, c.if-is_empty.ensures) in
    rw (c.in_ok-rest.ensures, c.in_ok-words.ensures, c.in_ok-tallies.ensures, c.in_ok-initial.ensures, c.in_ok-texts.ensures, c.in_ok-functions.ensures, c.in_ok-blocks.ensures, c.in_ok-main.ensures, up, up_too, whole) refl
