use Rattle.std.proofs.Common.{◌≡◌, ◌∙◌, ◌+◌, ◌-◌, ℕ, suc, [], ◌∷◌, ◌++◌, Option, Some, None, map, ap, sym, subst, arith, rules, w64}
use Rattle.std.specs.Prelude.{IsSome, pos}
use Rattle.std.proofs.lemmas.Int.{to_z-of_z}
use Rattle.std.proofs.lemmas.List.Sums.{sum_by-cons}
use Rattle.machine_meaning.specs.Machine.{many_numbers}
use Rattle.routine_vm.specs.Events.{WidthBeside}
use Rattle.routine_vm.proofs.Taken.{with_more, more_there, more_more, some_of, numbers_last, good_widths, bad_widths}
use Rattle.routine_vm.proofs.taking.take_widths.Goals as goal

pub returns-in-None-clause-widths : goal.returns-in-None-clause-widths
returns-in-None-clause-widths c =
    let i = c.loop.invariant in
    let ops = c.loop.operands in
    let z = c.number.result in
    let left = c.args.count - (c.loop.counter + 1) in
    let one : c.args.count - c.loop.counter ≡ suc left = omega (arith, c.loop-test.true) in
    let e = ap (λ (n : ℕ). many_numbers n ops) one ∙ numbers_last left ops c.number.new.self z c.number.ensures in
    let there = more_there (z ∷ []) (many_numbers left c.number.new.self) (subst (λ (o : Option _). IsSome o) e i.there) in
    let y = some_of (many_numbers left c.number.new.self) there in
    let bad : WidthBeside c.loop.total z None = rw (to_z-of_z w64 z (search rules)) at c.in-None.ensures in (
      (y.0.0 ++ z ∷ map pos c.loop.widths, y.0.1),
      i.behind ∙ ap (λ (o : Option _). with_more (map pos c.loop.widths) o) e ∙ more_more z (map pos c.loop.widths) (many_numbers left c.number.new.self)
          ∙ ap (λ (o : Option _). with_more (z ∷ map pos c.loop.widths) o) y.1,
      bad_widths y.0.0 z c.loop.widths (subst (λ (n : ℕ). WidthBeside n z None) i.total bad),
    )

pub loop-preserved : goal.loop-preserved
loop-preserved c =
    let i = c.loop.invariant in
    let ops = c.loop.operands in
    let z = c.number.result in
    let left = c.args.count - (c.loop.counter + 1) in
    let one : c.args.count - c.loop.counter ≡ suc left = omega (arith, c.loop-test.true) in
    let e = ap (λ (n : ℕ). many_numbers n ops) one ∙ numbers_last left ops c.number.new.self z c.number.ensures in
    let good : WidthBeside c.loop.total z (Some c.in-Some.width) = rw (to_z-of_z w64 z (search rules)) at c.in-Some.ensures in
    let more = sum_by-cons (λ x. x) c.in-Some.width c.loop.widths in
    record {
      there = more_there (z ∷ []) (many_numbers left c.number.new.self) (subst (λ (o : Option _). IsSome o) e i.there);
      behind = rw c.put.ensures (rw (sym good.0) (i.behind ∙ ap (λ (o : Option _). with_more (map pos c.loop.widths) o) e ∙ more_more z (map pos c.loop.widths) (many_numbers left c.number.new.self)));
      total = rw c.put.ensures (omega (arith, i.total, more));
      bound = good.1;
      long = rw c.put.ensures (omega (arith, i.long));
    }

pub returns-clause-widths : goal.returns-clause-widths
returns-clause-widths c =
    let i = c.loop.invariant in
    let none : c.args.count - c.loop.counter ≡ 0 = omega (arith, c.loop-test.false) in
    (i.behind ∙ ap (λ (n : ℕ). with_more (map pos c.loop.widths) (many_numbers n c.loop.operands)) none, good_widths c.loop.widths (omega (arith, i.total, i.bound)), i.total)
