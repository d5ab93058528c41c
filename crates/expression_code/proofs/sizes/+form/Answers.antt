use Rattle.std.proofs.Common.{◌≡◌, ℕ, ◌+◌, List, ◌∷◌, ◌++◌, Option, length, rules, arith, ◌∙◌, ap, sym, subst, take, refl, append_assoc}
use Rattle.csl_tree.specs.declared.program.Stmt.{Stmt}
use Rattle.csl_tree.specs.declared.program.Arm.{Arm}
use Rattle.csl_tree.specs.declared.program.Form.TheViews.{the_lemmas}
use Rattle.compiled_code.specs.Sizes.{kinds_in, widths_size}
use Rattle.compiled_code.specs.Places.{slots_after}
use Rattle.expression_code.specs.Scopes.{Scoped}
use Rattle.expression_code.specs.Counts.{IsSmall}
use Rattle.expression_code.specs.Lists.{kinds_of, kinds_of_arms, statements_size, all_arms_size, last_block_size}
use Rattle.expression_code.specs.Asked.{asked, asked_inside, asked_by_arms, asked_by_last}
use Rattle.expression_code.proofs.AskedLemmas.{asked_while, asked_block, asked_if_parts, asked_for_parts, filled}
use Rattle.expression_code.proofs.ListLemmas.{appended}
use Rattle.expression_code.proofs.RowLemmas.{block_ends, count_if, kinds_while, count_for, kinds_block}
use Rattle.expression_code.proofs.StatementSizes.{size_if, size_while, size_block, size_par, for_parts, if_parts}
use Rattle.expression_code.proofs.sizes.+form.Goals as goal

-- two blocks' locals behind the others
counts : (from then first first' next next' : ℕ) → then ≡ from + first → first ≡ first' → next ≡ next' → then + next ≡ from + (first' + next')
counts from then first first' next next' e f g = omega (arith, e, f, g)

pub block_size-returns-clause-slots : goal.block_size-returns-clause-slots
block_size-returns-clause-slots t c =
    ap (λ s. s.slots) c.leave.ensures
    ∙ ap (λ n. take n c.all_size.new.scope.slots) c.mark-mark.ensures
    ∙ block_ends c.args.scope.now.slots c.all_size.new.scope.slots c.args.scope.now.next c.args.body.now c.in_ok-size.ensures.slots

-- ---- a `while`

pub form_size-inside_size-requires : goal.form_size-inside_size-requires
form_size-inside_size-requires t c =
    let whole = size_while c.args.names.now c.args.form.now c.in-While.test c.in-While.body c.args.scope.now.slots c.args.scope.now.next c.in-While.is in
    let same = ap (λ (b : List Stmt). statements_size c.args.names.now b c.args.scope.now.slots c.args.scope.now.next) c.as_slice-in-While.ensures in
    (search (rules, the_lemmas), omega (arith, c.requires.room, whole, same))

pub form_size-tested_size-requires : goal.form_size-tested_size-requires
form_size-tested_size-requires t c =
    let whole = size_while c.args.names.now c.args.form.now c.in-While.test c.in-While.body c.args.scope.now.slots c.args.scope.now.next c.in-While.is in
    let same = ap (λ (b : List Stmt). statements_size c.args.names.now b c.args.scope.now.slots c.args.scope.now.next) c.as_slice-in-While.ensures in
    omega (arith, c.requires.room, whole, same, c.in_ok-inside-in-While.ensures.size)

pub form_size-returns-in_ok-inside-in-While-clause-size : goal.form_size-returns-in_ok-inside-in-While-clause-size
form_size-returns-in_ok-inside-in-While-clause-size t c = rw (size_while _ _ _ _ _ _ c.in-While.is) (search rules)

pub form_size-returns-in_ok-inside-in-While-clause-next : goal.form_size-returns-in_ok-inside-in-While-clause-next
form_size-returns-in_ok-inside-in-While-clause-next t c = rw (kinds_while _ _ _ c.in-While.is) (search rules)

-- ---- a block

pub form_size-block_size-requires : goal.form_size-block_size-requires
form_size-block_size-requires t c =
    let whole = size_block c.args.names.now c.args.form.now c.in-Block.body c.args.scope.now.slots c.args.scope.now.next c.in-Block.is in
    let same = ap (λ (b : List Stmt). statements_size c.args.names.now b c.args.scope.now.slots c.args.scope.now.next) c.as_slice-in-Block.ensures in
    (search (rules, the_lemmas), omega (arith, c.requires.room, whole, same))

pub form_size-returns-in-Block-clause-size : goal.form_size-returns-in-Block-clause-size
form_size-returns-in-Block-clause-size t c = rw (size_block _ _ _ _ _ c.in-Block.is) (search rules)

pub form_size-returns-in-Block-clause-next : goal.form_size-returns-in-Block-clause-next
form_size-returns-in-Block-clause-next t c = rw (kinds_block _ _ c.in-Block.is) (search rules)

-- ---- a step

pub form_size-returns-in-Par-clause-size : goal.form_size-returns-in-Par-clause-size
form_size-returns-in-Par-clause-size t c = rw (size_par _ _ _ _ _ c.in-Par.is) (search rules)

-- ---- a `for`

pub form_size-form_size-requires : goal.form_size-form_size-requires
form_size-form_size-requires t c =
    let one : Scoped = record {
      slots = slots_after c.args.scope.now.slots c.args.scope.now.next c.get.result.now.form;
      next = c.args.scope.now.next + length (kinds_in c.get.result.now.form);
    } in
    let two : Scoped = record { slots = one.slots; next = one.next + length (kinds_of c.in-For.body) } in
    let whole =
    for_parts c.args.names.now c.args.form.now c.in-For.first c.get.result.now c.in-For.test c.in-For.next c.in-For.next c.in-For.body c.in-For.body
    c.args.scope.now.slots c.args.scope.now.next one two c.in-For.is c.get.ensures refl refl refl refl refl refl in
    (search (rules, the_lemmas), omega (arith, c.requires.room, whole))

pub form_size-inside_size-requires-in-For : goal.form_size-inside_size-requires-in-For
form_size-inside_size-requires-in-For t c =
    let whole =
    for_parts c.args.names.now c.args.form.now c.in-For.first c.get.result.now c.in-For.test c.in-For.next c.in-For.next c.in-For.body c.as_slice-in-For.result.now
    c.args.scope.now.slots c.args.scope.now.next c.form_size.new.scope (record { slots = c.form_size.new.scope.slots; next = c.form_size.new.scope.next + length (kinds_of c.as_slice-in-For.result.now) }) c.in-For.is c.get.ensures refl c.as_slice-in-For.ensures
    c.in_ok-before-in-For.ensures.slots c.in_ok-before-in-For.ensures.next refl refl in
    (search (rules, the_lemmas), omega (arith, c.requires.room, whole, c.in_ok-before-in-For.ensures.few))

pub form_size-size_here-requires : goal.form_size-size_here-requires
form_size-size_here-requires t c =
    let whole =
    for_parts c.args.names.now c.args.form.now c.in-For.first c.get.result.now c.in-For.test c.in-For.next c.get-in-For.result.now c.in-For.body c.as_slice-in-For.result.now
    c.args.scope.now.slots c.args.scope.now.next c.form_size.new.scope c.inside_size-in-For.new.scope c.in-For.is c.get.ensures c.get-in-For.ensures c.as_slice-in-For.ensures
    c.in_ok-before-in-For.ensures.slots c.in_ok-before-in-For.ensures.next c.in_ok-inside-in-For.ensures.slots c.in_ok-inside-in-For.ensures.next in
    (search (rules, the_lemmas), omega (arith, c.requires.room, whole, c.in_ok-before-in-For.ensures.few, c.in_ok-inside-in-For.ensures.few))

pub form_size-for_size-requires : goal.form_size-for_size-requires
form_size-for_size-requires t c =
    let whole =
    for_parts c.args.names.now c.args.form.now c.in-For.first c.get.result.now c.in-For.test c.in-For.next c.get-in-For.result.now c.in-For.body c.as_slice-in-For.result.now
    c.args.scope.now.slots c.args.scope.now.next c.form_size.new.scope c.inside_size-in-For.new.scope c.in-For.is c.get.ensures c.get-in-For.ensures c.as_slice-in-For.ensures
    c.in_ok-before-in-For.ensures.slots c.in_ok-before-in-For.ensures.next c.in_ok-inside-in-For.ensures.slots c.in_ok-inside-in-For.ensures.next in
    omega (arith, c.requires.room, whole, c.in_ok-before-in-For.ensures.size, c.in_ok-inside-in-For.ensures.size, c.in_ok-step-in-For.ensures.size)

pub form_size-returns-in_ok-step-in-For-clause-size : goal.form_size-returns-in_ok-step-in-For-clause-size
form_size-returns-in_ok-step-in-For-clause-size t c =
    let whole =
    for_parts c.args.names.now c.args.form.now c.in-For.first c.get.result.now c.in-For.test c.in-For.next c.get-in-For.result.now c.in-For.body c.as_slice-in-For.result.now
    c.args.scope.now.slots c.args.scope.now.next c.form_size.new.scope c.inside_size-in-For.new.scope c.in-For.is c.get.ensures c.get-in-For.ensures c.as_slice-in-For.ensures
    c.in_ok-before-in-For.ensures.slots c.in_ok-before-in-For.ensures.next c.in_ok-inside-in-For.ensures.slots c.in_ok-inside-in-For.ensures.next in
    omega (arith, whole, c.in_ok-before-in-For.ensures.size, c.in_ok-inside-in-For.ensures.size, c.in_ok-step-in-For.ensures.size, c.for_size.ensures)

pub form_size-returns-in_ok-step-in-For-clause-next : goal.form_size-returns-in_ok-step-in-For-clause-next
form_size-returns-in_ok-step-in-For-clause-next t c =
    rw (count_for _ _ _ _ _ c.in-For.is)
    (ap (λ s. s.next) c.leave.ensures
    ∙ ap (λ s. s.next) c.in_ok-step-in-For.ensures.same
    ∙ c.in_ok-inside-in-For.ensures.next
    ∙ counts c.args.scope.now.next _ _ _ _ _ c.in_ok-before-in-For.ensures.next (ap (λ s. length (kinds_in s.form)) c.get.ensures) (ap (λ b. length (kinds_of b)) c.as_slice-in-For.ensures))

pub form_size-returns-in_ok-step-in-For-clause-few : goal.form_size-returns-in_ok-step-in-For-clause-few
form_size-returns-in_ok-step-in-For-clause-few t c =
    let whole =
    for_parts c.args.names.now c.args.form.now c.in-For.first c.get.result.now c.in-For.test c.in-For.next c.get-in-For.result.now c.in-For.body c.as_slice-in-For.result.now
    c.args.scope.now.slots c.args.scope.now.next c.form_size.new.scope c.inside_size-in-For.new.scope c.in-For.is c.get.ensures c.get-in-For.ensures c.as_slice-in-For.ensures
    c.in_ok-before-in-For.ensures.slots c.in_ok-before-in-For.ensures.next c.in_ok-inside-in-For.ensures.slots c.in_ok-inside-in-For.ensures.next in
    omega (arith, whole, ap (λ s. s.next) c.leave.ensures, ap (λ s. s.next) c.in_ok-step-in-For.ensures.same, c.in_ok-before-in-For.ensures.few, c.in_ok-inside-in-For.ensures.few)

-- ---- the locals are no more than the instructions

pub form_size-returns-in_ok-inside-in-While-clause-few : goal.form_size-returns-in_ok-inside-in-While-clause-few
form_size-returns-in_ok-inside-in-While-clause-few t c =
    let whole = size_while c.args.names.now c.args.form.now c.in-While.test c.in-While.body c.args.scope.now.slots c.args.scope.now.next c.in-While.is in
    let same = ap (λ (b : List Stmt). statements_size c.args.names.now b c.args.scope.now.slots c.args.scope.now.next) c.as_slice-in-While.ensures in
    omega (arith, whole, same, c.in_ok-inside-in-While.ensures.few)

pub form_size-returns-in-Block-clause-few : goal.form_size-returns-in-Block-clause-few
form_size-returns-in-Block-clause-few t c = rw (size_block _ _ _ _ _ c.in-Block.is) (search rules)

pub form_size-widths_size-requires : goal.form_size-widths_size-requires
form_size-widths_size-requires t c =
    let whole = size_par c.args.names.now c.args.form.now c.in-Par.blocks c.args.scope.now.slots c.args.scope.now.next c.in-Par.is in
    let same = ap widths_size c.as_slice-in-Par.ensures in
    omega (arith, c.requires.room, whole, same)

pub form_size-overflow_add-result-in-Par : goal.form_size-overflow_add-result-in-Par
form_size-overflow_add-result-in-Par t c =
    let whole = size_par c.args.names.now c.args.form.now c.in-Par.blocks c.args.scope.now.slots c.args.scope.now.next c.in-Par.is in
    let same = ap widths_size c.as_slice-in-Par.ensures in
    omega (arith, c.requires.room, whole, same, c.widths_size.ensures)

-- ---- an `if`

pub form_size-arms_size-requires : goal.form_size-arms_size-requires
form_size-arms_size-requires t c =
    let whole = size_if c.args.names.now c.args.form.now c.in-If.arms c.in-If.last c.args.scope.now.slots c.args.scope.now.next c.in-If.is in
    let same = ap (λ (a : List Arm). all_arms_size c.args.names.now a c.args.scope.now.slots c.args.scope.now.next) c.as_slice.ensures in
    (search (rules, the_lemmas), omega (arith, c.requires.room, whole, same))

pub form_size-last_size-requires : goal.form_size-last_size-requires
form_size-last_size-requires t c =
    let whole =
    if_parts c.args.names.now c.args.form.now c.in-If.arms c.as_slice.result.now c.in-If.last c.args.scope.now.slots c.args.scope.now.next c.arms_size.new.scope c.in-If.is c.as_slice.ensures
    c.in_ok-front-in-If.ensures.slots c.in_ok-front-in-If.ensures.next in
    (search (rules, the_lemmas), omega (arith, c.requires.room, whole, c.in_ok-front-in-If.ensures.few))

pub form_size-overflow_add-size : goal.form_size-overflow_add-size
form_size-overflow_add-size t c =
    let whole =
    if_parts c.args.names.now c.args.form.now c.in-If.arms c.as_slice.result.now c.in-If.last c.args.scope.now.slots c.args.scope.now.next c.arms_size.new.scope c.in-If.is c.as_slice.ensures
    c.in_ok-front-in-If.ensures.slots c.in_ok-front-in-If.ensures.next in
    omega (arith, c.requires.room, whole, c.in_ok-front-in-If.ensures.size, c.in_ok-size-in-If.ensures.size)

pub form_size-returns-in_ok-size-in-If-clause-size : goal.form_size-returns-in_ok-size-in-If-clause-size
form_size-returns-in_ok-size-in-If-clause-size t c =
    let whole =
    if_parts c.args.names.now c.args.form.now c.in-If.arms c.as_slice.result.now c.in-If.last c.args.scope.now.slots c.args.scope.now.next c.arms_size.new.scope c.in-If.is c.as_slice.ensures
    c.in_ok-front-in-If.ensures.slots c.in_ok-front-in-If.ensures.next in
    omega (arith, whole, c.in_ok-front-in-If.ensures.size, c.in_ok-size-in-If.ensures.size)

pub form_size-returns-in_ok-size-in-If-clause-next : goal.form_size-returns-in_ok-size-in-If-clause-next
form_size-returns-in_ok-size-in-If-clause-next t c =
    let whole = count_if c.args.form.now c.in-If.arms c.in-If.last c.in-If.is in
    let same = ap (λ (a : List Arm). length (kinds_of_arms a)) c.as_slice.ensures in
    omega (arith, whole, same, c.in_ok-front-in-If.ensures.next, c.in_ok-size-in-If.ensures.next)

pub form_size-returns-in_ok-size-in-If-clause-few : goal.form_size-returns-in_ok-size-in-If-clause-few
form_size-returns-in_ok-size-in-If-clause-few t c =
    let whole =
    if_parts c.args.names.now c.args.form.now c.in-If.arms c.as_slice.result.now c.in-If.last c.args.scope.now.slots c.args.scope.now.next c.arms_size.new.scope c.in-If.is c.as_slice.ensures
    c.in_ok-front-in-If.ensures.slots c.in_ok-front-in-If.ensures.next in
    omega (arith, whole, c.in_ok-front-in-If.ensures.few, c.in_ok-size-in-If.ensures.few)

-- ---- the sizes that are asked for

pub form_size-returns-in_ok-size-in-If-clause-asked : goal.form_size-returns-in_ok-size-in-If-clause-asked
form_size-returns-in_ok-size-in-If-clause-asked t c =
    let parts =
    asked_if_parts c.args.names.now c.args.form.now c.in-If.arms c.as_slice.result.now c.in-If.last c.args.scope.now.slots c.args.scope.now.next c.arms_size.new.scope c.in-If.is c.as_slice.ensures
    c.in_ok-front-in-If.ensures.slots c.in_ok-front-in-If.ensures.next in
    let arms : List ℕ = asked_by_arms c.args.names.now c.as_slice.result.now c.args.scope.now.slots c.args.scope.now.next in
    let last : List ℕ = asked_by_last c.args.names.now c.in-If.last c.arms_size.new.scope.slots c.arms_size.new.scope.next in
    filled c.args.sizes.now c.hold.new.sizes c.last_size.new.sizes c.set.new.self (arms ++ last) c.in_ok-place-in-If.place (c.in_ok-front-in-If.front + c.in_ok-size-in-If.field-0)
    c.in_ok-place-in-If.ensures.held c.in_ok-place-in-If.ensures.place
    (appended c.hold.new.sizes c.arms_size.new.sizes c.last_size.new.sizes arms last c.in_ok-front-in-If.ensures.asked c.in_ok-size-in-If.ensures.asked) c.set.ensures
    ∙ (λ j. c.args.sizes.now ++ ((c.in_ok-front-in-If.ensures.size j + c.in_ok-size-in-If.ensures.size j) ∷ arms ++ last))
    ∙ ap (λ a. c.args.sizes.now ++ a) (sym parts)

pub form_size-returns-in_ok-inside-in-While-clause-asked : goal.form_size-returns-in_ok-inside-in-While-clause-asked
form_size-returns-in_ok-inside-in-While-clause-asked t c = rw (asked_while _ _ _ _ _ _ c.in-While.is) (search rules)

pub form_size-returns-in-Block-clause-asked : goal.form_size-returns-in-Block-clause-asked
form_size-returns-in-Block-clause-asked t c = rw (asked_block _ _ _ _ _ c.in-Block.is) (search rules)

pub form_size-returns-in_ok-step-in-For-clause-asked : goal.form_size-returns-in_ok-step-in-For-clause-asked
form_size-returns-in_ok-step-in-For-clause-asked t c =
    let p = c.args.names.now in
    let one = c.form_size.new.scope in
    let two = c.inside_size-in-For.new.scope in
    let parts =
    asked_for_parts p c.args.form.now c.in-For.first c.get.result.now c.in-For.test c.in-For.next c.get-in-For.result.now c.in-For.body c.as_slice-in-For.result.now
    c.args.scope.now.slots c.args.scope.now.next one two c.in-For.is c.get.ensures c.get-in-For.ensures c.as_slice-in-For.ensures
    c.in_ok-before-in-For.ensures.slots c.in_ok-before-in-For.ensures.next c.in_ok-inside-in-For.ensures.slots c.in_ok-inside-in-For.ensures.next in
    let first : List ℕ = asked p c.get.result.now.form c.args.scope.now.slots c.args.scope.now.next in
    let inside : List ℕ = asked_inside p c.as_slice-in-For.result.now one.slots one.next in
    let behind : List ℕ = asked p c.get-in-For.result.now.form two.slots two.next in
    filled c.form_size.new.sizes c.hold-in-For.new.sizes c.size_here.new.sizes c.set-in-For.new.self (inside ++ behind) c.in_ok-place-in-For.place c.in_ok-step-in-For.step
    c.in_ok-place-in-For.ensures.held c.in_ok-place-in-For.ensures.place
    (appended c.hold-in-For.new.sizes c.inside_size-in-For.new.sizes c.size_here.new.sizes inside behind c.in_ok-inside-in-For.ensures.asked c.in_ok-step-in-For.ensures.asked) c.set-in-For.ensures
    ∙ (λ j. c.in_ok-before-in-For.ensures.asked j ++ (c.in_ok-step-in-For.ensures.size j ∷ inside ++ behind))
    ∙ append_assoc c.args.sizes.now first (_ ∷ inside ++ behind)
    ∙ ap (λ a. c.args.sizes.now ++ a) (sym parts)

pub last_size-block_size-requires : goal.last_size-block_size-requires
last_size-block_size-requires t c = (
  search (rules, the_lemmas),
  subst (λ (b : List Stmt). IsSmall (c.args.scope.now.next + statements_size c.args.names.now b c.args.scope.now.slots c.args.scope.now.next)) (sym c.as_slice.ensures)
      (subst (λ (l : Option (List Stmt)). IsSmall (c.args.scope.now.next + last_block_size c.args.names.now l c.args.scope.now.slots c.args.scope.now.next)) c.in-Some.is c.requires.room),
)
