use Rattle.std.proofs.Common.{ap, arith, rules}
use Rattle.compiled_code.specs.Sizes.{size_of}
use Rattle.expression_code.proofs.SizeLemmas.{size_add_element}
use Rattle.expression_code.proofs.sizes.add_to_size.Goals as goal

pub value_size-requires-in-Some : goal.value_size-requires-in-Some
value_size-requires-in-Some c = omega (arith, c.requires, size_add_element c.args.scope.now.slots _ c.args.value.now _ c.in-Some.is, ap size_of c.get.ensures)

pub overflow_add-result-in-Some : goal.overflow_add-result-in-Some
overflow_add-result-in-Some c =
    omega (arith, c.requires, size_add_element c.args.scope.now.slots _ c.args.value.now _ c.in-Some.is, ap size_of c.get.ensures, c.value_size-in-Some.ensures, c.value_size-in-Some-2.ensures)

pub overflow_add-result-in-Some-2 : goal.overflow_add-result-in-Some-2
overflow_add-result-in-Some-2 c =
    omega (arith, c.requires, size_add_element c.args.scope.now.slots _ c.args.value.now _ c.in-Some.is, ap size_of c.get.ensures, c.value_size-in-Some.ensures, c.value_size-in-Some-2.ensures)

pub returns-in-Some : goal.returns-in-Some
returns-in-Some c = rw (size_add_element _ _ _ _ c.in-Some.is) (search rules)
