use Rattle.std.proofs.Common.{ap, arith, rules}
use Rattle.csl_tree.specs.declared.program.Node.TheViews.{the_lemmas}
use Rattle.compiled_code.specs.Sizes.{size_of}
use Rattle.expression_code.specs.Lists.{sizes_of}
use Rattle.expression_code.proofs.SizeLemmas.{size_unary, size_binary, size_paren, size_element, size_call}
use Rattle.expression_code.proofs.sizes.+value.Goals as goal

pub call_size-values_size-requires : goal.call_size-values_size-requires
call_size-values_size-requires t c = (search (rules, the_lemmas), omega (arith, c.requires, size_call c.args.call.now, ap sizes_of c.as_slice.ensures))

pub call_size-overflow_add-result : goal.call_size-overflow_add-result
call_size-overflow_add-result t c = omega (arith, c.requires, size_call c.args.call.now, ap sizes_of c.as_slice.ensures, c.values_size.ensures)

pub call_size-returns : goal.call_size-returns
call_size-returns t c = rw (size_call _) (search rules)

pub place_size-value_size-requires : goal.place_size-value_size-requires
place_size-value_size-requires t c = (search (rules, the_lemmas), omega (arith, c.requires, size_element _ _ c.in-Some.is, ap size_of c.get.ensures))

pub place_size-returns-in-Some : goal.place_size-returns-in-Some
place_size-returns-in-Some t c = rw (size_element _ _ c.in-Some.is) (search rules)

pub value_size-value_size-requires : goal.value_size-value_size-requires
value_size-value_size-requires t c = (search (rules, the_lemmas), omega (arith, c.requires, size_unary _ _ _ c.in-Unary.is, ap size_of c.get.ensures))

pub value_size-overflow_add-result-in-Unary : goal.value_size-overflow_add-result-in-Unary
value_size-overflow_add-result-in-Unary t c = omega (arith, c.requires, size_unary _ _ _ c.in-Unary.is, ap size_of c.get.ensures, c.value_size.ensures)

pub value_size-returns-in-Unary : goal.value_size-returns-in-Unary
value_size-returns-in-Unary t c = rw (size_unary _ _ _ c.in-Unary.is) (search rules)

pub value_size-value_size-requires-in-Binary : goal.value_size-value_size-requires-in-Binary
value_size-value_size-requires-in-Binary t c = (search (rules, the_lemmas), omega (arith, c.requires, size_binary _ _ _ _ c.in-Binary.is, ap size_of c.get-in-Binary.ensures))

pub value_size-value_size-requires-in-Binary-2 : goal.value_size-value_size-requires-in-Binary-2
value_size-value_size-requires-in-Binary-2 t c = (search (rules, the_lemmas), omega (arith, c.requires, size_binary _ _ _ _ c.in-Binary.is, ap size_of c.get-in-Binary-2.ensures))

pub value_size-overflow_add-result-in-Binary : goal.value_size-overflow_add-result-in-Binary
value_size-overflow_add-result-in-Binary t c =
    omega (arith, c.requires, size_binary _ _ _ _ c.in-Binary.is, ap size_of c.get-in-Binary.ensures, ap size_of c.get-in-Binary-2.ensures, c.value_size-in-Binary.ensures, c.value_size-in-Binary-2.ensures)

pub value_size-overflow_add-result-in-Binary-2 : goal.value_size-overflow_add-result-in-Binary-2
value_size-overflow_add-result-in-Binary-2 t c =
    omega (arith, c.requires, size_binary _ _ _ _ c.in-Binary.is, ap size_of c.get-in-Binary.ensures, ap size_of c.get-in-Binary-2.ensures, c.value_size-in-Binary.ensures, c.value_size-in-Binary-2.ensures, c.operator_size.ensures)

pub value_size-returns-in-Binary : goal.value_size-returns-in-Binary
value_size-returns-in-Binary t c = rw (size_binary _ _ _ _ c.in-Binary.is) (search rules)

pub value_size-value_size-requires-in-Paren : goal.value_size-value_size-requires-in-Paren
value_size-value_size-requires-in-Paren t c = (search (rules, the_lemmas), omega (arith, c.requires, size_paren _ _ c.in-Paren.is, ap size_of c.get-in-Paren.ensures))

pub value_size-returns-in-Paren : goal.value_size-returns-in-Paren
value_size-returns-in-Paren t c = rw (size_paren _ _ c.in-Paren.is) (search rules)
