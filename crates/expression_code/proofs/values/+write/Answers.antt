use Rattle.std.proofs.Common.{rules, arith, refl, ◌≡◌, ◌+◌, [], ◌∷◌, ◌++◌, ◌∙◌, ap, length, slice_set, OnOk, length-append}
use Rattle.std.proofs.lemmas.Result.{on_ok_weaker}
use Rattle.compiled_code.specs.Sizes.{size_of}
use Rattle.compiled_code.specs.Values.{code_of}
use Rattle.csl_tree.specs.declared.program.Node.TheViews.{the_lemmas}
use Rattle.cal_terms.proofs.Lists.{next_item}
use Rattle.expression_code.specs.Lists.{right_code, sizes_of}
use Rattle.expression_code.proofs.SizeLemmas.{size_unary, size_binary, size_paren, size_element, size_call}
use Rattle.expression_code.proofs.Codes.{further, ends_at, right_written, code_unary, code_binary, code_paren, read_item, code_call, codes_next}
use Rattle.bytecode.specs.declared.instr.Instr.TheVariants as i
use Rattle.expression_code.proofs.Targets.{and_written, or_written}
use Rattle.expression_code.proofs.values.+write.Goals as goal

pub push_call-returns : goal.push_call-returns
push_call-returns t c = rw (code_call _ _ _ _) (search (rules, further))

pub push_read-returns-in_ok-push-in-Some : goal.push_read-returns-in_ok-push-in-Some
push_read-returns-in_ok-push-in-Some t c = rw (read_item _ _ _ _ _ c.in-Some.is) (search (rules, further))

pub push_value-returns-in_ok-push-in-Unary : goal.push_value-returns-in_ok-push-in-Unary
push_value-returns-in_ok-push-in-Unary t c = rw (code_unary _ _ _ _ _ _ c.in-Unary.is) (search (rules, further))

pub push_value-returns-in_ok-push_value-in-Binary : goal.push_value-returns-in_ok-push_value-in-Binary
push_value-returns-in_ok-push_value-in-Binary t c =
    let l = c.args.instrs.now in
    let m = c.push_value-in-Binary.new.instrs in
    let left : m ≡ l ++ code_of c.args.names.now c.args.scope.now.slots c.in-Binary.a (length l) = search rules in
    let right : OnOk c.push_right.result (c.push_right.new.instrs ≡ m ++ right_code c.in-Binary.op (length m) (size_of c.in-Binary.b)
    (λ at. code_of c.args.names.now c.args.scope.now.slots c.in-Binary.b at)) = search rules in
    rw (code_binary _ _ _ _ _ _ _ c.in-Binary.is)
    (on_ok_weaker c.push_right.result (right_written c.args.names.now c.args.scope.now.slots c.in-Binary.op c.in-Binary.a c.in-Binary.b l m c.push_right.new.instrs left) right)

pub push_value-returns-in-Paren : goal.push_value-returns-in-Paren
push_value-returns-in-Paren t c = rw (code_paren _ _ _ _ _ c.in-Paren.is) (search rules)

pub push_values-push_value-requires : goal.push_values-push_value-requires
push_values-push_value-requires t c = (
  search (rules, the_lemmas),
  omega (arith, c.requires, c.loop-e.invariant.long, ap sizes_of (next_item c.args.args.now c.loop-e.e-index c.e-item.result (omega arith) c.e-item.is)),
)

pub push_values-loop-e-preserved : goal.push_values-loop-e-preserved
push_values-loop-e-preserved t c = record {
  code = codes_next c.args.names.now c.args.scope.now.slots c.args.args.now c.loop-e.e-index c.e-item.result c.loop-e.instrs c.push_value.new.instrs _ (omega arith) c.e-item.is
      c.in_ok-push_value.ensures c.loop-e.invariant.code;
  long =
      omega (
        arith,
        c.loop-e.invariant.long,
        ap sizes_of (next_item c.args.args.now c.loop-e.e-index c.e-item.result (omega arith) c.e-item.is),
        ends_at c.args.names.now c.args.scope.now.slots c.e-item.result c.loop-e.instrs c.push_value.new.instrs c.in_ok-push_value.ensures,
      );
}

pub push_value-push_value-requires : goal.push_value-push_value-requires
push_value-push_value-requires t c = (search (rules, the_lemmas), omega (arith, c.requires, size_unary _ _ _ c.in-Unary.is, ap size_of c.get.ensures))

pub push_value-push_value-requires-in-Binary : goal.push_value-push_value-requires-in-Binary
push_value-push_value-requires-in-Binary t c = (search (rules, the_lemmas), omega (arith, c.requires, size_binary _ _ _ _ c.in-Binary.is, ap size_of c.get-in-Binary.ensures))

pub push_value-push_value-requires-in-Paren : goal.push_value-push_value-requires-in-Paren
push_value-push_value-requires-in-Paren t c = (search (rules, the_lemmas), omega (arith, c.requires, size_paren _ _ c.in-Paren.is, ap size_of c.get-in-Paren.ensures))

pub push_value-push_right-requires : goal.push_value-push_right-requires
push_value-push_right-requires t c = (
  search (rules, the_lemmas),
  omega (
    arith,
    c.requires,
    size_binary _ _ _ _ c.in-Binary.is,
    ap size_of c.get-in-Binary.ensures,
    ap size_of c.get-in-Binary-2.ensures,
    ends_at c.args.names.now c.args.scope.now.slots c.get-in-Binary.result.now c.args.instrs.now c.push_value-in-Binary.new.instrs c.in_ok-push_value-in-Binary.ensures,
  ),
)

pub push_call-push_values-requires : goal.push_call-push_values-requires
push_call-push_values-requires t c = (search (rules, the_lemmas), omega (arith, c.requires, size_call c.args.call.now, ap sizes_of c.as_slice.ensures))

pub push_read-push_value-requires : goal.push_read-push_value-requires
push_read-push_value-requires t c = (search (rules, the_lemmas), omega (arith, c.requires, size_element _ _ c.in-Some.is, ap size_of c.get.ensures))

pub push_and-length_of-no-requires : goal.push_and-length_of-no-requires
push_and-length_of-no-requires t c =
    omega (
      arith,
      c.requires,
      c.len.ensures,
      ap length c.in_ok-push.ensures.ok,
      length-append c.args.instrs.now (i.Branch 0 ∷ []),
      ends_at c.args.names.now c.args.scope.now.slots c.args.b.now c.push.new.self c.push_value.new.instrs c.in_ok-push_value.ensures,
    )

pub push_and-overflow_add-no : goal.push_and-overflow_add-no
push_and-overflow_add-no t c =
    omega (
      arith,
      c.requires,
      c.length_of-no.ensures,
      c.len.ensures,
      ap length c.in_ok-push.ensures.ok,
      length-append c.args.instrs.now (i.Branch 0 ∷ []),
      ends_at c.args.names.now c.args.scope.now.slots c.args.b.now c.push.new.self c.push_value.new.instrs c.in_ok-push_value.ensures,
    )

pub push_and-overflow_add-end : goal.push_and-overflow_add-end
push_and-overflow_add-end t c =
    omega (
      arith,
      c.requires,
      c.length_of-no.ensures,
      c.len.ensures,
      ap length c.in_ok-push.ensures.ok,
      length-append c.args.instrs.now (i.Branch 0 ∷ []),
      ends_at c.args.names.now c.args.scope.now.slots c.args.b.now c.push.new.self c.push_value.new.instrs c.in_ok-push_value.ensures,
    )

pub push_and-returns : goal.push_and-returns
push_and-returns t c =
    let no = c.length_of-no.result + 1 in
    and_written c.args.names.now c.args.scope.now.slots c.args.b.now c.args.instrs.now c.push.new.self c.push_value.new.instrs c.push-2.new.self c.push-3.new.self no (no + 1)
    c.in_ok-push.ensures.ok c.in_ok-push_value.ensures c.in_ok-push-2.ensures.ok c.in_ok-push-3.ensures.ok
    c.set.new.self (ap (λ n. n + 1) (c.length_of-no.ensures ∙ c.len.ensures)) refl
    (c.set.ensures ∙ ap (λ n. slice_set c.push-3.new.self n (i.Branch no)) c.len-branch.ensures)

pub push_or-length_of-end-requires : goal.push_or-length_of-end-requires
push_or-length_of-end-requires t c =
    omega (
      arith,
      c.requires,
      c.len-2.ensures,
      ap length c.in_ok-push.ensures.ok,
      length-append c.args.instrs.now (i.Branch (c.length_of-other.result + 3) ∷ []),
      ap length c.in_ok-push-2.ensures.ok,
      length-append c.push.new.self (i.True ∷ []),
      ap length c.in_ok-push-3.ensures.ok,
      length-append c.push-2.new.self (i.Jump 0 ∷ []),
      ends_at c.args.names.now c.args.scope.now.slots c.args.b.now c.push-3.new.self c.push_value.new.instrs c.in_ok-push_value.ensures,
    )

pub push_or-returns : goal.push_or-returns
push_or-returns t c =
    let other = c.length_of-other.result + 3 in
    let end = c.length_of-end.result in
    or_written c.args.names.now c.args.scope.now.slots c.args.b.now c.args.instrs.now c.push.new.self c.push-2.new.self c.push-3.new.self c.push_value.new.instrs other
    c.in_ok-push.ensures.ok c.in_ok-push-2.ensures.ok c.in_ok-push-3.ensures.ok c.in_ok-push_value.ensures
    c.set.new.self end (ap (λ n. n + 3) (c.length_of-other.ensures ∙ c.len.ensures)) (c.length_of-end.ensures ∙ c.len-2.ensures)
    (c.set.ensures ∙ ap (λ n. slice_set c.push_value.new.instrs n (i.Jump end)) c.len-jump.ensures)
