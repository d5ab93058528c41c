use Rattle.std.proofs.Common.{◌∙◌, List, [], ◌∷◌, ◌++◌, append_assoc, Option, map, ap, subst, arith}
use Rattle.std.specs.Prelude.{IsSome}
use Rattle.bytecode.specs.declared.instr.PrintItem.{PrintItem}
use Rattle.machine_meaning.specs.Machine.{pieces}
use Rattle.routine_vm.specs.Events.{piece_of}
use Rattle.routine_vm.proofs.There.{bind_there}
use Rattle.routine_vm.proofs.Taken.{with_more, more_there, more_more, behind_last, pieces_last}
use Rattle.routine_vm.proofs.taking.take_items.Goals as goal

pub take_item-requires : goal.take_item-requires
take_item-requires c =
    let m = c.args.m.now in
    let ops = c.loop-item.operands in
    let there = subst (λ (l : List PrintItem). IsSome (pieces m l ops)) c.in-Some.ensures.cases.0 c.loop-item.invariant.there in
    bind_there (pieces m (c.in-Some.item.now ∷ []) ops) _ (rw (pieces_last m c.in-Some.others.now c.in-Some.item.now ops) at there)

pub loop-item-preserved : goal.loop-item-preserved
loop-item-preserved c =
    let m = c.args.m.now in
    let i = c.loop-item.invariant in
    let ops = c.loop-item.operands in
    let others = c.in-Some.others.now in
    let p = piece_of m c.take_item.result in
    let e =
    ap (λ (l : List PrintItem). pieces m l ops) c.in-Some.ensures.cases.0
    ∙ pieces_last m others c.in-Some.item.now ops
    ∙ ap (behind_last m others) c.take_item.ensures.piece
    in
    record {
      there = more_there (p ∷ []) (pieces m others c.take_item.new.operands) (subst (λ (o : Option _). IsSome o) e i.there);
      behind = rw c.put.ensures (i.behind ∙ ap (λ (o : Option _). with_more (map (piece_of m) c.loop-item.items) o) e
          ∙ more_more p (map (piece_of m) c.loop-item.items) (pieces m others c.take_item.new.operands));
      done = (
        c.in-Some.item.now ∷ i.done.0,
        i.done.1 ∙ ap (λ (l : List PrintItem). l ++ i.done.0) c.in-Some.ensures.cases.0 ∙ append_assoc others (c.in-Some.item.now ∷ []) i.done.0,
        rw c.put.ensures (c.take_item.ensures.is_of, i.done.2),
      );
      count = rw c.put.ensures (omega (arith, i.count, c.in-Some.ensures.cases.1));
    }
