use Rattle.std.proofs.Common.{rules, subst, w64, sym, arith, ltb}
use Rattle.std.proofs.lemmas.Bool.{ltb-true}
use Rattle.std.proofs.lemmas.Int.{to_z-of_z}
use Rattle.cal_base.specs.declared.value.Store.{Store}
use Rattle.machine_meaning.specs.Machine as machine
use Rattle.routine_vm.specs.Sites.{MayUse}
use Rattle.routine_vm.specs.States.{state_of}
use Rattle.routine_vm.proofs.Words.{may_be_used, words_long}
use Rattle.routine_vm.proofs.There.{using_there, item_there, if_there}
use Rattle.routine_vm.proofs.step.on_words.Goals as goal

pub read-requires-clause-word : goal.read-requires-clause-word
read-requires-clause-word g c =
    let s = state_of c.args.m.now c.args.run.now (g.S.Site.store c.args.words.now) in
    may_be_used c.args.m.now s.store c.in-Word.a c.requires.words (using_there c.args.m.now s c.in-Word.a _ (rw c.in-Word.is at c.requires.there))

pub write-requires-clause-word : goal.write-requires-clause-word
write-requires-clause-word g c =
    let s = state_of c.args.m.now c.args.run.now (g.S.Site.store c.args.words.now) in
    may_be_used c.args.m.now s.store c.in-Put.a c.requires.words (using_there c.args.m.now s c.in-Put.a _ (rw (c.in-Put.is, c.number-z.ensures) at c.requires.there))

pub add-requires-clause-word : goal.add-requires-clause-word
add-requires-clause-word g c =
    let s = state_of c.args.m.now c.args.run.now (g.S.Site.store c.args.words.now) in
    let there = if_there (ltb c.in-AddWord.a c.args.m.now.words) _ (rw (c.in-AddWord.is, c.number-z-in-AddWord.ensures) at c.requires.there) in
    let lt = ltb-true _ _ there in
    let long = words_long c.args.m.now s.store c.requires.words in
    omega (arith, lt, long)

pub read-requires-in-Some-clause-word : goal.read-requires-in-Some-clause-word
read-requires-in-Some-clause-word g c =
    let s = state_of c.args.m.now c.args.run.now (g.S.Site.store c.args.words.now) in
    may_be_used c.args.m.now s.store c.in-Some.a c.requires.words (item_there c.args.m.now s _ (machine.item_at c.in-Item.b c.in-Item.n c.number-x.result) c.in-Some.a _
    (rw (c.in-Item.is, c.number-x.ensures) at c.requires.there) (sym (rw (to_z-of_z w64 c.number-x.result (search rules)) at c.in-Some.ensures)))

pub write-requires-in-Some-item_at-clause-word : goal.write-requires-in-Some-item_at-clause-word
write-requires-in-Some-item_at-clause-word g c =
    let s = state_of c.args.m.now c.args.run.now (g.S.Site.store c.args.words.now) in
    may_be_used c.args.m.now s.store c.in-Some-item_at.a c.requires.words (item_there c.args.m.now s _ (machine.item_at c.in-SetItem.b c.in-SetItem.n c.numbers-x.result.0) c.in-Some-item_at.a _
    (rw (c.in-SetItem.is, c.numbers-x.ensures) at c.requires.there) (sym (rw (to_z-of_z w64 c.numbers-x.result.0 (search rules)) at c.in-Some-item_at.ensures)))

pub read-old-requires : goal.read-old-requires
read-old-requires g c =
    let s = state_of c.args.m.now c.args.run.now (g.S.Site.store c.args.words.now) in
    may_be_used c.args.m.now s.store c.in-Some-item_at-2.a c.requires.words (item_there c.args.m.now s _ (machine.item_at c.in-AddItem.b c.in-AddItem.n c.numbers-x-in-AddItem.result.0)
    c.in-Some-item_at-2.a _ (rw (c.in-AddItem.is, c.numbers-x-in-AddItem.ensures) at c.requires.there)
    (sym (rw (to_z-of_z w64 c.numbers-x-in-AddItem.result.0 (search rules)) at c.in-Some-item_at-2.ensures)))

pub write-requires-in-Some-item_at-2-clause-word : goal.write-requires-in-Some-item_at-2-clause-word
write-requires-in-Some-item_at-2-clause-word g c =
    let s = state_of c.args.m.now c.args.run.now (g.S.Site.store c.args.words.now) in
    let before = may_be_used c.args.m.now s.store c.in-Some-item_at-2.a c.requires.words (item_there c.args.m.now s _ (machine.item_at c.in-AddItem.b c.in-AddItem.n c.numbers-x-in-AddItem.result.0)
    c.in-Some-item_at-2.a _ (rw (c.in-AddItem.is, c.numbers-x-in-AddItem.ensures) at c.requires.there)
    (sym (rw (to_z-of_z w64 c.numbers-x-in-AddItem.result.0 (search rules)) at c.in-Some-item_at-2.ensures))) in
    subst (λ (t : Store). MayUse t c.in-Some-item_at-2.a) (sym c.read-old.ensures.same) before
