use Rattle.std.proofs.Common.{◌≢◌, ◌<◌, ◌/◌, List, ℕ, length, ap, ◌∙◌, sym, arith}
use Rattle.std.proofs.lemmas.List.{get_or_default}
use Rattle.write_buffer.specs.Bits.{mask_of}
use Rattle.write_buffer.proofs.Touched.{marks_again, marks_first, marks_room}
use Rattle.write_buffer.proofs.marks.Marks.mark.Goals as goal

pub invariant_of-self : goal.invariant_of-self
invariant_of-self c =
    let i = c.self.inside in
    let p = c.args.a / 64 in
    let same = ap (λ (l : List ℕ). length l) c.self.view_is in
    let there : p < length i.masks.items = omega (arith, c.requires, same) in
    let read = c.index.ensures ∙ get_or_default i.masks.items p c.index.result.now 0 there in
    let some : mask_of i.masks.items p ≢ 0 = λ e. c.if-index-ne0.true (read ∙ e) in
    rw c.set.ensures (marks_again i.masks.items i.pages.items i.touched.items i.touched.cap c.args.a c.self.invariant there some)

pub push_reserved-requires : goal.push_reserved-requires
push_reserved-requires c =
    let i = c.self.inside in
    let p = c.args.a / 64 in
    let same = ap (λ (l : List ℕ). length l) c.self.view_is in
    let there : p < length i.masks.items = omega (arith, c.requires, same) in
    let read = c.index.ensures ∙ get_or_default i.masks.items p c.index.result.now 0 there in
    omega (arith, i.touched.ok.0, marks_room i.masks.items i.pages.items i.touched.items i.touched.cap p c.self.invariant there (sym read ∙ c.if-index-ne0.false))

pub invariant_of-self-2 : goal.invariant_of-self-2
invariant_of-self-2 c =
    let i = c.self.inside in
    let p = c.args.a / 64 in
    let same = ap (λ (l : List ℕ). length l) c.self.view_is in
    let there : p < length i.masks.items = omega (arith, c.requires, same) in
    let read = c.index.ensures ∙ get_or_default i.masks.items p c.index.result.now 0 there in
    rw (c.set-3.ensures, c.set-2.ensures, c.push_reserved.ensures.items, c.push_reserved.ensures.capacity)
    (marks_first i.masks.items i.pages.items i.touched.items i.touched.cap c.args.a c.self.invariant there (sym read ∙ c.if-index-ne0.false))
