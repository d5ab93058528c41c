use Rattle.std.proofs.Common.{◌*◌, ◌/◌, ◌%◌, ◌+◌, ◌≡◌, List, ℕ, Some, None, ap, subst, sym, ◌∙◌, arith}
use Rattle.std.proofs.lemmas.List.{get_or_default}
use Rattle.write_buffer.specs.Bits.{mask_of, is_marked, IsNextBit, IsNextMarked, IsLowest}
use Rattle.write_buffer.proofs.Masks.{next_first, none_in_first, unmarked_past}
use Rattle.write_buffer.proofs.Touched.{next_page, next_none, page_read}
use Rattle.write_buffer.proofs.marks.Marks.next.Goals as goal

pub returns-then-p-len : goal.returns-then-p-len
returns-then-p-len c = λ a later.
    ap (λ (l : List ℕ). is_marked l a) (sym c.self.view_is)
    ∙ unmarked_past c.self.inside.masks.items a (omega (arith, c.if-p-len.true, c.len.ensures, c.self.inside.masks.ok.0))

pub returns-in-Some : goal.returns-in-Some
returns-in-Some c =
    let masks = c.self.inside.masks.items in
    let p = c.args.from / 64 in
    let read : c.index.result.now ≡ mask_of masks p = c.index.ensures ∙ get_or_default masks p c.index.result.now 0 (omega (arith, c.if-p-len.false, c.len.ensures, c.self.inside.masks.ok.0)) in
    let bit = subst (λ m. IsNextBit m (c.args.from % 64) (Some c.in-Some.i)) read c.in-Some.ensures in
    subst (λ (l : List ℕ). IsNextMarked l c.args.from (Some (64 * p + c.in-Some.i))) c.self.view_is (next_first masks c.args.from c.in-Some.i bit)

pub returns-in-None-next_set : goal.returns-in-None-next_set
returns-in-None-next_set c =
    let i = c.self.inside in
    let masks = i.masks.items in
    let p = c.args.from / 64 in
    let read : c.index.result.now ≡ mask_of masks p = c.index.ensures ∙ get_or_default masks p c.index.result.now 0 (omega (arith, c.if-p-len.false, c.len.ensures, i.masks.ok.0)) in
    let bit = subst (λ m. IsNextBit m (c.args.from % 64) None) read c.in-None.ensures in
    let pages = subst (λ (l : List ℕ). IsNextMarked l (p + 1) None) c.deref.ensures.value c.in-None-next_set.ensures in
    subst (λ (l : List ℕ). IsNextMarked l c.args.from None) c.self.view_is
    (next_none masks i.pages.items i.touched.items i.touched.cap c.args.from (p + 1) c.self.invariant (none_in_first masks c.args.from bit) pages)

pub returns-in-Some-next_set : goal.returns-in-Some-next_set
returns-in-Some-next_set c =
    let i = c.self.inside in
    let masks = i.masks.items in
    let p = c.args.from / 64 in
    let q = c.in-Some-next_set.q in
    let read : c.index.result.now ≡ mask_of masks p = c.index.ensures ∙ get_or_default masks p c.index.result.now 0 (omega (arith, c.if-p-len.false, c.len.ensures, i.masks.ok.0)) in
    let bit = subst (λ m. IsNextBit m (c.args.from % 64) None) read c.in-None.ensures in
    let pages = subst (λ (l : List ℕ). IsNextMarked l (p + 1) (Some q)) c.deref.ensures.value c.in-Some-next_set.ensures in
    let mask : c.index-in-Some-next_set.result.now ≡ mask_of masks q = page_read masks i.pages.items i.touched.items i.touched.cap q c.index-in-Some-next_set.result.now c.self.invariant pages.1
    c.index-in-Some-next_set.ensures in
    let low = subst (λ m. IsLowest m c.lowest.result) mask c.lowest.ensures in
    subst (λ (l : List ℕ). IsNextMarked l c.args.from (Some (64 * q + c.lowest.result))) c.self.view_is
    (next_page masks i.pages.items i.touched.items i.touched.cap c.args.from (p + 1) q c.lowest.result c.self.invariant (omega arith) (none_in_first masks c.args.from bit) pages low)
