use Rattle.std.proofs.Common.{ap, arith}
use Rattle.shared_pages.specs.Shelf.{Shelved}
use Rattle.shared_pages.proofs.Shelves.{page_read, replaced_read}
use Rattle.shared_pages.proofs.shelf.Shelf.replace.Goals as goal

pub index_mut-requires : goal.index_mut-requires
index_mut-requires c =
    let i = c.self.inside in
    let same = ap (λ (s : Shelved). s.kept) c.self.view_is in
    omega (arith, i.places.ok.0, page_read i.kept.items c.args.self.now.kept i.marks.items i.places.items i.hand i.kept.cap c.args.i c.index_mut-kept.result.now same c.index_mut-kept.ensures.value c.self.invariant c.requires.place)

pub invariant_of-self : goal.invariant_of-self
invariant_of-self c =
    let i = c.self.inside in
    let same = ap (λ (s : Shelved). s.kept) c.self.view_is in
    replaced_read i.kept.items c.args.self.now.kept i.marks.items i.places.items i.hand i.kept.cap c.args.i c.args.p c.args.version c.index_mut-kept.result.now same c.index_mut-kept.ensures.value
    c.self.invariant c.requires.place c.requires.page c.requires.absent
