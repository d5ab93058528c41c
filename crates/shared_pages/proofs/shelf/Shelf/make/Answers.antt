use Rattle.std.proofs.Common.{◌≡◌, [], length, replicate, None, rules, arith}
use Rattle.shared_pages.proofs.Shelves.{empty_shelf}
use Rattle.shared_pages.proofs.shelf.Shelf.make.Goals as goal

pub invariant_of-result : goal.invariant_of-result
invariant_of-result c =
    let marks = c.in_ok-marks.marks.items in
    let size : length marks ≡ c.args.size = omega (arith, c.in_ok-marks.ensures.len, c.in_ok-marks.marks.ok.0) in
    let places : c.in_ok-places.places.items ≡ replicate 4096 None = c.in_ok-places.ensures.items_if_clones_equal (search rules) in
    let none : c.in_ok-kept.kept.items ≡ [] = c.in_ok-kept.ensures.items in
    rw (none, places) (empty_shelf marks c.args.size _ size c.requires.least c.requires.most (omega (arith, c.in_ok-kept.ensures.capacity)))
