use Rattle.std.proofs.Common.{◌<◌, length}
use Rattle.shared_pages.proofs.shelf.next_victim.Given as goal

abbrev pub invariant-turns : goal.invariant-turns
invariant-turns l = l.hand < length l.marks
