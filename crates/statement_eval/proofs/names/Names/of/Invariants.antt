use Rattle.std.proofs.Common.{◌≡◌, ◌≤◌, ◌+◌, ℕ, List, drop}
use Rattle.std.specs.Option.{option_or}
use Rattle.csl_meaning.specs.Layout.{area_from, area_of}
use Rattle.statement_eval.specs.Areas.{area_among}
use Rattle.statement_eval.specs.Fits.{words_of}
use Rattle.statement_eval.proofs.names.Names.of.Given as goal

-- the words under a name are those that are kept, else those of the rest of the declarations, for which there is room
abbrev pub invariant-loop-s : goal.invariant-loop-s
invariant-loop-s l = record {
  same : (name : List ℕ) → option_or (area_among l.areas name) (area_from l.first (drop l.s-index l.s-items) name) ≡ area_of l.fn.program.shared name;
  room : l.first + words_of (drop l.s-index l.s-items) ≤ 262144;
}
