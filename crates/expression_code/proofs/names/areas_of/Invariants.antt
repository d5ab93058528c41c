use Rattle.std.proofs.Common.{◌≡◌, ◌+◌, ℕ, List, drop}
use Rattle.std.specs.Option.{option_or}
use Rattle.csl_meaning.specs.Layout.{area_from, area_of}
use Rattle.expression_code.specs.Areas.{area_among}
use Rattle.expression_code.specs.Counts.{IsSmall, words_in_all}
use Rattle.expression_code.proofs.names.areas_of.Given as goal

-- the words under a name are those that are kept, else those of the rest of the declarations; all words are few
abbrev pub invariant-loop-s : goal.invariant-loop-s
invariant-loop-s l = record {
  areas : (name : List ℕ) → option_or (area_among l.areas name) (area_from l.first (drop l.s-index l.shared) name) ≡ area_of l.fn.shared name;
  small : IsSmall (l.first + words_in_all (drop l.s-index l.shared));
}
