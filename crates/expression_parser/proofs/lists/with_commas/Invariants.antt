use Rattle.std.proofs.Common.{◌<◌, length}
use Rattle.csl_grammar.specs.Stops.{IsEnded}
use Rattle.expression_parser.specs.Reading.{ListUntil, MoreUntil, stops_anywhere}
use Rattle.expression_parser.proofs.Sequence.{Passes}
use Rattle.expression_parser.proofs.lists.with_commas.Given as goal

-- what is answered for more elements at the rest is answered for the list at the tokens
abbrev pub invariant-more : goal.invariant-more
invariant-more g l =
    let e = g.E.Element in
    record {
      ended : IsEnded l.rest;
      shorter : length l.rest < length l.tokens;
      passes : Passes (MoreUntil e.closing e.spells l.elements) (ListUntil e.closing e.spells) stops_anywhere l.rest l.tokens;
    }

abbrev pub decreases-more : goal.decreases-more
decreases-more g l = length l.rest
