use Rattle.std.proofs.Common.{length, []}
use Rattle.csl_grammar.specs.Stops.{IsEnded}
use Rattle.expression_parser.specs.Reading.{Until, stops_anywhere}
use Rattle.expression_parser.proofs.Sequence.{Passes}
use Rattle.expression_parser.proofs.lists.one_by_one.Given as goal

-- what is answered for the list that goes on at the rest is answered for the list at the tokens
abbrev pub invariant-more : goal.invariant-more
invariant-more g l =
    let e = g.E.Element in
    record {
      ended : IsEnded l.rest;
      passes : Passes (Until e.closing e.spells l.elements) (Until e.closing e.spells []) stops_anywhere l.rest l.tokens;
    }

abbrev pub decreases-more : goal.decreases-more
decreases-more g l = length l.rest
