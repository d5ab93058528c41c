-- The levels of a list, one token after another.
use Rattle.std.proofs.Common.{◌≡◌, ◌≤◌, ◌<◌, ℕ, List, [], ◌∷◌, ◌++◌, refl, ap, sym, ◌∙◌, subst}
use Rattle.std.specs.List.{AllByRecursion}
use Rattle.csl_tree.specs.declared.token.Token.{Token}
use Rattle.csl_grammar.specs.Levels.{Nesting, Turn, Opens, Closes, Parts, Rises, Stays, turn_of, closed, turned, behind, behind_all, outermost, most_levels, IsFlatFrom, IsFlat, IsTooDeep}
use Rattle.csl_parser.specs.Program.{IsLow}

-- at that place stands the first token whose level is above 64, from a nesting on
pub record IsDeepFrom (nesting : Nesting) (tokens : List Token) (at : ℕ) : Type 0 where
  pub before : List Token
  pub token : Token
  pub after : List Token
  pub split : tokens ≡ before ++ token ∷ after
  pub stands : token.at ≡ at
  pub flat : IsFlatFrom nesting before
  pub deep : most_levels < (behind token (behind_all before nesting)).level

-- what is told of the rest from a nesting on is told of the tokens
pub record Keeps (nesting : Nesting) (rest tokens : List Token) : Type 0 where
  pub flat : IsFlatFrom nesting rest → IsFlat tokens
  pub deep : (at : ℕ) → IsDeepFrom nesting rest at → IsTooDeep tokens at

pub keeps_all : (tokens : List Token) → Keeps outermost tokens tokens
keeps_all tokens = record {
  flat = λ h. h;
  deep = λ at d. record { before = d.before; token = d.token; after = d.after; split = d.split; stands = d.stands; flat = d.flat; deep = d.deep };
}

pub keeps_done : (nesting : Nesting) (rest tokens : List Token) → Keeps nesting rest tokens → rest ≡ [] → IsFlat tokens
keeps_done nesting rest tokens keeps none =
    let from : List Token → Type 0 = λ x. IsFlatFrom nesting x in
    keeps.flat (subst from (sym none) tt)

pub keeps_deep : (nesting : Nesting) (rest tokens : List Token) (token : Token) (left : List Token) → Keeps nesting rest tokens → rest ≡ token ∷ left → most_levels < (behind token nesting).level
    → IsTooDeep tokens token.at
keeps_deep nesting rest tokens token left keeps split deep = keeps.deep token.at (record { before = []; token = token; after = left; split = split; stands = refl; flat = tt; deep = deep })

pub keeps_more : (nesting : Nesting) (rest tokens : List Token) (token : Token) (left : List Token) → Keeps nesting rest tokens → rest ≡ token ∷ left → (behind token nesting).level ≤ most_levels
    → Keeps (behind token nesting) left tokens
keeps_more nesting rest tokens token left keeps split low = record {
  flat = λ h.
      let from : List Token → Type 0 = λ x. IsFlatFrom nesting x in
      keeps.flat (subst from (sym split) (low, h));
  deep = λ at d. keeps.deep at (record {
    before = token ∷ d.before;
    token = d.token;
    after = d.after;
    split = split ∙ ap (λ x. token ∷ x) d.split;
    stands = d.stands;
    flat = (low, d.flat);
    deep = d.deep;
  });
}

low_closed : (nesting : Nesting) (opened : List ℕ) → IsLow nesting → AllByRecursion (λ level. level ≤ most_levels) opened → IsLow (closed nesting opened)
low_closed nesting [] low all = low
low_closed nesting (level ∷ opened) low all = all

low_turned : (turn : Turn) (nesting : Nesting) → IsLow nesting → (turned turn nesting).level ≤ most_levels → IsLow (turned turn nesting)
low_turned Opens nesting low h = (h, low)
low_turned Closes nesting low h = low_closed nesting nesting.opened low low.1
low_turned Parts nesting low h = (h, low.1)
low_turned Rises nesting low h = (h, low.1)
low_turned Stays nesting low h = low

pub low_behind : (token : Token) (nesting : Nesting) → IsLow nesting → (behind token nesting).level ≤ most_levels → IsLow (behind token nesting)
low_behind token nesting low h = low_turned (turn_of token.kind) nesting low h
