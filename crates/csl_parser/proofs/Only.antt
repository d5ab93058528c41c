-- Where tokens spell a program, no fault is told of them.
use Rattle.std.proofs.Common.{◌≡◌, ◌≤◌, ℕ, List, [], ◌∷◌, ◌++◌, Result, Ok, Err, MatchResult, refl, sym, subst, append_assoc, arith}
use Rattle.csl_tree.specs.declared.token.Token.{Token}
use Rattle.csl_tree.specs.declared.program.Program.{Program}
use Rattle.csl_lexer.specs.Tokens.{SomeText}
use Rattle.csl_lexer.specs.Laws.{EndsAt}
use Rattle.csl_lexer.proofs.Shape.{lists_end}
use Rattle.csl_grammar.specs.Levels.{Nesting, behind, behind_all, outermost, most_levels, IsFlatFrom, IsFlat, IsTooDeep}
use Rattle.csl_grammar.specs.Programs.{SpellsProgram}
use Rattle.csl_grammar.specs.Spelling.{IsUnexpected}
use Rattle.csl_grammar.specs.Stops.{IsEnded}
use Rattle.csl_grammar.proofs.UniqueProgram.{unique_program}
use Rattle.expression_parser.specs.declared.ParseError.{ParseError}
use Rattle.expression_parser.specs.declared.ParseError.TheVariants as error
use Rattle.csl_parser.specs.Program.{Tells, TellsDepth}

ends_alone : (place : ℕ) (tokens : List Token) → EndsAt place tokens → IsEnded tokens
ends_alone place [] ends = ends
ends_alone place (token ∷ []) ends = ends.0
ends_alone place (token ∷ next ∷ tokens) ends = (ends.0, ends_alone place (next ∷ tokens) ends.1)

-- the tokens of a text have the end as their last token alone
pub text_ended : (tokens : List Token) → SomeText tokens → IsEnded tokens
text_ended tokens some = ends_alone _ tokens (lists_end some.text tokens some.reads)

-- the level of a token in a flat list
level_in : (before : List Token) (token : Token) (after : List Token) (nesting : Nesting) → IsFlatFrom nesting (before ++ token ∷ after)
    → (behind token (behind_all before nesting)).level ≤ most_levels
level_in [] token after nesting flat = flat.0
level_in (x ∷ before) token after nesting flat = level_in before token after (behind x nesting) flat.1

flat_or_deep : (tokens : List Token) (at : ℕ) → IsTooDeep tokens at → IsFlat tokens → ⊥
flat_or_deep tokens at deep flat = omega (arith, level_in deep.before deep.token deep.after outermost (subst IsFlat deep.split flat), deep.deep)

spelled_or_unexpected : (tokens : List Token) (at : ℕ) (p : Program) → IsUnexpected tokens at → SpellsProgram tokens p → ⊥
spelled_or_unexpected tokens at p u d =
    let from : List Token → Type 0 = λ x. SpellsProgram x p in
    u.no_more (u.after, p, subst from (sym (append_assoc u.before (u.token ∷ []) u.after)) (subst from u.split d))

pub flat_only : (tokens : List Token) (e : ParseError) → TellsDepth tokens (Err e) → IsFlat tokens → e ≡ error.NoMemory
flat_only tokens error.NoMemory h flat = refl
flat_only tokens (error.TooDeep at) h flat = absurd (flat_or_deep tokens at h flat)
flat_only tokens (error.Unexpected at) h flat = absurd h

pub spelled_only : (tokens : List Token) (result : Result Program ParseError) → Tells tokens result → (p : Program) → SpellsProgram tokens p
    → MatchResult result (λ found. found ≡ p) (λ e. e ≡ error.NoMemory)
spelled_only tokens (Ok found) h p d = unique_program h d refl
spelled_only tokens (Err error.NoMemory) h p d = refl
spelled_only tokens (Err (error.TooDeep at)) h p d = absurd h
spelled_only tokens (Err (error.Unexpected at)) h p d = absurd (spelled_or_unexpected tokens at p h d)
