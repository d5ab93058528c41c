-- Which program a token list spells, and where a list that spells none is refused.
use Rattle.std.specs.Prelude.{◌≡◌, ℕ, List, [], ◌∷◌, ◌++◌}
use Rattle.csl_tree.specs.declared.token.Token.{Token}
use Rattle.csl_tree.specs.declared.program.Program.{Program}
use Rattle.csl_grammar.specs.Programs.{SpellsProgram}

-- a token list that begins with these tokens is spelled by some program, levels aside
abbrev pub CanGoOn : List Token → Type 0
CanGoOn tokens = (more : List Token) × (p : Program) × SpellsProgram (tokens ++ more) p

-- At that place stands the first token such that no token list which begins with the tokens up to and including it is spelled by a program.
pub record IsUnexpected (tokens : List Token) (at : ℕ) : Type 0 where
  pub before : List Token
  pub token : Token
  pub after : List Token
  pub split : tokens ≡ before ++ token ∷ after
  pub stands : token.at ≡ at
  pub so_far : CanGoOn before
  pub no_more : CanGoOn (before ++ token ∷ []) → ⊥

-- a token list is spelled by one program at most
abbrev pub TokensSpellOne : Type 0
TokensSpellOne = (tokens : List Token) (one two : Program) → SpellsProgram tokens one → SpellsProgram tokens two → one ≡ two
