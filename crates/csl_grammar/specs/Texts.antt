-- Which program a text spells.
use Rattle.std.specs.Prelude.{◌≡◌, ◌≤◌, ◌<◌, ℕ, List, length}
use Rattle.std.specs.List.{AllByRecursion}
use Rattle.csl_tree.specs.declared.token.Token.{Token}
use Rattle.csl_tree.specs.declared.program.Program.{Program}
use Rattle.csl_lexer.specs.Tokens.{IsTokenList}
use Rattle.csl_grammar.specs.Levels.{IsFlat}
use Rattle.csl_grammar.specs.Programs.{SpellsProgram}
use Rattle.cal_terms.specs.declared.limits.TheConstants.{MOST_TEXT}

-- a text spells a program: it is a list of tokens, none of which nests too deeply, and the grammar relates them to the program
pub record Spells (text : List ℕ) (p : Program) : Type 0 where
  pub tokens : List Token
  pub read : IsTokenList text tokens
  pub flat : IsFlat tokens
  pub spelled : SpellsProgram tokens p

-- the entries of a text are bytes
abbrev pub AreBytes : List ℕ → Type 0
AreBytes text = AllByRecursion (λ (b : ℕ). b < 256) text

-- some text of bytes spells the program
abbrev pub IsSpelled : Program → Type 0
IsSpelled p = (text : List ℕ) × AreBytes text × Spells text p

-- some text of at most this many bytes spells the program
abbrev pub IsSpelledWithin : ℕ → Program → Type 0
IsSpelledWithin limit p = (text : List ℕ) × (length text ≤ limit) × AreBytes text × Spells text p

-- the longest text of a program, in bytes
abbrev pub text_limit : ℕ
text_limit = MOST_TEXT

-- a text spells one program at most
abbrev pub TextSpellsOne : Type 0
TextSpellsOne = (text : List ℕ) (one two : Program) → Spells text one → Spells text two → one ≡ two
