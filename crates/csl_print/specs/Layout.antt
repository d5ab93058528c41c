-- A text that is laid out token by token.
use Rattle.std.specs.Prelude.{ℕ, ◌<◌, ◌&&◌, nat_eq, if◌then◌else◌, List, [], ◌∷◌, ◌++◌, length}
use Rattle.std.specs.List.{fold}
use Rattle.csl_tree.specs.declared.token.TokenKind.{TokenKind}
use Rattle.csl_print.specs.declared.turn.Turn.{Turn}
use Rattle.csl_print.specs.declared.turn.Turn.TheVariants as turn
use Rattle.csl_print.specs.declared.turn.Gap.{Gap}
use Rattle.csl_print.specs.declared.turn.Gap.TheVariants as gap
use Rattle.csl_print.specs.Canonical.{bytes_of, turn_of, nested, enclosed, set_in, ends_line, blanks}

-- the text so far, how many `{` and `parbegin` and how many `(` are open, and what comes before the next token
pub record Laid : Type 0 where
  pub text : List ℕ
  pub depth : ℕ
  pub parens : ℕ
  pub gap : Gap

-- what comes before a token whose line would be set in so many steps
abbrev pub gap_bytes : Gap → ℕ → List ℕ
gap_bytes gap.Start steps = blanks steps
gap_bytes gap.Blank steps = 32 ∷ []
gap_bytes gap.Line steps = 10 ∷ blanks steps

-- what comes behind a token, where so many `(` are open
abbrev pub gap_behind : Turn → ℕ → Gap
gap_behind t parens = if ends_line t && nat_eq parens 0 then gap.Line else gap.Blank

-- one more token, of these bytes
unfoldable pub put : Laid → Turn → List ℕ → Laid
put l t bytes = record {
  text = l.text ++ gap_bytes l.gap (set_in t l.depth) ++ bytes;
  depth = nested t l.depth;
  parens = enclosed t l.parens;
  gap = gap_behind t l.parens;
}

-- one more token
unfoldable pub adds : Laid → TokenKind → Laid
adds l k = put l (turn_of k) (bytes_of k)

-- some more tokens
abbrev pub adds_all : Laid → List TokenKind → Laid
adds_all l ks = fold adds l ks

-- nothing yet
abbrev pub nothing : Laid
nothing = record { text = []; depth = 0; parens = 0; gap = gap.Start }

-- a token that opens something has some bytes
abbrev pub IsShown : Turn → List ℕ → Type 0
IsShown turn.Opens bytes = 0 < length bytes
IsShown turn.OpensParen bytes = 0 < length bytes
IsShown _ bytes = Unit {0}
