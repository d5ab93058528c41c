-- What a text is: an accepted program, or refused at a place of it.
use Rattle.std.specs.Prelude.{◌≡◌, ℕ, List, Option, Some, None}
use Rattle.csl_tree.specs.declared.token.Token.{Token}
use Rattle.csl_tree.specs.declared.program.Program.{Program}
use Rattle.csl_lexer.specs.declared.LexError.{LexError}
use Rattle.csl_lexer.specs.declared.LexError.TheVariants as token
use Rattle.csl_lexer.specs.Tokens.{IsTokenList, IsFirstFault}
use Rattle.csl_grammar.specs.Levels.{IsFlat, IsTooDeep}
use Rattle.csl_grammar.specs.Programs.{SpellsProgram}
use Rattle.csl_grammar.specs.Spelling.{IsUnexpected}
use Rattle.type_check.specs.declared.fault.Fault.{Fault}
use Rattle.type_check.specs.Faults.{first_fault}
use Rattle.csl_reader.specs.declared.refusal.Refusal.{Refusal}
use Rattle.csl_reader.specs.declared.refusal.Refusal.TheVariants.{BadByte, LongName, LongNumber, OpenComment, OpenText, TooDeep, Unexpected}
use Rattle.csl_reader.specs.declared.refusal.Refusal.TheVariants.{Faulty}

-- an accepted program, or a refusal with its place in the text
pub data Reading : Type 0 where
  accepted : Program → Reading
  refused : (at : ℕ) → Refusal → Reading

-- a text with a fault of tokens is refused at it; want of memory is no fault of a text
abbrev pub refused_token : LexError → Option Reading
refused_token (token.BadByte at) = Some (refused at BadByte)
refused_token (token.LongName at) = Some (refused at LongName)
refused_token (token.LongNumber at) = Some (refused at LongNumber)
refused_token (token.OpenComment at) = Some (refused at OpenComment)
refused_token (token.OpenText at) = Some (refused at OpenText)
refused_token token.NoMemory = None

-- a program without faults is accepted, and else it is refused at its first fault
abbrev pub judged : Program → Option Fault → Reading
judged p None = accepted p
judged p (Some fault) = refused fault.at (Faulty fault.kind)

-- what a token list is read as: levels come first, then the grammar, and then the faults of the program
pub data AreRead (tokens : List Token) : Reading → Type 0 where
  -- the first token whose level is too high
  too_deep : (at : ℕ) → IsTooDeep tokens at → AreRead tokens (refused at TooDeep)
  -- the first token that no program has behind those before it
  unexpected : (at : ℕ) → IsFlat tokens → IsUnexpected tokens at → AreRead tokens (refused at Unexpected)
  -- the program that the tokens spell
  spelled : (p : Program) → IsFlat tokens → SpellsProgram tokens p → AreRead tokens (judged p (first_fault p))

-- what a text is read as
pub data IsRead (text : List ℕ) : Reading → Type 0 where
  -- by the first fault of its tokens
  by_fault : (fault : LexError) {reading : Reading} → IsFirstFault text fault → refused_token fault ≡ Some reading → IsRead text reading
  -- by its token list
  by_tokens : (tokens : List Token) {reading : Reading} → IsTokenList text tokens → AreRead tokens reading → IsRead text reading
