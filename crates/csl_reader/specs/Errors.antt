-- Errors of the parts, as errors of the whole.
use Rattle.std.specs.Prelude.{◌≡◌, ℕ, List}
use Rattle.csl_tree.specs.declared.token.Token.{Token}
use Rattle.csl_tree.specs.declared.program.Program.{Program}
use Rattle.type_check.specs.Faults.{first_fault}
use Rattle.csl_lexer.specs.declared.LexError.{LexError}
use Rattle.csl_lexer.specs.declared.LexError.TheVariants as lexer
use Rattle.expression_parser.specs.declared.ParseError.{ParseError}
use Rattle.expression_parser.specs.declared.ParseError.TheVariants as parser
use Rattle.type_check.specs.declared.checked.CheckError.{CheckError}
use Rattle.type_check.specs.declared.checked.CheckError.TheVariants as checker
use Rattle.csl_reader.specs.declared.refusal.Refusal.TheVariants.{BadByte, LongName, LongNumber, OpenComment, OpenText, TooDeep, Unexpected}
use Rattle.csl_reader.specs.declared.refusal.Refusal.TheVariants.{Faulty}
use Rattle.csl_reader.specs.declared.refusal.ReadError.{ReadError}
use Rattle.csl_reader.specs.declared.refusal.ReadError.TheVariants.{Refused, NoMemory}
use Rattle.csl_reader.specs.Readings.{IsRead, AreRead, judged, refused}

-- of a fault of tokens
abbrev pub of_lexer : LexError → ReadError
of_lexer (lexer.BadByte at) = Refused at BadByte
of_lexer (lexer.LongName at) = Refused at LongName
of_lexer (lexer.LongNumber at) = Refused at LongNumber
of_lexer (lexer.OpenComment at) = Refused at OpenComment
of_lexer (lexer.OpenText at) = Refused at OpenText
of_lexer lexer.NoMemory = NoMemory

-- of a fault of levels or grammar
abbrev pub of_parser : ParseError → ReadError
of_parser (parser.TooDeep at) = Refused at TooDeep
of_parser (parser.Unexpected at) = Refused at Unexpected
of_parser parser.NoMemory = NoMemory

-- of a fault of a program
abbrev pub of_check : CheckError → ReadError
of_check (checker.Refused at kind) = Refused at (Faulty kind)
of_check checker.NoMemory = NoMemory

-- a refusal says what the tokens are read as; want of memory says nothing
abbrev pub AreRefused : List Token → ReadError → Type 0
AreRefused tokens (Refused at why) = AreRead tokens (refused at why)
AreRefused tokens NoMemory = Unit {0}

-- a refusal says what the program is judged as; want of memory says nothing
abbrev pub IsFaulty : Program → ReadError → Type 0
IsFaulty p (Refused at why) = judged p (first_fault p) ≡ refused at why
IsFaulty p NoMemory = Unit {0}

-- a refusal says what the text is read as; want of memory says nothing
abbrev pub IsRefused : List ℕ → ReadError → Type 0
IsRefused text (Refused at why) = IsRead text (refused at why)
IsRefused text NoMemory = Unit {0}
