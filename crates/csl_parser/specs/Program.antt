-- The rules of functions and programs as the readers go through them: one part after another.
use Rattle.std.specs.Prelude.{◌≤◌, List, [], Result, Ok, Err}
use Rattle.std.specs.List.{AllByRecursion}
use Rattle.csl_tree.specs.declared.name.Name.{Name}
use Rattle.csl_tree.specs.declared.token.Token.{Token}
use Rattle.csl_tree.specs.declared.token.TokenKind.TheVariants as kind
use Rattle.csl_tree.specs.declared.token.Keyword.TheVariants as word
use Rattle.csl_tree.specs.declared.token.Mark.TheVariants as mark
use Rattle.cal_terms.specs.declared.types.Ty.{Ty}
use Rattle.cal_terms.specs.declared.types.Gives.{Gives}
use Rattle.csl_tree.specs.declared.program.Param.{Param}
use Rattle.csl_tree.specs.declared.program.Shared.{Shared}
use Rattle.csl_tree.specs.declared.program.Function.{Function}
use Rattle.csl_tree.specs.declared.program.Program.{Program}
use Rattle.csl_tree.specs.declared.program.Stmt.{Stmt}
use Rattle.csl_grammar.specs.Programs.{SpellsParam, SpellsShared, SpellsFunction, SpellsBlock, SpellsProgram}
use Rattle.csl_grammar.specs.Levels.{Nesting, most_levels, IsFlat, IsTooDeep}
use Rattle.csl_grammar.specs.Spelling.{IsUnexpected}
use Rattle.expression_parser.specs.declared.ParseError.{ParseError}
use Rattle.expression_parser.specs.declared.ParseError.TheVariants as error
use Rattle.expression_parser.specs.Reading.{Tok, NameTok, Ret, Then, ListUntil, Until}

abbrev pub param_of : Ty → Name → Param
param_of t name = record { name = name; ty = t }

abbrev pub function_of : Gives → Name → List Param → List Stmt → Function
function_of g name params body = record { name = name; gives = g; params = params; body = body }

abbrev pub program_of : List Shared → List Function → List Stmt → Program
program_of shared functions body = record { shared = shared; functions = functions; main = body }

-- behind the type of a parameter: NAME
abbrev pub ParamRest : Ty → List Token → List Token → Param → Type 0
ParamRest t = Then NameTok (λ name. Ret (param_of t name))

-- behind "(" of a function: [param {"," param}] ")" block
abbrev pub ParamsRest : Gives → Name → List Token → List Token → Function → Type 0
ParamsRest g name = Then (ListUntil (kind.Mark mark.CloseParen) SpellsParam)
    (λ params. Then SpellsBlock (λ body. Ret (function_of g name params body)))

-- behind the word for what a function gives: NAME "(" and so on
abbrev pub FunctionRest : Gives → List Token → List Token → Function → Type 0
FunctionRest g = Then NameTok (λ name. Then (Tok (kind.Mark mark.OpenParen)) (λ opening. ParamsRest g name))

-- behind "main": block
abbrev pub MainRest : List Shared → List Function → List Token → List Token → Program → Type 0
MainRest shared functions = Then SpellsBlock (λ body. Ret (program_of shared functions body))

-- behind "shared" "{" {shared} "}": {function} "main" block
abbrev pub FunctionsRest : List Shared → List Token → List Token → Program → Type 0
FunctionsRest shared = Then (Until (kind.Word word.Main) SpellsFunction []) (MainRest shared)

-- a program but for its end: "shared" "{" {shared} "}" {function} "main" block
abbrev pub ProgramTokens : List Token → List Token → Program → Type 0
ProgramTokens =
    Then (Tok (kind.Word word.Shared)) (λ first. Then (Tok (kind.Mark mark.OpenBrace)) (λ opening.
    Then (Until (kind.Mark mark.CloseBrace) SpellsShared []) FunctionsRest))

-- What the reader of a program answers, whatever the levels: the program that the tokens spell, or the first token that no program allows.
abbrev pub Tells : List Token → Result Program ParseError → Type 0
Tells tokens (Ok p) = SpellsProgram tokens p
Tells tokens (Err error.NoMemory) = Unit {0}
Tells tokens (Err (error.TooDeep at)) = ⊥
Tells tokens (Err (error.Unexpected at)) = IsUnexpected tokens at

-- no level is above 64, and none at which a bracket was opened
abbrev pub IsLow : Nesting → Type 0
IsLow nesting = (nesting.level ≤ most_levels) × AllByRecursion (λ level. level ≤ most_levels) nesting.opened

-- What the check of levels answers: that no token is too deep, or the first that is.
abbrev pub TellsDepth : List Token → Result (Unit {0}) ParseError → Type 0
TellsDepth tokens (Ok _) = IsFlat tokens
TellsDepth tokens (Err error.NoMemory) = Unit {0}
TellsDepth tokens (Err (error.TooDeep at)) = IsTooDeep tokens at
TellsDepth tokens (Err (error.Unexpected at)) = ⊥
