-- The rules of declarations as the readers go through them: one part after another.
use Rattle.std.specs.Prelude.{Bool, true, false, List, [], Some, None}
use Rattle.cal_terms.specs.declared.kinds.WordKind.TheVariants as words
use Rattle.csl_tree.specs.declared.name.Name.{Name}
use Rattle.csl_tree.specs.declared.token.Token.{Token}
use Rattle.csl_tree.specs.declared.token.TokenKind.TheVariants as kind
use Rattle.csl_tree.specs.declared.token.Keyword.TheVariants as word
use Rattle.csl_tree.specs.declared.token.Mark.TheVariants as mark
use Rattle.csl_tree.specs.declared.program.ArraySize.{ArraySize}
use Rattle.csl_tree.specs.declared.program.Valued.{Valued}
use Rattle.csl_tree.specs.declared.program.Shared.{Shared}
use Rattle.csl_grammar.specs.Programs.{SpellsValue}
use Rattle.expression_parser.specs.Reading.{Tok, NameTok, SizeTok, Ret, Then, Either, ListUntil}

-- a shared word
abbrev pub scalar_of : Name → Shared
scalar_of name = record { name = name; kind = words.Ordinary; size = None; values = []; listed = false }

-- a tally word
abbrev pub tally_of : Name → Shared
tally_of name = record { name = name; kind = words.Tally; size = None; values = []; listed = false }

-- an array, with the values that are listed
abbrev pub array_of : Name → ArraySize → Bool → List Valued → Shared
array_of name size listed values = record { name = name; kind = words.Ordinary; size = Some size; values = values; listed = listed }

-- behind "tally": "int" NAME ";"
abbrev pub TallyRest : List Token → List Token → Shared → Type 0
TallyRest = Then (Tok (kind.Word word.Int)) (λ int. Then NameTok
    (λ name. Then (Tok (kind.Mark mark.Semicolon)) (λ end. Ret (tally_of name))))

-- behind "=": "{" [value {"," value}] "}" ";"
abbrev pub ListedRest : Name → ArraySize → List Token → List Token → Shared → Type 0
ListedRest name size =
    Then (Tok (kind.Mark mark.OpenBrace)) (λ opening. Then (ListUntil (kind.Mark mark.CloseBrace) SpellsValue) (λ values.
    Then (Tok (kind.Mark mark.Semicolon)) (λ end. Ret (array_of name size true values))))

-- behind "[" NUMBER "]": ";", or "=" and so on
abbrev pub AfterSize : Name → ArraySize → List Token → List Token → Shared → Type 0
AfterSize name size =
    Either (Then (Tok (kind.Mark mark.Semicolon)) (λ end. Ret (array_of name size false [])))
    (Then (Tok (kind.Mark mark.Assign)) (λ equals. ListedRest name size))

-- behind "[": NUMBER "]" and so on
abbrev pub ArrayRest : Name → List Token → List Token → Shared → Type 0
ArrayRest name = Then SizeTok (λ size. Then (Tok (kind.Mark mark.CloseBracket)) (λ closing. AfterSize name size))

-- behind "int" NAME: ";", or "[" and so on
abbrev pub AfterName : Name → List Token → List Token → Shared → Type 0
AfterName name =
    Either (Then (Tok (kind.Mark mark.Semicolon)) (λ end. Ret (scalar_of name)))
    (Then (Tok (kind.Mark mark.OpenBracket)) (λ opening. ArrayRest name))

-- behind "int": NAME and so on
abbrev pub IntRest : List Token → List Token → Shared → Type 0
IntRest = Then NameTok (λ name. AfterName name)
