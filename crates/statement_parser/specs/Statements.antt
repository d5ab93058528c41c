-- The rules of statements as the readers go through them: one part after another, behind the first tokens.
use Rattle.std.specs.Prelude.{◌≡◌, List, [], ◌∷◌, ◌++◌, Option, Some, None}
use Rattle.csl_tree.specs.declared.name.Name.{Name}
use Rattle.csl_tree.specs.declared.token.Token.{Token}
use Rattle.csl_tree.specs.declared.token.TokenKind.TheVariants as kind
use Rattle.csl_tree.specs.declared.token.Keyword.TheVariants as word
use Rattle.csl_tree.specs.declared.token.Mark.TheVariants as mark
use Rattle.cal_terms.specs.declared.types.Ty.{Ty}
use Rattle.csl_tree.specs.declared.program.Place.{Place}
use Rattle.csl_tree.specs.declared.program.Stmt.{Stmt}
use Rattle.csl_tree.specs.declared.program.Arm.{Arm}
use Rattle.csl_tree.specs.declared.program.RoutineBlock.{RoutineBlock}
use Rattle.csl_tree.specs.declared.program.Form.TheVariants as form
use Rattle.csl_grammar.specs.Expressions.{SpellsExpr, whole, place, call}
use Rattle.csl_grammar.specs.Stops.{BeginsOtherThan}
use Rattle.csl_grammar.specs.Programs.{stmt, SpellsItem, SpellsStmt, SpellsStart, SpellsChange, SpellsBlock, SpellsArm, SpellsElse}
use Rattle.csl_grammar.specs.Programs.{SpellsRoutine}
use Rattle.expression_parser.specs.Reading.{Tok, NameTok, Ret, Then, Either, ListUntil, Until, SpellsClosed}

-- no `else` comes next
abbrev pub NoElse : List Token → Type 0
NoElse rest = BeginsOtherThan (kind.Word word.Else) rest

-- a tree that is known, and the semicolon behind it
abbrev pub EndsAs : Stmt → List Token → List Token → Stmt → Type 0
EndsAs s = Then (Tok (kind.Mark mark.Semicolon)) (λ end. Ret s)

-- behind the type of a local: NAME "=" expr
abbrev pub DeclRest : Token → Ty → List Token → List Token → Stmt → Type 0
DeclRest first t = Then NameTok (λ name. Then (Tok (kind.Mark mark.Assign))
    (λ equals. Then (SpellsExpr whole) (λ value. Ret (stmt first.at (form.Declare t name value)))))

-- behind a place: "=" expr or "+=" expr
abbrev pub Changing : Token → Place → List Token → List Token → Stmt → Type 0
Changing first p =
    Either (Then (Tok (kind.Mark mark.Assign)) (λ equals. Then (SpellsExpr whole) (λ value. Ret (stmt first.at (form.Set p value)))))
    (Then (Tok (kind.Mark mark.AddAssign)) (λ adds. Then (SpellsExpr whole) (λ value. Ret (stmt first.at (form.AddTo p value)))))

-- behind "[": expr "]" and the change
abbrev pub IndexedRest : Token → Name → List Token → List Token → Stmt → Type 0
IndexedRest first name = Then (SpellsExpr whole) (λ index. Then (Tok (kind.Mark mark.CloseBracket))
    (λ closing. Changing first (place name (Some index))))

-- behind the name of a change: the change, or an index and the change
abbrev pub ChangeRest : Token → Name → List Token → List Token → Stmt → Type 0
ChangeRest first name = Either (Changing first (place name None))
    (Then (Tok (kind.Mark mark.OpenBracket)) (λ opening. IndexedRest first name))

-- behind the name and the parenthesis of a call: the arguments, ")" and ";"
abbrev pub CallRest : Token → Name → List Token → List Token → Stmt → Type 0
CallRest first name = Then SpellsClosed (λ args. EndsAs (stmt first.at (form.CallOf (call name args))))

-- the statements of a block, behind its brace
abbrev pub BlockRest : List Token → List Token → List Stmt → Type 0
BlockRest = Until (kind.Mark mark.CloseBrace) SpellsStmt []

-- behind `return`: ";", or expr ";"
abbrev pub ReturnRest : Token → List Token → List Token → Stmt → Type 0
ReturnRest first = Either (EndsAs (stmt first.at (form.Return None)))
    (Then (SpellsExpr whole) (λ value. EndsAs (stmt first.at (form.Return (Some value)))))

-- behind `assert`: "(" expr ")" ";"
abbrev pub AssertRest : Token → List Token → List Token → Stmt → Type 0
AssertRest first = Then (Tok (kind.Mark mark.OpenParen)) (λ opening. Then (SpellsExpr whole)
    (λ test. Then (Tok (kind.Mark mark.CloseParen)) (λ closing. EndsAs (stmt first.at (form.Assert test)))))

-- behind `print`: "(" [item {"," item}] ")" ";"
abbrev pub PrintRest : Token → List Token → List Token → Stmt → Type 0
PrintRest first = Then (Tok (kind.Mark mark.OpenParen)) (λ opening. Then (ListUntil (kind.Mark mark.CloseParen) SpellsItem)
    (λ items. EndsAs (stmt first.at (form.Print items))))

-- behind `while`: "(" expr ")" block
abbrev pub WhileRest : Token → List Token → List Token → Stmt → Type 0
WhileRest first = Then (Tok (kind.Mark mark.OpenParen)) (λ opening. Then (SpellsExpr whole)
    (λ test. Then (Tok (kind.Mark mark.CloseParen)) (λ closing. Then SpellsBlock (λ body. Ret (stmt first.at (form.While test body))))))

-- behind `for`: "(" (decl|change) ";" expr ";" change ")" block
abbrev pub ForRest : Token → List Token → List Token → Stmt → Type 0
ForRest first =
    Then (Tok (kind.Mark mark.OpenParen)) (λ opening. Then SpellsStart (λ start. Then (Tok (kind.Mark mark.Semicolon)) (λ one.
    Then (SpellsExpr whole) (λ test. Then (Tok (kind.Mark mark.Semicolon))
    (λ two. Then SpellsChange (λ next. Then (Tok (kind.Mark mark.CloseParen)) (λ closing.
    Then SpellsBlock (λ body. Ret (stmt first.at (form.For start test next body))))))))))

-- further arms and a last block, where some arms were read
abbrev pub ElseFrom : Token → List Arm → List Token → List Token → Stmt → Type 0
ElseFrom first sofar tokens rest s = (arms : List Arm) × (last : Option (List Stmt)) × SpellsElse tokens rest arms last
    × (s ≡ stmt first.at (form.If (sofar ++ arms) last))

-- behind `if`: "(" expr ")" block and what goes on with `else`
abbrev pub IfRest : Token → List Token → List Token → Stmt → Type 0
IfRest first = Then SpellsArm (λ arm. ElseFrom first (arm ∷ []))

-- two names, in order
abbrev pub both : Name → Name → Name × Name
both one two = (one, two)

-- "int" NAME ")", where the first name was read
abbrev pub SecondName : Name → List Token → List Token → Name × Name → Type 0
SecondName one = Then (Tok (kind.Word word.Int)) (λ int. Then NameTok
    (λ two. Then (Tok (kind.Mark mark.CloseParen)) (λ closing. Ret (both one two))))

-- "(" "int" NAME "," "int" NAME ")"
abbrev pub TwoNames : List Token → List Token → Name × Name → Type 0
TwoNames = Then (Tok (kind.Mark mark.OpenParen)) (λ opening. Then (Tok (kind.Word word.Int))
    (λ int. Then NameTok (λ one. Then (Tok (kind.Mark mark.Comma)) (λ comma. SecondName one))))

-- behind `parbegin`: routine {routine} "parend"
abbrev pub RoutinesRest : List Token → List Token → List RoutineBlock → Type 0
RoutinesRest = Then SpellsRoutine (λ one. Until (kind.Word word.Parend) SpellsRoutine (one ∷ []))

-- behind `parbegin`: routine {routine} "parend" ";"
abbrev pub ParRest : Token → List Token → List Token → Stmt → Type 0
ParRest first = Then RoutinesRest (λ routines. EndsAs (stmt first.at (form.Par routines)))
