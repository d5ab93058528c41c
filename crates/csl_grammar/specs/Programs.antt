-- How tokens spell a program: one case for each rule of the grammar above expressions.
use Rattle.std.specs.Prelude.{◌≡◌, ℕ, ℤ, pos, neg_ℤ, Bool, true, false, List, [], ◌∷◌, Option, Some, None}
use Rattle.csl_tree.specs.declared.name.Name.{Name}
use Rattle.csl_tree.specs.declared.token.Token.{Token}
use Rattle.csl_tree.specs.declared.token.TokenKind.TheVariants as kind
use Rattle.csl_tree.specs.declared.token.Keyword.{Keyword}
use Rattle.csl_tree.specs.declared.token.Keyword.TheVariants as word
use Rattle.csl_tree.specs.declared.token.Mark.{Mark}
use Rattle.csl_tree.specs.declared.token.Mark.TheVariants as mark
use Rattle.cal_terms.specs.declared.types.Ty.{Ty}
use Rattle.cal_terms.specs.declared.types.Ty.TheVariants as ty
use Rattle.cal_terms.specs.declared.types.Gives.{Gives}
use Rattle.cal_terms.specs.declared.types.Gives.TheVariants as gives
use Rattle.cal_terms.specs.declared.kinds.WordKind.TheVariants as words
use Rattle.csl_tree.specs.declared.program.Valued.{Valued}
use Rattle.csl_tree.specs.declared.program.Shared.{Shared}
use Rattle.csl_tree.specs.declared.program.Param.{Param}
use Rattle.csl_tree.specs.declared.program.Function.{Function}
use Rattle.csl_tree.specs.declared.program.Program.{Program}
use Rattle.csl_tree.specs.declared.program.Expr.{Expr}
use Rattle.csl_tree.specs.declared.program.Place.{Place}
use Rattle.csl_tree.specs.declared.program.Call.{Call}
use Rattle.csl_tree.specs.declared.program.Item.{Item}
use Rattle.csl_tree.specs.declared.program.Item.TheVariants as item
use Rattle.csl_tree.specs.declared.program.Stmt.{Stmt, roll-Stmt}
use Rattle.csl_tree.specs.declared.program.Form.{Form}
use Rattle.csl_tree.specs.declared.program.Form.TheVariants as form
use Rattle.csl_tree.specs.declared.program.Arm.{Arm, roll-Arm}
use Rattle.csl_tree.specs.declared.program.RoutineBlock.{RoutineBlock, roll-RoutineBlock}
use Rattle.csl_grammar.specs.Expressions.{SpellsExpr, SpellsArguments, whole, place, call}

-- the token is that mark
abbrev pub IsMark : Token → Mark → Type 0
IsMark token m = token.kind ≡ kind.Mark m

-- the token is that keyword
abbrev pub IsWord : Token → Keyword → Type 0
IsWord token w = token.kind ≡ kind.Word w

-- the token is that name
abbrev pub IsName : Token → Name → Type 0
IsName token name = token.kind ≡ kind.Named name

-- a statement that begins at a place in the text
abbrev pub stmt : ℕ → Form → Stmt
stmt at f = roll-Stmt (record { at = at; form = f })

-- a test of an `if` and the block behind it
abbrev pub arm : Expr → List Stmt → Arm
arm test body = roll-Arm (record { test = test; body = body })

-- the word of a type
abbrev pub type_word : Ty → Keyword
type_word ty.Int = word.Int
type_word ty.Bool = word.Bool

-- the word before a function's name, for what it gives back
abbrev pub result_word : Gives → Keyword
result_word gives.Nothing = word.Void
result_word gives.Int = word.Int
result_word gives.Bool = word.Bool

-- a rule as often as it comes: {x}
pub data Each {T : Type 0} (spells : List Token → List Token → T → Type 0) : List Token → List Token → List T → Type 0 where
  stop : {rest : List Token} → Each spells rest rest []
  again : {tokens middle rest : List Token} {x : T} {xs : List T} → spells tokens middle x → Each spells middle rest xs
      → Each spells tokens rest (x ∷ xs)

-- {"," x}
pub data MoreOf {T : Type 0} (spells : List Token → List Token → T → Type 0) : List Token → List Token → List T → Type 0 where
  no_more : {rest : List Token} → MoreOf spells rest rest []
  more : {comma : Token} {tokens middle rest : List Token} {x : T} {xs : List T} →
      IsMark comma mark.Comma → spells tokens middle x → MoreOf spells middle rest xs → MoreOf spells (comma ∷ tokens) rest (x ∷ xs)

-- [x {"," x}]
pub data ListOf {T : Type 0} (spells : List Token → List Token → T → Type 0) : List Token → List Token → List T → Type 0 where
  nothing : {rest : List Token} → ListOf spells rest rest []
  something : {tokens middle rest : List Token} {x : T} {xs : List T} →
      spells tokens middle x → MoreOf spells middle rest xs → ListOf spells tokens rest (x ∷ xs)

-- NAME ["[" expr "]"]
pub data SpellsPlace : List Token → List Token → Place → Type 0 where
  bare : {token : Token} {rest : List Token} {name : Name} → IsName token name → SpellsPlace (token ∷ rest) rest (place name None)
  indexed : {token opening closing : Token} {tokens rest : List Token} {name : Name} {index : Expr} →
      IsName token name → IsMark opening mark.OpenBracket → SpellsExpr whole tokens (closing ∷ rest) index
      → IsMark closing mark.CloseBracket →
      SpellsPlace (token ∷ opening ∷ tokens) rest (place name (Some index))

-- NAME "(" [expr {"," expr}] ")"
pub data SpellsCall : List Token → List Token → Call → Type 0 where
  called : {token opening closing : Token} {tokens rest : List Token} {name : Name} {args : List Expr} →
      IsName token name → IsMark opening mark.OpenParen → SpellsArguments tokens (closing ∷ rest) args → IsMark closing mark.CloseParen →
      SpellsCall (token ∷ opening ∷ tokens) rest (call name args)

-- ("int"|"bool") NAME "=" expr
pub data SpellsDecl : List Token → List Token → Stmt → Type 0 where
  declare : {first token equals : Token} {tokens rest : List Token} {t : Ty} {name : Name} {value : Expr} →
      IsWord first (type_word t) → IsName token name → IsMark equals mark.Assign → SpellsExpr whole tokens rest value →
      SpellsDecl (first ∷ token ∷ equals ∷ tokens) rest (stmt first.at (form.Declare t name value))

-- place ("="|"+=") expr
pub data SpellsChange : List Token → List Token → Stmt → Type 0 where
  set : {first equals : Token} {tokens middle rest : List Token} {p : Place} {value : Expr} →
      SpellsPlace (first ∷ tokens) (equals ∷ middle) p → IsMark equals mark.Assign → SpellsExpr whole middle rest value →
      SpellsChange (first ∷ tokens) rest (stmt first.at (form.Set p value))
  add_to : {first equals : Token} {tokens middle rest : List Token} {p : Place} {value : Expr} →
      SpellsPlace (first ∷ tokens) (equals ∷ middle) p → IsMark equals mark.AddAssign → SpellsExpr whole middle rest value →
      SpellsChange (first ∷ tokens) rest (stmt first.at (form.AddTo p value))

-- TEXT | expr
pub data SpellsItem : List Token → List Token → Item → Type 0 where
  text : {token : Token} {rest : List Token} {t : Name} → token.kind ≡ kind.Text t → SpellsItem (token ∷ rest) rest (item.Text t)
  value : {tokens rest : List Token} {e : Expr} → SpellsExpr whole tokens rest e → SpellsItem tokens rest (item.Value e)

mutual
  -- a statement: a declaration, a change or a call, each with `;` behind it; a block; an `if`; a loop; or one that a keyword begins
  pub data SpellsStmt : List Token → List Token → Stmt → Type 0 where
    declared : {semicolon : Token} {tokens rest : List Token} {s : Stmt} →
        SpellsDecl tokens (semicolon ∷ rest) s → IsMark semicolon mark.Semicolon → SpellsStmt tokens rest s
    changed : {semicolon : Token} {tokens rest : List Token} {s : Stmt} →
        SpellsChange tokens (semicolon ∷ rest) s → IsMark semicolon mark.Semicolon → SpellsStmt tokens rest s
    calls : {first semicolon : Token} {tokens rest : List Token} {c : Call} →
        SpellsCall (first ∷ tokens) (semicolon ∷ rest) c → IsMark semicolon mark.Semicolon →
        SpellsStmt (first ∷ tokens) rest (stmt first.at (form.CallOf c))
    block : {first : Token} {tokens rest : List Token} {body : List Stmt} →
        SpellsBlock (first ∷ tokens) rest body → SpellsStmt (first ∷ tokens) rest (stmt first.at (form.Block body))
    -- "if" "(" expr ")" block {"else" "if" "(" expr ")" block} ["else" block]
    if_else : {first : Token} {tokens middle rest : List Token} {a : Arm} {arms : List Arm} {last : Option (List Stmt)} →
        IsWord first word.If → SpellsArm tokens middle a → SpellsElse middle rest arms last →
        SpellsStmt (first ∷ tokens) rest (stmt first.at (form.If (a ∷ arms) last))
    while_loop : {first opening closing : Token} {tokens middle rest : List Token} {test : Expr} {body : List Stmt} →
        IsWord first word.While → IsMark opening mark.OpenParen → SpellsExpr whole tokens (closing ∷ middle) test
        → IsMark closing mark.CloseParen →
        SpellsBlock middle rest body → SpellsStmt (first ∷ opening ∷ tokens) rest (stmt first.at (form.While test body))
    for_loop : {first opening one two closing : Token} {tokens middle behind tail rest : List Token} {start next : Stmt} {test : Expr}
        {body : List Stmt} →
        IsWord first word.For → IsMark opening mark.OpenParen →
        SpellsStart tokens (one ∷ middle) start → IsMark one mark.Semicolon →
        SpellsExpr whole middle (two ∷ behind) test → IsMark two mark.Semicolon →
        SpellsChange behind (closing ∷ tail) next → IsMark closing mark.CloseParen →
        SpellsBlock tail rest body →
        SpellsStmt (first ∷ opening ∷ tokens) rest (stmt first.at (form.For start test next body))
    break_out : {first semicolon : Token} {rest : List Token} →
        IsWord first word.Break → IsMark semicolon mark.Semicolon → SpellsStmt (first ∷ semicolon ∷ rest) rest (stmt first.at form.Break)
    goes_on : {first semicolon : Token} {rest : List Token} →
        IsWord first word.Continue → IsMark semicolon mark.Semicolon
        → SpellsStmt (first ∷ semicolon ∷ rest) rest (stmt first.at form.Continue)
    returns : {first semicolon : Token} {rest : List Token} →
        IsWord first word.Return → IsMark semicolon mark.Semicolon
        → SpellsStmt (first ∷ semicolon ∷ rest) rest (stmt first.at (form.Return None))
    returns_value : {first semicolon : Token} {tokens rest : List Token} {e : Expr} →
        IsWord first word.Return → SpellsExpr whole tokens (semicolon ∷ rest) e → IsMark semicolon mark.Semicolon →
        SpellsStmt (first ∷ tokens) rest (stmt first.at (form.Return (Some e)))
    asserts : {first opening closing semicolon : Token} {tokens rest : List Token} {e : Expr} →
        IsWord first word.Assert → IsMark opening mark.OpenParen → SpellsExpr whole tokens (closing ∷ semicolon ∷ rest) e →
        IsMark closing mark.CloseParen → IsMark semicolon mark.Semicolon →
        SpellsStmt (first ∷ opening ∷ tokens) rest (stmt first.at (form.Assert e))
    prints : {first opening closing semicolon : Token} {tokens rest : List Token} {is : List Item} →
        IsWord first word.Print → IsMark opening mark.OpenParen → ListOf SpellsItem tokens (closing ∷ semicolon ∷ rest) is →
        IsMark closing mark.CloseParen → IsMark semicolon mark.Semicolon →
        SpellsStmt (first ∷ opening ∷ tokens) rest (stmt first.at (form.Print is))
    -- "parbegin" routine {routine} "parend" ";"
    parallel : {first last semicolon : Token} {tokens middle rest : List Token} {r : RoutineBlock} {rs : List RoutineBlock} →
        IsWord first word.Parbegin → SpellsRoutine tokens middle r → SpellsRoutines middle (last ∷ semicolon ∷ rest) rs →
        IsWord last word.Parend → IsMark semicolon mark.Semicolon →
        SpellsStmt (first ∷ tokens) rest (stmt first.at (form.Par (r ∷ rs)))

  -- decl | change, the first part of a `for`
  pub data SpellsStart : List Token → List Token → Stmt → Type 0 where
    declares : {tokens rest : List Token} {s : Stmt} → SpellsDecl tokens rest s → SpellsStart tokens rest s
    changes : {tokens rest : List Token} {s : Stmt} → SpellsChange tokens rest s → SpellsStart tokens rest s

  -- "{" {stmt} "}"
  pub data SpellsBlock : List Token → List Token → List Stmt → Type 0 where
    braces : {opening closing : Token} {tokens rest : List Token} {body : List Stmt} →
        IsMark opening mark.OpenBrace → SpellsStmts tokens (closing ∷ rest) body → IsMark closing mark.CloseBrace →
        SpellsBlock (opening ∷ tokens) rest body

  -- {stmt}
  pub data SpellsStmts : List Token → List Token → List Stmt → Type 0 where
    none : {rest : List Token} → SpellsStmts rest rest []
    one_more : {tokens middle rest : List Token} {s : Stmt} {ss : List Stmt} →
        SpellsStmt tokens middle s → SpellsStmts middle rest ss → SpellsStmts tokens rest (s ∷ ss)

  -- "(" expr ")" block
  pub data SpellsArm : List Token → List Token → Arm → Type 0 where
    tested : {opening closing : Token} {tokens middle rest : List Token} {test : Expr} {body : List Stmt} →
        IsMark opening mark.OpenParen → SpellsExpr whole tokens (closing ∷ middle) test → IsMark closing mark.CloseParen →
        SpellsBlock middle rest body → SpellsArm (opening ∷ tokens) rest (arm test body)

  -- {"else" "if" "(" expr ")" block} ["else" block]
  pub data SpellsElse : List Token → List Token → List Arm → Option (List Stmt) → Type 0 where
    no_else : {rest : List Token} → SpellsElse rest rest [] None
    else_if : {one two : Token} {tokens middle rest : List Token} {a : Arm} {arms : List Arm} {last : Option (List Stmt)} →
        IsWord one word.Else → IsWord two word.If → SpellsArm tokens middle a → SpellsElse middle rest arms last →
        SpellsElse (one ∷ two ∷ tokens) rest (a ∷ arms) last
    else_block : {one : Token} {tokens rest : List Token} {body : List Stmt} →
        IsWord one word.Else → SpellsBlock tokens rest body → SpellsElse (one ∷ tokens) rest [] (Some body)

  -- "routine" "[" expr "]" "(" "int" NAME "," "int" NAME ")" block
  pub data SpellsRoutine : List Token → List Token → RoutineBlock → Type 0 where
    routine : {first bracket closing opening int1 name1 comma int2 name2 end : Token} {tokens behind rest : List Token} {width : Expr}
        {w i : Name} {body : List Stmt} →
        IsWord first word.Routine → IsMark bracket mark.OpenBracket →
        SpellsExpr whole tokens (closing ∷ opening ∷ int1 ∷ name1 ∷ comma ∷ int2 ∷ name2 ∷ end ∷ behind) width →
        IsMark closing mark.CloseBracket → IsMark opening mark.OpenParen → IsWord int1 word.Int → IsName name1 w → IsMark comma mark.Comma →
        IsWord int2 word.Int → IsName name2 i → IsMark end mark.CloseParen → SpellsBlock behind rest body →
        SpellsRoutine (first ∷ bracket ∷ tokens) rest (roll-RoutineBlock
        (record { at = first.at; width = width; width_name = w; id_name = i; body = body }))

  -- {routine}
  pub data SpellsRoutines : List Token → List Token → List RoutineBlock → Type 0 where
    no_routine : {rest : List Token} → SpellsRoutines rest rest []
    one_routine : {tokens middle rest : List Token} {r : RoutineBlock} {rs : List RoutineBlock} →
        SpellsRoutine tokens middle r → SpellsRoutines middle rest rs → SpellsRoutines tokens rest (r ∷ rs)

-- ["-"] NUMBER
pub data SpellsValue : List Token → List Token → Valued → Type 0 where
  plain : {token : Token} {rest : List Token} {n : ℤ} → token.kind ≡ kind.Number n
      → SpellsValue (token ∷ rest) rest (record { at = token.at; number = n })
  minus : {sign token : Token} {rest : List Token} {n : ℕ} → IsMark sign mark.Minus → token.kind ≡ kind.Number (pos n) →
      SpellsValue (sign ∷ token ∷ rest) rest (record { at = sign.at; number = neg_ℤ (pos n) })

-- ["=" "{" [value {"," value}] "}"], and whether it is there
pub data SpellsInitial : List Token → List Token → Bool → List Valued → Type 0 where
  unlisted : {rest : List Token} → SpellsInitial rest rest false []
  listed : {equals opening closing : Token} {tokens rest : List Token} {vs : List Valued} →
      IsMark equals mark.Assign → IsMark opening mark.OpenBrace → ListOf SpellsValue tokens (closing ∷ rest) vs
      → IsMark closing mark.CloseBrace →
      SpellsInitial (equals ∷ opening ∷ tokens) rest true vs

-- a shared declaration: a word, an array, or a tally word
pub data SpellsShared : List Token → List Token → Shared → Type 0 where
  -- "int" NAME ";"
  scalar : {first token semicolon : Token} {rest : List Token} {name : Name} →
      IsWord first word.Int → IsName token name → IsMark semicolon mark.Semicolon →
      SpellsShared (first ∷ token ∷ semicolon ∷ rest) rest (record
      { name = name; kind = words.Ordinary; size = None; values = []; listed = false })
  -- "int" NAME "[" NUMBER "]" ["=" "{" [value {"," value}] "}"] ";"
  array : {first token opening number closing semicolon : Token} {tokens rest : List Token} {name : Name} {n : ℤ} {listed : Bool}
      {vs : List Valued} →
      IsWord first word.Int → IsName token name → IsMark opening mark.OpenBracket → number.kind ≡ kind.Number n
      → IsMark closing mark.CloseBracket →
      SpellsInitial tokens (semicolon ∷ rest) listed vs → IsMark semicolon mark.Semicolon →
      SpellsShared (first ∷ token ∷ opening ∷ number ∷ closing ∷ tokens) rest
      (record { name = name; kind = words.Ordinary; size = Some (record { at = number.at; number = n }); values = vs; listed = listed })
  -- "tally" "int" NAME ";"
  tally : {first int token semicolon : Token} {rest : List Token} {name : Name} →
      IsWord first word.Tally → IsWord int word.Int → IsName token name → IsMark semicolon mark.Semicolon →
      SpellsShared (first ∷ int ∷ token ∷ semicolon ∷ rest) rest
      (record { name = name; kind = words.Tally; size = None; values = []; listed = false })

-- ("int"|"bool") NAME
pub data SpellsParam : List Token → List Token → Param → Type 0 where
  param : {first token : Token} {rest : List Token} {t : Ty} {name : Name} →
      IsWord first (type_word t) → IsName token name → SpellsParam (first ∷ token ∷ rest) rest (record { name = name; ty = t })

-- ("int"|"bool"|"void") NAME "(" [param {"," param}] ")" block
pub data SpellsFunction : List Token → List Token → Function → Type 0 where
  function : {first token opening closing : Token} {tokens middle rest : List Token} {g : Gives} {name : Name} {ps : List Param}
      {body : List Stmt} →
      IsWord first (result_word g) → IsName token name → IsMark opening mark.OpenParen → ListOf SpellsParam tokens (closing ∷ middle) ps →
      IsMark closing mark.CloseParen → SpellsBlock middle rest body →
      SpellsFunction (first ∷ token ∷ opening ∷ tokens) rest (record { name = name; gives = g; params = ps; body = body })

-- "shared" "{" {shared} "}" {function} "main" block END
pub data SpellsProgram : List Token → Program → Type 0 where
  program : {first opening closing main end : Token} {tokens middle behind : List Token} {shared : List Shared} {functions : List Function}
      {body : List Stmt} →
      IsWord first word.Shared → IsMark opening mark.OpenBrace → Each SpellsShared tokens (closing ∷ middle) shared
      → IsMark closing mark.CloseBrace →
      Each SpellsFunction middle (main ∷ behind) functions → IsWord main word.Main → SpellsBlock behind (end ∷ []) body
      → end.kind ≡ kind.End →
      SpellsProgram (first ∷ opening ∷ tokens) (record { shared = shared; functions = functions; main = body })
