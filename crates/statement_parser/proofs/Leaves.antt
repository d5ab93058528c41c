-- The statements that begin with a keyword and hold no statements.
use Rattle.std.proofs.Common.{◌≡◌, List, [], ◌∷◌, Some, None, refl, ap, arith}
use Rattle.csl_tree.specs.declared.name.Name.{Name}
use Rattle.csl_tree.specs.declared.token.Token.{Token}
use Rattle.csl_tree.specs.declared.token.TokenKind.{TokenKind}
use Rattle.csl_tree.specs.declared.token.TokenKind.TheVariants as kind
use Rattle.csl_tree.specs.declared.token.Keyword.{Keyword}
use Rattle.csl_tree.specs.declared.token.Keyword.TheVariants as word
use Rattle.csl_tree.specs.declared.token.Mark.{Mark}
use Rattle.csl_tree.specs.declared.token.Mark.TheVariants as mark
use Rattle.csl_tree.specs.declared.program.Stmt.{Stmt}
use Rattle.csl_tree.specs.declared.program.Form.TheVariants as form
use Rattle.csl_tree.specs.declared.program.Item.{Item}
use Rattle.csl_tree.specs.declared.program.Expr.{Expr}
use Rattle.csl_grammar.specs.Expressions.{SpellsExpr, whole}
use Rattle.csl_grammar.specs.Programs.{stmt, ListOf, SpellsItem, SpellsStmt, block, break_out, goes_on, returns, returns_value, asserts}
use Rattle.csl_grammar.specs.Programs.{prints, braces, none}
use Rattle.csl_grammar.proofs.UniqueProgram.{form_is, form_of_kind, form_of_word, form_of_mark, has_form, by_word}
use Rattle.expression_parser.specs.Reading.{Refused, tok, ret, seq, this, that, behind}
use Rattle.statement_parser.specs.Statements.{NoElse, EndsAs, ReturnRest, AssertRest, PrintRest}
use Rattle.statement_parser.specs.Leaves.{holding_of, held_by}
use Rattle.expression_parser.proofs.Sequence.{Passes, passes_same, refused_here}
use Rattle.expression_parser.proofs.Single.{some_token}

-- a token of no statement
pub record Others (k : TokenKind) : Type 0 where
  pub int : k ≡ kind.Word word.Int → ⊥
  pub bool : k ≡ kind.Word word.Bool → ⊥
  pub break_ : k ≡ kind.Word word.Break → ⊥
  pub continue_ : k ≡ kind.Word word.Continue → ⊥
  pub return_ : k ≡ kind.Word word.Return → ⊥
  pub assert_ : k ≡ kind.Word word.Assert → ⊥
  pub print_ : k ≡ kind.Word word.Print → ⊥

word_form : (w : Keyword) → Others (kind.Word w) → held_by w ≡ None → form_of_word w ≡ 0
word_form word.Shared o h = refl
word_form word.Int o h = absurd (o.int refl)
word_form word.Bool o h = absurd (o.bool refl)
word_form word.Void o h = refl
word_form word.Tally o h = refl
word_form word.Main o h = refl
word_form word.Routine o h = refl
word_form word.Parbegin o h = absurd (cc)
word_form word.Parend o h = refl
word_form word.If o h = absurd (cc)
word_form word.Else o h = refl
word_form word.While o h = absurd (cc)
word_form word.For o h = absurd (cc)
word_form word.Break o h = absurd (o.break_ refl)
word_form word.Continue o h = absurd (o.continue_ refl)
word_form word.Return o h = absurd (o.return_ refl)
word_form word.Assert o h = absurd (o.assert_ refl)
word_form word.Print o h = absurd (o.print_ refl)
word_form word.True o h = refl
word_form word.False o h = refl
word_form word.Least o h = refl
word_form word.Greatest o h = refl

mark_form : (m : Mark) → (m ≡ mark.OpenBrace → ⊥) → form_of_mark m ≡ 0
mark_form mark.OpenBrace o = absurd (o refl)
mark_form mark.CloseBrace o = refl
mark_form mark.OpenParen o = refl
mark_form mark.CloseParen o = refl
mark_form mark.OpenBracket o = refl
mark_form mark.CloseBracket o = refl
mark_form mark.Comma o = refl
mark_form mark.Semicolon o = refl
mark_form mark.Assign o = refl
mark_form mark.AddAssign o = refl
mark_form mark.Plus o = refl
mark_form mark.Minus o = refl
mark_form mark.Star o = refl
mark_form mark.Slash o = refl
mark_form mark.Percent o = refl
mark_form mark.Bang o = refl
mark_form mark.Equal o = refl
mark_form mark.NotEqual o = refl
mark_form mark.Less o = refl
mark_form mark.LessEqual o = refl
mark_form mark.Greater o = refl
mark_form mark.GreaterEqual o = refl
mark_form mark.AndAnd o = refl
mark_form mark.OrOr o = refl

no_form : (k : TokenKind) (ts : List Token) → ((n : Name) → k ≡ kind.Named n → ⊥) → (k ≡ kind.Mark mark.OpenBrace → ⊥) → holding_of k ≡ None → Others k → form_of_kind k ts ≡ 0
no_form (kind.Word w) ts name brace h o = word_form w o h
no_form (kind.Named n) ts name brace h o = absurd (name n refl)
no_form (kind.Number n) ts name brace h o = refl
no_form (kind.Text t) ts name brace h o = refl
no_form (kind.Mark m) ts name brace h o = mark_form m (λ e. brace (ap (λ x. kind.Mark x) e))
no_form kind.End ts name brace h o = refl

pub leaf_refused : (first : Token) (tokens : List Token) → ((n : Name) → first.kind ≡ kind.Named n → ⊥) → (first.kind ≡ kind.Mark mark.OpenBrace → ⊥) → holding_of first.kind ≡ None → Others first.kind
    → Refused SpellsStmt NoElse (first ∷ tokens) first.at
leaf_refused first tokens name brace h o =
    refused_here SpellsStmt NoElse first tokens (λ others r s d e. has_form d (no_form first.kind others name brace h o))
    (some_token (kind.Mark mark.OpenBrace) ∷ some_token (kind.Mark mark.CloseBrace) ∷ []) (stmt 0 (form.Block [])) (λ others. block (braces refl none refl))

-- ---- each form behind its keyword

break_there : (first : Token) {ts r : List Token} {s : Stmt} → first.kind ≡ kind.Word word.Break → EndsAs (stmt first.at form.Break) ts r s → SpellsStmt (first ∷ ts) r s
break_there first w (seq (tok k) ret) = break_out w k

break_back : (first : Token) {ts r : List Token} {s : Stmt} → first.kind ≡ kind.Word word.Break → SpellsStmt (first ∷ ts) r s → EndsAs (stmt first.at form.Break) ts r s
break_back first w (break_out w' k) = seq (tok k) ret
break_back first {ts = ts} w d = absurd (omega (arith, form_is d, by_word first ts w))

pub break_same : (first : Token) (tokens : List Token) → first.kind ≡ kind.Word word.Break → Passes (EndsAs (stmt first.at form.Break)) (behind first SpellsStmt) NoElse tokens tokens
break_same first tokens w = passes_same (EndsAs (stmt first.at form.Break)) (behind first SpellsStmt) NoElse tokens
    (record { there = λ ts r s d. break_there first w d; back = λ ts r s d h. break_back first w d })

continue_there : (first : Token) {ts r : List Token} {s : Stmt} → first.kind ≡ kind.Word word.Continue → EndsAs (stmt first.at form.Continue) ts r s → SpellsStmt (first ∷ ts) r s
continue_there first w (seq (tok k) ret) = goes_on w k

continue_back : (first : Token) {ts r : List Token} {s : Stmt} → first.kind ≡ kind.Word word.Continue → SpellsStmt (first ∷ ts) r s → EndsAs (stmt first.at form.Continue) ts r s
continue_back first w (goes_on w' k) = seq (tok k) ret
continue_back first {ts = ts} w d = absurd (omega (arith, form_is d, by_word first ts w))

pub continue_same : (first : Token) (tokens : List Token) → first.kind ≡ kind.Word word.Continue → Passes (EndsAs (stmt first.at form.Continue)) (behind first SpellsStmt) NoElse tokens tokens
continue_same first tokens w = passes_same (EndsAs (stmt first.at form.Continue)) (behind first SpellsStmt) NoElse tokens
    (record { there = λ ts r s d. continue_there first w d; back = λ ts r s d h. continue_back first w d })

return_ends : (first : Token) (value : Expr) {ts m r : List Token} {s : Stmt} → first.kind ≡ kind.Word word.Return → SpellsExpr whole ts m value
    → EndsAs (stmt first.at (form.Return (Some value))) m r s → SpellsStmt (first ∷ ts) r s
return_ends first value w d (seq (tok k) ret) = returns_value w d k

return_there : (first : Token) {ts r : List Token} {s : Stmt} → first.kind ≡ kind.Word word.Return → ReturnRest first ts r s → SpellsStmt (first ∷ ts) r s
return_there first w (this (seq (tok k) ret)) = returns w k
return_there first w (that (seq {part = value} d e)) = return_ends first value w d e

return_back : (first : Token) {ts r : List Token} {s : Stmt} → first.kind ≡ kind.Word word.Return → SpellsStmt (first ∷ ts) r s → ReturnRest first ts r s
return_back first w (returns w' k) = this (seq (tok k) ret)
return_back first w (returns_value w' d k) = that (seq d (seq (tok k) ret))
return_back first {ts = ts} w d = absurd (omega (arith, form_is d, by_word first ts w))

pub return_same : (first : Token) (tokens : List Token) → first.kind ≡ kind.Word word.Return → Passes (ReturnRest first) (behind first SpellsStmt) NoElse tokens tokens
return_same first tokens w = passes_same (ReturnRest first) (behind first SpellsStmt) NoElse tokens (record { there = λ ts r s d. return_there first w d; back = λ ts r s d h. return_back first w d })

assert_ends : (first : Token) (test : Expr) {opening closing : Token} {ts m r : List Token} {s : Stmt} → first.kind ≡ kind.Word word.Assert → opening.kind ≡ kind.Mark mark.OpenParen
    → SpellsExpr whole ts (closing ∷ m) test → closing.kind ≡ kind.Mark mark.CloseParen → EndsAs (stmt first.at (form.Assert test)) m r s → SpellsStmt (first ∷ opening ∷ ts) r s
assert_ends first test w o d c (seq (tok k) ret) = asserts w o d c k

assert_there : (first : Token) {ts r : List Token} {s : Stmt} → first.kind ≡ kind.Word word.Assert → AssertRest first ts r s → SpellsStmt (first ∷ ts) r s
assert_there first w (seq (tok o) (seq {part = test} d (seq (tok c) e))) = assert_ends first test w o d c e

assert_back : (first : Token) {ts r : List Token} {s : Stmt} → first.kind ≡ kind.Word word.Assert → SpellsStmt (first ∷ ts) r s → AssertRest first ts r s
assert_back first w (asserts w' o d c k) = seq (tok o) (seq d (seq (tok c) (seq (tok k) ret)))
assert_back first {ts = ts} w d = absurd (omega (arith, form_is d, by_word first ts w))

pub assert_same : (first : Token) (tokens : List Token) → first.kind ≡ kind.Word word.Assert → Passes (AssertRest first) (behind first SpellsStmt) NoElse tokens tokens
assert_same first tokens w = passes_same (AssertRest first) (behind first SpellsStmt) NoElse tokens (record { there = λ ts r s d. assert_there first w d; back = λ ts r s d h. assert_back first w d })

print_ends : (first : Token) (items : List Item) {opening closing : Token} {ts m r : List Token} {s : Stmt} → first.kind ≡ kind.Word word.Print → opening.kind ≡ kind.Mark mark.OpenParen
    → ListOf SpellsItem ts (closing ∷ m) items → closing.kind ≡ kind.Mark mark.CloseParen → EndsAs (stmt first.at (form.Print items)) m r s → SpellsStmt (first ∷ opening ∷ ts) r s
print_ends first items w o d c (seq (tok k) ret) = prints w o d c k

print_there : (first : Token) {ts r : List Token} {s : Stmt} → first.kind ≡ kind.Word word.Print → PrintRest first ts r s → SpellsStmt (first ∷ ts) r s
print_there first w (seq (tok o) (seq {part = items} d e)) = print_ends first items w o d.1 d.2 e

print_back : (first : Token) {ts r : List Token} {s : Stmt} → first.kind ≡ kind.Word word.Print → SpellsStmt (first ∷ ts) r s → PrintRest first ts r s
print_back first w (prints {closing = z} w' o d c k) = seq (tok o) (seq (z, d, c) (seq (tok k) ret))
print_back first {ts = ts} w d = absurd (omega (arith, form_is d, by_word first ts w))

pub print_same : (first : Token) (tokens : List Token) → first.kind ≡ kind.Word word.Print → Passes (PrintRest first) (behind first SpellsStmt) NoElse tokens tokens
print_same first tokens w = passes_same (PrintRest first) (behind first SpellsStmt) NoElse tokens (record { there = λ ts r s d. print_there first w d; back = λ ts r s d h. print_back first w d })
