-- The rules of statements that hold statements.
use Rattle.std.proofs.Common.{◌≡◌, List, [], ◌∷◌, ◌++◌, Some, None, Option, refl, ap, sym, ◌∙◌, subst, arith, append-nil, append_assoc}
use Rattle.csl_tree.specs.declared.name.Name.{Name}
use Rattle.csl_tree.specs.declared.token.Token.{Token}
use Rattle.csl_tree.specs.declared.token.TokenKind.{TokenKind}
use Rattle.csl_tree.specs.declared.token.TokenKind.TheVariants as kind
use Rattle.csl_tree.specs.declared.token.Keyword.TheVariants as word
use Rattle.csl_tree.specs.declared.token.Mark.{Mark}
use Rattle.csl_tree.specs.declared.token.Mark.TheVariants as mark
use Rattle.csl_tree.specs.declared.program.Expr.{Expr}
use Rattle.csl_tree.specs.declared.program.Stmt.{Stmt}
use Rattle.csl_tree.specs.declared.program.Arm.{Arm}
use Rattle.csl_tree.specs.declared.program.RoutineBlock.{RoutineBlock, roll-RoutineBlock}
use Rattle.csl_tree.specs.declared.program.Form.TheVariants as form
use Rattle.csl_grammar.specs.Expressions.{SpellsExpr, whole}
use Rattle.csl_grammar.specs.Stops.{IsEnded, BeginsOtherThan, Stops}
use Rattle.csl_grammar.specs.Programs.{stmt, arm, Each, stop, again, SpellsStmt, block, if_else, while_loop, for_loop}
use Rattle.csl_grammar.specs.Programs.{parallel, SpellsStart, changes, SpellsChange, SpellsBlock, braces, SpellsStmts, none, one_more, SpellsArm, tested, SpellsElse, no_else}
use Rattle.csl_grammar.specs.Programs.{else_if, else_block, SpellsRoutine, routine, SpellsRoutines, no_routine, one_routine}
use Rattle.csl_grammar.proofs.Unique.{begins_clash}
use Rattle.csl_grammar.proofs.UniqueParts.{unique_change, stops_paren, stops_semicolon}
use Rattle.csl_grammar.proofs.UniqueProgram.{form_is, by_word, by_mark, unique_stmt, unique_start, unique_block, unique_stmts, unique_arm, unique_routine, unique_routines}
use Rattle.csl_grammar.proofs.UniqueProgram.{stmts_no_else}
use Rattle.expression_parser.specs.Reading.{Found, Tok, tok, NameTok, name_tok, Ret, ret, Then, seq, Until, Completes, Repeating, behind, stops_anywhere}
use Rattle.statement_parser.specs.Statements.{NoElse, EndsAs, BlockRest, WhileRest, ForRest, IfRest, ElseFrom, RoutinesRest, ParRest, TwoNames, both}
use Rattle.expression_parser.proofs.Sequence.{Passes, passes_same, passes_behind, passes_through}
use Rattle.expression_parser.proofs.Rules.{stops_same}
use Rattle.expression_parser.proofs.Single.{some_token, token_found}
use Rattle.expression_parser.proofs.Then.{Follows, completes_ret, completes_tok, completes_name, completes_then, completes_until, tok_follows}
use Rattle.expression_parser.proofs.Then.{then_passes, tok_found, narrowed, narrowed_by, begins_other}
use Rattle.expression_parser.proofs.Steps.{some_expr}
use Rattle.statement_parser.proofs.StatementParts.{some_change, ends_as, expr_before}

abbrev brace : TokenKind
brace = kind.Mark mark.CloseBrace

abbrev round : TokenKind
round = kind.Mark mark.OpenParen

abbrev parend : TokenKind
parend = kind.Word word.Parend

-- what holds in front of no token holds
ends_ret : {T : Type 0} (P : List Token → T → Type 0) (known : T) {m r : List Token} {t : T} → Ret known m r t → P m known → P r t
ends_ret P known ret h = h

-- ---- blocks

pub stmts_each : {ts r : List Token} {ss : List Stmt} → SpellsStmts ts r ss → Each SpellsStmt ts r ss
stmts_each none = stop
stmts_each (one_more d m) = again d (stmts_each m)

pub each_stmts : {ts r : List Token} {ss : List Stmt} → Each SpellsStmt ts r ss → SpellsStmts ts r ss
each_stmts stop = none
each_stmts (again d m) = one_more d (each_stmts m)

pub stmts_repeated : Repeating brace SpellsStmt NoElse
stmts_repeated = record {
  unique = λ tokens middle middle' x x' d d' s s'. unique_stmt d d' refl s s';
  same_first = λ token xs ys h. h;
  before = λ ts rest xs last d k. stmts_no_else (each_stmts d) refl k;
  no_end = λ h. cc;
}

some_rest : Completes BlockRest
some_rest = completes_until brace SpellsStmt NoElse []

pub block_opening : Follows (Tok (kind.Mark mark.OpenBrace)) stops_anywhere (λ opening. BlockRest) stops_anywhere
block_opening = tok_follows (kind.Mark mark.OpenBrace) stops_anywhere (λ opening. some_rest)

block_there : {ts r : List Token} {b : List Stmt} → Then (Tok (kind.Mark mark.OpenBrace)) (λ opening. BlockRest) ts r b → SpellsBlock ts r b
block_there {r = r} {b = b} (seq {middle = m} (tok {token = opening} o) d) =
    let at : List Stmt → Type 0 = λ x. SpellsBlock (opening ∷ m) r x in
    subst at (sym d.4) (braces o (each_stmts d.2) d.3)

block_back : {ts r : List Token} {b : List Stmt} → SpellsBlock ts r b → Then (Tok (kind.Mark mark.OpenBrace)) (λ opening. BlockRest) ts r b
block_back (braces {closing = z} {body = body} o d c) = seq (tok o) (z, body, stmts_each d, c, refl)

pub block_same : (tokens : List Token) → Passes (Then (Tok (kind.Mark mark.OpenBrace)) (λ opening. BlockRest)) SpellsBlock stops_anywhere tokens tokens
block_same tokens = passes_same (Then (Tok (kind.Mark mark.OpenBrace)) (λ opening. BlockRest)) SpellsBlock stops_anywhere tokens
    (record { there = λ ts r b d. block_there d; back = λ ts r b d h. block_back d })

rest_once : {tokens middle middle' : List Token} {b b' : List Stmt} → BlockRest tokens middle b → BlockRest tokens middle' b' → (middle ≡ middle') × (b ≡ b')
rest_once d d' = let same : _ × _ = unique_stmts (each_stmts d.2) (each_stmts d'.2) refl refl refl d.3 d'.3 in ((cc same.0), (d.4 ∙ same.1 ∙ sym d'.4))

-- a block as a statement
pub inner_follows : (f : List Stmt → Stmt) → Follows BlockRest stops_anywhere (λ body. Ret (f body)) NoElse
inner_follows f = record {
  unique = λ tokens middle middle' b b' d d' s s'. rest_once d d';
  same_first = λ token xs ys s. tt;
  ahead = λ middle rest part tree d s. tt;
  completes = λ body. completes_ret (f body);
}

inner_there : (first : Token) {ts r : List Token} {s : Stmt} → first.kind ≡ kind.Mark mark.OpenBrace → Then BlockRest (λ body. Ret (stmt first.at (form.Block body))) ts r s
    → SpellsStmt (first ∷ ts) r s
inner_there first {ts = ts} w (seq {middle = m} {part = body} d e) =
    let at : List Stmt → Type 0 = λ x. SpellsStmt (first ∷ ts) m (stmt first.at (form.Block x)) in
    ends_ret (λ y t. SpellsStmt (first ∷ ts) y t) (stmt first.at (form.Block body)) e (subst at (sym d.4) (block (braces w (each_stmts d.2) d.3)))

inner_back : (first : Token) {ts r : List Token} {s : Stmt} → first.kind ≡ kind.Mark mark.OpenBrace → SpellsStmt (first ∷ ts) r s
    → Then BlockRest (λ body. Ret (stmt first.at (form.Block body))) ts r s
inner_back first w (block (braces {closing = z} {body = body} o d c)) = seq (z, body, stmts_each d, c, refl) ret
inner_back first {ts = ts} w d = absurd (omega (arith, form_is d, by_mark first ts w))

pub inner_same : (first : Token) (tokens : List Token) → first.kind ≡ kind.Mark mark.OpenBrace
    → Passes (Then BlockRest (λ body. Ret (stmt first.at (form.Block body)))) (behind first SpellsStmt) NoElse tokens tokens
inner_same first tokens w = passes_same (Then BlockRest (λ body. Ret (stmt first.at (form.Block body)))) (behind first SpellsStmt) NoElse tokens
    (record { there = λ ts r s d. inner_there first w d; back = λ ts r s d h. inner_back first w d })

some_block : Completes SpellsBlock
some_block = record { ending = some_token (kind.Mark mark.OpenBrace) ∷ some_token brace ∷ []; finished = []; some = λ others. braces refl none refl }

-- ---- a test and a block

pub body_follows : {T : Type 0} (f : List Stmt → T) (last : List Token → Type 0) → Follows SpellsBlock stops_anywhere (λ body. Ret (f body)) last
body_follows f last = record {
  unique = λ tokens middle middle' b b' d d' s s'. unique_block d d' refl;
  same_first = λ token xs ys s. tt;
  ahead = λ middle rest part tree d s. tt;
  completes = λ body. completes_ret (f body);
}

body_completes : {T : Type 0} (f : List Stmt → T) → Completes (Then SpellsBlock (λ body. Ret (f body)))
body_completes f = completes_then some_block (λ body. completes_ret (f body))

pub closing_body : {T : Type 0} (f : List Stmt → T) (last : List Token → Type 0) → Follows (Tok (kind.Mark mark.CloseParen)) stops_anywhere (λ closing. Then SpellsBlock (λ body. Ret (f body))) last
closing_body f last = tok_follows (kind.Mark mark.CloseParen) last (λ closing. body_completes f)

test_completes : {T : Type 0} (g : List Stmt → T) → Completes (Then (Tok (kind.Mark mark.CloseParen)) (λ closing. Then SpellsBlock (λ body. Ret (g body))))
test_completes g = completes_then (completes_tok (kind.Mark mark.CloseParen)) (λ closing. body_completes g)

pub test_body : {T : Type 0} (g : Expr → List Stmt → T) (last : List Token → Type 0) → Follows (SpellsExpr whole) (Stops whole)
    (λ test. Then (Tok (kind.Mark mark.CloseParen)) (λ closing. Then SpellsBlock (λ body. Ret (g test body)))) last
test_body g last = expr_before mark.CloseParen last refl (λ h. cc) (λ h. cc) (λ test. test_completes (g test))

pub opening_body : {T : Type 0} (g : Expr → List Stmt → T) (last : List Token → Type 0) → Follows (Tok round) stops_anywhere
    (λ opening. Then (SpellsExpr whole) (λ test. Then (Tok (kind.Mark mark.CloseParen)) (λ closing. Then SpellsBlock (λ body. Ret (g test body))))) last
opening_body g last = tok_follows round last (λ opening. completes_then some_expr (λ test. test_completes (g test)))

abbrev pub ArmChain : List Token → List Token → Arm → Type 0
ArmChain = Then (Tok round) (λ opening. Then (SpellsExpr whole) (λ test. Then (Tok (kind.Mark mark.CloseParen)) (λ closing. Then SpellsBlock (λ body. Ret (arm test body)))))

arm_there : {ts r : List Token} {a : Arm} → ArmChain ts r a → SpellsArm ts r a
arm_there (seq {middle = m} (tok {token = q} o) (seq {part = test} d (seq (tok c) (seq {part = body} b e)))) = ends_ret (λ y t. SpellsArm (q ∷ m) y t) (arm test body) e (tested o d c b)

arm_back : {ts r : List Token} {a : Arm} → SpellsArm ts r a → ArmChain ts r a
arm_back (tested o d c b) = seq (tok o) (seq d (seq (tok c) (seq b ret)))

pub arm_same : (tokens : List Token) → Passes ArmChain SpellsArm stops_anywhere tokens tokens
arm_same tokens = passes_same ArmChain SpellsArm stops_anywhere tokens (record { there = λ ts r a d. arm_there d; back = λ ts r a d h. arm_back d })

while_there : (first : Token) {ts r : List Token} {s : Stmt} → first.kind ≡ kind.Word word.While → WhileRest first ts r s → SpellsStmt (first ∷ ts) r s
while_there first w (seq {middle = m} (tok {token = q} o) (seq {part = test} d (seq (tok c) (seq {part = body} b e)))) = ends_ret (λ y t. SpellsStmt (first ∷ q ∷ m) y t)
    (stmt first.at (form.While test body)) e (while_loop w o d c b)

while_back : (first : Token) {ts r : List Token} {s : Stmt} → first.kind ≡ kind.Word word.While → SpellsStmt (first ∷ ts) r s → WhileRest first ts r s
while_back first w (while_loop w' o d c b) = seq (tok o) (seq d (seq (tok c) (seq b ret)))
while_back first {ts = ts} w d = absurd (omega (arith, form_is d, by_word first ts w))

pub while_same : (first : Token) (tokens : List Token) → first.kind ≡ kind.Word word.While → Passes (WhileRest first) (behind first SpellsStmt) NoElse tokens tokens
while_same first tokens w = passes_same (WhileRest first) (behind first SpellsStmt) NoElse tokens (record { there = λ ts r s d. while_there first w d; back = λ ts r s d h. while_back first w d })

-- ---- for

for_there : (first : Token) {ts r : List Token} {s : Stmt} → first.kind ≡ kind.Word word.For → ForRest first ts r s → SpellsStmt (first ∷ ts) r s
for_there first w (seq {middle = m} (tok {token = q} o) (seq {part = begun} a (seq (tok s) (seq {part = test} t (seq (tok u) (seq {part = next} n (seq (tok c) (seq {part = body} b e)))))))) =
    ends_ret (λ y x. SpellsStmt (first ∷ q ∷ m) y x) (stmt first.at (form.For begun test next body)) e (for_loop w o a s t u n c b)

for_back : (first : Token) {ts r : List Token} {s : Stmt} → first.kind ≡ kind.Word word.For → SpellsStmt (first ∷ ts) r s → ForRest first ts r s
for_back first w (for_loop w' o a s t u n c b) = seq (tok o) (seq a (seq (tok s) (seq t (seq (tok u) (seq n (seq (tok c) (seq b ret)))))))
for_back first {ts = ts} w d = absurd (omega (arith, form_is d, by_word first ts w))

pub for_same : (first : Token) (tokens : List Token) → first.kind ≡ kind.Word word.For → Passes (ForRest first) (behind first SpellsStmt) NoElse tokens tokens
for_same first tokens w = passes_same (ForRest first) (behind first SpellsStmt) NoElse tokens (record { there = λ ts r s d. for_there first w d; back = λ ts r s d h. for_back first w d })

-- the parts of a `for`, from the last one
pub for_body : (f : List Stmt → Stmt) → Follows (Tok (kind.Mark mark.CloseParen)) stops_anywhere (λ closing. Then SpellsBlock (λ body. Ret (f body))) NoElse
for_body f = closing_body f NoElse

change_ahead : {T : Type 0} {second : Token → List Token → List Token → T → Type 0} {m : Mark} {middle rest : List Token} {tree : T} → m ≡ mark.CloseParen
    → Then (Tok (kind.Mark m)) second middle rest tree → Stops whole middle
change_ahead e (seq (tok k) d) = stops_paren (cc (k, e))

pub for_next : (f : Stmt → List Stmt → Stmt) → Follows SpellsChange (Stops whole) (λ next. Then (Tok (kind.Mark mark.CloseParen)) (λ closing. Then SpellsBlock (λ body. Ret (f next body)))) NoElse
for_next f = record {
  unique = λ tokens middle middle' s s' d d' h h'. unique_change d d' refl h h';
  same_first = stops_same whole;
  ahead = λ middle rest part tree d s. change_ahead refl d;
  completes = λ next. test_completes (f next);
}

next_completes : (f : Stmt → List Stmt → Stmt) → Completes (Then SpellsChange (λ next. Then (Tok (kind.Mark mark.CloseParen)) (λ closing. Then SpellsBlock (λ body. Ret (f next body)))))
next_completes f = completes_then some_change (λ next. test_completes (f next))

pub for_two : (f : Stmt → List Stmt → Stmt) → Follows (Tok (kind.Mark mark.Semicolon)) stops_anywhere
    (λ two. Then SpellsChange (λ next. Then (Tok (kind.Mark mark.CloseParen)) (λ closing. Then SpellsBlock (λ body. Ret (f next body))))) NoElse
for_two f = tok_follows (kind.Mark mark.Semicolon) NoElse (λ two. next_completes f)

two_completes : (f : Stmt → List Stmt → Stmt) → Completes (Then (Tok (kind.Mark mark.Semicolon))
    (λ two. Then SpellsChange (λ next. Then (Tok (kind.Mark mark.CloseParen)) (λ closing. Then SpellsBlock (λ body. Ret (f next body))))))
two_completes f = completes_then (completes_tok (kind.Mark mark.Semicolon)) (λ two. next_completes f)

pub for_test : (f : Expr → Stmt → List Stmt → Stmt) → Follows (SpellsExpr whole) (Stops whole)
    (λ test. Then (Tok (kind.Mark mark.Semicolon)) (λ two. Then SpellsChange (λ next. Then (Tok (kind.Mark mark.CloseParen)) (λ closing. Then SpellsBlock (λ body. Ret (f test next body)))))) NoElse
for_test f = expr_before mark.Semicolon NoElse refl (λ h. cc) (λ h. cc) (λ test. two_completes (f test))

some_test : (f : Expr → Stmt → List Stmt → Stmt) → Completes (Then (SpellsExpr whole) (λ test. Then (Tok (kind.Mark mark.Semicolon))
    (λ two. Then SpellsChange (λ next. Then (Tok (kind.Mark mark.CloseParen)) (λ closing. Then SpellsBlock (λ body. Ret (f test next body)))))))
some_test f = completes_then some_expr (λ test. two_completes (f test))

pub for_one : (f : Expr → Stmt → List Stmt → Stmt) → Follows (Tok (kind.Mark mark.Semicolon)) stops_anywhere
    (λ one. Then (SpellsExpr whole) (λ test. Then (Tok (kind.Mark mark.Semicolon)) (λ two. Then SpellsChange
    (λ next. Then (Tok (kind.Mark mark.CloseParen)) (λ closing. Then SpellsBlock (λ body. Ret (f test next body))))))) NoElse
for_one f = tok_follows (kind.Mark mark.Semicolon) NoElse (λ one. some_test f)

start_ahead : {T : Type 0} {second : Token → List Token → List Token → T → Type 0} {middle rest : List Token} {tree : T} → Then (Tok (kind.Mark mark.Semicolon)) second middle rest tree
    → Stops whole middle
start_ahead (seq (tok k) d) = stops_semicolon k

abbrev pub ForTail : (Expr → Stmt → List Stmt → Stmt) → List Token → List Token → Stmt → Type 0
ForTail f = Then (Tok (kind.Mark mark.Semicolon)) (λ one. Then (SpellsExpr whole) (λ test. Then (Tok (kind.Mark mark.Semicolon))
    (λ two. Then SpellsChange (λ next. Then (Tok (kind.Mark mark.CloseParen)) (λ closing. Then SpellsBlock (λ body. Ret (f test next body)))))))

tail_completes : (f : Expr → Stmt → List Stmt → Stmt) → Completes (ForTail f)
tail_completes f = completes_then (completes_tok (kind.Mark mark.Semicolon)) (λ one. some_test f)

pub for_start : (f : Stmt → Expr → Stmt → List Stmt → Stmt) → Follows SpellsStart (Stops whole) (λ start. ForTail (f start)) NoElse
for_start f = record {
  unique = λ tokens middle middle' s s' d d' h h'. unique_start d d' refl h h';
  same_first = stops_same whole;
  ahead = λ middle rest part tree d s. start_ahead d;
  completes = λ start. tail_completes (f start);
}

some_start : Completes SpellsStart
some_start = record { ending = some_change.ending; finished = some_change.finished; some = λ others. changes (some_change.some others) }

pub for_opening : (f : Stmt → Expr → Stmt → List Stmt → Stmt) → Follows (Tok round) stops_anywhere (λ opening. Then SpellsStart (λ start. ForTail (f start))) NoElse
for_opening f = tok_follows round NoElse (λ opening. completes_then some_start (λ start. tail_completes (f start)))

-- ---- if

pub arm_follows : (first : Token) → Follows SpellsArm stops_anywhere (λ a. ElseFrom first (a ∷ [])) NoElse
arm_follows first = record {
  unique = λ tokens middle middle' a a' d d' s s'. unique_arm d d' refl;
  same_first = λ token xs ys s. tt;
  ahead = λ middle rest part tree d s. tt;
  completes = λ a. else_completes first (a ∷ []);
}
  where
    else_completes : (first : Token) (sofar : List Arm) → Completes (ElseFrom first sofar)
    else_completes first sofar = record { ending = []; finished = stmt first.at (form.If (sofar ++ []) None); some = λ others. ([], None, no_else, refl) }

pub more_arms : (first : Token) (sofar : List Arm) → Follows SpellsArm stops_anywhere (λ a. ElseFrom first (sofar ++ a ∷ [])) NoElse
more_arms first sofar = record {
  unique = λ tokens middle middle' a a' d d' s s'. unique_arm d d' refl;
  same_first = λ token xs ys s. tt;
  ahead = λ middle rest part tree d s. tt;
  completes = λ a. record { ending = []; finished = stmt first.at (form.If ((sofar ++ a ∷ []) ++ []) None); some = λ others. ([], None, no_else, refl) };
}

arm_chain : Completes ArmChain
arm_chain = completes_then (completes_tok round) (λ opening. completes_then some_expr (λ test. test_completes (λ body. arm test body)))

some_arm : Completes SpellsArm
some_arm = record { ending = arm_chain.ending; finished = arm_chain.finished; some = λ others. arm_there (arm_chain.some others) }

if_there : (first : Token) {ts r : List Token} {s : Stmt} → first.kind ≡ kind.Word word.If → IfRest first ts r s → SpellsStmt (first ∷ ts) r s
if_there first {ts = ts} {r = r} w (seq {part = a} d e) =
    let at : Stmt → Type 0 = λ x. SpellsStmt (first ∷ ts) r x in
    subst at (sym e.3) (if_else w d e.2)

if_back : (first : Token) {ts r : List Token} {s : Stmt} → first.kind ≡ kind.Word word.If → SpellsStmt (first ∷ ts) r s → IfRest first ts r s
if_back first w (if_else {arms = arms} {last = last} w' a e) = seq a (arms, last, e, refl)
if_back first {ts = ts} w d = absurd (omega (arith, form_is d, by_word first ts w))

pub if_same : (first : Token) (tokens : List Token) → first.kind ≡ kind.Word word.If → Passes (IfRest first) (behind first SpellsStmt) NoElse tokens tokens
if_same first tokens w = passes_same (IfRest first) (behind first SpellsStmt) NoElse tokens (record { there = λ ts r s d. if_there first w d; back = λ ts r s d h. if_back first w d })

-- where no `else` comes next
pub arms_done : (first : Token) (sofar : List Arm) (tokens : List Token) → IsEnded tokens → NoElse tokens → Found (ElseFrom first sofar) NoElse tokens tokens (stmt first.at (form.If sofar None))
arms_done first sofar tokens ended other = record {
  read = [];
  split = refl;
  spelled = λ others. ([], None, no_else, ap (λ x. stmt first.at (form.If x None)) (sym (append-nil sofar)));
  stopped = other;
  ended = ended;
}

-- behind an `else` that an `if` follows
another_there : (first e : Token) (sofar : List Arm) {ts r : List Token} {s : Stmt} → e.kind ≡ kind.Word word.Else
    → Then (Tok (kind.Word word.If)) (λ i. Then SpellsArm (λ a. ElseFrom first (sofar ++ a ∷ []))) ts r s → ElseFrom first sofar (e ∷ ts) r s
another_there first e sofar k (seq (tok i) (seq {part = a} d h)) = (a ∷ h.0, h.1, else_if k i d h.2, h.3 ∙ ap (λ x. stmt first.at (form.If x h.1)) (append_assoc sofar (a ∷ []) h.0))

another_back : (first : Token) (sofar : List Arm) {e n : Token} {all b r : List Token} {arms : List Arm} {last : Option (List Stmt)} {s : Stmt} → SpellsElse all r arms last
    → s ≡ stmt first.at (form.If (sofar ++ arms) last) → all ≡ e ∷ n ∷ b → e.kind ≡ kind.Word word.Else → n.kind ≡ kind.Word word.If → NoElse r
    → Then (Tok (kind.Word word.If)) (λ i. Then SpellsArm (λ a. ElseFrom first (sofar ++ a ∷ []))) (n ∷ b) r s
another_back first sofar {r = r} no_else is all k i h = absurd (begins_clash r h all k)
another_back first sofar {n = n} {b = b} {r = r} {s = s} (else_if {two = two} {tokens = w} {a = a} {arms = arms} {last = last} k' i' d m) is all k i h =
    let same : two ∷ w ≡ n ∷ b = cc in
    let at : List Token → Type 0 = λ x. Then (Tok (kind.Word word.If)) (λ i. Then SpellsArm (λ a. ElseFrom first (sofar ++ a ∷ []))) x r s in
    subst at same (seq (tok i') (seq d (arms, last, m, is ∙ ap (λ x. stmt first.at (form.If x last)) (sym (append_assoc sofar (a ∷ []) arms)))))
another_back first sofar (else_block k' (braces o d c)) is all k i h = absurd (cc)

another_at : (first e : Token) (sofar : List Arm) (n : Token) {ts b r : List Token} {s : Stmt} → ts ≡ n ∷ b → ElseFrom first sofar (e ∷ ts) r s → e.kind ≡ kind.Word word.Else
    → n.kind ≡ kind.Word word.If → NoElse r → Then (Tok (kind.Word word.If)) (λ i. Then SpellsArm (λ a. ElseFrom first (sofar ++ a ∷ []))) ts r s
another_at first e sofar n {ts = ts} {b = b} {r = r} {s = s} at d k i h =
    let to : List Token → Type 0 = λ x. Then (Tok (kind.Word word.If)) (λ i. Then SpellsArm (λ a. ElseFrom first (sofar ++ a ∷ []))) x r s in
    let there : Then (Tok (kind.Word word.If)) (λ i. Then SpellsArm (λ a. ElseFrom first (sofar ++ a ∷ []))) (n ∷ b) r s = another_back first sofar d.2 d.3 (ap (λ x. e ∷ x) at) k i h in
    subst to (sym at) there

pub another_next : (first e : Token) (sofar : List Arm) (tokens rest : List Token) (n : Token) (inner : List Token) → IsEnded tokens → tokens ≡ e ∷ rest → e.kind ≡ kind.Word word.Else → IsEnded rest
    → rest ≡ n ∷ inner → n.kind ≡ kind.Word word.If → Passes (Then SpellsArm (λ a. ElseFrom first (sofar ++ a ∷ []))) (ElseFrom first sofar) NoElse inner tokens
another_next first e sofar tokens rest n inner ended split k ended' split' i =
    passes_through (then_passes (tok_follows (kind.Word word.If) NoElse (λ i. completes_then some_arm (λ a. (more_arms first sofar).completes a))) rest inner n
    (tok_found (token_found (kind.Word word.If) rest n inner ended' split' i (λ h. cc))))
    (passes_through (narrowed (Then (Tok (kind.Word word.If)) (λ i. Then SpellsArm (λ a. ElseFrom first (sofar ++ a ∷ [])))) (behind e (ElseFrom first sofar)) NoElse rest n inner split'
    (λ ts r s d. another_there first e sofar k d) (λ ts r b s at d h. another_at first e sofar n at d k i h))
    (passes_behind (ElseFrom first sofar) NoElse e rest tokens split))

-- behind an `else` that no `if` follows
last_there : (first e : Token) (sofar : List Arm) {ts r : List Token} {s : Stmt} → e.kind ≡ kind.Word word.Else → Then SpellsBlock (λ body. Ret (stmt first.at (form.If sofar (Some body)))) ts r s
    → ElseFrom first sofar (e ∷ ts) r s
last_there first e sofar {ts = ts} k (seq {part = body} d h) =
    ends_ret (λ y t. ElseFrom first sofar (e ∷ ts) y t) (stmt first.at (form.If sofar (Some body))) h
    ([], Some body, else_block k d, ap (λ x. stmt first.at (form.If x (Some body))) (sym (append-nil sofar)))

last_back : (first : Token) (sofar : List Arm) {e : Token} {all ts r : List Token} {arms : List Arm} {last : Option (List Stmt)} {s : Stmt} → SpellsElse all r arms last
    → s ≡ stmt first.at (form.If (sofar ++ arms) last) → all ≡ e ∷ ts → e.kind ≡ kind.Word word.Else → BeginsOtherThan (kind.Word word.If) ts → NoElse r
    → Then SpellsBlock (λ body. Ret (stmt first.at (form.If sofar (Some body)))) ts r s
last_back first sofar {r = r} no_else is all k other h = absurd (begins_clash r h all k)
last_back first sofar {ts = ts} (else_if {two = two} {tokens = w} k' i' d m) is all k other h = let same : ts ≡ two ∷ w = cc in absurd (begins_clash ts other same i')
last_back first sofar {ts = ts} {r = r} {s = s} (else_block {tokens = w} {body = body} k' d) is all k other h =
    let same : w ≡ ts = cc in
    let at : List Token → Type 0 = λ x. SpellsBlock x r body in
    let known : Stmt → Type 0 = λ x. Then SpellsBlock (λ b. Ret (stmt first.at (form.If sofar (Some b)))) ts r x in
    subst known (sym (is ∙ ap (λ x. stmt first.at (form.If x (Some body))) (append-nil sofar))) (seq (subst at same d) ret)

pub last_next : (first e : Token) (sofar : List Arm) (tokens rest : List Token) (n : Token) (inner : List Token) → tokens ≡ e ∷ rest → e.kind ≡ kind.Word word.Else → rest ≡ n ∷ inner
    → (n.kind ≡ kind.Word word.If → ⊥) → Passes (Then SpellsBlock (λ body. Ret (stmt first.at (form.If sofar (Some body))))) (ElseFrom first sofar) NoElse rest tokens
last_next first e sofar tokens rest n inner split k split' other =
    passes_through (narrowed_by (BeginsOtherThan (kind.Word word.If)) (λ token xs ys h. h) (Then SpellsBlock (λ body. Ret (stmt first.at (form.If sofar (Some body)))))
    (behind e (ElseFrom first sofar)) NoElse rest (begins_other (kind.Word word.If) rest n inner split' other)
    (λ ts r s d. last_there first e sofar k d) (λ ts r s h d e'. last_back first sofar d.2 d.3 refl k h e'))
    (passes_behind (ElseFrom first sofar) NoElse e rest tokens split)

-- ---- routines

abbrev pub routine_as : Token → Expr → Name × Name → List Stmt → RoutineBlock
routine_as first width names body = roll-RoutineBlock (record { at = first.at; width = width; width_name = names.0; id_name = names.1; body = body })

abbrev pub NamedBody : Token → Expr → List Token → List Token → RoutineBlock → Type 0
NamedBody first width = Then TwoNames (λ names. Then SpellsBlock (λ body. Ret (routine_as first width names body)))

abbrev pub WidthRest : Token → List Token → List Token → RoutineBlock → Type 0
WidthRest first = Then (SpellsExpr whole) (λ width. Then (Tok (kind.Mark mark.CloseBracket)) (λ closing. NamedBody first width))

abbrev pub RoutineChain : List Token → List Token → RoutineBlock → Type 0
RoutineChain = Then (Tok (kind.Word word.Routine)) (λ first. Then (Tok (kind.Mark mark.OpenBracket)) (λ opening. WidthRest first))

name_same : {ts ts' m m' : List Token} {x x' : Name} → NameTok ts m x → NameTok ts' m' x' → ts ≡ ts' → (m ≡ m') × (x ≡ x')
name_same (name_tok a) (name_tok b) e = ((cc), (cc))

tok_same : {k : TokenKind} {ts ts' m m' : List Token} {x x' : Token} → Tok k ts m x → Tok k ts' m' x' → ts ≡ ts' → (m ≡ m')
tok_same (tok a) (tok b) e = cc

ret_same : {x x' : Name × Name} {ts ts' m m' : List Token} {y y' : Name × Name} → Ret x ts m y → Ret x' ts' m' y' → ts ≡ ts' → x ≡ x' → (m ≡ m') × (y ≡ y')
ret_same ret ret e h = (e, h)

two_once : {tokens tokens' m m' : List Token} {x x' : Name × Name} → TwoNames tokens m x → TwoNames tokens' m' x' → tokens ≡ tokens' → (m ≡ m') × (x ≡ x')
two_once (seq a (seq b (seq {part = one} n (seq c (seq d (seq {part = two} i (seq e h))))))) (seq a' (seq b' (seq {part = one'} n' (seq c' (seq d' (seq {part = two'} i' (seq e' h'))))))) at =
    let first : _ × _ = name_same n n' (tok_same b b' (tok_same a a' at)) in
    let second : _ × _ = name_same i i' (tok_same d d' (tok_same c c' first.0)) in
    ret_same h h' (tok_same e e' second.0) (ap (λ v. both v two) first.1 ∙ ap (λ v. both one' v) second.1)

some_names : Completes TwoNames
some_names = completes_then (completes_tok round) (λ opening. completes_then (completes_tok (kind.Word word.Int))
    (λ int. completes_then completes_name (λ one. completes_then (completes_tok (kind.Mark mark.Comma)) (λ comma.
    completes_then (completes_tok (kind.Word word.Int)) (λ int. completes_then completes_name
    (λ two. completes_then (completes_tok (kind.Mark mark.CloseParen)) (λ closing. completes_ret (both one two))))))))

pub names_follow : (f : Name × Name → List Stmt → RoutineBlock) → Follows TwoNames stops_anywhere (λ names. Then SpellsBlock (λ body. Ret (f names body))) stops_anywhere
names_follow f = record {
  unique = λ tokens middle middle' x x' d d' s s'. two_once d d' refl;
  same_first = λ token xs ys s. tt;
  ahead = λ middle rest part tree d s. tt;
  completes = λ names. body_completes (f names);
}

named_completes : (f : Name × Name → List Stmt → RoutineBlock) → Completes (Then TwoNames (λ names. Then SpellsBlock (λ body. Ret (f names body))))
named_completes f = completes_then some_names (λ names. body_completes (f names))

pub width_closing : (first : Token) (width : Expr) → Follows (Tok (kind.Mark mark.CloseBracket)) stops_anywhere (λ closing. NamedBody first width) stops_anywhere
width_closing first width = tok_follows (kind.Mark mark.CloseBracket) stops_anywhere (λ closing. named_completes (routine_as first width))

pub width_follows : (first : Token) → Follows (SpellsExpr whole) (Stops whole) (λ width. Then (Tok (kind.Mark mark.CloseBracket)) (λ closing. NamedBody first width)) stops_anywhere
width_follows first = expr_before mark.CloseBracket stops_anywhere refl (λ h. cc) (λ h. cc)
    (λ width. completes_then (completes_tok (kind.Mark mark.CloseBracket)) (λ closing. named_completes (routine_as first width)))

width_completes : (first : Token) → Completes (WidthRest first)
width_completes first = completes_then some_expr (λ width. completes_then (completes_tok (kind.Mark mark.CloseBracket)) (λ closing. named_completes (routine_as first width)))

pub routine_opening : (first : Token) → Follows (Tok (kind.Mark mark.OpenBracket)) stops_anywhere (λ opening. WidthRest first) stops_anywhere
routine_opening first = tok_follows (kind.Mark mark.OpenBracket) stops_anywhere (λ opening. width_completes first)

pub routine_word : Follows (Tok (kind.Word word.Routine)) stops_anywhere (λ first. Then (Tok (kind.Mark mark.OpenBracket)) (λ opening. WidthRest first)) stops_anywhere
routine_word = tok_follows (kind.Word word.Routine) stops_anywhere (λ first. completes_then (completes_tok (kind.Mark mark.OpenBracket)) (λ opening. width_completes first))

names_there : (first bracket closing : Token) (width : Expr) (body : List Stmt) {w m z r : List Token} {names : Name × Name} → first.kind ≡ kind.Word word.Routine
    → bracket.kind ≡ kind.Mark mark.OpenBracket → SpellsExpr whole w (closing ∷ m) width → closing.kind ≡ kind.Mark mark.CloseBracket → TwoNames m z names → SpellsBlock z r body
    → SpellsRoutine (first ∷ bracket ∷ w) r (routine_as first width names body)
names_there first bracket closing width body {w = w} {r = r} k o d c (seq (tok a) (seq (tok p)
    (seq {part = one} (name_tok n) (seq (tok m) (seq (tok j) (seq {part = two} (name_tok i) (seq (tok q) e))))))) b = closed e (λ v. routine k o d c a p n m j i q v) b
  where
    closed : {x y : List Token} {names : Name × Name} → Ret (both one two) x y names → (SpellsBlock x r body → SpellsRoutine (first ∷ bracket ∷ w) r (routine_as first width (both one two) body))
        → SpellsBlock y r body → SpellsRoutine (first ∷ bracket ∷ w) r (routine_as first width names body)
    closed ret f v = f v

routine_there : {ts r : List Token} {x : RoutineBlock} → RoutineChain ts r x → SpellsRoutine ts r x
routine_there {r = r} (seq {part = first} (tok k) (seq {middle = w} {part = bracket} (tok o) (seq {part = width} d (seq {part = closing} (tok c) (seq {part = names} t (seq {part = body} b e)))))) =
    ends_ret (λ y u. SpellsRoutine (first ∷ bracket ∷ w) y u) (routine_as first width names body) e (names_there first bracket closing width body k o d c t b)

routine_back : {ts r : List Token} {x : RoutineBlock} → SpellsRoutine ts r x → RoutineChain ts r x
routine_back (routine k o d c p i a m j b q body) = seq (tok k) (seq (tok o) (seq d (seq (tok c)
    (seq (seq (tok p) (seq (tok i) (seq (name_tok a) (seq (tok m) (seq (tok j) (seq (name_tok b) (seq (tok q) ret))))))) (seq body ret)))))

pub routine_same : (tokens : List Token) → Passes RoutineChain SpellsRoutine stops_anywhere tokens tokens
routine_same tokens = passes_same RoutineChain SpellsRoutine stops_anywhere tokens (record { there = λ ts r x d. routine_there d; back = λ ts r x d h. routine_back d })

-- ---- the routines of a step

routines_each : {ts r : List Token} {rs : List RoutineBlock} → SpellsRoutines ts r rs → Each SpellsRoutine ts r rs
routines_each no_routine = stop
routines_each (one_routine d m) = again d (routines_each m)

each_routines : {ts r : List Token} {rs : List RoutineBlock} → Each SpellsRoutine ts r rs → SpellsRoutines ts r rs
each_routines stop = no_routine
each_routines (again d m) = one_routine d (each_routines m)

routine_once : (tokens middle middle' : List Token) (x x' : RoutineBlock) → SpellsRoutine tokens middle x → SpellsRoutine tokens middle' x' → stops_anywhere middle → stops_anywhere middle'
    → (middle ≡ middle') × (x ≡ x')
routine_once tokens middle middle' x x' d d' s s' = unique_routine d d' refl

pub routines_repeated : Repeating parend SpellsRoutine stops_anywhere
routines_repeated = record {
  unique = routine_once;
  same_first = λ _ _ _ _. tt;
  before = λ _ _ _ _ _ _. tt;
  no_end = λ h. cc;
}

pub first_routine : Follows SpellsRoutine stops_anywhere (λ one. Until parend SpellsRoutine (one ∷ [])) stops_anywhere
first_routine = record {
  unique = routine_once;
  same_first = λ token xs ys s. tt;
  ahead = λ middle rest part tree d s. tt;
  completes = λ one. completes_until parend SpellsRoutine stops_anywhere (one ∷ []);
}

routines_once : {tokens middle middle' : List Token} {rs rs' : List RoutineBlock} → RoutinesRest tokens middle rs → RoutinesRest tokens middle' rs' → (middle ≡ middle') × (rs ≡ rs')
routines_once {tokens = tokens} (seq {middle = a} {part = x} d u) (seq {middle = b} {part = y} e v) =
    let one : _ × _ = unique_routine d e refl in
    let more : _ × _ = unique_routines (each_routines u.2) (each_routines v.2) one.0 refl refl u.3 v.3 in
    ((cc more.0), (u.4 ∙ (cc (one.1, more.1)) ∙ sym v.4))

pub step_follows : (f : List RoutineBlock → Stmt) → Follows RoutinesRest stops_anywhere (λ rs. EndsAs (f rs)) NoElse
step_follows f = record {
  unique = λ tokens middle middle' rs rs' d d' s s'. routines_once d d';
  same_first = λ token xs ys s. tt;
  ahead = λ middle rest part tree d s. tt;
  completes = λ rs. ends_as (f rs);
}

step_ends : (first : Token) (one : RoutineBlock) (rs : List RoutineBlock) (last : Token) {ts a m r : List Token} {s : Stmt} → first.kind ≡ kind.Word word.Parbegin → SpellsRoutine ts a one
    → SpellsRoutines a (last ∷ m) rs → last.kind ≡ parend → EndsAs (stmt first.at (form.Par (one ∷ rs))) m r s → SpellsStmt (first ∷ ts) r s
step_ends first one rs last w d u l (seq (tok k) ret) = parallel w d u l k

step_there : (first : Token) {ts r : List Token} {s : Stmt} → first.kind ≡ kind.Word word.Parbegin → ParRest first ts r s → SpellsStmt (first ∷ ts) r s
step_there first {r = r} {s = s} w (seq {middle = m} {part = rs} (seq {part = one} d u) e) =
    let at : List RoutineBlock → Type 0 = λ x. EndsAs (stmt first.at (form.Par x)) m r s in
    step_ends first one u.1 u.0 w d (each_routines u.2) u.3 (subst at u.4 e)

step_back : (first : Token) {ts r : List Token} {s : Stmt} → first.kind ≡ kind.Word word.Parbegin → SpellsStmt (first ∷ ts) r s → ParRest first ts r s
step_back first w (parallel {last = last} {rs = rs} w' d u l k) = seq (seq d (last, rs, routines_each u, l, refl)) (seq (tok k) ret)
step_back first {ts = ts} w d = absurd (omega (arith, form_is d, by_word first ts w))

pub step_same : (first : Token) (tokens : List Token) → first.kind ≡ kind.Word word.Parbegin → Passes (ParRest first) (behind first SpellsStmt) NoElse tokens tokens
step_same first tokens w = passes_same (ParRest first) (behind first SpellsStmt) NoElse tokens (record { there = λ ts r s d. step_there first w d; back = λ ts r s d h. step_back first w d })
