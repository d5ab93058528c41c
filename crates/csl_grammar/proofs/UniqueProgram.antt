-- Statements, functions and programs: what stands at the front of a token list is one tree and one rest.
use Rattle.std.proofs.Common.{◌≡◌, ◌≤◌, ℕ, List, [], ◌∷◌, Option, Result, Ok, refl, ap, sym, ◌∙◌, subst, arith}
use Rattle.csl_tree.specs.declared.name.Name.{Name}
use Rattle.csl_tree.specs.declared.token.Token.{Token}
use Rattle.csl_tree.specs.declared.token.TokenKind.{TokenKind}
use Rattle.csl_tree.specs.declared.token.TokenKind.TheVariants as kind
use Rattle.csl_tree.specs.declared.token.Keyword.{Keyword}
use Rattle.csl_tree.specs.declared.token.Keyword.TheVariants as word
use Rattle.csl_tree.specs.declared.token.Mark.{Mark}
use Rattle.csl_tree.specs.declared.token.Mark.TheVariants as mark
use Rattle.cal_terms.specs.declared.types.Ty.{Ty}
use Rattle.cal_terms.specs.declared.types.Ty.TheVariants as ty
use Rattle.cal_terms.specs.declared.types.Gives.{Gives}
use Rattle.cal_terms.specs.declared.types.Gives.TheVariants as gives
use Rattle.csl_tree.specs.declared.program.Shared.{Shared}
use Rattle.csl_tree.specs.declared.program.Function.{Function}
use Rattle.csl_tree.specs.declared.program.Program.{Program}
use Rattle.csl_tree.specs.declared.program.Stmt.{Stmt}
use Rattle.csl_tree.specs.declared.program.Arm.{Arm}
use Rattle.csl_tree.specs.declared.program.RoutineBlock.{RoutineBlock}
use Rattle.csl_grammar.specs.Expressions.{whole}
use Rattle.csl_grammar.specs.Stops.{BeginsOtherThan, Stops}
use Rattle.csl_grammar.specs.Programs.{IsMark, IsWord, IsName, type_word, result_word, SpellsPlace, bare, indexed, SpellsCall, called, SpellsDecl, declare, SpellsChange, set, add_to, SpellsStmt}
use Rattle.csl_grammar.specs.Programs.{declared, changed, calls, block, if_else, while_loop, for_loop, break_out, goes_on, returns, returns_value, asserts, prints, parallel, SpellsStart, declares}
use Rattle.csl_grammar.specs.Programs.{changes, SpellsBlock, braces, SpellsStmts, none, one_more, SpellsArm, tested, SpellsElse, no_else, else_if, else_block, SpellsRoutine, routine, SpellsRoutines}
use Rattle.csl_grammar.specs.Programs.{no_routine, one_routine, SpellsShared, scalar, array, tally, SpellsFunction, function, Each, stop, again, SpellsProgram, program}
use Rattle.csl_grammar.specs.Spelling.{TokensSpellOne}
use Rattle.csl_grammar.specs.Texts.{TextSpellsOne}
use Rattle.csl_lexer.proofs.OneWay.{reads_one_way}
use Rattle.csl_lexer.specs.declared.LexError.{LexError}
use Rattle.csl_grammar.proofs.Unique.{unique, begins_clash}
use Rattle.csl_grammar.proofs.UniqueParts.{unique_call, unique_decl, unique_change, unique_items, unique_shared, unique_params, no_expression, semicolon_begins_none, stops_semicolon, stops_paren}
use Rattle.csl_grammar.proofs.UniqueParts.{stops_bracket}

-- ---- the form of a statement, told by its first tokens

-- behind a name: a call or a change
abbrev pub form_behind_name : List Token → ℕ
form_behind_name [] = 2
form_behind_name (token ∷ tokens) = at token.kind
  where
    at_mark : Mark → ℕ
    at_mark mark.OpenParen = 3
    at_mark _ = 2

    at : TokenKind → ℕ
    at (kind.Mark m) = at_mark m
    at (kind.Word w) = 2
    at (kind.Named n) = 2
    at (kind.Number n) = 2
    at (kind.Text t) = 2
    at kind.End = 2

abbrev pub form_of_word : Keyword → ℕ
form_of_word word.Int = 1
form_of_word word.Bool = 1
form_of_word word.If = 5
form_of_word word.While = 6
form_of_word word.For = 7
form_of_word word.Break = 8
form_of_word word.Continue = 9
form_of_word word.Return = 10
form_of_word word.Assert = 11
form_of_word word.Print = 12
form_of_word word.Parbegin = 13
form_of_word _ = 0

abbrev pub form_of_mark : Mark → ℕ
form_of_mark mark.OpenBrace = 4
form_of_mark _ = 0

abbrev pub form_of_kind : TokenKind → List Token → ℕ
form_of_kind (kind.Word w) tokens = form_of_word w
form_of_kind (kind.Named n) tokens = form_behind_name tokens
form_of_kind (kind.Mark m) tokens = form_of_mark m
form_of_kind (kind.Number n) tokens = 0
form_of_kind (kind.Text t) tokens = 0
form_of_kind kind.End tokens = 0

-- which form a statement has that begins with these tokens; 0 where none begins so
abbrev pub form_at : List Token → ℕ
form_at [] = 0
form_at (token ∷ tokens) = form_of_kind token.kind tokens

-- the form that a derivation gives its statement
abbrev pub form_by : {ts rest : List Token} {s : Stmt} → SpellsStmt ts rest s → ℕ
form_by (declared d s) = 1
form_by (changed d s) = 2
form_by (calls d s) = 3
form_by (block d) = 4
form_by (if_else k a e) = 5
form_by (while_loop k o d c b) = 6
form_by (for_loop k o a s t s' n c b) = 7
form_by (break_out k s) = 8
form_by (goes_on k s) = 9
form_by (returns k s) = 10
form_by (returns_value k d s) = 10
form_by (asserts k o d c s) = 11
form_by (prints k o d c s) = 12
form_by (parallel k r rs l s) = 13

pub by_word : (token : Token) {w : Keyword} (tokens : List Token) → IsWord token w → form_at (token ∷ tokens) ≡ form_of_word w
by_word token tokens k = ap (λ x. form_of_kind x tokens) k

pub by_mark : (token : Token) {m : Mark} (tokens : List Token) → IsMark token m → form_at (token ∷ tokens) ≡ form_of_mark m
by_mark token tokens k = ap (λ x. form_of_kind x tokens) k

pub by_name : (token : Token) {n : Name} (tokens : List Token) → IsName token n → form_at (token ∷ tokens) ≡ form_behind_name tokens
by_name token tokens k = ap (λ x. form_of_kind x tokens) k

pub type_form : (t : Ty) → form_of_word (type_word t) ≡ 1
type_form ty.Int = refl
type_form ty.Bool = refl

decl_form : {ts rest : List Token} {s : Stmt} → SpellsDecl ts rest s → form_at ts ≡ 1
decl_form (declare {first = f} {token = n} {equals = q} {tokens = w} {t = t} k i a d) = by_word f (n ∷ q ∷ w) k ∙ type_form t

-- behind a name with this mark
behind_mark : (token : Token) {m : Mark} (tokens : List Token) → IsMark token m → (m ≡ mark.OpenParen → ⊥) → form_behind_name (token ∷ tokens) ≡ 2
behind_mark token {m = m} tokens k other = at token.kind k
  where
    by : (m : Mark) → (m ≡ mark.OpenParen → ⊥) → form_behind_name (record { at = 0; kind = kind.Mark m } ∷ []) ≡ 2
    by mark.OpenParen other = absurd (other refl)
    by mark.OpenBrace other = refl
    by mark.CloseBrace other = refl
    by mark.CloseParen other = refl
    by mark.OpenBracket other = refl
    by mark.CloseBracket other = refl
    by mark.Comma other = refl
    by mark.Semicolon other = refl
    by mark.Assign other = refl
    by mark.AddAssign other = refl
    by mark.Plus other = refl
    by mark.Minus other = refl
    by mark.Star other = refl
    by mark.Slash other = refl
    by mark.Percent other = refl
    by mark.Bang other = refl
    by mark.Equal other = refl
    by mark.NotEqual other = refl
    by mark.Less other = refl
    by mark.LessEqual other = refl
    by mark.Greater other = refl
    by mark.GreaterEqual other = refl
    by mark.AndAnd other = refl
    by mark.OrOr other = refl

    at : (x : TokenKind) → x ≡ kind.Mark m → form_behind_name (record { at = 0; kind = x } ∷ []) ≡ 2
    at x e = ap (λ y. form_behind_name (record { at = 0; kind = y } ∷ [])) e ∙ by m other

-- in front of no parenthesis a name begins a change
pub form_of_change : (ts : List Token) → BeginsOtherThan (kind.Mark mark.OpenParen) ts → form_behind_name ts ≡ 2
form_of_change [] other = refl
form_of_change (token ∷ ts) other = at token.kind other
  where
    by_mark_of : (m : Mark) → (m ≡ mark.OpenParen → ⊥) → form_behind_name (record { at = 0; kind = kind.Mark m } ∷ []) ≡ 2
    by_mark_of m other = behind_mark (record { at = 0; kind = kind.Mark m }) [] refl other

    at : (x : TokenKind) → (x ≡ kind.Mark mark.OpenParen → ⊥) → form_behind_name (record { at = 0; kind = x } ∷ []) ≡ 2
    at (kind.Mark m) other = by_mark_of m (λ e. other (ap (λ y. kind.Mark y) e))
    at (kind.Word w) other = refl
    at (kind.Named n) other = refl
    at (kind.Number n) other = refl
    at (kind.Text t) other = refl
    at kind.End other = refl

-- in front of a parenthesis it begins a call
pub form_of_call : (next : Token) (ts : List Token) → IsMark next mark.OpenParen → form_behind_name (next ∷ ts) ≡ 3
form_of_call next ts o = ap (λ x. form_behind_name (record { at = 0; kind = x } ∷ [])) o

place_form : {ts rest : List Token} {p : _} {m : Mark} {equals : Token} {middle : List Token} → SpellsPlace ts rest p → rest ≡ equals ∷ middle → IsMark equals m → (m ≡ mark.OpenParen → ⊥)
    → form_at ts ≡ 2
place_form {equals = equals} {middle = middle} (bare {token = f} {rest = rest} n) e k other = by_name f rest n ∙ ap form_behind_name e ∙ behind_mark equals middle k other
place_form (indexed {token = f} {opening = q} {tokens = w} n o d c) e k other = by_name f (q ∷ w) n ∙ behind_mark q w o (λ h. cc)

change_form : {ts rest : List Token} {s : Stmt} → SpellsChange ts rest s → form_at ts ≡ 2
change_form (set p a d) = place_form p refl a (λ h. cc)
change_form (add_to p a d) = place_form p refl a (λ h. cc)

call_form : {ts rest : List Token} {k : _} → SpellsCall ts rest k → form_at ts ≡ 3
call_form (called {token = f} {opening = q} {tokens = w} n o d c) = by_name f (q ∷ w) n ∙ ap (λ x. form_behind_name (record { at = 0; kind = x } ∷ [])) o

block_form : {ts rest : List Token} {b : List Stmt} → SpellsBlock ts rest b → form_at ts ≡ 4
block_form (braces {opening = f} {tokens = w} o d c) = by_mark f w o

-- the form is told by the first tokens
pub form_is : {ts rest : List Token} {s : Stmt} (d : SpellsStmt ts rest s) → form_at ts ≡ form_by d
form_is (declared d s) = decl_form d
form_is (changed d s) = change_form d
form_is (calls d s) = call_form d
form_is (block d) = block_form d
form_is (if_else {first = f} {tokens = w} k a e) = by_word f w k
form_is (while_loop {first = f} {opening = q} {tokens = w} k o d c b) = by_word f (q ∷ w) k
form_is (for_loop {first = f} {opening = q} {tokens = w} k o a s t s' n c b) = by_word f (q ∷ w) k
form_is (break_out {first = f} {semicolon = q} {rest = w} k s) = by_word f (q ∷ w) k
form_is (goes_on {first = f} {semicolon = q} {rest = w} k s) = by_word f (q ∷ w) k
form_is (returns {first = f} {semicolon = q} {rest = w} k s) = by_word f (q ∷ w) k
form_is (returns_value {first = f} {tokens = w} k d s) = by_word f w k
form_is (asserts {first = f} {opening = q} {tokens = w} k o d c s) = by_word f (q ∷ w) k
form_is (prints {first = f} {opening = q} {tokens = w} k o d c s) = by_word f (q ∷ w) k
form_is (parallel {first = f} {tokens = w} k r rs l s) = by_word f w k

-- ---- one statement

-- what follows is no `else`
abbrev pub NoElse : List Token → Type 0
NoElse rest = BeginsOtherThan (kind.Word word.Else) rest

some_form : {ts rest : List Token} {s : Stmt} (d : SpellsStmt ts rest s) → 1 ≤ form_by d
some_form (declared d s) = omega arith
some_form (changed d s) = omega arith
some_form (calls d s) = omega arith
some_form (block d) = omega arith
some_form (if_else k a l) = omega arith
some_form (while_loop k o d c b) = omega arith
some_form (for_loop k o a s t s' n c b) = omega arith
some_form (break_out k s) = omega arith
some_form (goes_on k s) = omega arith
some_form (returns k s) = omega arith
some_form (returns_value k d s) = omega arith
some_form (asserts k o d c s) = omega arith
some_form (prints k o d c s) = omega arith
some_form (parallel k r rs l s) = omega arith

-- a statement has a form
pub has_form : {ts rest : List Token} {s : Stmt} → SpellsStmt ts rest s → form_at ts ≡ 0 → ⊥
has_form d e = omega (arith, form_is d, some_form d)

-- tokens with which a statement begins begin with no token of a kind that has no form
begins_other : (k : TokenKind) (ts : List Token) → ((tokens : List Token) → form_of_kind k tokens ≡ 0) → (form_at ts ≡ 0 → ⊥) → BeginsOtherThan k ts
begins_other k [] no_form h = tt
begins_other k (token ∷ tokens) no_form h = λ same. h (ap (λ x. form_of_kind x tokens) same ∙ no_form tokens)

-- no statement begins with a closing brace
pub no_stmt_closes : {ts rest behind : List Token} {s : Stmt} {closing : Token} → SpellsStmt ts rest s → ts ≡ closing ∷ behind → IsMark closing mark.CloseBrace → ⊥
no_stmt_closes {behind = behind} {closing = closing} d e k = has_form d (ap form_at e ∙ by_mark closing behind k)

-- in front of the end of a block stands no `else`
pub stmts_no_else : {ts rest behind : List Token} {ss : List Stmt} {closing : Token} → SpellsStmts ts rest ss → rest ≡ closing ∷ behind → IsMark closing mark.CloseBrace → NoElse ts
stmts_no_else {behind = behind} {closing = closing} none e k = subst NoElse (sym e) (at_closing closing behind k)
  where
    at_closing : (closing : Token) (behind : List Token) → IsMark closing mark.CloseBrace → NoElse (closing ∷ behind)
    at_closing closing behind k = λ h. cc
stmts_no_else {ts = ts} (one_more d m) e k = begins_other (kind.Word word.Else) ts (λ tokens. refl) (has_form d)

mutual
  pub unique_stmt : {ts rest ts' rest' : List Token} {s s' : Stmt} → SpellsStmt ts rest s → SpellsStmt ts' rest' s' → ts ≡ ts' → NoElse rest → NoElse rest' → (rest ≡ rest') × (s ≡ s')
  unique_stmt (declared d s) (declared d' s') e n n' = let both : _ × _ = unique_decl d d' e (stops_semicolon s) (stops_semicolon s') in ((cc both.0), both.1)
  unique_stmt (changed d s) (changed d' s') e n n' = let both : _ × _ = unique_change d d' e (stops_semicolon s) (stops_semicolon s') in ((cc both.0), both.1)
  unique_stmt (calls d s) (calls d' s') e n n' = let both : _ × _ = unique_call d d' e in ((cc both.0), (cc (e, both.1)))
  unique_stmt (block d) (block d') e n n' = let both : _ × _ = unique_block d d' e in (both.0, (cc (e, both.1)))
  unique_stmt (if_else k a l) (if_else k' a' l') e n n' =
      let arms : _ × _ = unique_arm a a' (cc) in
      let both : _ × _ × _ = unique_else l l' arms.0 n n' in
      (both.0, (cc (e, arms.1, both.1, both.2)))
  unique_stmt (while_loop k o d c b) (while_loop k' o' d' c' b') e n n' =
      let tests : _ × _ = unique d d' (cc) (stops_paren c) (stops_paren c') in
      let both : _ × _ = unique_block b b' (cc tests.0) in
      (both.0, (cc (e, tests.1, both.1)))
  unique_stmt (for_loop k o a s t u x c b) (for_loop k' o' a' s' t' u' x' c' b') e n n' =
      let starts : _ × _ = unique_start a a' (cc) (stops_semicolon s) (stops_semicolon s') in
      let tests : _ × _ = unique t t' (cc starts.0) (stops_semicolon u) (stops_semicolon u') in
      let nexts : _ × _ = unique_change x x' (cc tests.0) (stops_paren c) (stops_paren c') in
      let both : _ × _ = unique_block b b' (cc nexts.0) in
      (both.0, (cc (e, starts.1, tests.1, nexts.1, both.1)))
  unique_stmt (break_out k s) (break_out k' s') e n n' = ((cc), (cc))
  unique_stmt (goes_on k s) (goes_on k' s') e n n' = ((cc), (cc))
  unique_stmt (returns k s) (returns k' s') e n n' = ((cc), (cc))
  unique_stmt (returns {semicolon = q} {rest = w} k s) (returns_value {tokens = w'} k' d' s') e n n' = let same : w' ≡ q ∷ w = cc in absurd (no_expression d' same s semicolon_begins_none)
  unique_stmt (returns_value {tokens = w} k d s) (returns {semicolon = q} {rest = w'} k' s') e n n' = let same : w ≡ q ∷ w' = cc in absurd (no_expression d same s' semicolon_begins_none)
  unique_stmt (returns_value k d s) (returns_value k' d' s') e n n' = let both : _ × _ = unique d d' (cc) (stops_semicolon s) (stops_semicolon s') in ((cc both.0), (cc (e, both.1)))
  unique_stmt (asserts k o d c s) (asserts k' o' d' c' s') e n n' = let both : _ × _ = unique d d' (cc) (stops_paren c) (stops_paren c') in ((cc both.0), (cc (e, both.1)))
  unique_stmt (prints k o d c s) (prints k' o' d' c' s') e n n' = let both : _ × _ = unique_items d d' (cc) refl refl c c' in ((cc both.0), (cc (e, both.1)))
  unique_stmt (parallel k r rs l s) (parallel k' r' rs' l' s') e n n' =
      let one : _ × _ = unique_routine r r' (cc) in
      let both : _ × _ = unique_routines rs rs' one.0 refl refl l l' in
      ((cc both.0), (cc (e, one.1, both.1)))
  unique_stmt d d' e n n' = absurd (omega (arith, form_is d, form_is d', ap form_at e))

  pub unique_start : {ts rest ts' rest' : List Token} {s s' : Stmt} → SpellsStart ts rest s → SpellsStart ts' rest' s' → ts ≡ ts' → Stops whole rest → Stops whole rest' → (rest ≡ rest') × (s ≡ s')
  unique_start (declares d) (declares d') e s s' = unique_decl d d' e s s'
  unique_start (declares d) (changes d') e s s' = absurd (omega (arith, decl_form d, change_form d', ap form_at e))
  unique_start (changes d) (declares d') e s s' = absurd (omega (arith, change_form d, decl_form d', ap form_at e))
  unique_start (changes d) (changes d') e s s' = unique_change d d' e s s'

  pub unique_block : {ts rest ts' rest' : List Token} {b b' : List Stmt} → SpellsBlock ts rest b → SpellsBlock ts' rest' b' → ts ≡ ts' → (rest ≡ rest') × (b ≡ b')
  unique_block (braces o d c) (braces o' d' c') e = let both : _ × _ = unique_stmts d d' (cc) refl refl c c' in ((cc both.0), both.1)

  pub unique_stmts : {ts rest ts' rest' behind behind' : List Token} {ss ss' : List Stmt} {closing closing' : Token} → SpellsStmts ts rest ss → SpellsStmts ts' rest' ss' → ts ≡ ts'
      → rest ≡ closing ∷ behind → rest' ≡ closing' ∷ behind' → IsMark closing mark.CloseBrace → IsMark closing' mark.CloseBrace → (rest ≡ rest') × (ss ≡ ss')
  unique_stmts none none e r r' c c' = (e, refl)
  unique_stmts none (one_more d m) e r r' c c' = absurd (no_stmt_closes d (sym e ∙ r) c)
  unique_stmts (one_more d m) none e r r' c c' = absurd (no_stmt_closes d (e ∙ r') c')
  unique_stmts (one_more d m) (one_more d' m') e r r' c c' =
      let both : _ × _ = unique_stmt d d' e (stmts_no_else m r c) (stmts_no_else m' r' c') in
      let ends : _ × _ = unique_stmts m m' both.0 r r' c c' in
      (ends.0, (cc (both.1, ends.1)))

  pub unique_arm : {ts rest ts' rest' : List Token} {a a' : Arm} → SpellsArm ts rest a → SpellsArm ts' rest' a' → ts ≡ ts' → (rest ≡ rest') × (a ≡ a')
  unique_arm (tested o d c b) (tested o' d' c' b') e =
      let tests : _ × _ = unique d d' (cc) (stops_paren c) (stops_paren c') in
      let both : _ × _ = unique_block b b' (cc tests.0) in
      (both.0, (cc (tests.1, both.1)))

  pub unique_else : {ts rest ts' rest' : List Token} {arms arms' : List Arm} {last last' : Option (List Stmt)} → SpellsElse ts rest arms last → SpellsElse ts' rest' arms' last' → ts ≡ ts'
      → NoElse rest → NoElse rest' → (rest ≡ rest') × (arms ≡ arms') × (last ≡ last')
  unique_else no_else no_else e n n' = (e, refl, refl)
  unique_else no_else (else_if k i a l) e n n' = absurd (begins_clash _ n e k)
  unique_else no_else (else_block k b) e n n' = absurd (begins_clash _ n e k)
  unique_else (else_if k i a l) no_else e n n' = absurd (begins_clash _ n' (sym e) k)
  unique_else (else_block k b) no_else e n n' = absurd (begins_clash _ n' (sym e) k)
  unique_else (else_if k i a l) (else_if k' i' a' l') e n n' =
      let arms : _ × _ = unique_arm a a' (cc) in
      let both : _ × _ × _ = unique_else l l' arms.0 n n' in
      (both.0, (cc (arms.1, both.1)), both.2)
  unique_else (else_if k i a l) (else_block k' (braces o' d' c')) e n n' = absurd (cc)
  unique_else (else_block k (braces o d c)) (else_if k' i' a' l') e n n' = absurd (cc)
  unique_else (else_block k b) (else_block k' b') e n n' = let both : _ × _ = unique_block b b' (cc) in (both.0, refl, (cc both.1))

  pub unique_routine : {ts rest ts' rest' : List Token} {r r' : RoutineBlock} → SpellsRoutine ts rest r → SpellsRoutine ts' rest' r' → ts ≡ ts' → (rest ≡ rest') × (r ≡ r')
  unique_routine (routine k o d c p i a m j b q body) (routine k' o' d' c' p' i' a' m' j' b' q' body') e =
      let widths : _ × _ = unique d d' (cc) (stops_bracket c) (stops_bracket c') in
      let both : _ × _ = unique_block body body' (cc widths.0) in
      (both.0, (cc (e, widths.0, widths.1, both.1)))

  pub unique_routines : {ts rest ts' rest' behind behind' : List Token} {rs rs' : List RoutineBlock} {last last' : Token} → SpellsRoutines ts rest rs → SpellsRoutines ts' rest' rs' → ts ≡ ts'
      → rest ≡ last ∷ behind → rest' ≡ last' ∷ behind' → IsWord last word.Parend → IsWord last' word.Parend → (rest ≡ rest') × (rs ≡ rs')
  unique_routines no_routine no_routine e r r' c c' = (e, refl)
  unique_routines no_routine (one_routine (routine k o d c p i a m j b q body) ms) e r r' l l' = absurd (cc)
  unique_routines (one_routine (routine k o d c p i a m j b q body) ms) no_routine e r r' l l' = absurd (cc)
  unique_routines (one_routine d m) (one_routine d' m') e r r' c c' =
      let both : _ × _ = unique_routine d d' e in
      let ends : _ × _ = unique_routines m m' both.0 r r' c c' in
      (ends.0, (cc (both.1, ends.1)))

-- ---- functions and programs

pub result_word-same : (a b : Gives) → result_word a ≡ result_word b → a ≡ b
result_word-same gives.Nothing gives.Nothing e = refl
result_word-same gives.Nothing gives.Int e = cc
result_word-same gives.Nothing gives.Bool e = cc
result_word-same gives.Int gives.Nothing e = cc
result_word-same gives.Int gives.Int e = refl
result_word-same gives.Int gives.Bool e = cc
result_word-same gives.Bool gives.Nothing e = cc
result_word-same gives.Bool gives.Int e = cc
result_word-same gives.Bool gives.Bool e = refl

result_word-main : (g : Gives) → result_word g ≡ word.Main → ⊥
result_word-main gives.Nothing e = cc
result_word-main gives.Int e = cc
result_word-main gives.Bool e = cc

pub unique_function : {ts rest ts' rest' : List Token} {f f' : Function} → SpellsFunction ts rest f → SpellsFunction ts' rest' f' → ts ≡ ts' → (rest ≡ rest') × (f ≡ f')
unique_function (function {g = g} w n o p c b) (function {g = g'} w' n' o' p' c' b') e =
    let result : g ≡ g' = result_word-same g g' (cc) in
    let params : _ × _ = unique_params p p' (cc) refl refl c c' in
    let both : _ × _ = unique_block b b' (cc params.0) in
    (both.0, (cc (result, params.1, both.1)))

-- no function begins with `main`
pub no_function : {ts rest behind : List Token} {f : Function} {first : Token} → SpellsFunction ts rest f → ts ≡ first ∷ behind → first.kind ≡ kind.Word word.Main → ⊥
no_function (function {g = g} w n o p c b) e k = result_word-main g (cc)

-- no shared declaration begins with a closing brace
pub no_shared : {ts rest behind : List Token} {s : Shared} {first : Token} → SpellsShared ts rest s → ts ≡ first ∷ behind → first.kind ≡ kind.Mark mark.CloseBrace → ⊥
no_shared (scalar w n l) e k = cc
no_shared (array w n o x c d l) e k = cc
no_shared (tally w i n l) e k = cc

-- a rule that comes again and again up to a token with which it does not begin
module _ {T : Type 0} {spells : List Token → List Token → T → Type 0} (k : TokenKind)
    (one : (ts rest ts' rest' : List Token) (x x' : T) → spells ts rest x → spells ts' rest' x' → ts ≡ ts' → (rest ≡ rest') × (x ≡ x'))
    (never : (ts rest behind : List Token) (x : T) (first : Token) → spells ts rest x → ts ≡ first ∷ behind → first.kind ≡ k → ⊥) where
  pub unique_each : {ts rest ts' rest' behind behind' : List Token} {xs xs' : List T} {last last' : Token} → Each spells ts rest xs → Each spells ts' rest' xs' → ts ≡ ts' → rest ≡ last ∷ behind
      → rest' ≡ last' ∷ behind' → last.kind ≡ k → last'.kind ≡ k → (rest ≡ rest') × (xs ≡ xs')
  unique_each stop stop e r r' l l' = (e, refl)
  unique_each stop (again d m) e r r' l l' = absurd (never _ _ _ _ _ d (sym e ∙ r) l)
  unique_each (again d m) stop e r r' l l' = absurd (never _ _ _ _ _ d (e ∙ r') l')
  unique_each (again d m) (again d' m') e r r' l l' =
      let both : _ × _ = one _ _ _ _ _ _ d d' e in
      let ends : _ × _ = unique_each m m' both.0 r r' l l' in
      (ends.0, (cc (both.1, ends.1)))

pub unique_program : {ts ts' : List Token} {p p' : Program} → SpellsProgram ts p → SpellsProgram ts' p' → ts ≡ ts' → p ≡ p'
unique_program (program w o s c f m b k) (program w' o' s' c' f' m' b' k') e =
    let shared : _ × _ = unique_each (kind.Mark mark.CloseBrace) (λ _ _ _ _ _ _ a b. unique_shared a b) (λ _ _ _ _ _ a. no_shared a) s s' (cc) refl refl c c' in
    let functions : _ × _ = unique_each (kind.Word word.Main) (λ _ _ _ _ _ _ a b. unique_function a b) (λ _ _ _ _ _ a. no_function a) f f' (cc shared.0) refl refl m m' in
    let body : _ × _ = unique_block b b' (cc functions.0) in
    cc (shared.1, functions.1, body.1)

pub tokens_spell_one : TokensSpellOne
tokens_spell_one tokens one two d d' = unique_program d d' refl

same_tokens : (xs ys : List Token) (one two : Result (List Token) LexError) → one ≡ two → one ≡ Ok xs → two ≡ Ok ys → xs ≡ ys
same_tokens xs ys one two e is is' = cc

pub text_spells_one : TextSpellsOne
text_spells_one text one two d d' = unique_program d.spelled d'.spelled (same_tokens d.tokens d'.tokens (Ok d.tokens) (Ok d'.tokens) (reads_one_way text (Ok d.tokens) (Ok d'.tokens) d.read d'.read)
    refl refl)
