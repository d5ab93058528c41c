-- The rules of simple statements, each as one part and then another.
use Rattle.std.proofs.Common.{◌≡◌, ◌≤◌, List, [], ◌∷◌, Some, None, refl, ap, sym, ◌∙◌, subst, arith}
use Rattle.csl_tree.specs.declared.name.Name.{Name}
use Rattle.csl_tree.specs.declared.token.Token.{Token}
use Rattle.csl_tree.specs.declared.token.TokenKind.{TokenKind}
use Rattle.csl_tree.specs.declared.token.TokenKind.TheVariants as kind
use Rattle.csl_tree.specs.declared.token.Keyword.TheVariants as word
use Rattle.csl_tree.specs.declared.token.Mark.{Mark}
use Rattle.csl_tree.specs.declared.token.Mark.TheVariants as mark
use Rattle.cal_terms.specs.declared.types.Ty.{Ty}
use Rattle.cal_terms.specs.declared.types.Ty.TheVariants as ty
use Rattle.csl_tree.specs.declared.program.Expr.{Expr}
use Rattle.csl_tree.specs.declared.program.Place.{Place}
use Rattle.csl_tree.specs.declared.program.Item.{Item}
use Rattle.csl_tree.specs.declared.program.Item.TheVariants as item
use Rattle.csl_tree.specs.declared.program.Stmt.{Stmt}
use Rattle.csl_tree.specs.declared.program.Form.TheVariants as form
use Rattle.csl_tree.specs.declared.program.BinaryOp.{BinaryOp}
use Rattle.csl_tree.specs.declared.program.BinaryOp.TheVariants as binary_op
use Rattle.csl_grammar.specs.Expressions.{SpellsExpr, whole, level_of, mark_of, place, call, nothing as no_arguments}
use Rattle.csl_grammar.specs.Stops.{IsEnded, BeginsOtherThan, Stops, operator_of}
use Rattle.csl_grammar.specs.Programs.{type_word, stmt, SpellsPlace, bare, indexed, SpellsCall, called, SpellsDecl, declare, SpellsChange, set, add_to, SpellsItem, text, value}
use Rattle.csl_grammar.specs.Programs.{SpellsStmt, declared, changed, calls}
use Rattle.csl_grammar.specs.Programs.{SpellsStart, declares, changes}
use Rattle.csl_grammar.proofs.Unique.{unique, stops_at, operator_of-mark_of}
use Rattle.csl_grammar.proofs.UniqueParts.{type_word-same, no_text, unique_item, unique_items, unique_decl, unique_change, no_expression, semicolon_begins_none, stops_semicolon, stops_paren}
use Rattle.csl_grammar.proofs.UniqueParts.{stops_comma}
use Rattle.csl_grammar.proofs.UniqueProgram.{form_is, by_word, by_name, type_form, form_of_change, form_of_call}
use Rattle.expression_parser.specs.Reading.{Found, Refused, Tok, tok, NameTok, name_tok, Ret, ret, Then, seq, this, that, ListUntil, SpellsClosed, at_mark}
use Rattle.expression_parser.specs.Reading.{Completes, Parting, behind, stops_anywhere}
use Rattle.statement_parser.specs.Statements.{NoElse, EndsAs, DeclRest, Changing, IndexedRest, ChangeRest, CallRest, ReturnRest, SecondName, both}
use Rattle.expression_parser.proofs.Sequence.{Passes, passes_same, passes_through, refused_here}
use Rattle.expression_parser.proofs.Rules.{stops_same, unique_closed}
use Rattle.expression_parser.proofs.Steps.{operator_kind, some_expr}
use Rattle.expression_parser.proofs.Single.{some_token, token_found}
use Rattle.expression_parser.proofs.Then.{Follows, completes_ret, completes_tok, completes_name, completes_then, completes_this, completes_list, tok_follows, name_follows}
use Rattle.expression_parser.proofs.Then.{then_passes, tok_found, ret_found, narrowed, narrowed_by, passes_this, passes_that, begins_other, no_name}

-- ---- what completes

pub ends_as : (s : Stmt) → Completes (EndsAs s)
ends_as s = completes_then (completes_tok (kind.Mark mark.Semicolon)) (λ end. completes_ret s)

value_as : (f : Expr → Stmt) → Completes (Then (SpellsExpr whole) (λ v. Ret (f v)))
value_as f = completes_then some_expr (λ v. completes_ret (f v))

-- ---- an expression and what follows it

ahead_mark : {T : Type 0} {m : Mark} {second : Token → List Token → List Token → T → Type 0} {middle rest : List Token} {tree : T} → operator_of m ≡ None → (m ≡ mark.OpenBracket → ⊥)
    → (m ≡ mark.OpenParen → ⊥) → Then (Tok (kind.Mark m)) second middle rest tree → Stops whole middle
ahead_mark none bracket round (seq (tok k) d) = stops_at k none bracket round

-- an expression in front of a mark that is no operator and no bracket
pub expr_before : {T : Type 0} (m : Mark) {second : Expr → Token → List Token → List Token → T → Type 0} (behind_it : List Token → Type 0) → operator_of m ≡ None → (m ≡ mark.OpenBracket → ⊥)
    → (m ≡ mark.OpenParen → ⊥) → ((e : Expr) → Completes (Then (Tok (kind.Mark m)) (second e))) → Follows (SpellsExpr whole) (Stops whole) (λ e. Then (Tok (kind.Mark m)) (second e)) behind_it
expr_before m behind_it none bracket round completes = record {
  unique = λ tokens middle middle' e e' d d' s s'. unique d d' refl s s';
  same_first = stops_same whole;
  ahead = λ middle rest part tree d s. ahead_mark none bracket round d;
  completes = completes;
}

ret_stops : {T : Type 0} {f tree : T} {middle rest : List Token} → Ret f middle rest tree → Stops whole rest → Stops whole middle
ret_stops ret s = s

-- an expression at the end of a rule
pub expr_last : {T : Type 0} (f : Expr → T) → Follows (SpellsExpr whole) (Stops whole) (λ e. Ret (f e)) (Stops whole)
expr_last f = record {
  unique = λ tokens middle middle' e e' d d' s s'. unique d d' refl s s';
  same_first = stops_same whole;
  ahead = λ middle rest part tree d s. ret_stops d s;
  completes = λ e. completes_ret (f e);
}

pub semicolon_follows : (s : Stmt) (behind_it : List Token → Type 0) → Follows (Tok (kind.Mark mark.Semicolon)) stops_anywhere (λ end. Ret s) behind_it
semicolon_follows s behind_it = tok_follows (kind.Mark mark.Semicolon) behind_it (λ end. completes_ret s)

-- what stands in front of a semicolon
pub expr_semicolon : (f : Expr → Stmt) (behind_it : List Token → Type 0) → Follows (SpellsExpr whole) (Stops whole) (λ e. EndsAs (f e)) behind_it
expr_semicolon f behind_it = expr_before mark.Semicolon behind_it refl (λ h. cc) (λ h. cc) (λ e. ends_as (f e))

-- ---- locals

pub decl_name : (first : Token) (t : Ty) → Follows NameTok stops_anywhere (λ name. Then (Tok (kind.Mark mark.Assign))
    (λ equals. Then (SpellsExpr whole) (λ v. Ret (stmt first.at (form.Declare t name v))))) (Stops whole)
decl_name first t = name_follows (Stops whole) (λ name. completes_then (completes_tok (kind.Mark mark.Assign)) (λ equals. value_as (λ v. stmt first.at (form.Declare t name v))))

pub mark_value : (m : Mark) (f : Expr → Stmt) → Follows (Tok (kind.Mark m)) stops_anywhere (λ sign. Then (SpellsExpr whole) (λ v. Ret (f v))) (Stops whole)
mark_value m f = tok_follows (kind.Mark m) (Stops whole) (λ sign. value_as f)

decl_there : {first : Token} {t : Ty} {ts r : List Token} {s : Stmt} → first.kind ≡ kind.Word (type_word t) → DeclRest first t ts r s → SpellsDecl (first ∷ ts) r s
decl_there w (seq (name_tok n) (seq (tok a) (seq v ret))) = declare w n a v

type_alike : {a b : Ty} → type_word a ≡ type_word b → a ≡ b
type_alike {a = a} {b = b} e = type_word-same a b e

decl_back : {first : Token} {t : Ty} {ts r : List Token} {s : Stmt} → first.kind ≡ kind.Word (type_word t) → SpellsDecl (first ∷ ts) r s → DeclRest first t ts r s
decl_back {first = first} {t = t} {r = r} w (declare {token = x} {equals = y} {tokens = z} {t = t'} {name = name} {value = e} w' n a v) =
    let same : t' ≡ t = type_alike (cc) in
    let at : Ty → Type 0 = λ u. DeclRest first t (x ∷ y ∷ z) r (stmt first.at (form.Declare u name e)) in
    subst at (sym same) (seq (name_tok n) (seq (tok a) (seq v ret)))

pub decl_same : (first : Token) (t : Ty) (tokens : List Token) → first.kind ≡ kind.Word (type_word t) → Passes (DeclRest first t) (behind first SpellsDecl) (Stops whole) tokens tokens
decl_same first t tokens w = passes_same (DeclRest first t) (behind first SpellsDecl) (Stops whole) tokens (record { there = λ ts r s d. decl_there w d; back = λ ts r s d h. decl_back w d })

-- ---- changes

pub set_next : (first : Token) (p : Place) (tokens : List Token) (sign : Token) (rest : List Token) → IsEnded tokens → tokens ≡ sign ∷ rest → sign.kind ≡ kind.Mark mark.Assign
    → Passes (Then (SpellsExpr whole) (λ v. Ret (stmt first.at (form.Set p v)))) (Changing first p) (Stops whole) rest tokens
set_next first p tokens sign rest ended split k =
    passes_through (then_passes (mark_value mark.Assign (λ v. stmt first.at (form.Set p v))) tokens rest sign
    (tok_found (token_found (kind.Mark mark.Assign) tokens sign rest ended split k (λ h. cc))))
    (passes_this _ (kind.Mark mark.AddAssign) _ (Stops whole) tokens (begins_other (kind.Mark mark.AddAssign) tokens sign rest split (λ h. cc)))

pub add_next : (first : Token) (p : Place) (tokens : List Token) (sign : Token) (rest : List Token) → IsEnded tokens → tokens ≡ sign ∷ rest → sign.kind ≡ kind.Mark mark.AddAssign
    → Passes (Then (SpellsExpr whole) (λ v. Ret (stmt first.at (form.AddTo p v)))) (Changing first p) (Stops whole) rest tokens
add_next first p tokens sign rest ended split k =
    passes_through (then_passes (mark_value mark.AddAssign (λ v. stmt first.at (form.AddTo p v))) tokens rest sign
    (tok_found (token_found (kind.Mark mark.AddAssign) tokens sign rest ended split k (λ h. cc))))
    (passes_that (kind.Mark mark.Assign) _ _ (Stops whole) tokens (begins_other (kind.Mark mark.Assign) tokens sign rest split (λ h. cc)))

no_change_here : (first : Token) {x : Token} (p : Place) {ts r : List Token} {s : Stmt} → Changing first p (x ∷ ts) r s → (x.kind ≡ kind.Mark mark.Assign → ⊥) → (x.kind ≡ kind.Mark mark.AddAssign → ⊥)
    → ⊥
no_change_here first p (this (seq (tok k) d)) a b = a k
no_change_here first p (that (seq (tok k) d)) a b = b k

pub changing_completes : (first : Token) (p : Place) → Completes (Changing first p)
changing_completes first p = completes_this (completes_then (completes_tok (kind.Mark mark.Assign)) (λ equals. value_as (λ v. stmt first.at (form.Set p v))))

pub changing_refused : (first : Token) (p : Place) (tokens : List Token) (sign : Token) (rest : List Token) → tokens ≡ sign ∷ rest → (sign.kind ≡ kind.Mark mark.Assign → ⊥)
    → (sign.kind ≡ kind.Mark mark.AddAssign → ⊥) → Refused (Changing first p) (Stops whole) tokens sign.at
changing_refused first p tokens sign rest split a b =
    let at : List Token → Type 0 = λ x. Refused (Changing first p) (Stops whole) x sign.at in
    subst at (sym split) (refused_here (Changing first p) (Stops whole) sign rest (λ others r s d h. no_change_here first p d a b) (changing_completes first p).ending
    (changing_completes first p).finished (changing_completes first p).some)

pub index_follows : (first : Token) (name : Name) → Follows (SpellsExpr whole) (Stops whole) (λ index. Then (Tok (kind.Mark mark.CloseBracket)) (λ closing. Changing first (place name (Some index))))
    (Stops whole)
index_follows first name = expr_before mark.CloseBracket (Stops whole) refl (λ h. cc) (λ h. cc)
    (λ index. completes_then (completes_tok (kind.Mark mark.CloseBracket)) (λ closing. changing_completes first (place name (Some index))))

pub index_closing : (first : Token) (name : Name) (index : Expr) → Follows (Tok (kind.Mark mark.CloseBracket)) stops_anywhere (λ closing. Changing first (place name (Some index))) (Stops whole)
index_closing first name index = tok_follows (kind.Mark mark.CloseBracket) (Stops whole) (λ closing. changing_completes first (place name (Some index)))

index_opening : (first : Token) (name : Name) → Follows (Tok (kind.Mark mark.OpenBracket)) stops_anywhere (λ opening. IndexedRest first name) (Stops whole)
index_opening first name = tok_follows (kind.Mark mark.OpenBracket) (Stops whole) (λ opening. completes_then some_expr
    (λ index. completes_then (completes_tok (kind.Mark mark.CloseBracket)) (λ closing. changing_completes first (place name (Some index)))))

indexed_back : (first : Token) {x : Token} (name : Name) {ts r : List Token} {s : Stmt} → x.kind ≡ kind.Mark mark.OpenBracket → ChangeRest first name (x ∷ ts) r s
    → Then (Tok (kind.Mark mark.OpenBracket)) (λ opening. IndexedRest first name) (x ∷ ts) r s
indexed_back first name k (this d) = absurd (no_change_here first (place name None) d (λ h. cc) (λ h. cc))
indexed_back first name k (that d) = d

indexed_back_at : (first : Token) {x : Token} (name : Name) {all ts r : List Token} {s : Stmt} → all ≡ x ∷ ts → x.kind ≡ kind.Mark mark.OpenBracket → ChangeRest first name all r s
    → Then (Tok (kind.Mark mark.OpenBracket)) (λ opening. IndexedRest first name) all r s
indexed_back_at first {x = x} name {ts = ts} {r = r} {s = s} e k d =
    let from : List Token → Type 0 = λ y. ChangeRest first name y r s in
    let to : List Token → Type 0 = λ y. Then (Tok (kind.Mark mark.OpenBracket)) (λ opening. IndexedRest first name) y r s in
    subst to (sym e) (indexed_back first name k (subst from e d))

pub indexed_next : (first : Token) (name : Name) (tokens : List Token) (next : Token) (rest : List Token) → IsEnded tokens → tokens ≡ next ∷ rest → next.kind ≡ kind.Mark mark.OpenBracket
    → Passes (IndexedRest first name) (ChangeRest first name) (Stops whole) rest tokens
indexed_next first name tokens next rest ended split k =
    passes_through (then_passes (index_opening first name) tokens rest next (tok_found (token_found (kind.Mark mark.OpenBracket) tokens next rest ended split k (λ h. cc))))
    (narrowed (Then (Tok (kind.Mark mark.OpenBracket)) (λ opening. IndexedRest first name)) (ChangeRest first name) (Stops whole) tokens next rest split (λ ts r s d. that d)
    (λ ts r b s e d h. indexed_back_at first name e k d))

pub plain_next : (first : Token) (name : Name) (tokens : List Token) (next : Token) (rest : List Token) → tokens ≡ next ∷ rest → (next.kind ≡ kind.Mark mark.OpenBracket → ⊥)
    → Passes (Changing first (place name None)) (ChangeRest first name) (Stops whole) tokens tokens
plain_next first name tokens next rest split other =
    passes_this (Changing first (place name None)) (kind.Mark mark.OpenBracket) (λ opening. IndexedRest first name) (Stops whole) tokens
    (begins_other (kind.Mark mark.OpenBracket) tokens next rest split other)

changing_there : (first : Token) (p : Place) {ts mid r : List Token} {s : Stmt} → SpellsPlace (first ∷ ts) mid p → Changing first p mid r s → SpellsChange (first ∷ ts) r s
changing_there first p pl (this (seq (tok a) (seq v ret))) = set pl a v
changing_there first p pl (that (seq (tok a) (seq v ret))) = add_to pl a v

change_there : (first : Token) (name : Name) {ts r : List Token} {s : Stmt} → first.kind ≡ kind.Named name → ChangeRest first name ts r s → SpellsChange (first ∷ ts) r s
change_there first name n (this d) = changing_there first (place name None) (bare n) d
change_there first name n (that (seq (tok o) (seq {part = index} i (seq (tok c) d)))) = changing_there first (place name (Some index)) (indexed n o i c) d

named_alike : {a b : Name} {k : TokenKind} → k ≡ kind.Named a → k ≡ kind.Named b → a ≡ b
named_alike e f = cc

-- what a place and a change behind it are, behind the name
place_back : (first : Token) (name : Name) {ts mid r : List Token} {p : Place} {s : Stmt} → first.kind ≡ kind.Named name → SpellsPlace (first ∷ ts) mid p → Changing first p mid r s
    → ChangeRest first name ts r s
place_back first name {r = r} {s = s} n (bare {rest = mid} {name = name'} n') d =
    let same : name' ≡ name = named_alike n' n in
    let at : Name → Type 0 = λ x. Changing first (place x None) mid r s in
    this (subst at same d)
place_back first name {r = r} {s = s} n (indexed {closing = z} {rest = mid} {name = name'} {index = e} n' o i c) d =
    let same : name' ≡ name = named_alike n' n in
    let at : Name → Type 0 = λ x. Changing first (place x (Some e)) mid r s in
    that (seq (tok o) (seq i (seq (tok c) (subst at same d))))

change_back : (first : Token) (name : Name) {ts r : List Token} {s : Stmt} → first.kind ≡ kind.Named name → SpellsChange (first ∷ ts) r s → ChangeRest first name ts r s
change_back first name n (set p a v) = place_back first name n p (this (seq (tok a) (seq v ret)))
change_back first name n (add_to p a v) = place_back first name n p (that (seq (tok a) (seq v ret)))

pub change_same : (first : Token) (name : Name) (tokens : List Token) → first.kind ≡ kind.Named name → Passes (ChangeRest first name) (behind first SpellsChange) (Stops whole) tokens tokens
change_same first name tokens n = passes_same (ChangeRest first name) (behind first SpellsChange) (Stops whole) tokens
    (record { there = λ ts r s d. change_there first name n d; back = λ ts r s d h. change_back first name n d })

-- ---- what stands behind a statement

pub no_else_found : (s : Stmt) (tokens : List Token) (next : Token) (rest : List Token) → IsEnded tokens → tokens ≡ next ∷ rest → (next.kind ≡ kind.Word word.Else → ⊥)
    → Found (Ret s) NoElse tokens tokens s
no_else_found s tokens next rest ended split other = ret_found s NoElse tokens (begins_other (kind.Word word.Else) tokens next rest split other) ended

ret_else : {s tree : Stmt} {next : Token} {others r : List Token} → Ret s (next ∷ others) r tree → next.kind ≡ kind.Word word.Else → NoElse r → ⊥
ret_else ret k h = h k

pub else_refused : (s : Stmt) (tokens : List Token) (next : Token) (rest : List Token) → tokens ≡ next ∷ rest → next.kind ≡ kind.Word word.Else → Refused (Ret s) NoElse tokens next.at
else_refused s tokens next rest split k =
    let at : List Token → Type 0 = λ x. Refused (Ret s) NoElse x next.at in
    subst at (sym split) (refused_here (Ret s) NoElse next rest (λ others r tree d h. ret_else d k h) [] s (λ others. ret))

-- ---- locals, changes and calls as statements

pub semicolon_behind : {s : Stmt} {middle rest : List Token} {tree : Stmt} → EndsAs s middle rest tree → Stops whole middle
semicolon_behind (seq (tok k) d) = stops_semicolon k

some_decl : (first : Token) (t : Ty) → Completes (DeclRest first t)
some_decl first t = completes_then completes_name (λ name. completes_then (completes_tok (kind.Mark mark.Assign)) (λ equals. value_as (λ v. stmt first.at (form.Declare t name v))))

pub decl_follows : (first : Token) (t : Ty) → first.kind ≡ kind.Word (type_word t) → Follows (DeclRest first t) (Stops whole) EndsAs NoElse
decl_follows first t w = record {
  unique = λ tokens middle middle' s s' d d' h h'. unique_decl (decl_there w d) (decl_there w d') refl h h';
  same_first = stops_same whole;
  ahead = λ middle rest part tree d s. semicolon_behind d;
  completes = ends_as;
}

pub change_follows : (first : Token) (name : Name) → first.kind ≡ kind.Named name → Follows (ChangeRest first name) (Stops whole) EndsAs NoElse
change_follows first name n = record {
  unique = λ tokens middle middle' s s' d d' h h'. unique_change (change_there first name n d) (change_there first name n d') refl h h';
  same_first = stops_same whole;
  ahead = λ middle rest part tree d s. semicolon_behind d;
  completes = ends_as;
}

pub args_follow : (f : List Expr → Stmt) → Follows SpellsClosed stops_anywhere (λ args. EndsAs (f args)) NoElse
args_follow f = record {
  unique = unique_closed;
  same_first = λ token xs ys s. tt;
  ahead = λ middle rest part tree d s. tt;
  completes = λ args. ends_as (f args);
}

some_args : Completes SpellsClosed
some_args = record { ending = some_token (kind.Mark mark.CloseParen) ∷ []; finished = []; some = λ others. (some_token (kind.Mark mark.CloseParen), no_arguments, refl) }

local_there : (first : Token) (t : Ty) {ts r : List Token} {s : Stmt} → first.kind ≡ kind.Word (type_word t) → Then (DeclRest first t) EndsAs ts r s → SpellsStmt (first ∷ ts) r s
local_there first t w (seq d (seq (tok k) ret)) = declared (decl_there w d) k

local_back : (first : Token) (t : Ty) {ts r : List Token} {s : Stmt} → first.kind ≡ kind.Word (type_word t) → SpellsStmt (first ∷ ts) r s → Then (DeclRest first t) EndsAs ts r s
local_back first t w (declared d k) = seq (decl_back w d) (seq (tok k) ret)
local_back first t {ts = ts} w d = absurd (omega (arith, form_is d, by_word first ts w ∙ type_form t))

pub local_same : (first : Token) (t : Ty) (tokens : List Token) → first.kind ≡ kind.Word (type_word t) → Passes (Then (DeclRest first t) EndsAs) (behind first SpellsStmt) NoElse tokens tokens
local_same first t tokens w = passes_same (Then (DeclRest first t) EndsAs) (behind first SpellsStmt) NoElse tokens
    (record { there = λ ts r s d. local_there first t w d; back = λ ts r s d h. local_back first t w d })

changed_there : (first : Token) (name : Name) {ts r : List Token} {s : Stmt} → first.kind ≡ kind.Named name → Then (ChangeRest first name) EndsAs ts r s → SpellsStmt (first ∷ ts) r s
changed_there first name n (seq d (seq (tok k) ret)) = changed (change_there first name n d) k

changed_back : (first : Token) (name : Name) {ts r : List Token} {s : Stmt} → first.kind ≡ kind.Named name → BeginsOtherThan (kind.Mark mark.OpenParen) ts → SpellsStmt (first ∷ ts) r s
    → Then (ChangeRest first name) EndsAs ts r s
changed_back first name n other (changed d k) = seq (change_back first name n d) (seq (tok k) ret)
changed_back first name {ts = ts} n other d = absurd (omega (arith, form_is d, by_name first ts n ∙ form_of_change ts other))

pub changed_next : (first : Token) (name : Name) (tokens : List Token) (next : Token) (rest : List Token) → first.kind ≡ kind.Named name → tokens ≡ next ∷ rest
    → (next.kind ≡ kind.Mark mark.OpenParen → ⊥) → Passes (Then (ChangeRest first name) EndsAs) (behind first SpellsStmt) NoElse tokens tokens
changed_next first name tokens next rest n split other =
    narrowed_by (BeginsOtherThan (kind.Mark mark.OpenParen)) (λ token xs ys h. h) (Then (ChangeRest first name) EndsAs) (behind first SpellsStmt) NoElse tokens
    (begins_other (kind.Mark mark.OpenParen) tokens next rest split other)
    (λ ts r s d. changed_there first name n d) (λ ts r s h d e. changed_back first name n h d)

called_ends : (first : Token) (name : Name) (args : List Expr) {ts m r : List Token} {s : Stmt} → SpellsCall (first ∷ ts) m (call name args)
    → EndsAs (stmt first.at (form.CallOf (call name args))) m r s → SpellsStmt (first ∷ ts) r s
called_ends first name args c (seq (tok k) ret) = calls c k

called_there : (first : Token) (name : Name) {ts r : List Token} {s : Stmt} → first.kind ≡ kind.Named name → Then (Tok (kind.Mark mark.OpenParen)) (λ opening. CallRest first name) ts r s
    → SpellsStmt (first ∷ ts) r s
called_there first name n (seq (tok o) (seq {part = args} d e)) = called_ends first name args (called n o d.1 d.2) e

called_back : (first next : Token) (name : Name) {b r : List Token} {s : Stmt} → first.kind ≡ kind.Named name → next.kind ≡ kind.Mark mark.OpenParen → SpellsStmt (first ∷ next ∷ b) r s
    → Then (Tok (kind.Mark mark.OpenParen)) (λ opening. CallRest first name) (next ∷ b) r s
called_back first next name {r = r} n o (calls (called {closing = z} {tokens = w} {name = name'} {args = args} n' o' d c) k) =
    let same : name' ≡ name = named_alike n' n in
    let at : Name → Type 0 = λ x. Then (Tok (kind.Mark mark.OpenParen)) (λ opening. CallRest first name) (next ∷ w) r (stmt first.at (form.CallOf (call x args))) in
    subst at (sym same) (seq (tok o) (seq (z, d, c) (seq (tok k) ret)))
called_back first next name {b = b} n o d = absurd (omega (arith, form_is d, by_name first (next ∷ b) n ∙ form_of_call next b o))

called_back_at : (first next : Token) (name : Name) {ts b r : List Token} {s : Stmt} → first.kind ≡ kind.Named name → next.kind ≡ kind.Mark mark.OpenParen → ts ≡ next ∷ b → SpellsStmt (first ∷ ts) r s
    → Then (Tok (kind.Mark mark.OpenParen)) (λ opening. CallRest first name) ts r s
called_back_at first next name {r = r} {s = s} n o e d =
    let from : List Token → Type 0 = λ y. SpellsStmt (first ∷ y) r s in
    let to : List Token → Type 0 = λ y. Then (Tok (kind.Mark mark.OpenParen)) (λ opening. CallRest first name) y r s in
    subst to (sym e) (called_back first next name n o (subst from e d))

pub called_next : (first : Token) (name : Name) (tokens : List Token) (next : Token) (rest : List Token) → first.kind ≡ kind.Named name → IsEnded tokens → tokens ≡ next ∷ rest
    → next.kind ≡ kind.Mark mark.OpenParen → Passes (CallRest first name) (behind first SpellsStmt) NoElse rest tokens
called_next first name tokens next rest n ended split o =
    passes_through (then_passes (tok_follows (kind.Mark mark.OpenParen) {second = λ opening. CallRest first name} NoElse
    (λ opening. completes_then some_args (λ args. ends_as (stmt first.at (form.CallOf (call name args)))))) tokens rest next
    (tok_found (token_found (kind.Mark mark.OpenParen) tokens next rest ended split o (λ h. cc))))
    (narrowed (Then (Tok (kind.Mark mark.OpenParen)) (λ opening. CallRest first name)) (behind first SpellsStmt) NoElse tokens next rest split (λ ts r s d. called_there first name n d)
    (λ ts r b s e d h. called_back_at first next name n o e d))

-- ---- return

no_value_first : (first : Token) {x : Token} {ts r : List Token} {s : Stmt} → x.kind ≡ kind.Mark mark.Semicolon
    → Then (SpellsExpr whole) (λ value. EndsAs (stmt first.at (form.Return (Some value)))) (x ∷ ts) r s → ⊥
no_value_first first k (seq d e) = no_expression d refl k semicolon_begins_none

nothing_back : (first x : Token) {all ts r : List Token} {s : Stmt} → all ≡ x ∷ ts → x.kind ≡ kind.Mark mark.Semicolon → ReturnRest first all r s → EndsAs (stmt first.at (form.Return None)) all r s
nothing_back first x e k (this d) = d
nothing_back first x {r = r} {s = s} e k (that d) =
    let from : List Token → Type 0 = λ y. Then (SpellsExpr whole) (λ value. EndsAs (stmt first.at (form.Return (Some value)))) y r s in
    absurd (no_value_first first k (subst from e d))

pub nothing_next : (first : Token) (tokens : List Token) (next : Token) (rest : List Token) → tokens ≡ next ∷ rest → next.kind ≡ kind.Mark mark.Semicolon
    → Passes (EndsAs (stmt first.at (form.Return None))) (ReturnRest first) NoElse tokens tokens
nothing_next first tokens next rest split k = narrowed (EndsAs (stmt first.at (form.Return None))) (ReturnRest first) NoElse tokens next rest split (λ ts r s d. this d)
    (λ ts r b s e d h. nothing_back first next e k d)

pub something_next : (first : Token) (tokens : List Token) (next : Token) (rest : List Token) → tokens ≡ next ∷ rest → (next.kind ≡ kind.Mark mark.Semicolon → ⊥)
    → Passes (Then (SpellsExpr whole) (λ value. EndsAs (stmt first.at (form.Return (Some value))))) (ReturnRest first) NoElse tokens tokens
something_next first tokens next rest split other = passes_that (kind.Mark mark.Semicolon) _ _ NoElse tokens (begins_other (kind.Mark mark.Semicolon) tokens next rest split other)

-- ---- assert and print

pub opening_expr : (f : Expr → Stmt) → Follows (Tok (kind.Mark mark.OpenParen)) stops_anywhere
    (λ opening. Then (SpellsExpr whole) (λ test. Then (Tok (kind.Mark mark.CloseParen)) (λ closing. EndsAs (f test)))) NoElse
opening_expr f = tok_follows (kind.Mark mark.OpenParen) NoElse (λ opening. completes_then some_expr (λ test. completes_then (completes_tok (kind.Mark mark.CloseParen)) (λ closing. ends_as (f test))))

pub test_closing : (f : Expr → Stmt) → Follows (SpellsExpr whole) (Stops whole) (λ test. Then (Tok (kind.Mark mark.CloseParen)) (λ closing. EndsAs (f test))) NoElse
test_closing f = expr_before mark.CloseParen NoElse refl (λ h. cc) (λ h. cc) (λ test. completes_then (completes_tok (kind.Mark mark.CloseParen)) (λ closing. ends_as (f test)))

pub closing_end : (s : Stmt) → Follows (Tok (kind.Mark mark.CloseParen)) stops_anywhere (λ closing. EndsAs s) NoElse
closing_end s = tok_follows (kind.Mark mark.CloseParen) NoElse (λ closing. ends_as s)

items_once : {tokens middle middle' : List Token} {xs xs' : List Item} → ListUntil (kind.Mark mark.CloseParen) SpellsItem tokens middle xs
    → ListUntil (kind.Mark mark.CloseParen) SpellsItem tokens middle' xs' → (middle ≡ middle') × (xs ≡ xs')
items_once d d' = let both : _ × _ = unique_items d.1 d'.1 refl refl refl d.2 d'.2 in ((cc both.0), both.1)

pub items_follow : (f : List Item → Stmt) → Follows (ListUntil (kind.Mark mark.CloseParen) SpellsItem) stops_anywhere (λ items. EndsAs (f items)) NoElse
items_follow f = record {
  unique = λ tokens middle middle' xs xs' d d' s s'. items_once d d';
  same_first = λ token xs ys s. tt;
  ahead = λ middle rest part tree d s. tt;
  completes = λ items. ends_as (f items);
}

pub opening_items : (f : List Item → Stmt) → Follows (Tok (kind.Mark mark.OpenParen)) stops_anywhere (λ opening. Then (ListUntil (kind.Mark mark.CloseParen) SpellsItem) (λ items. EndsAs (f items)))
    NoElse
opening_items f = tok_follows (kind.Mark mark.OpenParen) NoElse (λ opening. completes_then (completes_list (kind.Mark mark.CloseParen) SpellsItem (Stops whole)) (λ items. ends_as (f items)))

-- ---- items of a print

some_item : Completes SpellsItem
some_item = record { ending = some_expr.ending; finished = item.Value some_expr.finished; some = λ others. value (some_expr.some others) }

pub items_parted : Parting (kind.Mark mark.CloseParen) SpellsItem (Stops whole)
items_parted = record {
  unique = λ tokens middle middle' x x' d d' s s'. unique_item d d' refl s s';
  same_first = stops_same whole;
  at_end = λ token ts h. stops_paren h;
  at_comma = λ token ts h. stops_comma h;
  no_comma = λ h. cc;
  no_end = λ h. cc;
  sample = some_item;
}

-- ---- one item

text_back : {first : Token} {t : Name} {ts r : List Token} {i : Item} → first.kind ≡ kind.Text t → SpellsItem (first ∷ ts) r i → Ret (item.Text t) ts r i
text_back {t = t} {r = r} k (text {t = t'} k') =
    let same : t' ≡ t = text_alike k' k in
    let at : Name → Type 0 = λ x. Ret (item.Text t) r r (item.Text x) in
    subst at (sym same) ret
  where
    text_alike : {a b : Name} {k : TokenKind} → k ≡ kind.Text a → k ≡ kind.Text b → a ≡ b
    text_alike e f = cc
text_back k (value d) = absurd (no_text d refl k)

text_there : {first : Token} {t : Name} {ts r : List Token} {i : Item} → first.kind ≡ kind.Text t → Ret (item.Text t) ts r i → SpellsItem (first ∷ ts) r i
text_there k ret = text k

pub text_same : (first : Token) (t : Name) (tokens : List Token) → first.kind ≡ kind.Text t → Passes (Ret (item.Text t)) (behind first SpellsItem) (Stops whole) tokens tokens
text_same first t tokens k = passes_same (Ret (item.Text t)) (behind first SpellsItem) (Stops whole) tokens (record { there = λ ts r i d. text_there k d; back = λ ts r i d h. text_back k d })

abbrev NotText : Token → Type 0
NotText first = (t : Name) → first.kind ≡ kind.Text t → ⊥

value_there : {ts r : List Token} {i : Item} → Then (SpellsExpr whole) (λ e. Ret (item.Value e)) ts r i → SpellsItem ts r i
value_there (seq d ret) = value d

value_back : {first : Token} {all ts r : List Token} {i : Item} → all ≡ first ∷ ts → NotText first → SpellsItem all r i → Then (SpellsExpr whole) (λ e. Ret (item.Value e)) all r i
value_back e never (text {t = t} k) = absurd (never t (cc))
value_back e never (value d) = seq d ret

pub value_next : (tokens : List Token) (first : Token) (rest : List Token) → tokens ≡ first ∷ rest → NotText first
    → Passes (Then (SpellsExpr whole) (λ e. Ret (item.Value e))) SpellsItem (Stops whole) tokens tokens
value_next tokens first rest split never = narrowed (Then (SpellsExpr whole) (λ e. Ret (item.Value e))) SpellsItem (Stops whole) tokens first rest split (λ ts r i d. value_there d)
    (λ ts r b i e d h. value_back e never d)

-- what an expression stops at

level_most : (op : BinaryOp) → level_of op ≤ whole
level_most binary_op.Mul = omega arith
level_most binary_op.Div = omega arith
level_most binary_op.Rem = omega arith
level_most binary_op.Add = omega arith
level_most binary_op.Sub = omega arith
level_most binary_op.Lt = omega arith
level_most binary_op.Le = omega arith
level_most binary_op.Gt = omega arith
level_most binary_op.Ge = omega arith
level_most binary_op.Eq = omega arith
level_most binary_op.Ne = omega arith
level_most binary_op.And = omega arith
level_most binary_op.Or = omega arith

pub stops_next : (tokens : List Token) (next : Token) (rest : List Token) → tokens ≡ next ∷ rest → (next.kind ≡ kind.Mark mark.OpenBracket → ⊥) → (next.kind ≡ kind.Mark mark.OpenParen → ⊥)
    → at_mark operator_of next.kind ≡ None → Stops whole tokens
stops_next tokens next rest split bracket paren none = record {
  no_index = begins_other (kind.Mark mark.OpenBracket) tokens next rest split bracket;
  no_call = begins_other (kind.Mark mark.OpenParen) tokens next rest split paren;
  no_operator = λ op h. begins_other (kind.Mark (mark_of op)) tokens next rest split (λ same. is_operator op same);
}
  where
    is_operator : (op : BinaryOp) → next.kind ≡ kind.Mark (mark_of op) → ⊥
    is_operator op same = let found : Some op ≡ None = sym (operator_of-mark_of op) ∙ ap (λ k. at_mark operator_of k) (sym same) ∙ none in cc

pub goes_on_refused : {T : Type 0} (tree : T) (tokens : List Token) (next : Token) (rest : List Token) → tokens ≡ next ∷ rest → ((others : List Token) → Stops whole (next ∷ others) → ⊥)
    → Refused (Ret tree) (Stops whole) tokens next.at
goes_on_refused {T = T} tree tokens next rest split never =
    let at : List Token → Type 0 = λ x. Refused (Ret tree) (Stops whole) x next.at in
    subst at (sym split) (refused_here (Ret tree) (Stops whole) next rest (λ others r t d h. here d h) [] tree (λ others. ret))
  where
    here : {others r : List Token} {t : T} → Ret tree (next ∷ others) r t → Stops whole r → ⊥
    here {others = others} ret h = never others h

pub operator_goes_on : (next : Token) (op : BinaryOp) (others : List Token) → at_mark operator_of next.kind ≡ Some op → Stops whole (next ∷ others) → ⊥
operator_goes_on next op others is s = s.no_operator op (level_most op) (operator_kind next.kind op is)

-- ---- heads of loops and routines

no_change_begins : {first : Token} {all ts r : List Token} {s : Stmt} → SpellsChange all r s → all ≡ first ∷ ts → ((n : Name) → first.kind ≡ kind.Named n → ⊥) → ⊥
no_change_begins (set (bare {name = n} k) a v) e never = never n (cc)
no_change_begins (set (indexed {name = n} k o i c) a v) e never = never n (cc)
no_change_begins (add_to (bare {name = n} k) a v) e never = never n (cc)
no_change_begins (add_to (indexed {name = n} k o i c) a v) e never = never n (cc)

pub some_change : Completes SpellsChange
some_change = record {
  ending = some_token (kind.Named no_name) ∷ some_token (kind.Mark mark.Assign) ∷ some_expr.ending;
  finished = stmt 0 (form.Set (place no_name None) some_expr.finished);
  some = λ others. set (bare refl) refl (some_expr.some others);
}

pub change_refused : (tokens : List Token) (first : Token) (rest : List Token) → tokens ≡ first ∷ rest → ((n : Name) → first.kind ≡ kind.Named n → ⊥)
    → Refused SpellsChange (Stops whole) tokens first.at
change_refused tokens first rest split never =
    let at : List Token → Type 0 = λ x. Refused SpellsChange (Stops whole) x first.at in
    subst at (sym split) (refused_here SpellsChange (Stops whole) first rest (λ others r s d h. no_change_begins d refl never) some_change.ending some_change.finished some_change.some)

start_decl_back : {first : Token} (t : Ty) {all ts r : List Token} {s : Stmt} → first.kind ≡ kind.Word (type_word t) → all ≡ first ∷ ts → SpellsStart all r s → SpellsDecl all r s
start_decl_back t w e (declares d) = d
start_decl_back t w e (changes d) = absurd (no_change_begins d e (λ n same. cc))

pub start_decl : (t : Ty) (tokens : List Token) (first : Token) (rest : List Token) → tokens ≡ first ∷ rest → first.kind ≡ kind.Word (type_word t)
    → Passes SpellsDecl SpellsStart (Stops whole) tokens tokens
start_decl t tokens first rest split w = narrowed SpellsDecl SpellsStart (Stops whole) tokens first rest split (λ ts r s d. declares d) (λ ts r b s e d h. start_decl_back t w e d)

start_change_back : {first : Token} {all ts r : List Token} {s : Stmt} → (first.kind ≡ kind.Word word.Int → ⊥) → (first.kind ≡ kind.Word word.Bool → ⊥) → all ≡ first ∷ ts → SpellsStart all r s
    → SpellsChange all r s
start_change_back i b e (changes d) = d
start_change_back i b e (declares (declare {t = ty.Int} w n a v)) = absurd (i (cc))
start_change_back i b e (declares (declare {t = ty.Bool} w n a v)) = absurd (b (cc))

pub start_change : (tokens : List Token) (first : Token) (rest : List Token) → tokens ≡ first ∷ rest → (first.kind ≡ kind.Word word.Int → ⊥) → (first.kind ≡ kind.Word word.Bool → ⊥)
    → Passes SpellsChange SpellsStart (Stops whole) tokens tokens
start_change tokens first rest split i b = narrowed SpellsChange SpellsStart (Stops whole) tokens first rest split (λ ts r s d. changes d) (λ ts r x s e d h. start_change_back i b e d)

pub last_name : (one two : Name) → Follows (Tok (kind.Mark mark.CloseParen)) stops_anywhere (λ closing. Ret (both one two)) stops_anywhere
last_name one two = tok_follows (kind.Mark mark.CloseParen) stops_anywhere (λ closing. completes_ret (both one two))

pub second_name : (one : Name) → Follows NameTok stops_anywhere (λ two. Then (Tok (kind.Mark mark.CloseParen)) (λ closing. Ret (both one two))) stops_anywhere
second_name one = name_follows stops_anywhere (λ two. completes_then (completes_tok (kind.Mark mark.CloseParen)) (λ closing. completes_ret (both one two)))

some_second : (one : Name) → Completes (SecondName one)
some_second one = completes_then (completes_tok (kind.Word word.Int)) (λ int. completes_then completes_name
    (λ two. completes_then (completes_tok (kind.Mark mark.CloseParen)) (λ closing. completes_ret (both one two))))

pub second_int : (one : Name) → Follows (Tok (kind.Word word.Int)) stops_anywhere (λ int. Then NameTok (λ two. Then (Tok (kind.Mark mark.CloseParen)) (λ closing. Ret (both one two)))) stops_anywhere
second_int one = tok_follows (kind.Word word.Int) stops_anywhere (λ int. completes_then completes_name
    (λ two. completes_then (completes_tok (kind.Mark mark.CloseParen)) (λ closing. completes_ret (both one two))))

pub name_comma : (one : Name) → Follows (Tok (kind.Mark mark.Comma)) stops_anywhere (λ comma. SecondName one) stops_anywhere
name_comma one = tok_follows (kind.Mark mark.Comma) stops_anywhere (λ comma. some_second one)

pub first_name : Follows NameTok stops_anywhere (λ one. Then (Tok (kind.Mark mark.Comma)) (λ comma. SecondName one)) stops_anywhere
first_name = name_follows stops_anywhere (λ one. completes_then (completes_tok (kind.Mark mark.Comma)) (λ comma. some_second one))

pub first_int : Follows (Tok (kind.Word word.Int)) stops_anywhere (λ int. Then NameTok (λ one. Then (Tok (kind.Mark mark.Comma)) (λ comma. SecondName one))) stops_anywhere
first_int = tok_follows (kind.Word word.Int) stops_anywhere (λ int. completes_then completes_name (λ one. completes_then (completes_tok (kind.Mark mark.Comma)) (λ comma. some_second one)))

pub names_opening : Follows (Tok (kind.Mark mark.OpenParen)) stops_anywhere (λ opening. Then (Tok (kind.Word word.Int))
    (λ int. Then NameTok (λ one. Then (Tok (kind.Mark mark.Comma)) (λ comma. SecondName one)))) stops_anywhere
names_opening = tok_follows (kind.Mark mark.OpenParen) stops_anywhere (λ opening. completes_then (completes_tok (kind.Word word.Int))
    (λ int. completes_then completes_name (λ one. completes_then (completes_tok (kind.Mark mark.Comma)) (λ comma. some_second one))))
