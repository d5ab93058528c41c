-- A statement's tokens are those of its tree.
use Rattle.std.proofs.Common.{◌≡◌, List, ◌∷◌, ◌++◌, Option, refl, sym, ◌∙◌, append_assoc}
use Rattle.csl_tree.specs.declared.token.Token.{Token}
use Rattle.csl_tree.specs.declared.token.TokenKind.{TokenKind}
use Rattle.csl_tree.specs.declared.token.Keyword.TheVariants as keyword
use Rattle.csl_tree.specs.declared.token.Mark.TheVariants.{Comma, Semicolon}
use Rattle.csl_tree.specs.declared.program.Arm.{Arm}
use Rattle.csl_tree.specs.declared.program.Item.{Item}
use Rattle.csl_tree.specs.declared.program.RoutineBlock.{RoutineBlock}
use Rattle.csl_tree.specs.declared.program.Stmt.{Stmt}
use Rattle.csl_tree.specs.declared.program.Form.TheVariants as form
use Rattle.csl_grammar.specs.Programs.{IsWord, bare, indexed, called, SpellsDecl, declare, SpellsChange, set, add_to, SpellsItem, text, value, Each, stop, again, MoreOf, no_more, more, ListOf}
use Rattle.csl_grammar.specs.Programs.{nothing, something, SpellsStmt, declared, changed, calls, block, if_else, while_loop, for_loop, break_out, goes_on, returns, returns_value, asserts, prints}
use Rattle.csl_grammar.specs.Programs.{parallel, SpellsStart, declares, changes, SpellsBlock, braces, SpellsStmts, none, one_more, SpellsArm, tested, SpellsElse, no_else, else_if, else_block}
use Rattle.csl_grammar.specs.Programs.{SpellsRoutine, routine, SpellsRoutines, no_routine, one_routine}
use Rattle.csl_print.specs.TreeTokens.{mark, word, each, further, separated, item_tokens, form_tokens, statement_tokens, body_tokens, arm_tokens, routine_tokens}
use Rattle.csl_print.proofs.Leads.{Leads, leads_none, leads_one, leads_then, leads_as, Reduced, keeps, Normal}
use Rattle.csl_print.proofs.NormalExpr.{normal_expr, normal_arguments}
use Rattle.csl_print.proofs.Trees.{place_name, place_element, call_is, arm_made, routine_made, else_tokens, tokens_if, tokens_block, tokens_while, tokens_for, tokens_par, append_none}

-- ---- lists

module _ {T : Type 0} (spells : List Token → List Token → T → Type 0) (tokens : T → List TokenKind)
    (one : (ts rest : List Token) (x : T) → spells ts rest x → (rest' : List Token) → Reduced rest rest' → Normal spells ts rest' x (tokens x)) where
  pub normal_each : {ts rest : List Token} {xs : List T} → Each spells ts rest xs → (rest' : List Token) → Reduced rest rest' → Normal (Each spells) ts rest' xs (each tokens xs)
  normal_each stop rest' r = record { tokens = rest'; reduced = r; spelled = stop; leads = leads_none rest' }
  normal_each (again d m) rest' r =
      let others : Normal _ _ rest' _ _ = normal_each m rest' r in
      let n : Normal _ _ others.tokens _ _ = one _ _ _ d others.tokens others.reduced in
      record { tokens = n.tokens; reduced = n.reduced; spelled = again n.spelled others.spelled; leads = leads_then n.leads others.leads }

  normal_more_of : {ts rest : List Token} {xs : List T} → MoreOf spells ts rest xs → (rest' : List Token) → Reduced rest rest' → Normal (MoreOf spells) ts rest' xs (further (mark Comma) tokens xs)
  normal_more_of no_more rest' r = record { tokens = rest'; reduced = r; spelled = no_more; leads = leads_none rest' }
  normal_more_of (more {comma = comma} k d m) rest' r =
      let others : Normal _ _ rest' _ _ = normal_more_of m rest' r in
      let n : Normal _ _ others.tokens _ _ = one _ _ _ d others.tokens others.reduced in
      record { tokens = comma ∷ n.tokens; reduced = keeps comma n.reduced; spelled = more k n.spelled others.spelled; leads = leads_then (leads_then (leads_one k) n.leads) others.leads }

  pub normal_list : {ts rest : List Token} {xs : List T} → ListOf spells ts rest xs → (rest' : List Token) → Reduced rest rest' → Normal (ListOf spells) ts rest' xs (separated tokens xs)
  normal_list nothing rest' r = record { tokens = rest'; reduced = r; spelled = nothing; leads = leads_none rest' }
  normal_list (something d m) rest' r =
      let others : Normal _ _ rest' _ _ = normal_more_of m rest' r in
      let n : Normal _ _ others.tokens _ _ = one _ _ _ d others.tokens others.reduced in
      record { tokens = n.tokens; reduced = n.reduced; spelled = something n.spelled others.spelled; leads = leads_then n.leads others.leads }

-- ---- parts of statements

normal_decl : {ts rest : List Token} {s : Stmt} → SpellsDecl ts rest s → (rest' : List Token) → Reduced rest rest' → Normal SpellsDecl ts rest' s (form_tokens s.form)
normal_decl (declare {first = first} {token = token} {equals = equals} w n a d) rest' r =
    let v : Normal _ _ rest' _ _ = normal_expr d rest' r in
    record { tokens = first ∷ token ∷ equals ∷ v.tokens; reduced = keeps first (keeps token (keeps equals v.reduced)); spelled = declare w n a v.spelled; leads = leads_then (leads_then (leads_then (leads_one w) (leads_one n)) (leads_one a)) v.leads }

normal_change : {ts rest : List Token} {s : Stmt} → SpellsChange ts rest s → (rest' : List Token) → Reduced rest rest' → Normal SpellsChange ts rest' s (form_tokens s.form)
normal_change (set {first = first} {equals = equals} (bare {name = name} n) a d) rest' r =
    let v : Normal _ _ rest' _ _ = normal_expr d rest' r in
    record { tokens = first ∷ equals ∷ v.tokens; reduced = keeps first (keeps equals v.reduced); spelled = set (bare n) a v.spelled; leads = leads_then (leads_then (leads_as (sym (place_name name)) (leads_one n)) (leads_one a)) v.leads }
normal_change (set {first = first} {equals = equals} (indexed {opening = opening} {closing = closing} {name = name} {index = index} n o i c) a d) rest' r =
    let v : Normal _ _ rest' _ _ = normal_expr d rest' r in
    let x : Normal _ _ (closing ∷ equals ∷ v.tokens) _ _ = normal_expr i (closing ∷ equals ∷ v.tokens) (keeps closing (keeps equals v.reduced)) in
    record { tokens = first ∷ opening ∷ x.tokens; reduced = keeps first (keeps opening x.reduced); spelled = set (indexed n o x.spelled c) a v.spelled; leads = leads_then (leads_then (leads_as (sym (place_element name index)) (leads_then (leads_then (leads_then (leads_one n) (leads_one o)) x.leads) (leads_one c))) (leads_one a)) v.leads }
normal_change (add_to {first = first} {equals = equals} (bare {name = name} n) a d) rest' r =
    let v : Normal _ _ rest' _ _ = normal_expr d rest' r in
    record { tokens = first ∷ equals ∷ v.tokens; reduced = keeps first (keeps equals v.reduced); spelled = add_to (bare n) a v.spelled; leads = leads_then (leads_then (leads_as (sym (place_name name)) (leads_one n)) (leads_one a)) v.leads }
normal_change (add_to {first = first} {equals = equals} (indexed {opening = opening} {closing = closing} {name = name} {index = index} n o i c) a d) rest' r =
    let v : Normal _ _ rest' _ _ = normal_expr d rest' r in
    let x : Normal _ _ (closing ∷ equals ∷ v.tokens) _ _ = normal_expr i (closing ∷ equals ∷ v.tokens) (keeps closing (keeps equals v.reduced)) in
    record { tokens = first ∷ opening ∷ x.tokens; reduced = keeps first (keeps opening x.reduced); spelled = add_to (indexed n o x.spelled c) a v.spelled; leads = leads_then (leads_then (leads_as (sym (place_element name index)) (leads_then (leads_then (leads_then (leads_one n) (leads_one o)) x.leads) (leads_one c))) (leads_one a)) v.leads }

normal_item : (ts rest : List Token) (i : Item) → SpellsItem ts rest i → (rest' : List Token) → Reduced rest rest' → Normal SpellsItem ts rest' i (item_tokens i)
normal_item _ _ _ (text {token = token} k) rest' r = record { tokens = token ∷ rest'; reduced = keeps token r; spelled = text k; leads = leads_one k }
normal_item _ _ _ (value d) rest' r = let n : Normal _ _ rest' _ _ = normal_expr d rest' r in record { tokens = n.tokens; reduced = n.reduced; spelled = value n.spelled; leads = n.leads }

normal_start : {ts rest : List Token} {s : Stmt} → SpellsStart ts rest s → (rest' : List Token) → Reduced rest rest' → Normal SpellsStart ts rest' s (form_tokens s.form)
normal_start (declares d) rest' r = let n : Normal _ _ rest' _ _ = normal_decl d rest' r in record { tokens = n.tokens; reduced = n.reduced; spelled = declares n.spelled; leads = n.leads }
normal_start (changes d) rest' r = let n : Normal _ _ rest' _ _ = normal_change d rest' r in record { tokens = n.tokens; reduced = n.reduced; spelled = changes n.spelled; leads = n.leads }

-- a semicolon ends a declaration and a change
decl_ends : {ts rest : List Token} {s : Stmt} → SpellsDecl ts rest s → form_tokens s.form ++ mark Semicolon ≡ statement_tokens s
decl_ends (declare w n a d) = refl

change_ends : {ts rest : List Token} {s : Stmt} → SpellsChange ts rest s → form_tokens s.form ++ mark Semicolon ≡ statement_tokens s
change_ends (set p a d) = refl
change_ends (add_to p a d) = refl

-- an arm, from its `if` on
record NormalArm (ts rest : List Token) (a : Arm) : Type 0 where
  tokens : List Token
  reduced : Reduced ts tokens
  spelled : SpellsArm tokens rest a
  leads : (first : Token) → IsWord first keyword.If → Leads (first ∷ tokens) rest (arm_tokens a)

-- further arms, and the last block
record NormalElse (ts rest : List Token) (arms : List Arm) (last : Option (List Stmt)) : Type 0 where
  tokens : List Token
  reduced : Reduced ts tokens
  spelled : SpellsElse tokens rest arms last
  leads : Leads tokens rest (further (word keyword.Else) arm_tokens arms ++ else_tokens last)

-- ---- statements

mutual
  normal_stmt : {ts rest : List Token} {s : Stmt} → SpellsStmt ts rest s → (rest' : List Token) → Reduced rest rest' → Normal SpellsStmt ts rest' s (statement_tokens s)
  normal_stmt (declared {semicolon = semicolon} d s) rest' r =
      let n : Normal _ _ (semicolon ∷ rest') _ _ = normal_decl d (semicolon ∷ rest') (keeps semicolon r) in
      record { tokens = n.tokens; reduced = n.reduced; spelled = declared n.spelled s; leads = leads_as (decl_ends d) (leads_then n.leads (leads_one s)) }
  normal_stmt (changed {semicolon = semicolon} d s) rest' r =
      let n : Normal _ _ (semicolon ∷ rest') _ _ = normal_change d (semicolon ∷ rest') (keeps semicolon r) in
      record { tokens = n.tokens; reduced = n.reduced; spelled = changed n.spelled s; leads = leads_as (change_ends d) (leads_then n.leads (leads_one s)) }
  normal_stmt (calls {first = first} {semicolon = semicolon} (called {opening = opening} {closing = closing} {name = name} {args = args} n o d c) s) rest' r =
      let m : Normal _ _ (closing ∷ semicolon ∷ rest') _ _ = normal_arguments d (closing ∷ semicolon ∷ rest') (keeps closing (keeps semicolon r)) in
      record { tokens = first ∷ opening ∷ m.tokens; reduced = keeps first (keeps opening m.reduced); spelled = calls (called n o m.spelled c) s; leads = leads_then (leads_as (sym (call_is name args)) (leads_then (leads_one n) (leads_then (leads_then (leads_one o) m.leads) (leads_one c)))) (leads_one s) }
  normal_stmt (block {first = first} {body = body} (braces {closing = closing} o d c)) rest' r =
      let m : Normal _ _ (closing ∷ rest') _ _ = normal_stmts d (closing ∷ rest') (keeps closing r) in
      record { tokens = first ∷ m.tokens; reduced = keeps first m.reduced; spelled = block (braces o m.spelled c); leads = leads_as (sym (append_none (form_tokens (form.Block body)) ∙ tokens_block _ body refl)) (leads_then (leads_then (leads_one o) m.leads) (leads_one c)) }
  normal_stmt (if_else {first = first} {a = a} {arms = arms} {last = last} w d e) rest' r =
      let others : NormalElse _ rest' _ _ = normal_else e rest' r in
      let n : NormalArm _ others.tokens _ = normal_arm d others.tokens others.reduced in
      record { tokens = first ∷ n.tokens; reduced = keeps first n.reduced; spelled = if_else w n.spelled others.spelled; leads = leads_as (sym (append_assoc (arm_tokens a) (further (word keyword.Else) arm_tokens arms) (else_tokens last)) ∙ sym (append_none (form_tokens (form.If (a ∷ arms) last)) ∙ tokens_if (a ∷ arms) last)) (leads_then (n.leads first w) others.leads) }
  normal_stmt (while_loop {first = first} {opening = opening} {closing = closing} {test = test} {body = body} w o d c b) rest' r =
      let bl : Normal _ _ rest' _ _ = normal_block b rest' r in
      let t : Normal _ _ (closing ∷ bl.tokens) _ _ = normal_expr d (closing ∷ bl.tokens) (keeps closing bl.reduced) in
      record { tokens = first ∷ opening ∷ t.tokens; reduced = keeps first (keeps opening t.reduced); spelled = while_loop w o t.spelled c bl.spelled; leads = leads_as (sym (append_none (form_tokens (form.While test body)) ∙ tokens_while _ test body refl)) (leads_then (leads_then (leads_one w) (leads_then (leads_then (leads_one o) t.leads) (leads_one c))) bl.leads) }
  normal_stmt (for_loop {first = first} {opening = opening} {one = one} {two = two} {closing = closing} {start = start} {next = next} {test = test} {body = body} w o st m1 t m2 ch c b) rest' r =
      let bl : Normal _ _ rest' _ _ = normal_block b rest' r in
      let nx : Normal _ _ (closing ∷ bl.tokens) _ _ = normal_change ch (closing ∷ bl.tokens) (keeps closing bl.reduced) in
      let te : Normal _ _ (two ∷ nx.tokens) _ _ = normal_expr t (two ∷ nx.tokens) (keeps two nx.reduced) in
      let sn : Normal _ _ (one ∷ te.tokens) _ _ = normal_start st (one ∷ te.tokens) (keeps one te.reduced) in
      record {
        tokens = first ∷ opening ∷ sn.tokens;
        reduced = keeps first (keeps opening sn.reduced);
        spelled = for_loop w o sn.spelled m1 te.spelled m2 nx.spelled c bl.spelled;
        leads = leads_as (sym (append_none (form_tokens (form.For start test next body)) ∙ tokens_for _ start test next body refl))
            (leads_then (leads_then (leads_one w) (leads_then (leads_then (leads_one o) (leads_then (leads_then (leads_then (leads_then sn.leads (leads_one m1)) te.leads) (leads_one m2)) nx.leads))
            (leads_one c))) bl.leads);
      }
  normal_stmt (break_out {first = first} {semicolon = semicolon} w s) rest' r = record { tokens = first ∷ semicolon ∷ rest'; reduced = keeps first (keeps semicolon r); spelled = break_out w s; leads = leads_then (leads_one w) (leads_one s) }
  normal_stmt (goes_on {first = first} {semicolon = semicolon} w s) rest' r = record { tokens = first ∷ semicolon ∷ rest'; reduced = keeps first (keeps semicolon r); spelled = goes_on w s; leads = leads_then (leads_one w) (leads_one s) }
  normal_stmt (returns {first = first} {semicolon = semicolon} w s) rest' r = record { tokens = first ∷ semicolon ∷ rest'; reduced = keeps first (keeps semicolon r); spelled = returns w s; leads = leads_then (leads_one w) (leads_one s) }
  normal_stmt (returns_value {first = first} {semicolon = semicolon} w d s) rest' r =
      let v : Normal _ _ (semicolon ∷ rest') _ _ = normal_expr d (semicolon ∷ rest') (keeps semicolon r) in
      record { tokens = first ∷ v.tokens; reduced = keeps first v.reduced; spelled = returns_value w v.spelled s; leads = leads_then (leads_then (leads_one w) v.leads) (leads_one s) }
  normal_stmt (asserts {first = first} {opening = opening} {closing = closing} {semicolon = semicolon} w o d c s) rest' r =
      let v : Normal _ _ (closing ∷ semicolon ∷ rest') _ _ = normal_expr d (closing ∷ semicolon ∷ rest') (keeps closing (keeps semicolon r)) in
      record { tokens = first ∷ opening ∷ v.tokens; reduced = keeps first (keeps opening v.reduced); spelled = asserts w o v.spelled c s; leads = leads_then (leads_then (leads_one w) (leads_then (leads_then (leads_one o) v.leads) (leads_one c))) (leads_one s) }
  normal_stmt (prints {first = first} {opening = opening} {closing = closing} {semicolon = semicolon} w o d c s) rest' r =
      let v : Normal _ _ (closing ∷ semicolon ∷ rest') _ _ = normal_list SpellsItem item_tokens normal_item d (closing ∷ semicolon ∷ rest') (keeps closing (keeps semicolon r)) in
      record { tokens = first ∷ opening ∷ v.tokens; reduced = keeps first (keeps opening v.reduced); spelled = prints w o v.spelled c s; leads = leads_then (leads_then (leads_one w) (leads_then (leads_then (leads_one o) v.leads) (leads_one c))) (leads_one s) }
  normal_stmt (parallel {first = first} {last = last} {semicolon = semicolon} {r = one} {rs = others_of} w d m l s) rest' r =
      let others : Normal _ _ (last ∷ semicolon ∷ rest') _ _ = normal_routines m (last ∷ semicolon ∷ rest') (keeps last (keeps semicolon r)) in
      let n : Normal _ _ others.tokens _ _ = normal_routine d others.tokens others.reduced in
      record { tokens = first ∷ n.tokens; reduced = keeps first n.reduced; spelled = parallel w n.spelled others.spelled l s; leads = leads_then (leads_as (sym (tokens_par _ (one ∷ others_of) refl)) (leads_then (leads_then (leads_one w) (leads_then n.leads others.leads)) (leads_one l))) (leads_one s) }

  pub normal_block : {ts rest : List Token} {body : List Stmt} → SpellsBlock ts rest body → (rest' : List Token) → Reduced rest rest' → Normal SpellsBlock ts rest' body (body_tokens body)
  normal_block (braces {opening = opening} {closing = closing} o d c) rest' r =
      let m : Normal _ _ (closing ∷ rest') _ _ = normal_stmts d (closing ∷ rest') (keeps closing r) in
      record { tokens = opening ∷ m.tokens; reduced = keeps opening m.reduced; spelled = braces o m.spelled c; leads = leads_then (leads_then (leads_one o) m.leads) (leads_one c) }

  normal_stmts : {ts rest : List Token} {body : List Stmt} → SpellsStmts ts rest body → (rest' : List Token) → Reduced rest rest' → Normal SpellsStmts ts rest' body (each statement_tokens body)
  normal_stmts none rest' r = record { tokens = rest'; reduced = r; spelled = none; leads = leads_none rest' }
  normal_stmts (one_more d m) rest' r =
      let others : Normal _ _ rest' _ _ = normal_stmts m rest' r in
      let n : Normal _ _ others.tokens _ _ = normal_stmt d others.tokens others.reduced in
      record { tokens = n.tokens; reduced = n.reduced; spelled = one_more n.spelled others.spelled; leads = leads_then n.leads others.leads }

  normal_arm : {ts rest : List Token} {a : Arm} → SpellsArm ts rest a → (rest' : List Token) → Reduced rest rest' → NormalArm ts rest' a
  normal_arm (tested {opening = opening} {closing = closing} {test = test} {body = body} o d c b) rest' r =
      let bl : Normal _ _ rest' _ _ = normal_block b rest' r in
      let t : Normal _ _ (closing ∷ bl.tokens) _ _ = normal_expr d (closing ∷ bl.tokens) (keeps closing bl.reduced) in
      record { tokens = opening ∷ t.tokens; reduced = keeps opening t.reduced; spelled = tested o t.spelled c bl.spelled; leads = λ first w. leads_as (sym (arm_made test body)) (leads_then (leads_then (leads_one w) (leads_then (leads_then (leads_one o) t.leads) (leads_one c))) bl.leads) }

  normal_else : {ts rest : List Token} {arms : List Arm} {last : Option (List Stmt)} → SpellsElse ts rest arms last → (rest' : List Token) → Reduced rest rest' → NormalElse ts rest' arms last
  normal_else no_else rest' r = record { tokens = rest'; reduced = r; spelled = no_else; leads = leads_none rest' }
  normal_else (else_if {one = one} {two = two} {a = a} {arms = arms} {last = last} w1 w2 d e) rest' r =
      let others : NormalElse _ rest' _ _ = normal_else e rest' r in
      let n : NormalArm _ others.tokens _ = normal_arm d others.tokens others.reduced in
      record { tokens = one ∷ two ∷ n.tokens; reduced = keeps one (keeps two n.reduced); spelled = else_if w1 w2 n.spelled others.spelled; leads = leads_as (sym (append_assoc (word keyword.Else ++ arm_tokens a) (further (word keyword.Else) arm_tokens arms) (else_tokens last))) (leads_then (leads_then (leads_one w1) (n.leads two w2)) others.leads) }
  normal_else (else_block {one = one} w b) rest' r =
      let bl : Normal _ _ rest' _ _ = normal_block b rest' r in
      record { tokens = one ∷ bl.tokens; reduced = keeps one bl.reduced; spelled = else_block w bl.spelled; leads = leads_then (leads_one w) bl.leads }

  normal_routine : {ts rest : List Token} {b : RoutineBlock} → SpellsRoutine ts rest b → (rest' : List Token) → Reduced rest rest' → Normal SpellsRoutine ts rest' b (routine_tokens b)
  normal_routine (routine {first = first} {bracket = bracket} {closing = closing} {opening = opening} {int1 = int1} {name1 = name1} {comma = comma} {int2 = int2} {name2 = name2} {end = end}
      {width = width} {w = w} {i = i} {body = body} f b d c o i1 n1 co i2 n2 e bk) rest' r =
      let bl : Normal _ _ rest' _ _ = normal_block bk rest' r in
      let t : Normal _ _ (closing ∷ opening ∷ int1 ∷ name1 ∷ comma ∷ int2 ∷ name2 ∷ end ∷ bl.tokens) _ _ =
      normal_expr d (closing ∷ opening ∷ int1 ∷ name1 ∷ comma ∷ int2 ∷ name2 ∷ end ∷ bl.tokens)
      (keeps closing (keeps opening (keeps int1 (keeps name1 (keeps comma (keeps int2 (keeps name2 (keeps end bl.reduced)))))))) in
      record {
        tokens = first ∷ bracket ∷ t.tokens;
        reduced = keeps first (keeps bracket t.reduced);
        spelled = routine f b t.spelled c o i1 n1 co i2 n2 e bl.spelled;
        leads = leads_as (sym (routine_made first.at width w i body))
            (leads_then
            (leads_then (leads_one f)
            (leads_then (leads_then (leads_then (leads_one b) t.leads) (leads_one c))
            (leads_then (leads_then (leads_one o) (leads_then (leads_then (leads_then (leads_then (leads_one i1) (leads_one n1)) (leads_one co)) (leads_one i2)) (leads_one n2))) (leads_one e))))
            bl.leads);
      }

  normal_routines : {ts rest : List Token} {bs : List RoutineBlock} → SpellsRoutines ts rest bs → (rest' : List Token) → Reduced rest rest' → Normal SpellsRoutines ts rest' bs (each routine_tokens bs)
  normal_routines no_routine rest' r = record { tokens = rest'; reduced = r; spelled = no_routine; leads = leads_none rest' }
  normal_routines (one_routine d m) rest' r =
      let others : Normal _ _ rest' _ _ = normal_routines m rest' r in
      let n : Normal _ _ others.tokens _ _ = normal_routine d others.tokens others.reduced in
      record { tokens = n.tokens; reduced = n.reduced; spelled = one_routine n.spelled others.spelled; leads = leads_then n.leads others.leads }
