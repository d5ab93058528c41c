-- The grammar with the tokens at other places: the same tree, positions aside.
use Rattle.std.proofs.Common.{◌≡◌, ℕ, List, [], ◌∷◌, Option, Some, None, refl, sym, ap, ◌∙◌}
use Rattle.std.specs.Prelude.{map, option_map}
use Rattle.csl_tree.specs.declared.name.Name.{Name}
use Rattle.csl_tree.specs.declared.token.Token.{Token}
use Rattle.csl_tree.specs.declared.token.TokenKind.{TokenKind}
use Rattle.csl_tree.specs.declared.token.TokenKind.TheVariants as kind
use Rattle.csl_tree.specs.declared.program.Arm.{Arm}
use Rattle.csl_tree.specs.declared.program.Call.{Call}
use Rattle.csl_tree.specs.declared.program.Expr.{Expr}
use Rattle.csl_tree.specs.declared.program.Item.{Item}
use Rattle.csl_tree.specs.declared.program.Item.TheVariants as item
use Rattle.csl_tree.specs.declared.program.Node.TheVariants as node
use Rattle.csl_tree.specs.declared.program.Place.{Place}
use Rattle.csl_tree.specs.declared.program.RoutineBlock.{RoutineBlock, roll-RoutineBlock}
use Rattle.csl_tree.specs.declared.program.Stmt.{Stmt}
use Rattle.csl_tree.specs.declared.program.Form.TheVariants as form
use Rattle.csl_grammar.specs.Expressions as grammar
use Rattle.csl_grammar.specs.Expressions.{SpellsExpr, chain, prefixed, number, truth, named, paren, SpellsChain, ends, SpellsArguments, SpellsMore, expr, binary, place, call, whole}
use Rattle.csl_grammar.specs.Programs.{stmt, arm, SpellsPlace, bare, indexed, SpellsCall, called, SpellsDecl, declare, SpellsChange, set, add_to, SpellsItem, text, value, Each, stop, again, MoreOf}
use Rattle.csl_grammar.specs.Programs.{no_more, more, ListOf, nothing, something, SpellsStmt, declared, changed, calls, block, if_else, while_loop, for_loop, break_out, goes_on, returns}
use Rattle.csl_grammar.specs.Programs.{returns_value, asserts, prints, parallel, SpellsStart, declares, changes, SpellsBlock, braces, SpellsStmts, none, one_more, SpellsArm, tested, SpellsElse}
use Rattle.csl_grammar.specs.Programs.{no_else, else_if, else_block, SpellsRoutine, routine, SpellsRoutines, no_routine, one_routine}
use Rattle.csl_print.specs.Bare.{bare_name, bare_place, bare_call, bare_expr, bare_item, bare_stmt}
use Rattle.csl_print.proofs.Bares.{same_unary, same_paren, same_binary, at_place, same_name, same_element, same_call, block_is, while_is, for_is, bare_arm, arm_is, if_is, bare_routine, routine_is}
use Rattle.csl_print.proofs.Bares.{par_is}

-- ---- tokens at other places

abbrev pub moved_name : (ℕ → ℕ) → Name → Name
moved_name f name = at_place (f name.at) name

abbrev pub moved_kind : (ℕ → ℕ) → TokenKind → TokenKind
moved_kind f (kind.Word w) = kind.Word w
moved_kind f (kind.Named name) = kind.Named (moved_name f name)
moved_kind f (kind.Number z) = kind.Number z
moved_kind f (kind.Text name) = kind.Text (moved_name f name)
moved_kind f (kind.Mark m) = kind.Mark m
moved_kind f kind.End = kind.End

abbrev pub moved : (ℕ → ℕ) → Token → Token
moved f t = record { at = f t.at; kind = moved_kind f t.kind }

abbrev pub all_moved : (ℕ → ℕ) → List Token → List Token
all_moved f [] = []
all_moved f (t ∷ ts) = moved f t ∷ all_moved f ts

-- the moved tokens spell a tree that is the same but for positions
pub record Moved {X : Type 0} (f : ℕ → ℕ) (spells : List Token → List Token → X → Type 0) (bare_of : X → X) (ts rest : List Token) (x : X) : Type 0 where
  pub tree : X
  pub spelled : spells (all_moved f ts) (all_moved f rest) tree
  pub same : bare_of tree ≡ bare_of x

module _ (f : ℕ → ℕ) where
  -- a token's kind behind a move
  pub kept : {k k' : TokenKind} → k' ≡ k → moved_kind f k' ≡ moved_kind f k
  kept e = ap (λ x. moved_kind f x) e

  -- ---- expressions

  mutual
    pub move_expr : {level : ℕ} {ts rest : List Token} {e : Expr} → SpellsExpr level ts rest e → Moved f (SpellsExpr level) bare_expr ts rest e
    move_expr (chain d c) =
        let first : Moved f _ bare_expr _ _ _ = move_expr d in
        let all : Moved f _ bare_expr _ _ _ = move_chain c first.tree first.same in
        record { tree = all.tree; spelled = chain first.spelled all.spelled; same = all.same }
    move_expr (prefixed {op = op} {sign = sign} {e = e} s d) =
        let m : Moved f _ bare_expr _ _ _ = move_expr d in
        record { tree = expr (f sign.at) (node.Unary op m.tree); spelled = prefixed (kept s) m.spelled; same = same_unary op (f sign.at) sign.at m.tree e m.same }
    move_expr (number {token = token} {n = n} s) = record { tree = expr (f token.at) (node.Number n); spelled = number (kept s); same = refl }
    move_expr (truth {token = token} {b = b} s) = record { tree = expr (f token.at) (node.Truth b); spelled = truth (kept s); same = refl }
    move_expr (named {token = token} {name = name} s) =
        record { tree = expr (f token.at) (node.Read (place (moved_name f name) None)); spelled = named (kept s); same = ap (λ p. expr 0 (node.Read p)) (same_name name (f name.at)) }
    move_expr (grammar.indexed {token = token} {name = name} {index = i} s o d c) =
        let m : Moved f _ bare_expr _ _ _ = move_expr d in
        record { tree = expr (f token.at) (node.Read (place (moved_name f name) (Some m.tree))); spelled = grammar.indexed (kept s) (kept o) m.spelled (kept c); same = ap (λ p. expr 0 (node.Read p)) (same_element name (f name.at) m.tree i m.same) }
    move_expr (grammar.called {token = token} {name = name} {args = args} s o d c) =
        let m : Moved f _ (map bare_expr) _ _ _ = move_arguments d in
        record { tree = expr (f token.at) (node.CallOf (call (moved_name f name) m.tree)); spelled = grammar.called (kept s) (kept o) m.spelled (kept c); same = ap (λ p. expr 0 (node.CallOf p)) (same_call name (f name.at) m.tree args m.same) }
    move_expr (paren {opening = opening} {e = e} s d c) =
        let m : Moved f _ bare_expr _ _ _ = move_expr d in
        record { tree = expr (f opening.at) (node.Paren m.tree); spelled = paren (kept s) m.spelled (kept c); same = same_paren (f opening.at) opening.at m.tree e m.same }

    move_chain : {level : ℕ} {ts rest : List Token} {left e : Expr} → SpellsChain level left ts rest e → (left' : Expr) → bare_expr left' ≡ bare_expr left
        → Moved f (SpellsChain level left') bare_expr ts rest e
    move_chain ends left' h = record { tree = left'; spelled = ends; same = h }
    move_chain (grammar.goes_on {op = op} {left = left} {right = right} l s d c) left' h =
        let m : Moved f _ bare_expr _ _ _ = move_expr d in
        let all : Moved f _ bare_expr _ _ _ = move_chain c (binary op left' m.tree) (same_binary op left' m.tree left right h m.same) in
        record { tree = all.tree; spelled = grammar.goes_on l (kept s) m.spelled all.spelled; same = all.same }

    pub move_arguments : {ts rest : List Token} {es : List Expr} → SpellsArguments ts rest es → Moved f SpellsArguments (map bare_expr) ts rest es
    move_arguments grammar.nothing = record { tree = []; spelled = grammar.nothing; same = refl }
    move_arguments (grammar.something d m) =
        let one : Moved f _ bare_expr _ _ _ = move_expr d in
        let others : Moved f _ (map bare_expr) _ _ _ = move_more m in
        record { tree = one.tree ∷ others.tree; spelled = grammar.something one.spelled others.spelled; same = λ i. one.same i ∷ others.same i }

    move_more : {ts rest : List Token} {es : List Expr} → SpellsMore ts rest es → Moved f SpellsMore (map bare_expr) ts rest es
    move_more grammar.no_more = record { tree = []; spelled = grammar.no_more; same = refl }
    move_more (grammar.more k d m) =
        let one : Moved f _ bare_expr _ _ _ = move_expr d in
        let others : Moved f _ (map bare_expr) _ _ _ = move_more m in
        record { tree = one.tree ∷ others.tree; spelled = grammar.more (kept k) one.spelled others.spelled; same = λ i. one.same i ∷ others.same i }

  -- ---- lists

  module _ {T : Type 0} (spells : List Token → List Token → T → Type 0) (bare_of : T → T)
      (one : (ts rest : List Token) (x : T) → spells ts rest x → Moved f spells bare_of ts rest x) where
    pub move_each : {ts rest : List Token} {xs : List T} → Each spells ts rest xs → Moved f (Each spells) (map bare_of) ts rest xs
    move_each stop = record { tree = []; spelled = stop; same = refl }
    move_each (again d m) =
        let first : Moved f _ bare_of _ _ _ = one _ _ _ d in
        let others : Moved f _ (map bare_of) _ _ _ = move_each m in
        record { tree = first.tree ∷ others.tree; spelled = again first.spelled others.spelled; same = λ i. first.same i ∷ others.same i }

    move_more_of : {ts rest : List Token} {xs : List T} → MoreOf spells ts rest xs → Moved f (MoreOf spells) (map bare_of) ts rest xs
    move_more_of no_more = record { tree = []; spelled = no_more; same = refl }
    move_more_of (more k d m) =
        let first : Moved f _ bare_of _ _ _ = one _ _ _ d in
        let others : Moved f _ (map bare_of) _ _ _ = move_more_of m in
        record { tree = first.tree ∷ others.tree; spelled = more (kept k) first.spelled others.spelled; same = λ i. first.same i ∷ others.same i }

    pub move_list : {ts rest : List Token} {xs : List T} → ListOf spells ts rest xs → Moved f (ListOf spells) (map bare_of) ts rest xs
    move_list nothing = record { tree = []; spelled = nothing; same = refl }
    move_list (something d m) =
        let first : Moved f _ bare_of _ _ _ = one _ _ _ d in
        let others : Moved f _ (map bare_of) _ _ _ = move_more_of m in
        record { tree = first.tree ∷ others.tree; spelled = something first.spelled others.spelled; same = λ i. first.same i ∷ others.same i }

  -- ---- parts of statements

  move_place : {ts rest : List Token} {p : Place} → SpellsPlace ts rest p → Moved f SpellsPlace bare_place ts rest p
  move_place (bare {name = name} n) = record { tree = place (moved_name f name) None; spelled = bare (kept n); same = same_name name (f name.at) }
  move_place (indexed {name = name} {index = i} n o d c) =
      let m : Moved f _ bare_expr _ _ _ = move_expr d in
      record { tree = place (moved_name f name) (Some m.tree); spelled = indexed (kept n) (kept o) m.spelled (kept c); same = same_element name (f name.at) m.tree i m.same }

  move_call : {ts rest : List Token} {c : Call} → SpellsCall ts rest c → Moved f SpellsCall bare_call ts rest c
  move_call (called {name = name} {args = args} n o d c) =
      let m : Moved f _ (map bare_expr) _ _ _ = move_arguments d in
      record { tree = call (moved_name f name) m.tree; spelled = called (kept n) (kept o) m.spelled (kept c); same = same_call name (f name.at) m.tree args m.same }

  move_decl : {ts rest : List Token} {s : Stmt} → SpellsDecl ts rest s → Moved f SpellsDecl bare_stmt ts rest s
  move_decl (declare {first = first} {t = t} {name = name} w n a d) =
      let v : Moved f _ bare_expr _ _ _ = move_expr d in
      record { tree = stmt (f first.at) (form.Declare t (moved_name f name) v.tree); spelled = declare (kept w) (kept n) (kept a) v.spelled; same = ap (λ x. stmt 0 (form.Declare t (bare_name name) x)) v.same }

  move_change : {ts rest : List Token} {s : Stmt} → SpellsChange ts rest s → Moved f SpellsChange bare_stmt ts rest s
  move_change (set {first = first} p a d) =
      let m : Moved f _ bare_place _ _ _ = move_place p in
      let v : Moved f _ bare_expr _ _ _ = move_expr d in
      record { tree = stmt (f first.at) (form.Set m.tree v.tree); spelled = set m.spelled (kept a) v.spelled; same = λ i. stmt 0 (form.Set (m.same i) (v.same i)) }
  move_change (add_to {first = first} p a d) =
      let m : Moved f _ bare_place _ _ _ = move_place p in
      let v : Moved f _ bare_expr _ _ _ = move_expr d in
      record { tree = stmt (f first.at) (form.AddTo m.tree v.tree); spelled = add_to m.spelled (kept a) v.spelled; same = λ i. stmt 0 (form.AddTo (m.same i) (v.same i)) }

  move_item : (ts rest : List Token) (i : Item) → SpellsItem ts rest i → Moved f SpellsItem bare_item ts rest i
  move_item _ _ _ (text {t = t} k) = record { tree = item.Text (moved_name f t); spelled = text (kept k); same = refl }
  move_item _ _ _ (value d) = let v : Moved f _ bare_expr _ _ _ = move_expr d in record { tree = item.Value v.tree; spelled = value v.spelled; same = ap (λ x. item.Value x) v.same }

  move_start : {ts rest : List Token} {s : Stmt} → SpellsStart ts rest s → Moved f SpellsStart bare_stmt ts rest s
  move_start (declares d) = let m : Moved f _ bare_stmt _ _ _ = move_decl d in record { tree = m.tree; spelled = declares m.spelled; same = m.same }
  move_start (changes d) = let m : Moved f _ bare_stmt _ _ _ = move_change d in record { tree = m.tree; spelled = changes m.spelled; same = m.same }

  record MovedElse (ts rest : List Token) (arms : List Arm) (last : Option (List Stmt)) : Type 0 where
    arms' : List Arm
    last' : Option (List Stmt)
    spelled : SpellsElse (all_moved f ts) (all_moved f rest) arms' last'
    same_arms : map bare_arm arms' ≡ map bare_arm arms
    same_last : option_map (map bare_stmt) last' ≡ option_map (map bare_stmt) last

  -- ---- statements

  mutual
    move_stmt : {ts rest : List Token} {s : Stmt} → SpellsStmt ts rest s → Moved f SpellsStmt bare_stmt ts rest s
    move_stmt (declared d s) = let m : Moved f _ bare_stmt _ _ _ = move_decl d in record { tree = m.tree; spelled = declared m.spelled (kept s); same = m.same }
    move_stmt (changed d s) = let m : Moved f _ bare_stmt _ _ _ = move_change d in record { tree = m.tree; spelled = changed m.spelled (kept s); same = m.same }
    move_stmt (calls {first = first} d s) =
        let m : Moved f _ bare_call _ _ _ = move_call d in
        record { tree = stmt (f first.at) (form.CallOf m.tree); spelled = calls m.spelled (kept s); same = ap (λ x. stmt 0 (form.CallOf x)) m.same }
    move_stmt (block {first = first} {body = body} d) =
        let m : Moved f _ (map bare_stmt) _ _ _ = move_block d in
        record { tree = stmt (f first.at) (form.Block m.tree); spelled = block m.spelled; same = ap (λ x. stmt 0 x) (block_is m.tree ∙ ap (λ x. form.Block x) m.same ∙ sym (block_is body)) }
    move_stmt (if_else {first = first} {a = a} {arms = arms} {last = last} w d e) =
        let m : Moved f _ bare_arm _ _ _ = move_arm d in
        let others : MovedElse _ _ _ _ = move_else e in
        record {
          tree = stmt (f first.at) (form.If (m.tree ∷ others.arms') others.last');
          spelled = if_else (kept w) m.spelled others.spelled;
          same = ap (λ x. stmt 0 x) (if_is (m.tree ∷ others.arms') others.last' ∙ (λ i. form.If (m.same i ∷ others.same_arms i) (others.same_last i)) ∙ sym (if_is (a ∷ arms) last));
        }
    move_stmt (while_loop {first = first} {test = test} {body = body} w o d c b) =
        let t : Moved f _ bare_expr _ _ _ = move_expr d in
        let m : Moved f _ (map bare_stmt) _ _ _ = move_block b in
        record { tree = stmt (f first.at) (form.While t.tree m.tree); spelled = while_loop (kept w) (kept o) t.spelled (kept c) m.spelled; same = ap (λ x. stmt 0 x) (while_is t.tree m.tree ∙ (λ i. form.While (t.same i) (m.same i)) ∙ sym (while_is test body)) }
    move_stmt (for_loop {first = first} {start = start} {next = next} {test = test} {body = body} w o st m1 d m2 ch c b) =
        let s : Moved f _ bare_stmt _ _ _ = move_start st in
        let t : Moved f _ bare_expr _ _ _ = move_expr d in
        let n : Moved f _ bare_stmt _ _ _ = move_change ch in
        let m : Moved f _ (map bare_stmt) _ _ _ = move_block b in
        record {
          tree = stmt (f first.at) (form.For s.tree t.tree n.tree m.tree);
          spelled = for_loop (kept w) (kept o) s.spelled (kept m1) t.spelled (kept m2) n.spelled (kept c) m.spelled;
          same = ap (λ x. stmt 0 x) (for_is s.tree t.tree n.tree m.tree ∙ (λ i. form.For (s.same i) (t.same i) (n.same i) (m.same i)) ∙ sym (for_is start test next body));
        }
    move_stmt (break_out {first = first} w s) = record { tree = stmt (f first.at) form.Break; spelled = break_out (kept w) (kept s); same = refl }
    move_stmt (goes_on {first = first} w s) = record { tree = stmt (f first.at) form.Continue; spelled = goes_on (kept w) (kept s); same = refl }
    move_stmt (returns {first = first} w s) = record { tree = stmt (f first.at) (form.Return None); spelled = returns (kept w) (kept s); same = refl }
    move_stmt (returns_value {first = first} w d s) =
        let v : Moved f _ bare_expr _ _ _ = move_expr d in
        record { tree = stmt (f first.at) (form.Return (Some v.tree)); spelled = returns_value (kept w) v.spelled (kept s); same = ap (λ x. stmt 0 (form.Return (Some x))) v.same }
    move_stmt (asserts {first = first} w o d c s) =
        let v : Moved f _ bare_expr _ _ _ = move_expr d in
        record { tree = stmt (f first.at) (form.Assert v.tree); spelled = asserts (kept w) (kept o) v.spelled (kept c) (kept s); same = ap (λ x. stmt 0 (form.Assert x)) v.same }
    move_stmt (prints {first = first} w o d c s) =
        let v : Moved f _ (map bare_item) _ _ _ = move_list SpellsItem bare_item move_item d in
        record { tree = stmt (f first.at) (form.Print v.tree); spelled = prints (kept w) (kept o) v.spelled (kept c) (kept s); same = ap (λ x. stmt 0 (form.Print x)) v.same }
    move_stmt (parallel {first = first} {r = one} {rs = others_of} w d m l s) =
        let n : Moved f _ bare_routine _ _ _ = move_routine d in
        let others : Moved f _ (map bare_routine) _ _ _ = move_routines m in
        record {
          tree = stmt (f first.at) (form.Par (n.tree ∷ others.tree));
          spelled = parallel (kept w) n.spelled others.spelled (kept l) (kept s);
          same = ap (λ x. stmt 0 x) (par_is (n.tree ∷ others.tree) ∙ (λ i. form.Par (n.same i ∷ others.same i)) ∙ sym (par_is (one ∷ others_of)));
        }

    pub move_block : {ts rest : List Token} {body : List Stmt} → SpellsBlock ts rest body → Moved f SpellsBlock (map bare_stmt) ts rest body
    move_block (braces o d c) = let m : Moved f _ (map bare_stmt) _ _ _ = move_stmts d in record { tree = m.tree; spelled = braces (kept o) m.spelled (kept c); same = m.same }

    move_stmts : {ts rest : List Token} {body : List Stmt} → SpellsStmts ts rest body → Moved f SpellsStmts (map bare_stmt) ts rest body
    move_stmts none = record { tree = []; spelled = none; same = refl }
    move_stmts (one_more d m) =
        let first : Moved f _ bare_stmt _ _ _ = move_stmt d in
        let others : Moved f _ (map bare_stmt) _ _ _ = move_stmts m in
        record { tree = first.tree ∷ others.tree; spelled = one_more first.spelled others.spelled; same = λ i. first.same i ∷ others.same i }

    move_arm : {ts rest : List Token} {a : Arm} → SpellsArm ts rest a → Moved f SpellsArm bare_arm ts rest a
    move_arm (tested {test = test} {body = body} o d c b) =
        let t : Moved f _ bare_expr _ _ _ = move_expr d in
        let m : Moved f _ (map bare_stmt) _ _ _ = move_block b in
        record { tree = arm t.tree m.tree; spelled = tested (kept o) t.spelled (kept c) m.spelled; same = arm_is t.tree m.tree ∙ (λ i. arm (t.same i) (m.same i)) ∙ sym (arm_is test body) }

    move_else : {ts rest : List Token} {arms : List Arm} {last : Option (List Stmt)} → SpellsElse ts rest arms last → MovedElse ts rest arms last
    move_else no_else = record { arms' = []; last' = None; spelled = no_else; same_arms = refl; same_last = refl }
    move_else (else_if w1 w2 d e) =
        let m : Moved f _ bare_arm _ _ _ = move_arm d in
        let others : MovedElse _ _ _ _ = move_else e in
        record { arms' = m.tree ∷ others.arms'; last' = others.last'; spelled = else_if (kept w1) (kept w2) m.spelled others.spelled; same_arms = λ i. m.same i ∷ others.same_arms i; same_last = others.same_last }
    move_else (else_block w b) =
        let m : Moved f _ (map bare_stmt) _ _ _ = move_block b in
        record { arms' = []; last' = Some m.tree; spelled = else_block (kept w) m.spelled; same_arms = refl; same_last = ap (λ x. Some x) m.same }

    move_routine : {ts rest : List Token} {b : RoutineBlock} → SpellsRoutine ts rest b → Moved f SpellsRoutine bare_routine ts rest b
    move_routine (routine {first = first} {width = width} {w = w} {i = i} {body = body} k b d c o i1 n1 co i2 n2 e bk) =
        let t : Moved f _ bare_expr _ _ _ = move_expr d in
        let m : Moved f _ (map bare_stmt) _ _ _ = move_block bk in
        record {
          tree = roll-RoutineBlock (record { at = f first.at; width = t.tree; width_name = moved_name f w; id_name = moved_name f i; body = m.tree });
          spelled = routine (kept k) (kept b) t.spelled (kept c) (kept o) (kept i1) (kept n1) (kept co) (kept i2) (kept n2) (kept e) m.spelled;
          same = routine_is (f first.at) t.tree (moved_name f w) (moved_name f i) m.tree
              ∙ (λ x. roll-RoutineBlock (record { at = 0; width = t.same x; width_name = bare_name w; id_name = bare_name i; body = m.same x }))
              ∙ sym (routine_is first.at width w i body);
        }

    move_routines : {ts rest : List Token} {bs : List RoutineBlock} → SpellsRoutines ts rest bs → Moved f SpellsRoutines (map bare_routine) ts rest bs
    move_routines no_routine = record { tree = []; spelled = no_routine; same = refl }
    move_routines (one_routine d m) =
        let first : Moved f _ bare_routine _ _ _ = move_routine d in
        let others : Moved f _ (map bare_routine) _ _ _ = move_routines m in
        record { tree = first.tree ∷ others.tree; spelled = one_routine first.spelled others.spelled; same = λ i. first.same i ∷ others.same i }
