-- The definitions at the tree's own constructors, and how outcomes follow one another.
use Rattle.std.proofs.Common.{◌≡◌, Bool, true, false, ℕ, List, [], ◌∷◌, ◌++◌, Option, Some, None, Result, Ok, Err, refl, sym, ap, ◌∙◌, subst}
use Rattle.std.proofs.Common.{append_assoc}
use denote.Hole.Carrier.{hidden}
use Rattle.csl_tree.specs.declared.program.Program.{Program}
use Rattle.csl_tree.specs.declared.program.Expr.{Expr}
use Rattle.csl_tree.specs.declared.program.UnaryOp.{UnaryOp}
use Rattle.csl_tree.specs.declared.program.BinaryOp.{BinaryOp}
use Rattle.csl_tree.specs.declared.program.Node.{Node}
use Rattle.csl_tree.specs.declared.program.Node.TheVariants as node
use Rattle.csl_tree.specs.declared.program.Node.TheBlock.{shape-the_row-Expr-0, hidden-the_row-Expr-0, shape-the_row-Expr-1, hidden-the_row-Expr-1, back-Place-index}
use Rattle.csl_tree.specs.declared.program.Place.{Place, Place', out-Place, is-Place'}
use Rattle.csl_tree.specs.declared.program.Call.{Call, out-Call, is-Call'}
use Rattle.csl_meaning.specs.Layout.{area_of}
use Rattle.csl_meaning.specs.Operators.{number_in, unary, binary, decided}
use Rattle.cal_base.specs.declared.ends.Cause.{Cause as CauseMet}
use Rattle.cal_base.specs.declared.value.Val.{Val}
use Rattle.csl_meaning.specs.declared.state.World.{World}
use Rattle.csl_meaning.specs.Locals.{Locals, local_value}
use Rattle.csl_meaning.specs.Runs.{Outcome, Gives, Stops, ShowsLine, OpensStep, Run, and_then, ◌>>=◌, ◌>>◌, try, pure, take_unit}
use Rattle.csl_meaning.specs.Value.{Calls, value, unless, read, result, values, read_name, read_as_int, declared, in_range, item_at}
use Rattle.statement_eval.specs.declared.halt.Halt.{Halt}
use Rattle.statement_eval.specs.declared.halt.Halt.TheVariants.{Cause, NoMemory}
use Rattle.statement_eval.specs.Follows.{Follows, Sets, AppendsAll}
use Rattle.statement_eval.specs.Lists.{values_of, changed}
use Rattle.statement_eval.specs.Changes.{changed_word, changed_name, changed_item}
pub use Rattle.cal_terms.proofs.Lists.{next_item}

-- a first part that stops
pub stops_first : {A B : Type 0} (o : Outcome A) (next : A → Run B) (h : Halt) (w : World) → Follows o (Err h) w → Follows (and_then o next) (Err h) w
stops_first o next (Cause c) w e = ap (λ x. and_then x next) e
stops_first o next NoMemory w e = tt

-- a first part that gives a value
pub gives_first : {A B : Type 0} (o : Outcome A) (next : A → Run B) (a : A) (w w' : World) (r : Result B Halt) → o ≡ Gives a w → Follows (next a w) r w' → Follows (and_then o next) r w'
gives_first o next a w w' r e h = subst (λ x. Follows (and_then x next) r w') (sym e) h

-- a run whose value is passed on as it is
pub gave : {A : Type 0} (o : Outcome A) (a : A) (w : World) → and_then o pure ≡ Gives a w → o ≡ Gives a w
gave (Gives b v) a w e = e
gave (Stops s v) a w e = e
gave (ShowsLine line o) a w e = cc
gave (OpensStep job o) a w e = cc

-- a first part that appends values to none
pub appends_first : {B : Type 0} (o : Outcome (List Val)) (next : List Val → Run B) (before given : List Val) (w w' : World) (r : Result B Halt) → before ≡ []
    → and_then o (λ vs. pure (before ++ vs)) ≡ Gives given w → Follows (next given w) r w' → Follows (and_then o next) r w'
appends_first o next before given w w' r none e h =
    gives_first o next given w w' r (gave o given w (subst (λ (b : List Val). and_then o (λ vs. pure (b ++ vs)) ≡ Gives given w) none e)) h

-- the values of a row are those of its list
pub values_is : (p : Program) (calls : Calls) (locals : Locals) (args : List Expr) → values p calls locals (hidden-the_row-Expr-1 args) ≡ values_of p calls locals args
unfolding shape-the_row-Expr-1 hidden-the_row-Expr-1 hidden
values_is p calls locals [] = refl
values_is p calls locals (e ∷ rest) = ap (λ r. value p calls locals e.node >>= (λ v. r >>= (λ vs. pure (v ∷ vs)))) (values_is p calls locals rest)

module _ (p : Program) (calls : Calls) (locals : Locals) (w : World) where
  pub value_unary : (n : Node) (op : UnaryOp) (a : Expr) → n ≡ node.Unary op a → value p calls locals n w ≡ and_then (value p calls locals a.node w) (λ x. try (unary op x))
  unfolding shape-the_row-Expr-0 hidden-the_row-Expr-0 hidden
  value_unary n op a e = ap (λ m. value p calls locals m w) e

  pub value_binary : (n : Node) (op : BinaryOp) (a b : Expr) → n ≡ node.Binary op a b → value p calls locals n w ≡ and_then (value p calls locals a.node w)
      (λ x. unless (decided op x) (value p calls locals b.node >>= (λ y. try (binary op x y))))
  unfolding shape-the_row-Expr-0 hidden-the_row-Expr-0 hidden
  value_binary n op a b e = ap (λ m. value p calls locals m w) e

  pub value_paren : (n : Node) (a : Expr) → n ≡ node.Paren a → value p calls locals n w ≡ value p calls locals a.node w
  unfolding shape-the_row-Expr-0 hidden-the_row-Expr-0 hidden
  value_paren n a e = ap (λ m. value p calls locals m w) e

  pub read_scalar : (q : Place) → (out-Place q).index ≡ None → read p calls locals q w ≡ read_name (local_value locals (out-Place q).name.text) (declared (area_of p.shared (out-Place q).name.text)) w
  read_scalar q e = ap (λ x. read p calls locals x w) (is-Place' q) ∙ ap (λ i. read p calls locals (Place' (out-Place q).name (back-Place-index i)) w) e

  pub read_item : (q : Place) (i : Expr) → (out-Place q).index ≡ Some i → read p calls locals q w ≡ and_then (value p calls locals i.node w)
      (λ x. in_range (item_at (declared (area_of p.shared (out-Place q).name.text)) (number_in x)) >>= read_as_int)
  unfolding shape-the_row-Expr-0 hidden-the_row-Expr-0 hidden
  read_item q i e = ap (λ x. read p calls locals x w) (is-Place' q) ∙ ap (λ j. read p calls locals (Place' (out-Place q).name (back-Place-index j)) w) e

  pub result_is : (q : Call) → result p calls locals q w ≡ and_then (values_of p calls locals (out-Call q).args w) (λ given. take_unit >> calls (out-Call q).name.text given)
  result_is q = ap (λ x. result p calls locals x w) (is-Call' q) ∙ ap (λ r. and_then (r w) (λ given. take_unit >> calls (out-Call q).name.text given)) (values_is p calls locals (out-Call q).args)

-- ---- several expressions, by a loop that appends

-- the values appended one by one are those appended at once
one_by_one : (o : Outcome (List Val)) (given : List Val) (v : Val) → and_then o (λ vs. pure ((given ++ v ∷ []) ++ vs)) ≡ and_then (and_then o (λ vs. pure (v ∷ vs))) (λ vs. pure (given ++ vs))
one_by_one (Gives vs w) given v = ap (λ l. Gives l w) (append_assoc given (v ∷ []) vs)
one_by_one (Stops s w) given v = refl
one_by_one (ShowsLine line o) given v = ap (ShowsLine line) (one_by_one o given v)
one_by_one (OpensStep job o) given v = ap (OpensStep job) (λ i later. one_by_one (o later) given v i)

-- a run that stops although its values would be appended stops by itself
stops_by_itself : (o : Outcome (List Val)) (before : List Val) (s : CauseMet) (w : World) → and_then o (λ vs. pure (before ++ vs)) ≡ Stops s w → o ≡ Stops s w
stops_by_itself (Gives vs v) before s w e = cc
stops_by_itself (Stops t v) before s w e = cc
stops_by_itself (ShowsLine line o) before s w e = cc
stops_by_itself (OpensStep job o) before s w e = cc

pub value_appended : (p : Program) (calls : Calls) (locals : Locals) (all rest : List Expr) (e : Expr) (given : List Val) (v : Val) (w w' : World) → all ≡ e ∷ rest
    → value p calls locals e.node w ≡ Gives v w' → (values_of p calls locals rest >>= (λ vs. pure ((given ++ v ∷ []) ++ vs))) w' ≡ (values_of p calls locals all >>= (λ vs. pure (given ++ vs))) w
value_appended p calls locals all rest e given v w w' is gives =
    one_by_one (values_of p calls locals rest w') given v
    ∙ ap (λ o. and_then (and_then o (λ x. values_of p calls locals rest >>= (λ vs. pure (x ∷ vs)))) (λ vs. pure (given ++ vs))) (sym gives)
    ∙ ap (λ l. and_then (values_of p calls locals l w) (λ vs. pure (given ++ vs))) (sym is)

pub value_stops : (p : Program) (calls : Calls) (locals : Locals) (all rest : List Expr) (e : Expr) (before given given' : List Val) (h : Halt) (w w' w0 : World) (run : Run (List Val))
    → all ≡ e ∷ rest → Follows (value p calls locals e.node w) (Err h) w' → (values_of p calls locals all >>= (λ vs. pure (given ++ vs))) w ≡ (run >>= (λ vs. pure (before ++ vs))) w0
    → AppendsAll run before w0 (Err h) given' w'
value_stops p calls locals all rest e before given given' NoMemory w w' w0 run is follows inv = tt
value_stops p calls locals all rest e before given given' (Cause c) w w' w0 run is follows inv =
    stops_by_itself (run w0) before c w' (sym inv
    ∙ ap (λ l. and_then (values_of p calls locals l w) (λ vs. pure (given ++ vs))) is
    ∙ ap (λ o. and_then (and_then o (λ x. values_of p calls locals rest >>= (λ vs. pure (x ∷ vs)))) (λ vs. pure (given ++ vs))) follows)

-- ---- a place is set, or added to

-- an address is found first, and then its word is changed
part : (adds : Bool) (a : Option ℕ) (v : Val) (locals : Locals) (w : World)
    → and_then (in_range a w) (λ address. changed_word adds address v >> pure locals) ≡ and_then (and_then (in_range a w) (λ address. changed_word adds address v)) (λ _. pure locals)
part adds None v locals w = refl
part adds (Some a) v locals w = refl

module _ (p : Program) (calls : Calls) (locals : Locals) (w : World) where
  pub changed_scalar : (adds : Bool) (q : Place) (e : Expr) → (out-Place q).index ≡ None
      → changed adds p calls locals q e w ≡ and_then (value p calls locals e.node w) (λ v. changed_name adds p (out-Place q).name.text v locals)
  changed_scalar true q e is = ap (λ x. changed true p calls locals x e w) (is-Place' q) ∙ ap (λ i. changed true p calls locals (Place' (out-Place q).name (back-Place-index i)) e w) is
  changed_scalar false q e is = ap (λ x. changed false p calls locals x e w) (is-Place' q) ∙ ap (λ i. changed false p calls locals (Place' (out-Place q).name (back-Place-index i)) e w) is

  pub changed_item_of : (adds : Bool) (q : Place) (i e : Expr) → (out-Place q).index ≡ Some i
      → changed adds p calls locals q e w ≡ and_then (value p calls locals i.node w) (λ x. value p calls locals e.node >>= (λ v. changed_item adds p (out-Place q).name.text x v >> pure locals))
  unfolding shape-the_row-Expr-0 hidden-the_row-Expr-0 hidden
  changed_item_of true q i e is =
      ap (λ x. changed true p calls locals x e w) (is-Place' q) ∙ ap (λ j. changed true p calls locals (Place' (out-Place q).name (back-Place-index j)) e w) is
      ∙ (λ j. and_then (value p calls locals i.node w) (λ x. value p calls locals e.node >>= (λ v. λ w'. part true (item_at (declared (area_of p.shared (out-Place q).name.text)) (number_in x)) v
      locals w' j)))
  changed_item_of false q i e is =
      ap (λ x. changed false p calls locals x e w) (is-Place' q) ∙ ap (λ j. changed false p calls locals (Place' (out-Place q).name (back-Place-index j)) e w) is
      ∙ (λ j. and_then (value p calls locals i.node w) (λ x. value p calls locals e.node >>= (λ v. λ w'. part false (item_at (declared (area_of p.shared (out-Place q).name.text)) (number_in x)) v
      locals w' j)))

-- a first part that stops
pub sets_stop : {A : Type 0} (o : Outcome A) (next : A → Run Locals) (h : Halt) (l : Locals) (w : World) → Follows o (Err h) w → Sets (and_then o next) (Err h) l w
sets_stop o next (Cause c) l w e = ap (λ x. and_then x next) e
sets_stop o next NoMemory l w e = tt

-- a first part that gives a value
pub sets_next : {A : Type 0} (o : Outcome A) (next : A → Run Locals) (a : A) (r : Result (Unit {0}) Halt) (l : Locals) (w w' : World) → o ≡ Gives a w → Sets (next a w) r l w'
    → Sets (and_then o next) r l w'
sets_next o next a r l w w' e h = subst (λ x. Sets (and_then x next) r l w') (sym e) h

-- what leaves the locals alone
pub sets_alone : (o : Outcome (Unit {0})) (r : Result (Unit {0}) Halt) (locals : Locals) (w : World) → Follows o r w → Sets (and_then o (λ _. pure locals)) r locals w
sets_alone o (Ok u) locals w e = ap (λ x. and_then x (λ _. pure locals)) e
sets_alone o (Err (Cause c)) locals w e = ap (λ x. and_then x (λ _. pure locals)) e
sets_alone o (Err NoMemory) locals w e = tt
