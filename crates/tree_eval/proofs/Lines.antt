-- Lists that grow one by one, printed lines, and widths.
use Rattle.std.proofs.Common.{◌≡◌, ℕ, ℤ, List, [], ◌∷◌, ◌++◌, Option, Some, None, Result, Ok, Err, refl, sym, ap, ◌∙◌, subst, append_assoc}
use Rattle.cal_base.specs.declared.ends.Cause.{Cause as CauseMet}
use Rattle.cal_base.specs.declared.value.Val.{Val}
use Rattle.csl_tree.specs.declared.program.Program.{Program}
use Rattle.csl_tree.specs.declared.program.Item.{Item}
use Rattle.csl_tree.specs.declared.program.Item.TheVariants as item
use Rattle.csl_tree.specs.declared.program.RoutineBlock.{RoutineBlock, out-RoutineBlock, is-RoutineBlock'}
use Rattle.csl_meaning.specs.declared.state.World.{World}
use Rattle.csl_meaning.specs.Locals.{Locals}
use Rattle.csl_meaning.specs.Operators.{number_in}
use Rattle.csl_meaning.specs.Runs.{Outcome, Gives, Stops, ShowsLine, OpensStep, Run, and_then, ◌>>=◌, pure}
use Rattle.csl_meaning.specs.Value.{Calls, value_of}
use Rattle.cal_base.specs.Printing.{shown}
use Rattle.csl_meaning.specs.Meaning.{pieces, widths_of}
use Rattle.statement_eval.specs.declared.halt.Halt.{Halt}
use Rattle.statement_eval.specs.declared.halt.Halt.TheVariants.{Cause, NoMemory}
use Rattle.statement_eval.specs.Follows.{Follows, AppendsAll}
use Rattle.tree_eval.specs.Pieces.{piece_of}

-- three runs, one after the other
pub bind_assoc : {A B C : Type 0} (o : Outcome A) (f : A → Run B) (g : B → Run C) → and_then (and_then o f) g ≡ and_then o (λ a w. and_then (f a w) g)
bind_assoc (Gives a w) f g = refl
bind_assoc (Stops c w) f g = refl
bind_assoc (ShowsLine line o) f g = ap (ShowsLine line) (bind_assoc o f g)
bind_assoc (OpensStep job o) f g = ap (OpensStep job) (λ i later. bind_assoc (o later) f g i)

module _ {A : Type 0} where
  -- what is appended one by one is what is appended at once
  one_by_one : (o : Outcome (List A)) (given : List A) (v : A) → and_then o (λ vs. pure ((given ++ v ∷ []) ++ vs)) ≡ and_then (and_then o (λ vs. pure (v ∷ vs))) (λ vs. pure (given ++ vs))
  one_by_one (Gives vs w) given v = ap (λ l. Gives l w) (append_assoc given (v ∷ []) vs)
  one_by_one (Stops s w) given v = refl
  one_by_one (ShowsLine line o) given v = ap (ShowsLine line) (one_by_one o given v)
  one_by_one (OpensStep job o) given v = ap (OpensStep job) (λ i later. one_by_one (o later) given v i)

  stops_by_itself : (o : Outcome (List A)) (before : List A) (s : CauseMet) (w : World) → and_then o (λ vs. pure (before ++ vs)) ≡ Stops s w → o ≡ Stops s w
  stops_by_itself (Gives vs v) before s w e = cc
  stops_by_itself (Stops t v) before s w e = cc
  stops_by_itself (ShowsLine line o) before s w e = cc
  stops_by_itself (OpensStep job o) before s w e = cc

  gave_by_itself : (o : Outcome (List A)) (given : List A) (w : World) → and_then o pure ≡ Gives given w → o ≡ Gives given w
  gave_by_itself (Gives b v) a w e = e
  gave_by_itself (Stops s v) a w e = e
  gave_by_itself (ShowsLine line o) a w e = cc
  gave_by_itself (OpensStep job o) a w e = cc

  -- one item after the other, where each gives one that is kept as `g` says
  module _ {V : Type 0} (g : V → A) where
    abbrev pub item_first : Outcome V → Run (List A) → Outcome (List A)
    item_first first rest = and_then first (λ x. rest >>= (λ vs. pure (g x ∷ vs)))

    pub item_appended : (first : Outcome V) (rest : Run (List A)) (given : List A) (v : V) (w : World) → first ≡ Gives v w
        → (rest >>= (λ vs. pure ((given ++ g v ∷ []) ++ vs))) w ≡ and_then (item_first first rest) (λ vs. pure (given ++ vs))
    item_appended first rest given v w gives =
        one_by_one (rest w) given (g v) ∙ ap (λ o. and_then (item_first o rest) (λ vs. pure (given ++ vs))) (sym gives)

    pub item_stops : (first : Outcome V) (rest : Run (List A)) (before given given' : List A) (h : Halt) (w w0 : World) (run : Run (List A)) → Follows first (Err h) w
        → and_then (item_first first rest) (λ vs. pure (given ++ vs)) ≡ (run >>= (λ vs. pure (before ++ vs))) w0 → AppendsAll run before w0 (Err h) given' w
    item_stops first rest before given given' NoMemory w w0 run follows inv = tt
    item_stops first rest before given given' (Cause c) w w0 run follows inv =
        stops_by_itself (run w0) before c w (sym inv ∙ ap (λ o. and_then (item_first o rest) (λ vs. pure (given ++ vs))) follows)

  -- what was appended to nothing
  pub appended_whole : (run : Run (List A)) (before given : List A) (w w' : World) (r : Result (Unit {0}) Halt) → before ≡ [] → AppendsAll run before w r given w' → r ≡ Ok tt → run w ≡ Gives given w'
  appended_whole run before given w w' (Ok u) none a e = gave_by_itself (run w) given w' (subst (λ (b : List A). (run >>= (λ vs. pure (b ++ vs))) w ≡ Gives given w') none a)
  appended_whole run before given w w' (Err h) none a e = cc

module _ (p : Program) (calls : Calls) (locals : Locals) where
  pub pieces_next : (x : Item) (rest : List Item) (w : World) → pieces p calls locals (x ∷ rest) w ≡ item_first (λ (t : List ℕ). t) (piece_of p calls locals x w) (pieces p calls locals rest)
  pieces_next (item.Text text) rest w = refl
  pieces_next (item.Value e) rest w = sym (bind_assoc (value_of p calls locals e w) (λ v. pure (shown v)) (λ t. pieces p calls locals rest >>= (λ more. pure (t ∷ more))))

  pub widths_next : (b : RoutineBlock) (rest : List RoutineBlock) (w : World) → widths_of p calls locals (b ∷ rest) w ≡ item_first number_in (value_of p calls locals (out-RoutineBlock b).width w)
      (widths_of p calls locals rest)
  widths_next b rest w = ap (λ x. widths_of p calls locals (x ∷ rest) w) (is-RoutineBlock' b)

module _ (p : Program) (calls : Calls) (locals : Locals) where
  pub pieces_more : (all rest : List Item) (x : Item) (given : List (List ℕ)) (t : List ℕ) (w w' : World) → all ≡ x ∷ rest → piece_of p calls locals x w ≡ Gives t w'
      → (pieces p calls locals rest >>= (λ vs. pure ((given ++ t ∷ []) ++ vs))) w' ≡ (pieces p calls locals all >>= (λ vs. pure (given ++ vs))) w
  pieces_more all rest x given t w w' is gives =
      item_appended (λ (t : List ℕ). t) (piece_of p calls locals x w) (pieces p calls locals rest) given t w' gives
      ∙ sym (ap (λ l. and_then (pieces p calls locals l w) (λ vs. pure (given ++ vs))) is ∙ ap (λ o. and_then o (λ vs. pure (given ++ vs))) (pieces_next p calls locals x rest w))

  pub pieces_stop : (all rest : List Item) (x : Item) (before given given' : List (List ℕ)) (h : Halt) (w w' w0 : World) (run : Run (List (List ℕ))) → all ≡ x ∷ rest
      → Follows (piece_of p calls locals x w) (Err h) w'
      → (pieces p calls locals all >>= (λ vs. pure (given ++ vs))) w ≡ (run >>= (λ vs. pure (before ++ vs))) w0 → AppendsAll run before w0 (Err h) given' w'
  pieces_stop all rest x before given given' h w w' w0 run is follows inv =
      item_stops (λ (t : List ℕ). t) (piece_of p calls locals x w) (pieces p calls locals rest) before given given' h w' w0 run follows
      (sym (ap (λ l. and_then (pieces p calls locals l w) (λ vs. pure (given ++ vs))) is ∙ ap (λ o. and_then o (λ vs. pure (given ++ vs))) (pieces_next p calls locals x rest w)) ∙ inv)

  pub widths_more : (all rest : List RoutineBlock) (b : RoutineBlock) (given : List ℤ) (v : Val) (w w' : World) → all ≡ b ∷ rest → value_of p calls locals (out-RoutineBlock b).width w ≡ Gives v w'
      → (widths_of p calls locals rest >>= (λ vs. pure ((given ++ number_in v ∷ []) ++ vs))) w' ≡ (widths_of p calls locals all >>= (λ vs. pure (given ++ vs))) w
  widths_more all rest b given v w w' is gives =
      item_appended number_in (value_of p calls locals (out-RoutineBlock b).width w) (widths_of p calls locals rest) given v w' gives
      ∙ sym (ap (λ l. and_then (widths_of p calls locals l w) (λ vs. pure (given ++ vs))) is ∙ ap (λ o. and_then o (λ vs. pure (given ++ vs))) (widths_next p calls locals b rest w))

  pub widths_stop : (all rest : List RoutineBlock) (b : RoutineBlock) (before given given' : List ℤ) (h : Halt) (w w' w0 : World) (run : Run (List ℤ)) → all ≡ b ∷ rest
      → Follows (value_of p calls locals (out-RoutineBlock b).width w) (Err h) w'
      → (widths_of p calls locals all >>= (λ vs. pure (given ++ vs))) w ≡ (run >>= (λ vs. pure (before ++ vs))) w0 → AppendsAll run before w0 (Err h) given' w'
  widths_stop all rest b before given given' h w w' w0 run is follows inv =
      item_stops number_in (value_of p calls locals (out-RoutineBlock b).width w) (widths_of p calls locals rest) before given given' h w' w0 run follows
      (sym (ap (λ l. and_then (widths_of p calls locals l w) (λ vs. pure (given ++ vs))) is ∙ ap (λ o. and_then o (λ vs. pure (given ++ vs))) (widths_next p calls locals b rest w)) ∙ inv)

-- ---- widths

-- these widths, and then those
abbrev pub joined : List ℕ → Option (List ℕ) → Option (List ℕ)
joined ws None = None
joined ws (Some ns) = Some (ws ++ ns)
