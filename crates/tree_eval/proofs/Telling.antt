-- What main tells, one part after the other.
use Rattle.std.proofs.Common.{◌≡◌, ℕ, ℤ, suc, ◌+◌, ◌≤◌, length, take, map, sum, List, [], ◌∷◌, ◌++◌, Option, Some, None, Ok, Err, refl, sym, ap, ◌∙◌, subst, arith, append_assoc, length-append, false}
use Rattle.std.specs.Io.{StartsWith}
use Rattle.std.specs.List.{range_with_len}
use Rattle.std.specs.Io.KnownBytes.{Appends}
use Rattle.std.proofs.KnownBytes.{Appends-nil, Appends-trans}
use Rattle.std.proofs.lemmas.List.FromFn.{length-map-range_with_len}
use Rattle.cal_base.specs.declared.ends.RunEnd.{RunEnd}
use Rattle.cal_base.specs.declared.ends.Cause.TheVariants.{BadWidth}
use Rattle.cal_base.specs.declared.ends.RunEnd.TheVariants.{StepFailed}
use Rattle.cal_base.specs.declared.ends.StepFault.{StepFault}
use Rattle.cal_base.specs.declared.value.Store.TheVariants as store
use Rattle.cal_base.specs.Memory.{Memory}
use Rattle.cal_base.specs.Stores.{memory_in}
use Rattle.cal_base.specs.declared.answer.Answer.{Answer}
use Rattle.cal_base.specs.Answers.{all_of}
use Rattle.cal_base.specs.After.{after}
use Rattle.cal_base.specs.Main.{Main, Shows, Opens, meaning_of, going_on}
use Rattle.cal_base.specs.Claims.{StepJob}
use Rattle.cal_base.specs.Text.{text_of}
use Rattle.csl_tree.specs.declared.program.Program.{Program}
use Rattle.csl_tree.specs.declared.program.RoutineBlock.{RoutineBlock}
use Rattle.csl_meaning.specs.declared.state.World.{World}
use Rattle.csl_meaning.specs.declared.state.Ending.TheVariants as ending
use Rattle.csl_meaning.specs.Locals.{Locals}
use Rattle.csl_meaning.specs.Runs.{Outcome, Gives, Stops, ShowsLine, OpensStep, Run, and_then, ◌>>=◌, ◌>>◌, pure, take_unit}
use Rattle.csl_meaning.specs.Effect.{Went, Stepping, Printing, calls_to, most_levels}
use Rattle.csl_meaning.specs.Routines.{answers, answer}
use Rattle.cal_base.specs.Printing.{line_of}
use Rattle.cal_base.specs.Widths.{step_widths}
use Rattle.csl_meaning.specs.Meaning.{open_step, in_main, widths_of, good_widths, pieces, show}
use Rattle.statement_eval.specs.declared.halt.Halt.{Halt}
use Rattle.statement_eval.specs.declared.halt.Halt.TheVariants.{Cause, NoMemory}
use Rattle.tree_eval.specs.declared.main_halt.MainHalt.{MainHalt}
use Rattle.tree_eval.specs.declared.main_halt.MainHalt.TheVariants as halt
use Rattle.statement_eval.specs.Follows.{Follows, Goes, AppendsAll}
use Rattle.tree_eval.specs.Ready.{ready_widths}
use Rattle.tree_eval.specs.Told.{continued, text_by, end_by, Told, Finishes, ToldSome, TellsOf, Tells, TellsLocals, main_halt}
use Rattle.statement_eval.proofs.AreaLemmas.{sum_cons}
use Rattle.tree_eval.proofs.Lines.{bind_assoc, appended_whole}

-- ---- how main goes on

pub continued_bind : {A B : Type 0} (o : Outcome A) (f : A → Run B) (next : B → World → Main) → continued (and_then o f) next ≡ continued o (λ a w. continued (f a w) next)
continued_bind (Gives a w) f next = refl
continued_bind (Stops c w) f next = refl
continued_bind (ShowsLine line o) f next = ap (Shows line) (continued_bind o f next)
continued_bind (OpensStep job o) f next = ap (Opens job) (λ i later. continued_bind (o later) f next i)

-- ---- prefixes

starts_nothing : (xs : List ℕ) → StartsWith xs []
starts_nothing xs = refl

zero_sum : (n : ℕ) → 0 + n ≡ n
zero_sum n = omega arith

suc_sum : (a b : ℕ) → suc a + b ≡ suc (a + b)
suc_sum a b = omega arith

take_more : (xs ys : List ℕ) (n : ℕ) → take (length xs + n) (xs ++ ys) ≡ xs ++ take n ys
take_more [] ys n = ap (λ k. take k ys) (zero_sum n)
take_more (x ∷ xs) ys n = rw (suc_sum (length xs) n) (ap (λ t. x ∷ t) (take_more xs ys n))

starts_after : (xs ys front : List ℕ) → StartsWith ys front → StartsWith (xs ++ ys) (xs ++ front)
starts_after xs ys front s = ap (λ n. take n (xs ++ ys)) (length-append xs front) ∙ take_more xs ys (length front) ∙ ap (λ t. xs ++ t) s

-- ---- one part after the other

pub told_nothing : {A : Type 0} (o : Outcome A) (old : Option (List ℕ)) → Told o o old old
told_nothing o old = record { text = []; written = Appends-nil old; same_text = λ next. refl; same_end = λ next. refl }

pub told_same : {A : Type 0} (o last : Outcome A) (old : Option (List ℕ)) → o ≡ last → Told o last old old
told_same o last old e = subst (λ x. Told o x old old) e (told_nothing o old)

pub told_then : {A : Type 0} (a b c : Outcome A) (old mid new : Option (List ℕ)) → Told a b old mid → Told b c mid new → Told a c old new
told_then a b c old mid new first second = record {
  text = first.text ++ second.text;
  written = Appends-trans old mid new first.text second.text first.written second.written;
  same_text = λ next. first.same_text next ∙ ap (λ t. first.text ++ t) (second.same_text next) ∙ sym (append_assoc first.text second.text (text_by (continued c next)));
  same_end = λ next. first.same_end next ∙ second.same_end next;
}

pub told_bind : {A B : Type 0} (o last : Outcome A) (f : A → Run B) (old new : Option (List ℕ)) → Told o last old new → Told (and_then o f) (and_then last f) old new
told_bind o last f old new first = record {
  text = first.text;
  written = first.written;
  same_text = λ next. ap text_by (continued_bind o f next) ∙ first.same_text (λ a w. continued (f a w) next) ∙ ap (λ m. first.text ++ text_by m) (sym (continued_bind last f next));
  same_end = λ next. ap end_by (continued_bind o f next) ∙ first.same_end (λ a w. continued (f a w) next) ∙ ap end_by (sym (continued_bind last f next));
}

pub finishes_after : {A : Type 0} (a b : Outcome A) (e : RunEnd) (old mid new : Option (List ℕ)) → Told a b old mid → Finishes b e mid new → Finishes a e old new
finishes_after a b e old mid new first second = record {
  text = first.text ++ second.text;
  written = Appends-trans old mid new first.text second.text first.written second.written;
  same_text = λ next. first.same_text next ∙ ap (λ t. first.text ++ t) (second.same_text next);
  same_end = λ next. first.same_end next ∙ second.same_end next;
}

pub finishes_bind : {A B : Type 0} (o : Outcome A) (f : A → Run B) (e : RunEnd) (old new : Option (List ℕ)) → Finishes o e old new → Finishes (and_then o f) e old new
finishes_bind o f e old new first = record {
  text = first.text;
  written = first.written;
  same_text = λ next. ap text_by (continued_bind o f next) ∙ first.same_text (λ a w. continued (f a w) next);
  same_end = λ next. ap end_by (continued_bind o f next) ∙ first.same_end (λ a w. continued (f a w) next);
}

pub some_after : {A : Type 0} (a b : Outcome A) (old mid new : Option (List ℕ)) → Told a b old mid → ToldSome b mid new → ToldSome a old new
some_after a b old mid new first second = record {
  front = first.text ++ second.front;
  written = Appends-trans old mid new first.text second.front first.written second.written;
  begins = λ next. subst (λ t. StartsWith t (first.text ++ second.front)) (sym (first.same_text next)) (starts_after first.text (text_by (continued b next)) second.front (second.begins next));
}

pub some_bind : {A B : Type 0} (o : Outcome A) (f : A → Run B) (old new : Option (List ℕ)) → ToldSome o old new → ToldSome (and_then o f) old new
some_bind o f old new first = record {
  front = first.front;
  written = first.written;
  begins = λ next. subst (λ m. StartsWith (text_by m) first.front) (sym (continued_bind o f next)) (first.begins (λ a w. continued (f a w) next));
}

pub some_nothing : {A : Type 0} (o : Outcome A) (old : Option (List ℕ)) → ToldSome o old old
some_nothing o old = record { front = []; written = Appends-nil old; begins = λ next. starts_nothing (text_by (continued o next)) }

pub finishes_stop : {A : Type 0} (o : Outcome A) (h : Halt) (w : World) (old : Option (List ℕ)) → Follows o (Err h) w → TellsOf o (Err (main_halt h w.steps)) w old old
finishes_stop o (Cause c) w old e = record { text = []; written = Appends-nil old; same_text = λ next. ap (λ x. text_by (continued x next)) e; same_end = λ next. ap (λ x. end_by (continued x next)) e }
finishes_stop o NoMemory w old e = some_nothing o old

-- ---- halts of a part are halts of the whole

pub halts_bind : {A B : Type 0} (o : Outcome A) (f : A → Run B) (h : MainHalt) (w w' : World) (old new : Option (List ℕ)) → TellsOf o (Err h) w old new → TellsOf (and_then o f) (Err h) w' old new
halts_bind o f (halt.Ended e) w w' old new t = finishes_bind o f e old new t
halts_bind o f halt.NoMemory w w' old new t = some_bind o f old new t
halts_bind o f halt.OutFailed w w' old new t = some_bind o f old new t

pub halts_after : {A : Type 0} (a b : Outcome A) (h : MainHalt) (w : World) (old mid new : Option (List ℕ)) → Told a b old mid → TellsOf b (Err h) w mid new → TellsOf a (Err h) w old new
halts_after a b (halt.Ended e) w old mid new first t = finishes_after a b e old mid new first t
halts_after a b halt.NoMemory w old mid new first t = some_after a b old mid new first t
halts_after a b halt.OutFailed w old mid new first t = some_after a b old mid new first t

pub halts_went : (o : Outcome Went) (h : MainHalt) (l : Locals) (w w' : World) (old new : Option (List ℕ)) → TellsOf o (Err h) w old new → Tells o (Err h) l w' old new
halts_went o (halt.Ended e) l w w' old new t = t
halts_went o halt.NoMemory l w w' old new t = t
halts_went o halt.OutFailed l w w' old new t = t

pub went_halts : (o : Outcome Went) (h : MainHalt) (l : Locals) (w w' : World) (old new : Option (List ℕ)) → Tells o (Err h) l w old new → TellsOf o (Err h) w' old new
went_halts o (halt.Ended e) l w w' old new t = t
went_halts o halt.NoMemory l w w' old new t = t
went_halts o halt.OutFailed l w w' old new t = t

pub locals_halts : (o : Outcome Locals) (h : MainHalt) (l : Locals) (w w' : World) (old new : Option (List ℕ)) → TellsLocals o (Err h) l w old new → TellsOf o (Err h) w' old new
locals_halts o (halt.Ended e) l w w' old new t = t
locals_halts o halt.NoMemory l w w' old new t = t
locals_halts o halt.OutFailed l w w' old new t = t

pub halts_locals : (o : Outcome Locals) (h : MainHalt) (l : Locals) (w w' : World) (old new : Option (List ℕ)) → TellsOf o (Err h) w old new → TellsLocals o (Err h) l w' old new
halts_locals o (halt.Ended e) l w w' old new t = t
halts_locals o halt.NoMemory l w w' old new t = t
halts_locals o halt.OutFailed l w w' old new t = t

-- a stop of a statement
pub goes_stop : (o : Outcome Went) (h : Halt) (m : MainHalt) (l l' : Locals) (w : World) (old : Option (List ℕ)) → Goes o (Err h) l w → m ≡ main_halt h w.steps → Tells o (Err m) l' w old old
goes_stop o (Cause c) m l l' w old e is = subst (λ x. Tells o (Err x) l' w old old) (sym is) (finishes_stop o (Cause c) w old e)
goes_stop o NoMemory m l l' w old e is = subst (λ x. Tells o (Err x) l' w old old) (sym is) (some_nothing o old)

pub follows_stop : {A : Type 0} (o : Outcome A) (h : Halt) (m : MainHalt) (w : World) (old : Option (List ℕ)) → Follows o (Err h) w → m ≡ main_halt h w.steps → TellsOf o (Err m) w old old
follows_stop o h m w old e is = subst (λ x. TellsOf o (Err x) w old old) (sym is) (finishes_stop o h w old e)

-- ---- steps

map_length : {A B : Type 0} (f : A → B) (xs : List A) → length (map f xs) ≡ length xs
map_length f [] = refl
map_length f (x ∷ xs) = ap suc (map_length f xs)

module _ (p : Program) (fuel : ℕ) (blocks : List RoutineBlock) (widths : List ℕ) (w : World) where
  abbrev pub answers_there : List Answer
  answers_there = answers p (memory_in w.store) fuel blocks widths

  abbrev pub later_world : Memory → World
  later_world later = record w { store = store.Main later; steps = suc w.steps }

  pub step_done : (later : Memory) (old : Option (List ℕ)) → after (memory_in w.store) (all_of answers_there) ≡ Ok later
      → Told (open_step p fuel blocks widths w) (Gives tt (later_world later)) old old
  step_done later old e =
      let job : StepJob = record { number = suc w.steps; opening = memory_in w.store; answers = answers_there } in
      record {
        text = [];
        written = Appends-nil old;
        same_text = λ next. ap (λ r. text_of false (going_on job r (λ m. meaning_of (next tt (later_world m)))).events) e;
        same_end = λ next. ap (λ r. (going_on job r (λ m. meaning_of (next tt (later_world m)))).ending) e;
      }

  pub step_failed : (fault : StepFault) (old : Option (List ℕ)) → after (memory_in w.store) (all_of answers_there) ≡ Err fault
      → Finishes (open_step p fuel blocks widths w) (StepFailed (suc w.steps) fault) old old
  step_failed fault old e =
      let job : StepJob = record { number = suc w.steps; opening = memory_in w.store; answers = answers_there } in
      record {
        text = [];
        written = Appends-nil old;
        same_text = λ next. ap (λ r. text_of false (going_on job r (λ m. meaning_of (next tt (later_world m)))).events) e;
        same_end = λ next. ap (λ r. (going_on job r (λ m. meaning_of (next tt (later_world m)))).ending) e;
      }

pub answers_few : (p : Program) (memory : Memory) (fuel : ℕ) (blocks : List RoutineBlock) (widths : List ℕ) → length (all_of (answers p memory fuel blocks widths)) ≤ sum widths
answers_few p memory fuel [] widths = omega arith
answers_few p memory fuel (b ∷ blocks) [] = omega arith
answers_few p memory fuel (b ∷ blocks) (n ∷ widths) =
    let rest = answers_few p memory fuel blocks widths in
    let f = λ (id : ℕ). answer p memory fuel b n id in
    let one : length (map f (range_with_len 0 n)) ≡ n = length-map-range_with_len f 0 n in
    omega (arith, rest, one, sum_cons n widths, map_length (λ (a : Answer). Some a) (map f (range_with_len 0 n) ++ answers p memory fuel blocks widths), map_length (λ (a : Answer). Some a) (answers p memory fuel blocks widths), length-append (map f (range_with_len 0 n)) (answers p memory fuel blocks widths))

-- a `parbegin`: what comes before the step, and the step
module _ (p : Program) (fuel : ℕ) (blocks : List RoutineBlock) (locals : Locals) (w : World) where
  abbrev pub step_and_on : List ℕ → Run Went
  step_and_on ws = open_step p fuel blocks ws >> pure (ending.Normal, locals)

  tested : (o : Option (List ℕ)) (w' : World) → and_then (and_then (good_widths o w') (λ ws. take_unit >> pure ws)) step_and_on ≡ and_then (good_widths o w') (λ ws. take_unit >> step_and_on ws)
  tested o w' = bind_assoc (good_widths o w') (λ ws. take_unit >> pure ws) step_and_on ∙ (λ i. and_then (good_widths o w') (λ ws v. bind_assoc (take_unit v) (λ _. pure ws) step_and_on i))

  pub par_is : in_main p fuel (Stepping blocks) locals w ≡ and_then (ready_widths p locals blocks w) step_and_on
  par_is =
      sym (bind_assoc (widths_of p (calls_to p most_levels) locals blocks w) (λ ns. good_widths (step_widths ns) >>= (λ ws. take_unit >> pure ws)) step_and_on
      ∙ (λ i. and_then (widths_of p (calls_to p most_levels) locals blocks w) (λ ns v. tested (step_widths ns) v i)))

  pub par_stops : (h : Halt) (m : MainHalt) (w' : World) (old : Option (List ℕ)) → Follows (ready_widths p locals blocks w) (Err h) w' → m ≡ main_halt h w'.steps
      → Tells (in_main p fuel (Stepping blocks) locals w) (Err m) locals w' old old
  par_stops h m w' old follows is =
      subst (λ (o : Outcome Went). Tells o (Err m) locals w' old old) (sym par_is)
      (subst (λ x. Tells (and_then (ready_widths p locals blocks w) step_and_on) (Err x) locals w' old old) (sym is)
      (halts_went (and_then (ready_widths p locals blocks w) step_and_on) (main_halt h w'.steps) locals w' w' old old
      (halts_bind (ready_widths p locals blocks w) step_and_on (main_halt h w'.steps) w' w' old old (finishes_stop (ready_widths p locals blocks w) h w' old follows))))

  par_begun : (ws : List ℕ) (w1 : World) → ready_widths p locals blocks w ≡ Gives ws w1 → in_main p fuel (Stepping blocks) locals w ≡ step_and_on ws w1
  par_begun ws w1 e = par_is ∙ ap (λ o. and_then o step_and_on) e

  pub par_halts : (ws ws' : List ℕ) (m : MainHalt) (w1 w2 : World) (old : Option (List ℕ)) → ready_widths p locals blocks w ≡ Gives ws w1 → ws' ≡ ws
      → TellsOf (open_step p fuel blocks ws' w1) (Err m) w2 old old → Tells (in_main p fuel (Stepping blocks) locals w) (Err m) locals w2 old old
  par_halts ws ws' m w1 w2 old e same t =
      subst (λ (o : Outcome Went). Tells o (Err m) locals w2 old old) (sym (par_begun ws w1 e))
      (subst (λ (x : List ℕ). Tells (step_and_on x w1) (Err m) locals w2 old old) same
      (halts_went (step_and_on ws' w1) m locals w2 w2 old old (halts_bind (open_step p fuel blocks ws' w1) (λ _. pure (ending.Normal, locals)) m w2 w2 old old t)))

  pub par_done : (ws ws' : List ℕ) (w1 w2 : World) (old : Option (List ℕ)) → ready_widths p locals blocks w ≡ Gives ws w1 → ws' ≡ ws → Told (open_step p fuel blocks ws' w1) (Gives tt w2) old old
      → Told (in_main p fuel (Stepping blocks) locals w) (Gives (ending.Normal, locals) w2) old old
  par_done ws ws' w1 w2 old e same t =
      subst (λ (o : Outcome Went). Told o (Gives (ending.Normal, locals) w2) old old) (sym (par_begun ws w1 e))
      (subst (λ (x : List ℕ). Told (step_and_on x w1) (Gives (ending.Normal, locals) w2) old old) same
      (told_bind (open_step p fuel blocks ws' w1) (Gives tt w2) (λ _. pure (ending.Normal, locals)) old old t))

  -- ---- what comes before the step

  abbrev run : Run (List ℤ)
  run = widths_of p (calls_to p most_levels) locals blocks

  good_none : (o : Option (List ℕ)) (w1 : World) → None ≡ o → good_widths o w1 ≡ Stops BadWidth w1
  good_none o w1 e = sym (ap (λ x. good_widths x w1) e)

  good_some : (o : Option (List ℕ)) (ws : List ℕ) (w1 : World) → Some ws ≡ o → good_widths o w1 ≡ Gives ws w1
  good_some o ws w1 e = sym (ap (λ x. good_widths x w1) e)

  pub ready_none : (before numbers shown : List ℤ) (w1 : World) → before ≡ [] → AppendsAll run before w (Ok tt) numbers w1 → shown ≡ numbers → None ≡ step_widths shown
      → ready_widths p locals blocks w ≡ Stops BadWidth w1
  ready_none before numbers shown w1 none a same e =
      ap (λ o. and_then o (λ ns. good_widths (step_widths ns) >>= (λ ws. take_unit >> pure ws))) (appended_whole run before numbers w w1 (Ok tt) none a refl)
      ∙ ap (λ o. and_then o (λ ws. take_unit >> pure ws)) (good_none (step_widths numbers) w1 (e ∙ ap step_widths same))

  ready_some : (before numbers shown : List ℤ) (ws : List ℕ) (w1 : World) → before ≡ [] → AppendsAll run before w (Ok tt) numbers w1 → shown ≡ numbers → Some ws ≡ step_widths shown
      → ready_widths p locals blocks w ≡ and_then (take_unit w1) (λ _. pure ws)
  ready_some before numbers shown ws w1 none a same e =
      ap (λ o. and_then o (λ ns. good_widths (step_widths ns) >>= (λ ws. take_unit >> pure ws))) (appended_whole run before numbers w w1 (Ok tt) none a refl)
      ∙ ap (λ o. and_then o (λ ws. take_unit >> pure ws)) (good_some (step_widths numbers) ws w1 (e ∙ ap step_widths same))

  pub ready_stops : (before numbers shown : List ℤ) (ws : List ℕ) (w1 w2 : World) (h : Halt) → before ≡ [] → AppendsAll run before w (Ok tt) numbers w1 → shown ≡ numbers → Some ws ≡ step_widths shown
      → Follows (take_unit w1) (Err h) w2 → Follows (ready_widths p locals blocks w) (Err h) w2
  ready_stops before numbers shown ws w1 w2 NoMemory none a same e f = tt
  ready_stops before numbers shown ws w1 w2 (Cause c) none a same e f = ready_some before numbers shown ws w1 none a same e ∙ ap (λ o. and_then o (λ _. pure ws)) f

  pub ready_gives : (before numbers shown : List ℤ) (ws : List ℕ) (w1 w2 : World) → before ≡ [] → AppendsAll run before w (Ok tt) numbers w1 → shown ≡ numbers → Some ws ≡ step_widths shown
      → take_unit w1 ≡ Gives tt w2 → ready_widths p locals blocks w ≡ Gives ws w2
  ready_gives before numbers shown ws w1 w2 none a same e f = ready_some before numbers shown ws w1 none a same e ∙ ap (λ o. and_then o (λ _. pure ws)) f

-- a `print`
pub print_told : (p : Program) (fuel : ℕ) (items : _) (locals : Locals) (w w' : World) (texts : List (List ℕ)) (line : List ℕ) (old new : Option (List ℕ))
    → pieces p (calls_to p most_levels) locals items w ≡ Gives texts w' → line ≡ line_of texts → Appends old new line
    → Told (in_main p fuel (Printing items) locals w) (Gives (ending.Normal, locals) w') old new
print_told p fuel items locals w w' texts line old new e is written =
    let o : Outcome Went = in_main p fuel (Printing items) locals w in
    let shown : o ≡ ShowsLine (line_of texts) (Gives (ending.Normal, locals) w') = ap (λ x. and_then x (λ ts. show (line_of ts) >> pure (ending.Normal, locals))) e in
    record {
      text = line;
      written = written;
      same_text = λ next. ap (λ x. text_by (continued x next)) shown ∙ ap (λ t. t ++ text_by (next (ending.Normal, locals) w')) (sym is);
      same_end = λ next. ap (λ x. end_by (continued x next)) shown;
    }

pub print_some : (p : Program) (fuel : ℕ) (items : _) (locals : Locals) (w w' : World) (texts : List (List ℕ)) (line front : List ℕ) (old new : Option (List ℕ))
    → pieces p (calls_to p most_levels) locals items w ≡ Gives texts w' → line ≡ line_of texts → StartsWith line front → Appends old new front
    → ToldSome (in_main p fuel (Printing items) locals w) old new
print_some p fuel items locals w w' texts line front old new e is starts written =
    let o : Outcome Went = in_main p fuel (Printing items) locals w in
    let shown : o ≡ ShowsLine (line_of texts) (Gives (ending.Normal, locals) w') = ap (λ x. and_then x (λ ts. show (line_of ts) >> pure (ending.Normal, locals))) e in
    record {
      front = front;
      written = written;
      begins = λ next. subst (λ t. StartsWith t front) (ap (λ t. t ++ text_by (next (ending.Normal, locals) w')) is ∙ sym (ap (λ x. text_by (continued x next)) shown))
          (starts_more line front (text_by (next (ending.Normal, locals) w')) starts);
    }
  where
    starts_more : (xs f ys : List ℕ) → StartsWith xs f → StartsWith (xs ++ ys) f
    starts_more xs [] ys e' = refl
    starts_more [] (x ∷ f) ys e' = cc
    starts_more (z ∷ xs) (x ∷ f) ys e' = let same : z ≡ x = cc in let rest : take (length f) xs ≡ f = cc in λ i. same i ∷ starts_more xs f ys rest i

pub print_halts : (p : Program) (fuel : ℕ) (items : _) (locals : Locals) (w w' : World) (m : MainHalt) (old : Option (List ℕ))
    → TellsOf (pieces p (calls_to p most_levels) locals items w) (Err m) w' old old → Tells (in_main p fuel (Printing items) locals w) (Err m) locals w' old old
print_halts p fuel items locals w w' m old t =
    halts_went (in_main p fuel (Printing items) locals w) m locals w' w' old old (halts_bind (pieces p (calls_to p most_levels) locals items w)
    (λ ts. show (line_of ts) >> pure (ending.Normal, locals)) m w' w' old old t)
