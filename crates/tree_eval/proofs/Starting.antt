-- The first memory, and a whole run.
use Rattle.std.proofs.Common.{◌≡◌, ℕ, zero, suc, ℤ, pos, ◌+◌, ◌-◌, ◌<◌, ◌≤◌, length, map, replicate, List, [], ◌∷◌, ◌++◌, Option, Result, Ok, Err, refl, sym, ap, ◌∙◌, subst, arith, append_assoc}
use Rattle.std.proofs.Common.{append-nil, length-append, get_or}
use Rattle.std.specs.Prelude.{IfOk, OnErr, IsErrOf}
use Rattle.std.specs.Io.KnownBytes.{Appends}
use Rattle.cal_base.specs.declared.step.Word.{Word}
use Rattle.cal_terms.specs.declared.kinds.WordKind.{WordKind}
use Rattle.cal_base.specs.declared.ends.RunEnd.TheVariants.{Done}
use Rattle.cal_base.specs.declared.value.Store.TheVariants as store
use Rattle.cal_base.specs.Memory.{Memory, memory_of}
use Rattle.cal_base.specs.Causes.{Rose}
use Rattle.cal_base.specs.Contents.{AppendsPrefix}
use Rattle.cal_base.specs.Main.{Main, Ends, Shows, Opens}
use Rattle.csl_tree.specs.declared.program.Program.{Program}
use Rattle.csl_tree.specs.declared.program.Stmt.{Stmt}
use Rattle.csl_tree.specs.declared.program.Shared.{Shared}
use Rattle.csl_tree.specs.declared.program.Valued.{Valued}
use Rattle.csl_meaning.specs.declared.state.World.{World}
use Rattle.csl_meaning.specs.declared.state.Ending.{Ending}
use Rattle.csl_meaning.specs.Layout.{first_words, words_in, first_memory}
use Rattle.csl_meaning.specs.Locals.{Locals}
use Rattle.csl_meaning.specs.Runs.{Outcome, Gives, Stops, ShowsLine, OpensStep}
use Rattle.csl_meaning.specs.Effect.{Went, statements, calls_to, most_levels}
use Rattle.csl_meaning.specs.Meaning.{in_main, run_of, main_of}
use Rattle.tree_eval.specs.declared.main_halt.MainHalt.{MainHalt}
use Rattle.tree_eval.specs.declared.main_halt.MainHalt.TheVariants as halt
use Rattle.tree_eval.specs.declared.run.EvalError.TheVariants as error
use Rattle.tree_eval.specs.Ends.{end_after}
use Rattle.tree_eval.specs.Initial.{stated_value}
use Rattle.statement_eval.specs.Fits.{words_of}
use Rattle.statement_eval.proofs.AreaLemmas.{sum_cons}
use Rattle.tree_eval.specs.Told.{continued, text_by, end_by, ToldSome, Tells, OutRose}

-- ---- the words of a declaration

-- the words from this place on, this many
abbrev pub words_from : WordKind → List Valued → ℕ → ℕ → Memory
words_from kind values at zero = []
words_from kind values at (suc n) = record { kind = kind; value = stated_value values at } ∷ words_from kind values (suc at) n

nothing_stated : (kind : WordKind) (at n : ℕ) → words_from kind [] at n ≡ memory_of (replicate n kind) (replicate n (pos 0))
nothing_stated kind at zero = refl
nothing_stated kind at (suc n) = ap (λ m. record { kind = kind; value = pos 0 } ∷ m) (nothing_stated kind (suc at) n)

after_first : (kind : WordKind) (v : Valued) (values : List Valued) (at n : ℕ) → words_from kind (v ∷ values) (suc at) n ≡ words_from kind values at n
after_first kind v values at zero = refl
after_first kind v values at (suc n) = ap (λ m. record { kind = kind; value = stated_value values at } ∷ m) (after_first kind v values (suc at) n)

-- what is memory beyond the words does not count
enough : (k : WordKind) (numbers : List ℤ) (n a b : ℕ) → n ≤ a → n ≤ b → memory_of (replicate n k) (numbers ++ replicate a (pos 0)) ≡ memory_of (replicate n k) (numbers ++ replicate b (pos 0))
enough k numbers zero a b la lb = refl
enough k [] (suc n) zero b la lb = absurd (omega arith)
enough k [] (suc n) (suc a) zero la lb = absurd (omega arith)
enough k [] (suc n) (suc a) (suc b) la lb = ap (λ m. record { kind = k; value = pos 0 } ∷ m) (enough k [] n a b (omega arith) (omega arith))
enough k (z ∷ numbers) (suc n) a b la lb = ap (λ m. record { kind = k; value = z } ∷ m) (enough k numbers n a b (omega arith) (omega arith))

-- the words of a declaration, one by one
words_are : (kind : WordKind) (values : List Valued) (n : ℕ) → words_from kind values 0 n ≡ memory_of (replicate n kind) (map (λ v. v.number) values ++ replicate n (pos 0))
words_are kind [] n = nothing_stated kind 0 n
words_are kind (v ∷ values) zero = refl
words_are kind (v ∷ values) (suc n) = ap (λ m. record { kind = kind; value = v.number } ∷ m)
    (after_first kind v values 0 n ∙ words_are kind values n ∙ enough kind (map (λ x. x.number) values) n n (suc n) (omega arith) (omega arith))

pub sub_zero : (n : ℕ) → n - 0 ≡ n
sub_zero n = omega arith

abbrev pub word_of : WordKind → ℤ → Word
word_of kind v = record { kind = kind; value = v }

pub words_whole : (s : Shared) → words_from s.kind s.values 0 (words_in s) ≡ first_words s
words_whole s = words_are s.kind s.values (words_in s)

-- one word more
pub word_more : (kind : WordKind) (values : List Valued) (before : Memory) (at count : ℕ) (word : Word) → at < count → word ≡ record { kind = kind; value = stated_value values at }
    → (before ++ word ∷ []) ++ words_from kind values (at + 1) (count - (at + 1)) ≡ before ++ words_from kind values at (count - at)
word_more kind values before at count word lt is =
    let left : count - at ≡ suc (count - (at + 1)) = omega arith in
    let one : at + 1 ≡ suc at = omega arith in
    append_assoc before (word ∷ []) (words_from kind values (at + 1) (count - (at + 1)))
    ∙ ap (λ x. before ++ x ∷ words_from kind values (at + 1) (count - (at + 1))) is
    ∙ ap (λ a. before ++ record { kind = kind; value = stated_value values at } ∷ words_from kind values a (count - (at + 1))) one
    ∙ ap (λ n. before ++ words_from kind values at n) (sym left)

pub no_word_more : (kind : WordKind) (values : List Valued) (before : Memory) (at count : ℕ) → count - at ≡ 0 → before ++ words_from kind values at (count - at) ≡ before
no_word_more kind values before at count none = ap (λ n. before ++ words_from kind values at n) none ∙ append-nil before

-- how many words there are
length_memory_of : (kinds : List WordKind) (values : List ℤ) → length (memory_of kinds values) ≤ length kinds
length_memory_of [] values = omega arith
length_memory_of (k ∷ kinds) [] = omega arith
length_memory_of (k ∷ kinds) (z ∷ values) = let rest = length_memory_of kinds values in omega arith

length_replicate : (n : ℕ) (k : WordKind) → length (replicate n k) ≡ n
length_replicate zero k = refl
length_replicate (suc n) k = ap suc (length_replicate n k)

pub length_first : (shared : List Shared) → length (first_memory shared) ≤ words_of shared
length_first [] = omega arith
length_first (s ∷ shared) =
    omega (arith, length_first shared, length-append (first_words s) (first_memory shared), length_memory_of (replicate (words_in s) s.kind) (map (λ v. v.number) s.values ++ replicate (words_in s) (pos 0)), length_replicate (words_in s) s.kind, sum_cons (words_in s) (map words_in shared))

pub stated_there : (values : List Valued) (at : ℕ) (v : Valued) → at < length values → v ≡ get_or values at v → v.number ≡ stated_value values at
stated_there [] at v lt is = absurd (omega arith)
stated_there (x ∷ values) zero v lt is = ap (λ (y : Valued). y.number) is
stated_there (x ∷ values) (suc at) v lt is = stated_there values at v (omega arith) is

pub stated_none : (values : List Valued) (at : ℕ) → length values ≤ at → pos 0 ≡ stated_value values at
stated_none [] at le = refl
stated_none (x ∷ values) zero le = absurd (omega arith)
stated_none (x ∷ values) (suc at) le = stated_none values at (omega arith)

-- ---- the whole run

-- what main does after its body: it is done
abbrev pub done : Went → World → Main
done went w = Ends (Done w.steps)

main_continued : (o : Outcome Went) → main_of o ≡ continued o done
main_continued (Gives a w) = refl
main_continued (Stops c w) = refl
main_continued (ShowsLine line o) = ap (Shows line) (main_continued o)
main_continued (OpensStep job o) = ap (Opens job) (λ i later. main_continued (o later) i)

-- the code begins as the definition does
pub run_is : (p : Program) (fuel : ℕ) (body : List Stmt) (locals : Locals) (memory : Memory) → body ≡ p.main → locals ≡ [] → memory ≡ first_memory p.shared
    → statements p (calls_to p most_levels) (in_main p fuel) body locals (record { store = store.Main memory; fuel = fuel; steps = 0 }) ≡ run_of p fuel
run_is p fuel body locals memory a b c =
    ap (λ x. statements p (calls_to p most_levels) (in_main p fuel) x locals (record { store = store.Main memory; fuel = fuel; steps = 0 })) a
    ∙ ap (λ x. statements p (calls_to p most_levels) (in_main p fuel) p.main x (record { store = store.Main memory; fuel = fuel; steps = 0 })) b
    ∙ ap (λ x. statements p (calls_to p most_levels) (in_main p fuel) p.main [] (record { store = store.Main x; fuel = fuel; steps = 0 })) c

module _ (o : Outcome Went) (old new : Option (List ℕ)) where
  main_is : main_of o ≡ continued o done
  main_is = main_continued o

  pub same_end : (r : Result Ending MainHalt) (l : Locals) (w : World) → Tells o r l w old new → IfOk (end_after r w.steps) (λ end. end ≡ end_by (main_of o))
  same_end (Ok e) l w t = sym (ap end_by main_is ∙ t.same_end done)
  same_end (Err (halt.Ended e)) l w t = sym (ap end_by main_is ∙ t.same_end done)
  same_end (Err halt.NoMemory) l w t = tt
  same_end (Err halt.OutFailed) l w t = tt

  pub whole_text : (r : Result Ending MainHalt) (l : Locals) (w : World) → Tells o r l w old new → IfOk (end_after r w.steps) (λ _. Appends old new (text_by (main_of o)))
  whole_text (Ok e) l w t = subst (λ x. Appends old new x) (sym (ap text_by main_is ∙ t.same_text done ∙ append-nil t.text)) t.written
  whole_text (Err (halt.Ended e)) l w t = subst (λ x. Appends old new x) (sym (ap text_by main_is ∙ t.same_text done)) t.written
  whole_text (Err halt.NoMemory) l w t = tt
  whole_text (Err halt.OutFailed) l w t = tt

  some_prefix : ToldSome o old new → AppendsPrefix old new (text_by (main_of o))
  some_prefix t = subst (λ m. AppendsPrefix old new (text_by m)) (sym main_is) (t.front, t.begins done, t.written)

  pub prefix_text : (r : Result Ending MainHalt) (l : Locals) (w : World) → Tells o r l w old new → OnErr (end_after r w.steps) (AppendsPrefix old new (text_by (main_of o)))
  prefix_text (Ok e) l w t = tt
  prefix_text (Err (halt.Ended e)) l w t = tt
  prefix_text (Err halt.NoMemory) l w t = some_prefix t
  prefix_text (Err halt.OutFailed) l w t = some_prefix t

pub failed_only : (r : Result Ending MainHalt) (steps before now : ℕ) → OutRose r before now → IsErrOf (end_after r steps) error.OutFailed → Rose before now
failed_only (Ok e) steps before now t = λ x. cc
failed_only (Err (halt.Ended e)) steps before now t = λ x. cc
failed_only (Err halt.NoMemory) steps before now t = λ x. cc
failed_only (Err halt.OutFailed) steps before now t = λ x. t
