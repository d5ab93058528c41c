-- The words of the frames that are out.
use Rattle.std.proofs.Common.{◌≡◌, ℕ, zero, suc, ◌+◌, ◌<◌, ◌≤◌, ℤ, Bool, true, false, List, [], ◌∷◌, length, replicate, get_or, set, Some, None, refl, sym, ap, ◌∙◌, arith, ⊎_elim}
use Rattle.std.proofs.lemmas.Bool.{cases_lt}
use Rattle.std.proofs.lemmas.List.{get_or-set_same, get_or-set_other, length-set}
use Rattle.frame_pool.specs.Pool.{Pool, frame_at, free_count, IsOut, NoneIsFree, TakesLowest}
use Rattle.frame_pool.specs.Held.{held, IsHeld, IsFirstFree}

pub length-held : (out : List Bool) (frames : List (List ℤ)) → length out ≡ length frames → length (held out frames) ≡ length out
length-held [] frames same = refl
length-held (o ∷ out) [] same = absurd (omega arith)
length-held (true ∷ out) (words ∷ frames) same = let more = length-held out frames (omega arith) in omega arith
length-held (false ∷ out) (words ∷ frames) same = let more = length-held out frames (omega arith) in omega arith

-- a frame that is out: it is there, its flag is set, and its words are those that are held
pub record IsKept (out : List Bool) (frames : List (List ℤ)) (f : ℕ) (d : List ℤ) : Type 0 where
  pub flag : f < length out
  pub there : f < length frames
  pub set : get_or out f false ≡ true
  pub words : frame_at (held out frames) f ≡ Some (get_or frames f d)

pub kept_from_out : (out : List Bool) (frames : List (List ℤ)) (f : ℕ) (d : List ℤ) → IsOut (held out frames) f → IsKept out frames f d
kept_from_out [] frames f d is = cc
kept_from_out (o ∷ out) [] f d is = cc
kept_from_out (true ∷ out) (words ∷ frames) zero d is = record { flag = omega arith; there = omega arith; set = refl; words = refl }
kept_from_out (false ∷ out) (words ∷ frames) zero d is = cc
kept_from_out (true ∷ out) (words ∷ frames) (suc f) d is = let more = kept_from_out out frames f d is in record { flag = omega arith; there = omega arith; set = more.set; words = more.words }
kept_from_out (false ∷ out) (words ∷ frames) (suc f) d is = let more = kept_from_out out frames f d is in record { flag = omega arith; there = omega arith; set = more.set; words = more.words }

-- a frame whose flag is set is out
pub out_from_flag : (out : List Bool) (frames : List (List ℤ)) (f : ℕ) → length out ≡ length frames → get_or out f false ≡ true → IsOut (held out frames) f
out_from_flag [] frames f same is = cc
out_from_flag (o ∷ out) [] f same is = absurd (omega arith)
out_from_flag (true ∷ out) (words ∷ frames) zero same is = refl
out_from_flag (false ∷ out) (words ∷ frames) zero same is = cc
out_from_flag (true ∷ out) (words ∷ frames) (suc f) same is = out_from_flag out frames f (omega arith) is
out_from_flag (false ∷ out) (words ∷ frames) (suc f) same is = out_from_flag out frames f (omega arith) is

-- a frame whose flag is not set is free
pub free_from_flag : (out : List Bool) (frames : List (List ℤ)) (f : ℕ) → get_or out f false ≡ false → frame_at (held out frames) f ≡ None
free_from_flag [] frames f is = refl
free_from_flag (o ∷ out) [] f is = refl
free_from_flag (true ∷ out) (words ∷ frames) zero is = cc
free_from_flag (false ∷ out) (words ∷ frames) zero is = refl
free_from_flag (true ∷ out) (words ∷ frames) (suc f) is = free_from_flag out frames f is
free_from_flag (false ∷ out) (words ∷ frames) (suc f) is = free_from_flag out frames f is

-- other words in a frame that is out
pub held-words : (out : List Bool) (frames : List (List ℤ)) (f : ℕ) (words : List ℤ) → get_or out f false ≡ true → held out (set frames f words) ≡ set (held out frames) f (Some words)
held-words [] frames f words is = cc
held-words (o ∷ out) [] f words is = refl
held-words (true ∷ out) (old ∷ frames) zero words is = refl
held-words (false ∷ out) (old ∷ frames) zero words is = cc
held-words (true ∷ out) (old ∷ frames) (suc f) words is = ap (λ (more : Pool). Some old ∷ more) (held-words out frames f words is)
held-words (false ∷ out) (old ∷ frames) (suc f) words is = ap (λ (more : Pool). None ∷ more) (held-words out frames f words is)

-- a frame is taken
pub held-taken : (out : List Bool) (frames : List (List ℤ)) (f : ℕ) (d : List ℤ) → f < length frames → held (set out f true) frames ≡ set (held out frames) f (Some (get_or frames f d))
held-taken [] frames f d there = refl
held-taken (o ∷ out) [] f d there = absurd (omega arith)
held-taken (true ∷ out) (words ∷ frames) zero d there = refl
held-taken (false ∷ out) (words ∷ frames) zero d there = refl
held-taken (true ∷ out) (words ∷ frames) (suc f) d there = ap (λ (more : Pool). Some words ∷ more) (held-taken out frames f d (omega arith))
held-taken (false ∷ out) (words ∷ frames) (suc f) d there = ap (λ (more : Pool). None ∷ more) (held-taken out frames f d (omega arith))

-- a frame is given back
pub held-given : (out : List Bool) (frames : List (List ℤ)) (f : ℕ) → held (set out f false) frames ≡ set (held out frames) f None
held-given [] frames f = refl
held-given (true ∷ out) [] f = elim f as (λ (n : ℕ). held (set (true ∷ out) n false) [] ≡ set [] n None) [ zero ↦ refl | suc n ↦ refl ]
held-given (false ∷ out) [] f = elim f as (λ (n : ℕ). held (set (false ∷ out) n false) [] ≡ set [] n None) [ zero ↦ refl | suc n ↦ refl ]
held-given (true ∷ out) (words ∷ frames) zero = refl
held-given (false ∷ out) (words ∷ frames) zero = refl
held-given (true ∷ out) (words ∷ frames) (suc f) = ap (λ (more : Pool). Some words ∷ more) (held-given out frames f)
held-given (false ∷ out) (words ∷ frames) (suc f) = ap (λ (more : Pool). None ∷ more) (held-given out frames f)

-- at first all frames are free
pub held-first : (n : ℕ) (frames : List (List ℤ)) → length frames ≡ n → held (replicate n false) frames ≡ replicate n None
held-first zero frames same = refl
held-first (suc n) [] same = absurd (omega arith)
held-first (suc n) (words ∷ frames) same = ap (λ (more : Pool). None ∷ more) (held-first n frames (omega arith))

pub free_count-first : (n : ℕ) → free_count (replicate n None) ≡ n
unfolding free_count
free_count-first zero = refl
free_count-first (suc n) = ap suc (free_count-first n)

-- one free frame less where one is taken
pub free_count-taken : (pool : Pool) (f : ℕ) (words : List ℤ) → f < length pool → frame_at pool f ≡ None → free_count pool ≡ free_count (set pool f (Some words)) + 1
unfolding free_count
free_count-taken [] f words there free = absurd (omega arith)
free_count-taken (None ∷ pool) zero words there free = omega arith
free_count-taken (Some old ∷ pool) zero words there free = cc
free_count-taken (None ∷ pool) (suc f) words there free = let more = free_count-taken pool f words (omega arith) free in omega arith
free_count-taken (Some old ∷ pool) (suc f) words there free = free_count-taken pool f words (omega arith) free

-- one free frame more where one is given back
pub free_count-given : (pool : Pool) (f : ℕ) → IsOut pool f → free_count (set pool f None) ≡ free_count pool + 1
unfolding free_count
free_count-given [] f out = cc
free_count-given (None ∷ pool) zero out = cc
free_count-given (Some old ∷ pool) zero out = omega arith
free_count-given (None ∷ pool) (suc f) out = let more = free_count-given pool f out in omega arith
free_count-given (Some old ∷ pool) (suc f) out = free_count-given pool f out

-- a write to a frame that is out leaves as many free
pub free_count-written : (pool : Pool) (f : ℕ) (words : List ℤ) → IsOut pool f → free_count (set pool f (Some words)) ≡ free_count pool
unfolding free_count
free_count-written [] f words out = refl
free_count-written (None ∷ pool) zero words out = cc
free_count-written (Some old ∷ pool) zero words out = refl
free_count-written (None ∷ pool) (suc f) words out = ap suc (free_count-written pool f words out)
free_count-written (Some old ∷ pool) (suc f) words out = free_count-written pool f words out

-- taking the first frame that is free
pub takes_lowest : (pool : Pool) (f : ℕ) (words : List ℤ) → f < length pool → frame_at pool f ≡ None → ((q : ℕ) → q < f → IsOut pool q) → TakesLowest pool (set pool f (Some words)) f
takes_lowest pool f words there free lowest = record {
  there = there;
  free = free;
  lowest = lowest;
  out = let same = get_or-set_same pool f (Some words) None there in rw same refl;
  others = λ q apart. get_or-set_other pool f q (Some words) None apart;
  frames = length-set pool f (Some words);
  count = free_count-taken pool f words there free;
}

-- the same, of a pool that is seen as these frames, and of a frame that has this number
pub kept_in : (out : List Bool) (frames : List (List ℤ)) (pool : Pool) (n f : ℕ) (d : List ℤ) → held out frames ≡ pool → n ≡ f → IsOut pool f → IsKept out frames n d
kept_in out frames pool n f d view same is = kept_from_out out frames n d (rw (view, same) is)

pub words_in : (out : List Bool) (frames : List (List ℤ)) (pool : Pool) (n f : ℕ) (d : List ℤ) → held out frames ≡ pool → n ≡ f → IsOut pool f → frame_at pool f ≡ Some (get_or frames n d)
words_in out frames pool n f d view same is =
    ap (λ (p : Pool). frame_at p f) (sym view) ∙ ap (λ (k : ℕ). frame_at (held out frames) k) (sym same) ∙ (kept_in out frames pool n f d view same is).words

pub given_in : (out : List Bool) (frames : List (List ℤ)) (pool : Pool) (n f : ℕ) → held out frames ≡ pool → n ≡ f → held (set out n false) frames ≡ set pool f None
given_in out frames pool n f view same = held-given out frames n ∙ ap (λ (p : Pool). set p n None) view ∙ ap (λ (k : ℕ). set pool k None) same

pub written_in : (out : List Bool) (frames : List (List ℤ)) (pool : Pool) (n f : ℕ) (words : List ℤ) → held out frames ≡ pool → n ≡ f → IsOut pool f
    → held out (set frames n words) ≡ set pool f (Some words)
written_in out frames pool n f words view same is =
    held-words out frames n words (kept_in out frames pool n f [] view same is).set ∙ ap (λ (p : Pool). set p n (Some words)) view ∙ ap (λ (k : ℕ). set pool k (Some words)) same

pub all_out : (out : List Bool) (frames : List (List ℤ)) (pool : Pool) (from f : ℕ) → held out frames ≡ pool → IsHeld out frames from → IsFirstFree out from f → (q : ℕ) → q < f → IsOut pool q
all_out out frames pool from f view is first q below =
    let flag : get_or out q false ≡ true =
    ⊎_elim (λ (early : q < from). is.below q early) (λ (late : from ≤ q). first.between q late below) (cases_lt q from)
    in
    rw (← view) (out_from_flag out frames q is.flags flag)

pub takes_in : (out : List Bool) (frames : List (List ℤ)) (pool : Pool) (from f : ℕ) → held out frames ≡ pool → IsHeld out frames from → IsFirstFree out from f → f < length out
    → TakesLowest pool (held (set out f true) frames) f
takes_in out frames pool from f view is first there =
    let lengths = length-held out frames is.flags in
    let same = ap (λ (p : Pool). length p) view in
    let taken = held-taken out frames f [] (omega (arith, is.flags)) ∙ ap (λ (p : Pool). set p f (Some (get_or frames f []))) view in
    rw taken (takes_lowest pool f (get_or frames f []) (omega arith) (rw (← view) (free_from_flag out frames f (first.free there))) (all_out out frames pool from f view is first))

-- what is free after a frame is taken
pub held_after_take : (out : List Bool) (frames : List (List ℤ)) (from f : ℕ) → IsHeld out frames from → IsFirstFree out from f → IsHeld (set out f true) frames f
held_after_take out frames from f is first =
    let same = length-set out f true in
    record {
      flags = same ∙ is.flags;
      limit = omega (arith, same, is.limit);
      within = omega (arith, same, first.within);
      below = λ q low. get_or-set_other out f q true false (λ e. omega arith)
          ∙ ⊎_elim (λ (early : q < from). is.below q early) (λ (late : from ≤ q). first.between q late low) (cases_lt q from);
    }

-- where no frame is free, none is counted
pub none_free : (pool : Pool) → NoneIsFree pool → free_count pool ≡ 0
unfolding free_count
none_free [] all = refl
none_free (None ∷ pool) all = let e = all 0 (omega arith) in cc
none_free (Some words ∷ pool) all = none_free pool (λ q there. all (suc q) (omega arith))

-- a frame that is out is one of the pool's
pub out_within : (pool : Pool) (f : ℕ) → IsOut pool f → f < length pool
out_within [] f out = cc
out_within (o ∷ pool) zero out = omega arith
out_within (o ∷ pool) (suc f) out = let more = out_within pool f out in omega arith

-- a frame that is out stays out where words are written to a frame
pub out_written : (pool : Pool) (f g : ℕ) (words : List ℤ) → IsOut pool f → IsOut (set pool g (Some words)) f
out_written [] f g words out = cc
out_written (o ∷ pool) zero zero words out = refl
out_written (o ∷ pool) zero (suc g) words out = out
out_written (o ∷ pool) (suc f) zero words out = out
out_written (o ∷ pool) (suc f) (suc g) words out = out_written pool f g words out
