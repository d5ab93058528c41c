-- Lists of frames that are taken and given back.
use Rattle.std.proofs.Common.{◌≡◌, ◌≢◌, ℕ, zero, suc, ◌+◌, ◌<◌, ◌≤◌, ℤ, List, [], ◌∷◌, ◌++◌, length, set, Option, None, refl, sym, ap, ◌∙◌, arith, ⊎_elim, is_some, true, false}
use Rattle.std.proofs.lemmas.Bool.{cases_eq}
use Rattle.std.proofs.lemmas.List.{get_or-set_other, length-append, get_or_append_left, get_or_at}
use Rattle.frame_pool.specs.Pool.{Pool, frame_at, free_count, IsOut, TakesLowest}
use Rattle.write_buffer.specs.Buffered.{frame_of, IsForeign, AreApart, TakesFrames}

pub takes_none : (pool : Pool) → TakesFrames pool pool []
takes_none pool = record {
  free = λ p there. absurd (omega arith);
  out = λ p there. absurd (omega arith);
  apart = λ p q there. absurd (omega arith);
  others = λ f foreign. refl;
  count = omega arith;
}

-- a frame that is out is none that is free
out_not_free : (pool : Pool) (f g : ℕ) → IsOut pool f → frame_at pool g ≡ None → f ≢ g
out_not_free pool f g out free same =
    let is : is_some (frame_at pool g) ≡ true = ap (λ x. is_some (frame_at pool x)) (sym same) ∙ out in
    let none : is_some (frame_at pool g) ≡ false = ap (λ (o : Option (List ℤ)). is_some o) free in
    cc

pub takes_more : (pool middle later : Pool) (frames : List ℕ) (f : ℕ) → TakesFrames pool middle frames → TakesLowest middle later f → TakesFrames pool later (frames ++ f ∷ [])
takes_more pool middle later frames f is next =
    let n : ℕ = length frames in
    let size : length (frames ++ f ∷ []) ≡ n + 1 = length-append frames (f ∷ []) in
    let before : (p : ℕ) → p < n → frame_of (frames ++ f ∷ []) p ≡ frame_of frames p = λ p low. get_or_append_left frames (f ∷ []) 0 p low in
    let last : frame_of (frames ++ f ∷ []) n ≡ f = get_or_at frames f [] 0 n refl in
    let fresh : IsForeign frames f = λ p low. out_not_free middle (frame_of frames p) f (is.out p low) next.free in
    let at_last : (p : ℕ) → p ≡ n → frame_of (frames ++ f ∷ []) p ≡ f = λ p e. ap (λ x. frame_of (frames ++ f ∷ []) x) e ∙ last in
    record {
      free = λ p there.
          ⊎_elim
          (λ (e : p ≡ n). ap (λ g. frame_at pool g) (at_last p e) ∙ sym (is.others f fresh) ∙ next.free)
          (λ (apart : p ≢ n). ap (λ g. frame_at pool g) (before p (omega arith)) ∙ is.free p (omega arith))
          (cases_eq p n);
      out = λ p there.
          ⊎_elim
          (λ (e : p ≡ n). ap (λ g. is_some (frame_at later g)) (at_last p e) ∙ next.out)
          (λ (apart : p ≢ n).
          let low : p < n = omega arith in
          ap (λ g. is_some (frame_at later g)) (before p low) ∙ ap (λ (o : Option (List ℤ)). is_some o) (next.others (frame_of frames p) (fresh p low)) ∙ is.out p low)
          (cases_eq p n);
      apart = λ p q one two same.
          ⊎_elim
          (λ (e : p ≡ n).
          ⊎_elim
          (λ (d : q ≡ n). e ∙ sym d)
          (λ (apart : q ≢ n). let low : q < n = omega arith in absurd (fresh q low (sym (before q low) ∙ sym same ∙ at_last p e)))
          (cases_eq q n))
          (λ (apart : p ≢ n).
          let low : p < n = omega arith in
          ⊎_elim
          (λ (d : q ≡ n). absurd (fresh p low (sym (before p low) ∙ same ∙ at_last q d)))
          (λ (other : q ≢ n). let under : q < n = omega arith in is.apart p q low under (sym (before p low) ∙ same ∙ before q under))
          (cases_eq q n))
          (cases_eq p n);
      others = λ g foreign.
          next.others g (λ e. foreign n (omega arith) (last ∙ sym e)) ∙ is.others g (λ p low e. foreign p (omega arith) (before p low ∙ e));
      count = omega (arith, is.count, next.count);
    }

-- the frames behind these were given back
pub record IsGiving (all frames : List ℕ) (first pool : Pool) : Type 0 where
  pub fewer : length frames ≤ length all
  pub left : (p : ℕ) → p < length frames → frame_of frames p ≡ frame_of all p
  pub stays : (p : ℕ) → p < length frames → frame_at pool (frame_of all p) ≡ frame_at first (frame_of all p)
  pub given : (p : ℕ) → length frames ≤ p → p < length all → frame_at pool (frame_of all p) ≡ None
  pub others : (f : ℕ) → IsForeign all f → frame_at pool f ≡ frame_at first f
  pub count : free_count pool + length frames ≡ free_count first + length all

freed : (pool : Pool) (f : ℕ) → frame_at (set pool f None) f ≡ None
freed [] f = refl
freed (o ∷ pool) zero = refl
freed (o ∷ pool) (suc f) = freed pool f

pub gives_more : (all frames fewer : List ℕ) (first pool later : Pool) (f : ℕ) → IsGiving all frames first pool → frames ≡ fewer ++ f ∷ [] → AreApart all → later ≡ set pool f None
    → free_count later ≡ free_count pool + 1 → IsGiving all fewer first later
gives_more all frames fewer first pool later f is popped apart given counted =
    let n : ℕ = length fewer in
    let size : length frames ≡ n + 1 = ap (λ (l : List ℕ). length l) popped ∙ length-append fewer (f ∷ []) in
    let here : n < length all = omega (arith, is.fewer) in
    let frame : frame_of all n ≡ f = sym (is.left n (omega arith)) ∙ ap (λ (l : List ℕ). frame_of l n) popped ∙ get_or_at fewer f [] 0 n refl in
    let other : (g : ℕ) → g ≢ f → frame_at later g ≡ frame_at pool g = λ g no_same. ap (λ (q : Pool). frame_at q g) given ∙ get_or-set_other pool f g None None no_same in
    let free : frame_at later f ≡ None = ap (λ (q : Pool). frame_at q f) given ∙ freed pool f in
    let apart_from : (p : ℕ) → p < length all → p ≢ n → frame_of all p ≢ f = λ p there other_place e. other_place (apart p n there here (e ∙ sym frame)) in
    record {
      fewer = omega arith;
      left = λ p low. sym (get_or_append_left fewer (f ∷ []) 0 p low) ∙ ap (λ (l : List ℕ). frame_of l p) (sym popped) ∙ is.left p (omega arith);
      stays = λ p low. other (frame_of all p) (apart_from p (omega arith) (λ e. omega arith)) ∙ is.stays p (omega arith);
      given = λ p high there.
          ⊎_elim
          (λ (e : p ≡ n). ap (λ x. frame_at later (frame_of all x)) e ∙ ap (λ g. frame_at later g) frame ∙ free)
          (λ (other_place : p ≢ n). other (frame_of all p) (apart_from p there other_place) ∙ is.given p (omega arith) there)
          (cases_eq p n);
      others = λ g foreign. other g (λ e. foreign n here (frame ∙ sym e)) ∙ is.others g foreign;
      count = omega (arith, is.count);
    }
