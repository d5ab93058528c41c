-- Frames are given back, the last first.
use Rattle.std.proofs.Common.{◌≡◌, ◌≢◌, ℕ, zero, suc, ◌+◌, ◌<◌, ◌≤◌, List, [], ◌∷◌, ◌++◌, length, set, None, refl, sym, ap, ◌∙◌, arith, ⊎_elim}
use Rattle.std.proofs.lemmas.Bool.{cases_eq}
use Rattle.std.proofs.lemmas.List.{get_or-set_other, length-append, get_or_append_left, get_or_at}
use Rattle.frame_pool.specs.Pool.{Pool, free_count, frame_at as words_in}
use Rattle.shared_pages.specs.declared.kept.Kept.{Kept}
use Rattle.shared_pages.specs.Kept.{no_page, kept_at, frame_at, IsNewFrame, AreApart}

-- the frames of the pages behind these were given back
pub record IsGiving (all kept : List Kept) (first pool : Pool) : Type 0 where
  pub fewer : length kept ≤ length all
  pub left : (i : ℕ) → i < length kept → kept_at kept i ≡ kept_at all i
  pub stays : (i : ℕ) → i < length kept → words_in pool (frame_at all i) ≡ words_in first (frame_at all i)
  pub given : (i : ℕ) → length kept ≤ i → i < length all → words_in pool (frame_at all i) ≡ None
  pub others : (f : ℕ) → IsNewFrame all f → words_in pool f ≡ words_in first f
  pub count : free_count pool + length kept ≡ free_count first + length all

freed : (pool : Pool) (f : ℕ) → words_in (set pool f None) f ≡ None
freed [] f = refl
freed (o ∷ pool) zero = refl
freed (o ∷ pool) (suc f) = freed pool f

pub giving_more : (all kept fewer : List Kept) (first pool later : Pool) (k : Kept) → IsGiving all kept first pool → kept ≡ fewer ++ k ∷ [] → AreApart all → later ≡ set pool k.frame None
    → free_count later ≡ free_count pool + 1 → IsGiving all fewer first later
giving_more all kept fewer first pool later k is popped apart given counted =
    let n : ℕ = length fewer in
    let size : length kept ≡ n + 1 = ap (λ (l : List Kept). length l) popped ∙ length-append fewer (k ∷ []) in
    let here : n < length all = omega (arith, is.fewer) in
    let last : kept_at all n ≡ k = sym (is.left n (omega arith)) ∙ ap (λ (l : List Kept). kept_at l n) popped ∙ get_or_at fewer k [] no_page n refl in
    let frame : frame_at all n ≡ k.frame = ap (λ (x : Kept). x.frame) last in
    let other : (f : ℕ) → f ≢ k.frame → words_in later f ≡ words_in pool f = λ f no_same. ap (λ (q : Pool). words_in q f) given ∙ get_or-set_other pool k.frame f None None no_same in
    let free : words_in later k.frame ≡ None = ap (λ (q : Pool). words_in q k.frame) given ∙ freed pool k.frame in
    let apart_from : (i : ℕ) → i < length all → i ≢ n → frame_at all i ≢ k.frame = λ i there other_place e. other_place (apart i n there here (e ∙ sym frame)) in
    record {
      fewer = omega arith;
      left = λ i low. sym (get_or_append_left fewer (k ∷ []) no_page i low) ∙ ap (λ (l : List Kept). kept_at l i) (sym popped) ∙ is.left i (omega arith);
      stays = λ i low. other (frame_at all i) (apart_from i (omega arith) (λ e. omega arith)) ∙ is.stays i (omega arith);
      given = λ i high there.
          ⊎_elim
          (λ (e : i ≡ n). ap (λ (x : ℕ). words_in later (frame_at all x)) e ∙ ap (λ (f : ℕ). words_in later f) frame ∙ free)
          (λ (other_place : i ≢ n). other (frame_at all i) (apart_from i there other_place) ∙ is.given i (omega arith) there)
          (cases_eq i n);
      others = λ f none. other f (λ e. none n here (frame ∙ sym e)) ∙ is.others f none;
      count = omega (arith, is.count);
    }
