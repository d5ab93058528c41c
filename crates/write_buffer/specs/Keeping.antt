-- Laws of what a view keeps.
use Rattle.std.proofs.Common.{◌≡◌, ◌≢◌, ℕ, ◌<◌, ◌≤◌, ℤ, List, length, Option, None, true, false, is_some, refl, sym, ap, ◌∙◌, subst, arith}
use Rattle.std.proofs.Common.{⊎_elim}
use Rattle.std.proofs.lemmas.Bool.{cases_lt}
use Rattle.cal_base.specs.Pages.{Paged}
use Rattle.frame_pool.specs.Pool.{Pool, IsOut, frame_at as words_in}
use Rattle.shared_pages.specs.Kept.{frame_at, IsNewFrame}
use Rattle.shared_pages.specs.Cached.{Cached}
use Rattle.write_buffer.specs.Buffered.{Buffered, frame_of, IsForeign}
use Rattle.write_buffer.specs.Joined.{Joined, SameLoans, KeepsView}

pub same_loans : {N : Type 0} (pool cache buffer : N) (source : Paged) → SameLoans pool pool cache cache buffer buffer source source
same_loans pool cache buffer source = record { pool_same = refl; cache_same = refl; buffer_same = refl; source_same = refl }

pub loans_on : {N : Type 0} {p1 p2 p3 c1 c2 c3 b1 b2 b3 : N} {s1 s2 s3 : Paged} → SameLoans p1 p2 c1 c2 b1 b2 s1 s2
    → SameLoans p2 p3 c2 c3 b2 b3 s2 s3 → SameLoans p1 p3 c1 c3 b1 b3 s1 s3
loans_on one two = record {
  pool_same = two.pool_same ∙ one.pool_same;
  cache_same = two.cache_same ∙ one.cache_same;
  buffer_same = two.buffer_same ∙ one.buffer_same;
  source_same = two.source_same ∙ one.source_same;
}

pub view_itself : (pool : Pool) (cache : Cached) (buffer : Buffered) → KeepsView pool pool cache cache buffer buffer
view_itself pool cache buffer = record {
  size = refl;
  kinds = refl;
  frames = refl;
  no_fewer = omega arith;
  same = λ i there. refl;
  taken = λ i low high. absurd (omega arith);
  others = λ f new foreign. refl;
}

-- a frame that is free is none that is out
pub free_not_out : (pool : Pool) (f g : ℕ) → words_in pool f ≡ None → IsOut pool g → f ≢ g
free_not_out pool f g free out same =
    let is : is_some (words_in pool f) ≡ true = ap (λ x. is_some (words_in pool x)) same ∙ out in
    let none : is_some (words_in pool f) ≡ false = ap (λ (o : Option (List ℤ)). is_some o) free in
    cc

pub view_on : (p1 p2 p3 : Pool) (c1 c2 c3 : Cached) (b1 b2 b3 : Buffered) (source : Paged) → Joined p2 c2 b2 source
    → KeepsView p1 p2 c1 c2 b1 b2 → KeepsView p2 p3 c2 c3 b2 b3 → KeepsView p1 p3 c1 c3 b1 b3
view_on p1 p2 p3 c1 c2 c3 b1 b2 b3 source joined one two =
    let foreign_two : (f : ℕ) → IsForeign b1.frames f → IsForeign b2.frames f = λ f foreign. subst (λ (l : List ℕ). IsForeign l f)
    (sym one.frames) foreign in
    let new_two : (f : ℕ) → IsNewFrame c3.kept f → IsNewFrame c2.kept f = λ f new i there e. new i (omega (arith, two.no_fewer))
    (two.same i there ∙ e) in
    record {
      size = two.size ∙ one.size;
      kinds = two.kinds ∙ one.kinds;
      frames = two.frames ∙ one.frames;
      no_fewer = omega (arith, one.no_fewer, two.no_fewer);
      same = λ i there. two.same i (omega (arith, one.no_fewer)) ∙ one.same i there;
      taken = λ i low high.
          ⊎_elim
          (λ (early : i < length c2.kept). ap (λ f. words_in p1 f) (two.same i early) ∙ one.taken i low early)
          (λ (late : length c2.kept ≤ i).
          let f : ℕ = frame_at c3.kept i in
          let free : words_in p2 f ≡ None = two.taken i late high in
          let new : IsNewFrame c2.kept f = λ j there e. free_not_out p2 f (frame_at c2.kept j) free (joined.backed.out j there) (sym e) in
          let foreign : IsForeign b2.frames f = λ p there e. free_not_out p2 f (frame_of b2.frames p) free (joined.own p there) (sym e) in
          sym (one.others f new (subst (λ (l : List ℕ). IsForeign l f) one.frames foreign)) ∙ free)
          (cases_lt i (length c2.kept));
      others = λ f new foreign. two.others f new (foreign_two f foreign) ∙ one.others f (new_two f new) foreign;
    }
