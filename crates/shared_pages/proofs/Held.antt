-- A page is held.
use Rattle.std.proofs.Common.{◌≡◌, ◌≢◌, ℕ, zero, suc, ◌+◌, ◌*◌, ◌/◌, ◌%◌, ◌<◌, ℤ, Bool, true, false, List, [], ◌∷◌, ◌++◌, length, get_or, set, Option, Some, None, refl, sym, ap, ◌∙◌, subst, arith}
use Rattle.std.proofs.Common.{⊎_elim, is_some, ◌||◌}
use Rattle.std.proofs.lemmas.Bool.{cases_eq, eq-eqb, ne_eqb, eqb-true}
use Rattle.std.proofs.lemmas.List.{get_or-set_same, get_or-set_other, length-set, length-append, get_or_append_left, get_or_at}
use Rattle.cal_base.specs.Memory.{Memory, value_at}
use Rattle.cal_base.specs.Pages.{Paged, page_words, version_of}
use Rattle.cal_base.proofs.Pages.{get_or-page_words}
use Rattle.frame_pool.specs.Pool.{Pool, IsOut, frame_at as words_in}
use Rattle.frame_pool.proofs.Frames.{out_within, out_written, free_count-written}
use Rattle.shared_pages.specs.declared.kept.Kept.{Kept}
use Rattle.shared_pages.specs.Kept.{no_page, kept_at, page_at, version_at, frame_at, IsAbsent, IsOnlyPlace, IsNewFrame, AreApart}
use Rattle.shared_pages.specs.Shelf.{Shelved}
use Rattle.shared_pages.specs.Cached.{is_same_version, is_kept, Fits, AreOut, IsBacked, KeepsFrames, Cached, Serves}
use Rattle.shared_pages.specs.Holding.{IsCurrent, Reuses, Grows, Opens, Opened, Holds}
use Rattle.shared_pages.proofs.Shelves.{frames-replaced}

-- ---- whether a page is kept in a version

or_right : (b : Bool) → (b || true) ≡ true
or_right true = refl
or_right false = refl

pub kept_from_place : (kept : List Kept) (p : ℕ) (wanted : Option ℕ) (i : ℕ) → i < length kept → page_at kept i ≡ p → is_same_version (version_at kept i) wanted ≡ true → is_kept kept p wanted ≡ true
kept_from_place [] p wanted i there page version = absurd (omega arith)
kept_from_place (k ∷ kept) p wanted zero there page version = let e = eq-eqb k.page p page in rw (e, version) refl
kept_from_place (k ∷ kept) p wanted (suc i) there page version =
    let more = kept_from_place kept p wanted i (omega arith) page version in rw more (or_right _)

pub kept_nowhere : (kept : List Kept) (p : ℕ) (wanted : Option ℕ) → ((i : ℕ) → i < length kept → page_at kept i ≡ p → is_same_version (version_at kept i) wanted ≡ false)
    → is_kept kept p wanted ≡ false
kept_nowhere [] p wanted none = refl
kept_nowhere (k ∷ kept) p wanted none =
    let more = kept_nowhere kept p wanted (λ i there. none (suc i) (omega arith)) in
    ⊎_elim
    (λ (e : k.page ≡ p). let same = eq-eqb k.page p e in let other = none 0 (omega arith) e in rw (same, other, more) refl)
    (λ (apart : k.page ≢ p). let other = ne_eqb k.page p apart in rw (other, more) refl)
    (cases_eq k.page p)

pub kept_absent : (kept : List Kept) (p : ℕ) (wanted : Option ℕ) → IsAbsent kept p → is_kept kept p wanted ≡ false
kept_absent kept p wanted absent = kept_nowhere kept p wanted (λ i there e. absurd (absent i there e))

pub kept_otherwise : (kept : List Kept) (p : ℕ) (wanted : Option ℕ) (i : ℕ) → IsOnlyPlace kept p i → is_same_version (version_at kept i) wanted ≡ false → is_kept kept p wanted ≡ false
kept_otherwise kept p wanted i place other =
    kept_nowhere kept p wanted (λ j there e. ap (λ (x : ℕ). is_same_version (version_at kept x) wanted) (place.only j there e) ∙ other)

-- one version is the same version
pub one_version : (v u : Option ℕ) → is_same_version v u ≡ true → v ≡ u
one_version None u is = cc
one_version (Some v) None is = cc
one_version (Some v) (Some u) is = ap (λ (x : ℕ). Some x) (eqb-true v u is)

pub some_version : (v u : Option ℕ) → is_same_version v u ≡ true → (x : ℕ) × (v ≡ Some x) × (u ≡ Some x)
some_version None u is = cc
some_version (Some v) None is = cc
some_version (Some v) (Some u) is = (v, refl, ap (λ (x : ℕ). Some x) (sym (eqb-true v u is)))

-- ---- a place is made

pub new_frame : (pool : Pool) (kept : List Kept) (f : ℕ) → AreOut pool kept → words_in pool f ≡ None → IsNewFrame kept f
new_frame pool kept f out free i there same =
    let is : IsOut pool f = ap (λ (x : ℕ). is_some (words_in pool x)) (sym same) ∙ out i there in
    let free_is : is_some (words_in pool f) ≡ false = ap (λ (o : Option (List ℤ)). is_some o) free in
    cc

pub opened_reuse : (pool later : Pool) (shelf after : Shelved) (p : ℕ) (version : Option ℕ) (i : ℕ) → IsBacked pool shelf.size shelf.kept → Reuses pool later shelf after p version i
    → Opened pool later shelf after p version i
opened_reuse pool later shelf after p version i backed is =
    let kept : List Kept = shelf.kept in
    let new : Kept = record { page = p; version = version; frame = frame_at kept i } in
    let made : Shelved = record shelf { kept = set kept i new } in
    let size : length (set kept i new) ≡ length kept = length-set kept i new in
    let at : kept_at (set kept i new) i ≡ new = get_or-set_same kept i new no_page is.place in
    let opened : Opened pool pool shelf made p version i = record {
      size = refl;
      keeps = record {
        there = omega (arith, is.place);
        page = ap (λ (k : Kept). k.page) at;
        version = ap (λ (k : Kept). k.version) at;
        more = omega arith;
        others = λ j there apart. get_or-set_other kept i j new no_page apart;
        dropped = λ there other. is.full other;
      };
      frames = record {
        no_fewer = omega arith;
        same = λ j there. frames-replaced kept i p version j;
        taken = λ j low high. absurd (omega arith);
        others = λ f none. refl;
      };
      backed = record {
        out = λ j there. ap (λ (f : ℕ). is_some (words_in pool f)) (frames-replaced kept i p version j) ∙ backed.out j (omega arith);
        room = omega (arith, backed.room);
      };
      old = λ j there apart. omega arith;
      unmoved = λ j there. refl;
    }
    in
    subst (λ (s : Shelved). Opened pool later shelf s p version i) (sym is.kept) (subst (λ (q : Pool). Opened pool q shelf made p version i) (sym is.same) opened)

pub opened_more : (pool later : Pool) (shelf after : Shelved) (p : ℕ) (version : Option ℕ) (i : ℕ) → IsBacked pool shelf.size shelf.kept → Grows pool later shelf after p version i
    → Opened pool later shelf after p version i
opened_more pool later shelf after p version i backed is =
    let kept : List Kept = shelf.kept in
    let new : Kept = record { page = p; version = version; frame = is.frame } in
    let longer : List Kept = kept ++ new ∷ [] in
    let made : Shelved = record shelf { kept = longer } in
    let n : ℕ = length kept in
    let size : length longer ≡ n + 1 = length-append kept (new ∷ []) in
    let at : kept_at longer n ≡ new = get_or_at kept new [] no_page n refl in
    let before : (j : ℕ) → j < n → kept_at longer j ≡ kept_at kept j = λ j there. get_or_append_left kept (new ∷ []) no_page j there in
    let fresh : IsNewFrame kept is.frame = new_frame pool kept is.frame backed.out is.taken.free in
    let unmoved : (j : ℕ) → j < n → words_in later (frame_at kept j) ≡ words_in pool (frame_at kept j) = λ j there. is.taken.others (frame_at kept j) (fresh j there) in
    let frame_old : (j : ℕ) → j < n → frame_at longer j ≡ frame_at kept j = λ j there. ap (λ (k : Kept). k.frame) (before j there) in
    let frame_new : frame_at longer n ≡ is.frame = ap (λ (k : Kept). k.frame) at in
    let opened : Opened pool later shelf made p version n = record {
      size = refl;
      keeps = record {
        there = omega arith;
        page = ap (λ (k : Kept). k.page) at;
        version = ap (λ (k : Kept). k.version) at;
        more = omega arith;
        others = λ j there apart. before j there;
        dropped = λ there other. absurd (omega arith);
      };
      frames = record {
        no_fewer = omega arith;
        same = frame_old;
        taken = λ j low high. let e : j ≡ n = omega arith in ap (λ (x : ℕ). words_in pool (frame_at longer x)) e ∙ ap (λ (f : ℕ). words_in pool f) frame_new ∙ is.taken.free;
        others = λ f none. is.taken.others f (λ e. none n (omega arith) (frame_new ∙ sym e));
      };
      backed = record {
        out = λ j there.
            ⊎_elim
            (λ (e : j ≡ n). ap (λ (x : ℕ). is_some (words_in later (frame_at longer x))) e ∙ ap (λ (f : ℕ). is_some (words_in later f)) frame_new ∙ is.taken.out)
            (λ (apart : j ≢ n).
            let low : j < n = omega arith in
            ap (λ (f : ℕ). is_some (words_in later f)) (frame_old j low) ∙ ap (λ (o : Option (List ℤ)). is_some o) (unmoved j low) ∙ backed.out j low)
            (cases_eq j n);
        room = omega (arith, backed.room, is.taken.count);
      };
      old = λ j there apart. omega arith;
      unmoved = unmoved;
    }
    in
    subst (λ (s : Shelved). Opened pool later shelf s p version i) (sym is.kept) (subst (λ (x : ℕ). Opened pool later shelf made p version x) (sym is.place) opened)

pub opened : (pool later : Pool) (shelf after : Shelved) (p : ℕ) (version : Option ℕ) (i : ℕ) → IsBacked pool shelf.size shelf.kept → Opens pool later shelf after p version i
    → Opened pool later shelf after p version i
opened pool later shelf after p version i backed is =
    ⊎_elim (opened_reuse pool later shelf after p version i backed) (opened_more pool later shelf after p version i backed) is

-- ---- the page is copied into the frame

pub held : (pool middle later : Pool) (shelf after : Shelved) (source : Paged) (p : ℕ) (version : Option ℕ) (i : ℕ) → Opened pool middle shelf after p version i → AreApart after.kept
    → Fits pool shelf.kept source → version ≡ version_of source p
    → later ≡ set middle (frame_at after.kept i) (Some (page_words source.memory p)) → Holds pool later shelf after source p version i
held pool middle later shelf after source p version i is apart fits current filled =
    let g : ℕ = frame_at after.kept i in
    let words : List ℤ = page_words source.memory p in
    let there : i < length after.kept = is.keeps.there in
    let out : IsOut middle g = is.backed.out i there in
    let there_now : words_in (set middle g (Some words)) g ≡ Some words = get_or-set_same middle g (Some words) None (out_within middle g out) in
    let others : (f : ℕ) → f ≢ g → words_in (set middle g (Some words)) f ≡ words_in middle f = λ f other. get_or-set_other middle g f (Some words) None other in
    let done : Holds pool (set middle g (Some words)) shelf after source p version i = record {
      size = is.size;
      keeps = is.keeps;
      words = there_now;
      frames = record {
        no_fewer = is.frames.no_fewer;
        same = is.frames.same;
        taken = is.frames.taken;
        others = λ f none. others f (λ e. none i there (sym e)) ∙ is.frames.others f none;
      };
      backed = record {
        out = λ j low. out_written middle (frame_at after.kept j) g words (is.backed.out j low);
        room = omega (arith, is.backed.room, free_count-written middle g words out);
      };
      fits = λ j v u low had now.
          ⊎_elim
          (λ (e : j ≡ i).
          let page : page_at after.kept j ≡ p = ap (λ (x : ℕ). page_at after.kept x) e ∙ is.keeps.page in
          let v_is : Some v ≡ version = sym had ∙ ap (λ (x : ℕ). version_at after.kept x) e ∙ is.keeps.version in
          let u_is : version ≡ Some u = current ∙ ap (λ (x : ℕ). version_of source x) (sym page) ∙ now in
          let same : Some v ≡ Some u = v_is ∙ u_is in
          let equal : v ≡ u = cc in
          record {
            no_later = omega arith;
            same = λ _. ap (λ (x : ℕ). words_in (set middle g (Some words)) (frame_at after.kept x)) e ∙ there_now ∙ ap (λ (x : ℕ). Some (page_words source.memory x)) (sym page);
          })
          (λ (other : j ≢ i).
          let was : j < length shelf.kept = is.old j low other in
          let same : kept_at after.kept j ≡ kept_at shelf.kept j = is.keeps.others j was other in
          let page : page_at after.kept j ≡ page_at shelf.kept j = ap (λ (k : Kept). k.page) same in
          let frame : frame_at after.kept j ≡ frame_at shelf.kept j = ap (λ (k : Kept). k.frame) same in
          let fit = fits j v u was (ap (λ (k : Kept). k.version) (sym same) ∙ had) (ap (λ (x : ℕ). version_of source x) (sym page) ∙ now) in
          record {
            no_later = fit.no_later;
            same = λ e.
                others (frame_at after.kept j) (λ one. other (apart j i low there one))
                ∙ ap (λ (f : ℕ). words_in middle f) frame ∙ is.unmoved j was ∙ fit.same e
                ∙ ap (λ (x : ℕ). Some (page_words source.memory x)) (sym page);
          })
          (cases_eq j i);
    }
    in
    subst (λ (q : Pool). Holds pool q shelf after source p version i) (sym filled) done

-- a page that is kept in the source's version has its words in the frame
pub current_words : (pool : Pool) (kept : List Kept) (source : Paged) (p i : ℕ) → Fits pool kept source → IsCurrent kept p (version_of source p) i
    → words_in pool (frame_at kept i) ≡ Some (page_words source.memory p)
current_words pool kept source p i fits is =
    let one = some_version (version_at kept i) (version_of source p) is.version in
    (fits i one.0 one.0 is.there one.1 (ap (λ (x : ℕ). version_of source x) is.page ∙ one.2)).same refl ∙ ap (λ (x : ℕ). Some (page_words source.memory x)) is.page

-- where it is kept, nothing changes
pub serves_kept : (cache : Cached) (p i : ℕ) (version : Option ℕ) → IsCurrent cache.kept p version i → Serves cache cache p version
serves_kept cache p i version is = record {
  size = refl;
  fetched = let e = is.found in rw e refl;
  stays = λ _. refl;
  place = i;
  keeps = record {
    there = is.there;
    page = is.page;
    version = one_version (version_at cache.kept i) version is.version;
    more = omega arith;
    others = λ j there apart. refl;
    dropped = λ there other. absurd (other is.page);
  };
}

pub keeps_frames_itself : (pool : Pool) (kept : List Kept) → KeepsFrames pool pool kept kept
keeps_frames_itself pool kept = record { no_fewer = omega arith; same = λ i there. refl; taken = λ i low high. absurd (omega arith); others = λ f none. refl }

-- a word of a page
pub word_of_page : (memory : Memory) (a : ℕ) (d : ℤ) → get_or (page_words memory (a / 64)) (a % 64) d ≡ value_at memory a
word_of_page memory a d = get_or-page_words memory (a / 64) (a % 64) d (omega arith) ∙ ap (λ (x : ℕ). value_at memory x) (let e : 64 * (a / 64) + a % 64 ≡ a = omega arith in e)

pub same_words : (xs ys : List ℤ) → Some xs ≡ Some ys → xs ≡ ys
same_words xs ys e = cc
