-- The table of places.
use Rattle.std.proofs.Common.{◌≡◌, ◌≢◌, ℕ, zero, suc, ◌<◌, ◌≤◌, Bool, List, [], ◌∷◌, length, replicate, get_or, set, Option, Some, None, refl, sym, ap, ◌∙◌, subst, arith, ⊎_elim}
use Rattle.std.proofs.lemmas.Bool.{cases_eq}
use Rattle.std.proofs.lemmas.List.{get_or-set_same, get_or-set_other, length-replicate, length-set, get_or_default}
use Rattle.shared_pages.specs.declared.kept.Kept.{Kept}
use Rattle.shared_pages.specs.Kept.{no_page, kept_at, page_at, frame_at, MayStandAt}
use Rattle.shared_pages.specs.Shelf.{place_of, IsShelf}

-- a place is noted for pages of the table alone
pub noted_in : (places : List (Option ℕ)) (p i : ℕ) → place_of places p ≡ Some i → p < length places
noted_in [] p i is = cc
noted_in (o ∷ places) zero i is = omega arith
noted_in (o ∷ places) (suc p) i is = let more = noted_in places p i is in omega arith

none_noted : (n p i : ℕ) → place_of (replicate n None) p ≡ Some i → ⊥
none_noted zero p i is = cc
none_noted (suc n) zero i is = cc
none_noted (suc n) (suc p) i is = none_noted n p i is

-- at first nothing is kept
pub empty_shelf : (marks : List Bool) (size capacity : ℕ) → length marks ≡ size → 2 ≤ size → size ≤ 4096 → size ≤ capacity → IsShelf [] marks (replicate 4096 None) 0 capacity
empty_shelf marks size capacity same least most room = record {
  least = omega arith;
  most = omega arith;
  few = omega arith;
  room = omega arith;
  pages = length-replicate {A = Option ℕ} 4096 None;
  hand_within = omega arith;
  noted = λ i there. absurd (omega arith);
  within = λ p i is. absurd (none_noted 4096 p i is);
  kept_there = λ p i is. absurd (none_noted 4096 p i is);
  apart = λ i j there. absurd (omega arith);
}

-- the page that is kept at a place is one of the table's
pub page_in : (kept : List Kept) (marks : List Bool) (places : List (Option ℕ)) (hand capacity i : ℕ) → IsShelf kept marks places hand capacity → i < length kept → page_at kept i < 4096
page_in kept marks places hand capacity i is there = omega (arith, noted_in places (page_at kept i) i (is.noted i there), is.pages)

-- two pages at two places differ
pub places_differ : (kept : List Kept) (marks : List Bool) (places : List (Option ℕ)) (hand capacity i j : ℕ) → IsShelf kept marks places hand capacity → i < length kept → j < length kept
    → page_at kept i ≡ page_at kept j → i ≡ j
places_differ kept marks places hand capacity i j is here there same =
    let e : Some i ≡ Some j = sym (is.noted i here) ∙ ap (λ p. place_of places p) same ∙ is.noted j there in
    cc

-- page p takes the place of another one or of the same
replaced_places : List (Option ℕ) → ℕ → ℕ → ℕ → List (Option ℕ)
replaced_places places old p i = set (set places old None) p (Some i)

-- a frame that stays where its page is replaced
same_frames : (kept : List Kept) (i p : ℕ) (version : Option ℕ) (j : ℕ) → frame_at (set kept i (record { page = p; version = version; frame = frame_at kept i })) j ≡ frame_at kept j
same_frames [] i p version j = refl
same_frames (k ∷ kept) zero p version zero = refl
same_frames (k ∷ kept) zero p version (suc j) = refl
same_frames (k ∷ kept) (suc i) p version zero = refl
same_frames (k ∷ kept) (suc i) p version (suc j) = same_frames kept i p version j

pub frames-replaced : (kept : List Kept) (i p : ℕ) (version : Option ℕ) (j : ℕ) → frame_at (set kept i (record { page = p; version = version; frame = frame_at kept i })) j ≡ frame_at kept j
frames-replaced = same_frames

-- which page is noted at a place, once p is noted at i in the place of the page that was there
pub record IsNoted (kept : List Kept) (places : List (Option ℕ)) (p i q j : ℕ) : Type 0 where
  pub within : j < length kept
  pub page : page_at (set kept i (record { page = p; version = None; frame = 0 })) j ≡ q

pub shelf_replaced : (kept : List Kept) (marks : List Bool) (places : List (Option ℕ)) (hand capacity i p : ℕ) (version : Option ℕ) → IsShelf kept marks places hand capacity → i < length kept
    → p < 4096 → MayStandAt kept p i
    → IsShelf (set kept i (record { page = p; version = version; frame = frame_at kept i })) marks (set (set places (page_at kept i) None) p (Some i)) hand capacity
shelf_replaced kept marks places hand capacity i p version is here small stands =
    let new : Kept = record { page = p; version = version; frame = frame_at kept i } in
    let old : ℕ = page_at kept i in
    let later : List Kept = set kept i new in
    let cleared : List (Option ℕ) = set places old None in
    let noted : List (Option ℕ) = set cleared p (Some i) in
    let size : length later ≡ length kept = length-set kept i new in
    let long : length cleared ≡ length places = length-set places old None in
    let longer : length noted ≡ length cleared = length-set cleared p (Some i) in
    let at_p : place_of noted p ≡ Some i = get_or-set_same cleared p (Some i) None (omega (arith, long, is.pages)) in
    let page_i : page_at later i ≡ p = ap (λ (k : Kept). k.page) (get_or-set_same kept i new no_page here) in
    let page_other : (j : ℕ) → j ≢ i → page_at later j ≡ page_at kept j = λ j apart. ap (λ (k : Kept). k.page) (get_or-set_other kept i j new no_page apart) in
    let at_other : (q : ℕ) → q ≢ p → q ≢ old → place_of noted q ≡ place_of places q =
    λ q one two. get_or-set_other cleared p q (Some i) None one ∙ get_or-set_other places old q None None two
    in
    let at_old : (q : ℕ) → q ≢ p → q ≡ old → place_of noted q ≡ None =
    λ q one two. get_or-set_other cleared p q (Some i) None one ∙ ap (λ (x : ℕ). place_of cleared x) two
    ∙ get_or-set_same places old None None (omega (arith, page_in kept marks places hand capacity i is here, is.pages))
    in
    let which : (q j : ℕ) → place_of noted q ≡ Some j → (j < length later) × (page_at later j ≡ q) =
    λ q j at.
    ⊎_elim
    (λ (e : q ≡ p).
    let same : Some i ≡ Some j = sym at_p ∙ ap (λ (x : ℕ). place_of noted x) (sym e) ∙ at in
    let i_j : i ≡ j = cc in
    (omega arith, ap (λ (x : ℕ). page_at later x) (sym i_j) ∙ page_i ∙ sym e))
    (λ (apart : q ≢ p).
    ⊎_elim
    (λ (e : q ≡ old). let none : None ≡ Some j = sym (at_old q apart e) ∙ at in cc)
    (λ (two : q ≢ old).
    let was : place_of places q ≡ Some j = sym (at_other q apart two) ∙ at in
    let page = is.kept_there q j was in
    let within = is.within q j was in
    (omega (arith, within, size), page_other j (λ e. two (sym page ∙ ap (λ (x : ℕ). page_at kept x) e)) ∙ page))
    (cases_eq q old))
    (cases_eq q p)
    in
    record {
      least = is.least;
      most = is.most;
      few = omega (arith, size, is.few);
      room = is.room;
      pages = longer ∙ long ∙ is.pages;
      hand_within = is.hand_within;
      noted = λ j there.
          ⊎_elim
          (λ (e : j ≡ i). ap (λ (x : ℕ). place_of noted (page_at later x)) e ∙ ap (λ (x : ℕ). place_of noted x) page_i ∙ at_p ∙ ap (λ (x : ℕ). Some x) (sym e))
          (λ (apart : j ≢ i).
          let was : j < length kept = omega arith in
          ap (λ (x : ℕ). place_of noted x) (page_other j apart)
          ∙ at_other (page_at kept j) (λ e. apart (stands j was e)) (λ e. apart (places_differ kept marks places hand capacity j i is was here e))
          ∙ is.noted j was)
          (cases_eq j i);
      within = λ q j at. (which q j at).0;
      kept_there = λ q j at. (which q j at).1;
      apart = λ a b one two same.
          is.apart a b (omega arith) (omega arith) (sym (same_frames kept i p version a) ∙ same ∙ same_frames kept i p version b);
    }

-- what was read at a place is the page that is kept there
pub kept_read : (kept now : List Kept) (i : ℕ) (k : Kept) → kept ≡ now → k ≡ get_or kept i k → i < length now → k ≡ kept_at kept i
kept_read kept now i k same read here = read ∙ get_or_default kept i k no_page (let e = ap (λ (l : List Kept). length l) same in omega arith)

pub page_read : (kept now : List Kept) (marks : List Bool) (places : List (Option ℕ)) (hand capacity i : ℕ) (k : Kept) → kept ≡ now → k ≡ get_or kept i k → IsShelf kept marks places hand capacity
    → i < length now → k.page < length places
page_read kept now marks places hand capacity i k same read is here =
    let e = ap (λ (l : List Kept). length l) same in
    let page = ap (λ (x : Kept). x.page) (kept_read kept now i k same read here) in
    omega (arith, page_in kept marks places hand capacity i is (omega arith), is.pages)

pub replaced_read : (kept now : List Kept) (marks : List Bool) (places : List (Option ℕ)) (hand capacity i p : ℕ) (version : Option ℕ) (k : Kept) → kept ≡ now → k ≡ get_or kept i k
    → IsShelf kept marks places hand capacity → i < length now → p < 4096 → MayStandAt now p i
    → IsShelf (set kept i (record { page = p; version = version; frame = k.frame })) marks (set (set places k.page None) p (Some i)) hand capacity
replaced_read kept now marks places hand capacity i p version k same read is here small stands =
    let e = ap (λ (l : List Kept). length l) same in
    let stands_here : MayStandAt kept p i = subst (λ (l : List Kept). MayStandAt l p i) (sym same) stands in
    subst (λ (x : Kept). IsShelf (set kept i (record { page = p; version = version; frame = x.frame })) marks (set (set places x.page None) p (Some i)) hand capacity)
    (sym (kept_read kept now i k same read here))
    (shelf_replaced kept marks places hand capacity i p version is (omega arith) small stands_here)
