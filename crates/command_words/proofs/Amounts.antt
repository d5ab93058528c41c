-- What is read of the parts of a line, argument by argument.
use Rattle.std.proofs.Common.{◌≡◌, ◌∙◌, ℕ, ◌+◌, ◌≤◌, Bool, cond, true, false, refl, sym, ap, ap₂, subst, arith, List, [], ◌∷◌, ◌++◌, Option, Some, None, codes, inl, inr, ◌⊎◌, ◌&&◌, ◌||◌, true≢false}
use Rattle.std.proofs.Common.{append_assoc, append-nil, le-leb, count_by}
use Rattle.std.specs.List.{find, list_any, list_all, flat_map}
use Rattle.std.specs.Prelude.{option_and_then}
use Rattle.std.specs.Str.{bytes_eq}
use Rattle.std.specs.Cmp.Lexicographic.{same_text}
use Rattle.std.proofs.Math.Nat.{add_assoc}
use Rattle.clap.specs.Walk.{Text}
use Rattle.command_words.specs.declared.name.Verb.{Verb}
use Rattle.command_words.specs.declared.name.Setting.{Setting}
use Rattle.command_words.specs.declared.name.Setting.TheVariants.{Workers, Fuel, Frames, Script, Log, Report, Steps}
use Rattle.command_words.specs.Words.{Part, is_same, is_about, has_value, operands_in, operand_in, are_single, is_single, value_in, value_by}
use Rattle.command_words.specs.Words as words
use Rattle.command_words.specs.Line.{name_of}
use Rattle.command_words.proofs.Rules.{Key, setting, operand, Place, first, second, past, has_place, id_of, operand_id}
use Rattle.command_words.proofs.Steps.{Use, add, is_used}
use Rattle.command_words.proofs.Turns.{next}
use Rattle.command_words.proofs.Taken.{take}

pub named_same : (a b : Setting) → bytes_eq (name_of a) (name_of b) ≡ is_same a b
named_same Workers Workers = refl
named_same Workers Fuel = refl
named_same Workers Frames = refl
named_same Workers Script = refl
named_same Workers Log = refl
named_same Workers Report = refl
named_same Workers Steps = refl
named_same Fuel Workers = refl
named_same Fuel Fuel = refl
named_same Fuel Frames = refl
named_same Fuel Script = refl
named_same Fuel Log = refl
named_same Fuel Report = refl
named_same Fuel Steps = refl
named_same Frames Workers = refl
named_same Frames Fuel = refl
named_same Frames Frames = refl
named_same Frames Script = refl
named_same Frames Log = refl
named_same Frames Report = refl
named_same Frames Steps = refl
named_same Script Workers = refl
named_same Script Fuel = refl
named_same Script Frames = refl
named_same Script Script = refl
named_same Script Log = refl
named_same Script Report = refl
named_same Script Steps = refl
named_same Log Workers = refl
named_same Log Fuel = refl
named_same Log Frames = refl
named_same Log Script = refl
named_same Log Log = refl
named_same Log Report = refl
named_same Log Steps = refl
named_same Report Workers = refl
named_same Report Fuel = refl
named_same Report Frames = refl
named_same Report Script = refl
named_same Report Log = refl
named_same Report Report = refl
named_same Report Steps = refl
named_same Steps Workers = refl
named_same Steps Fuel = refl
named_same Steps Frames = refl
named_same Steps Script = refl
named_same Steps Log = refl
named_same Steps Report = refl
named_same Steps Steps = refl

pub place_named : (p : Place) (s : Setting) → bytes_eq (operand_id p) (name_of s) ≡ false
place_named first Workers = refl
place_named first Fuel = refl
place_named first Frames = refl
place_named first Script = refl
place_named first Log = refl
place_named first Report = refl
place_named first Steps = refl
place_named second Workers = refl
place_named second Fuel = refl
place_named second Frames = refl
place_named second Script = refl
place_named second Log = refl
place_named second Report = refl
place_named second Steps = refl
place_named past Workers = refl
place_named past Fuel = refl
place_named past Frames = refl
place_named past Script = refl
place_named past Log = refl
place_named past Report = refl
place_named past Steps = refl

pub named_place : (s : Setting) (p : Place) → bytes_eq (name_of s) (operand_id p) ≡ false
named_place Workers first = refl
named_place Workers second = refl
named_place Workers past = refl
named_place Fuel first = refl
named_place Fuel second = refl
named_place Fuel past = refl
named_place Frames first = refl
named_place Frames second = refl
named_place Frames past = refl
named_place Script first = refl
named_place Script second = refl
named_place Script past = refl
named_place Log first = refl
named_place Log second = refl
named_place Log past = refl
named_place Report first = refl
named_place Report second = refl
named_place Report past = refl
named_place Steps first = refl
named_place Steps second = refl
named_place Steps past = refl

-- the arguments that parts are, from a place for operands on
abbrev pub use_of : Place → Part → Use
use_of p (words.operand t) = (operand p, t)
use_of p (words.option s t) = (setting s, t)
use_of p (words.flag s) = (setting s, codes "true")

abbrev pub place_after : Place → Part → Place
place_after p (words.operand t) = next p
place_after p (words.option s t) = p
place_after p (words.flag s) = p

abbrev pub uses_from : Place → List Part → List Use
uses_from p [] = []
uses_from p (part ∷ ps) = use_of p part ∷ uses_from (place_after p part) ps

-- the operands have places
abbrev pub fits : Verb → Place → List Text → Bool
fits v p [] = true
fits v p (t ∷ ts) = has_place v p && fits v (next p) ts

-- one by one, each new
abbrev pub adds : List Use → List Use → Option (List Use)
adds us [] = Some us
adds us (u ∷ rest) = option_and_then (λ (more : List Use). adds more rest) (add us u)

nowhere : {A B : Type 0} (o : Option A) → option_and_then {U = B} (λ (x : A). None) o ≡ None
nowhere None = refl
nowhere (Some x) = refl

inside : (o : Option (List Use)) (f g : List Use → Option (List Use)) → ((m : List Use) → f m ≡ g m) → option_and_then f o ≡ option_and_then g o
inside None f g e = refl
inside (Some m) f g e = e m

cond_inside : (b : Bool) (o : Option (List Use)) (g : List Use → Option (List Use)) → option_and_then (λ (m : List Use). cond b (g m) None) o ≡ cond b (option_and_then g o) None
cond_inside true o g = refl
cond_inside false o g = nowhere o

cond_and : (a b : Bool) (o : Option (List Use)) → cond a (cond b o None) None ≡ cond (a && b) o None
cond_and true b o = refl
cond_and false b o = refl

-- taking the parts is adding the arguments, where the operands have places
pub take_is : (v : Verb) (us : List Use) (p : Place) (ps : List Part) → take v us p ps ≡ cond (fits v p (operands_in ps)) (adds us (uses_from p ps)) None
take_is v us p [] = refl
take_is v us p (words.operand t ∷ ps) =
    ap (λ o. cond (has_place v p) o None) (inside (add us (operand p, t)) _ (λ (m : List Use). cond (fits v (next p) (operands_in ps)) (adds m (uses_from (next p) ps)) None)
    (λ m. take_is v m (next p) ps)
    ∙ cond_inside (fits v (next p) (operands_in ps)) (add us (operand p, t)) (λ m. adds m (uses_from (next p) ps)))
    ∙ cond_and (has_place v p) (fits v (next p) (operands_in ps)) _
take_is v us p (words.option s t ∷ ps) =
    inside (add us (setting s, t)) _ (λ (m : List Use). cond (fits v p (operands_in ps)) (adds m (uses_from p ps)) None) (λ m. take_is v m p ps)
    ∙ cond_inside (fits v p (operands_in ps)) (add us (setting s, t)) (λ m. adds m (uses_from p ps))
take_is v us p (words.flag s ∷ ps) =
    inside (add us (setting s, codes "true")) _ (λ (m : List Use). cond (fits v p (operands_in ps)) (adds m (uses_from p ps)) None) (λ m. take_is v m p ps)
    ∙ cond_inside (fits v p (operands_in ps)) (add us (setting s, codes "true")) (λ m. adds m (uses_from p ps))

-- ---- how often an argument comes

abbrev pub is_of : Key → Use → Bool
is_of k u = bytes_eq (id_of u.0) (id_of k)

abbrev pub one_if : Bool → ℕ
one_if b = cond b 1 0

-- how many pass, from the first on
abbrev pub tally : {A : Type 0} → (A → Bool) → List A → ℕ
tally p [] = 0
tally p (x ∷ xs) = one_if (p x) + tally p xs

pub tally_is : {A : Type 0} (p : A → Bool) (xs : List A) → count_by p xs ≡ tally p xs
tally_is {A} p xs = from xs 0 ∙ left (tally p xs)
  where
    left : (n : ℕ) → 0 + n ≡ n
    left n = omega arith

    from : (ys : List A) (n : ℕ) → Rattle.std.specs.List.fold (λ a y. a + cond (p y) 1 0) n ys ≡ n + tally p ys
    from [] n = omega arith
    from (y ∷ ys) n = from ys (n + cond (p y) 1 0) ∙ add_assoc n (cond (p y) 1 0) (tally p ys)

abbrev pub times : Key → List Use → ℕ
times k us = tally (is_of k) us

used_more : (k : Key) (us : List Use) (u : Use) → is_used k (us ++ u ∷ []) ≡ (is_used k us || is_of k u)
used_more k [] u = go (is_of k u)
  where
    go : (b : Bool) → (b || false) ≡ (false || b)
    go true = refl
    go false = refl
used_more k (x ∷ us) u = ap (λ b. is_of k x || b) (used_more k us u) ∙ go (is_of k x) (is_used k us) (is_of k u)
  where
    go : (a b c : Bool) → (a || (b || c)) ≡ ((a || b) || c)
    go true b c = refl
    go false b c = refl

pub adds_all : (us U r : List Use) → adds us U ≡ Some r → r ≡ us ++ U
adds_all us [] r e = sym (ap (λ o. Rattle.std.specs.Option.unwrap_or o r) e) ∙ sym (append-nil us)
adds_all us (u ∷ U) r e = go (is_used u.0 us) e (λ r2 e2. adds_all (us ++ u ∷ []) U r2 e2)
  where
    go : (b : Bool) → option_and_then (λ (more : List Use). adds more U) (cond b None (Some (us ++ u ∷ []))) ≡ Some r → ((r2 : List Use) → adds (us ++ u ∷ []) U ≡ Some r2 → r2 ≡ (us ++ u ∷ []) ++ U)
        → r ≡ us ++ u ∷ U
    go true e2 ih = cc
    go false e2 ih = ih r e2 ∙ append_assoc us (u ∷ []) U

-- an argument of the same id
same_used : (k : Key) (us : List Use) (u : Use) → is_of k u ≡ true → is_used k us ≡ is_used u.0 us
same_used k us u e = ap (λ id. list_any (λ (x : Use). bytes_eq (id_of x.0) id) us) (sym (same_text (id_of u.0) (id_of k) (sym e)))

-- what is added comes once
pub once : (k : Key) (us U r : List Use) → adds us U ≡ Some r → one_if (is_used k us) + times k U ≤ 1
once k us [] r e = go (is_used k us)
  where
    go : (b : Bool) → one_if b + 0 ≤ 1
    go true = omega arith
    go false = omega arith
once k us (u ∷ U) r e = go (is_used u.0 us) refl e (λ e2. once k (us ++ u ∷ []) U r e2)
  where
    sums : (a b : Bool) (n : ℕ) → (b ≡ true → a ≡ false) → one_if (a || b) + n ≤ 1 → one_if a + (one_if b + n) ≤ 1
    sums true true n differ h = absurd (true≢false (differ refl))
    sums true false n differ h = omega (arith, h)
    sums false true n differ h = omega (arith, h)
    sums false false n differ h = omega (arith, h)

    go : (b : Bool) → is_used u.0 us ≡ b → option_and_then (λ (more : List Use). adds more U) (cond b None (Some (us ++ u ∷ []))) ≡ Some r
        → (adds (us ++ u ∷ []) U ≡ Some r → one_if (is_used k (us ++ u ∷ [])) + times k U ≤ 1) → one_if (is_used k us) + times k (u ∷ U) ≤ 1
    go true eb e2 ih = cc
    go false eb e2 ih = sums (is_used k us) (is_of k u) (times k U) (λ e3. same_used k us u e3 ∙ eb) (subst (λ b. one_if b + times k U ≤ 1) (used_more k us u) (ih e2))

bytes-self : (x : List ℕ) → bytes_eq x x ≡ true
bytes-self [] = refl
bytes-self (x ∷ xs) = grind (arith, bytes-self xs)

-- what is not added comes twice
pub twice : (us U : List Use) → adds us U ≡ None → (k : Key) × (2 ≤ one_if (is_used k us) + times k U)
twice us [] e = cc
twice us (u ∷ U) e = go (is_used u.0 us) refl e (λ e2. twice (us ++ u ∷ []) U e2)
  where
    more : (a b : Bool) (n : ℕ) → 2 ≤ one_if (a || b) + n → 2 ≤ one_if a + (one_if b + n)
    more true true n h = omega (arith, h)
    more true false n h = omega (arith, h)
    more false true n h = omega (arith, h)
    more false false n h = omega (arith, h)

    two : (a b : Bool) (n : ℕ) → a ≡ true → b ≡ true → 2 ≤ one_if a + (one_if b + n)
    two true true n e f = omega arith
    two true false n e f = cc
    two false b n e f = cc

    go : (b : Bool) → is_used u.0 us ≡ b → option_and_then (λ (m : List Use). adds m U) (cond b None (Some (us ++ u ∷ []))) ≡ None
        → (adds (us ++ u ∷ []) U ≡ None → (k : Key) × (2 ≤ one_if (is_used k (us ++ u ∷ [])) + times k U)) → (k : Key) × (2 ≤ one_if (is_used k us) + times k (u ∷ U))
    go true eb e2 ih = (u.0, two (is_used u.0 us) (is_of u.0 u) (times u.0 U) eb (bytes-self (id_of u.0)))
    go false eb e2 ih =
        let h = ih e2 in
        (h.0, more (is_used h.0 us) (is_of h.0 u) (times h.0 U) (subst (λ b. 2 ≤ one_if b + times h.0 U) (used_more h.0 us u) h.1))

pub times_setting : (s : Setting) (p : Place) (ps : List Part) → times (setting s) (uses_from p ps) ≡ tally (is_about s) ps
times_setting s p [] = refl
times_setting s p (words.operand t ∷ ps) = ap₂ (λ b n. one_if b + n) (place_named p s) (times_setting s (next p) ps)
times_setting s p (words.option o t ∷ ps) = ap₂ (λ b n. one_if b + n) (named_same o s) (times_setting s p ps)
times_setting s p (words.flag o ∷ ps) = ap₂ (λ b n. one_if b + n) (named_same o s) (times_setting s p ps)

-- how often an operand's place comes
abbrev pub hits : Place → Place → List Text → ℕ
hits q p [] = 0
hits q p (t ∷ ts) = one_if (bytes_eq (operand_id p) (operand_id q)) + hits q (next p) ts

none_more : (n : ℕ) → n ≡ 0 + n
none_more n = omega arith

times_place : (q p : Place) (ps : List Part) → times (operand q) (uses_from p ps) ≡ hits q p (operands_in ps)
times_place q p [] = refl
times_place q p (words.operand t ∷ ps) = ap (λ n. one_if (bytes_eq (operand_id p) (operand_id q)) + n) (times_place q (next p) ps)
times_place q p (words.option o t ∷ ps) = ap₂ (λ b n. one_if b + n) (named_place o q) (times_place q p ps) ∙ sym (none_more _)
times_place q p (words.flag o ∷ ps) = ap₂ (λ b n. one_if b + n) (named_place o q) (times_place q p ps) ∙ sym (none_more _)

few : (v : Verb) (q : Place) (ts : List Text) → fits v first ts ≡ true → hits q first ts ≤ 1
few v first [] h = omega arith
few v second [] h = omega arith
few v past [] h = omega arith
few v first (a ∷ []) h = omega arith
few v second (a ∷ []) h = omega arith
few v past (a ∷ []) h = omega arith
few v first (a ∷ b ∷ []) h = omega arith
few v second (a ∷ b ∷ []) h = omega arith
few v past (a ∷ b ∷ []) h = omega arith
few v q (a ∷ b ∷ c ∷ ts) h = absurd (never (has_place v second) h)
  where
    never : (x : Bool) → (x && false) ≡ true → ⊥
    never true e = true≢false (sym e)
    never false e = true≢false (sym e)

-- ---- each option and flag once

pub singles : (ps : List Part) → ((s : Setting) → tally (is_about s) ps ≤ 1) → are_single ps ≡ true
singles ps h = all7 (one Workers) (one Fuel) (one Frames) (one Script) (one Log) (one Report) (one Steps)
  where
    one : (s : Setting) → is_single ps s ≡ true
    one s = le-leb _ _ (subst (λ n. n ≤ 1) (sym (tally_is (is_about s) ps)) (h s))

    all7 : {a b c d e f g : Bool} → a ≡ true → b ≡ true → c ≡ true → d ≡ true → e ≡ true → f ≡ true → g ≡ true → (a && (b && (c && (d && (e && (f && g)))))) ≡ true
    all7 ea eb ec ed ee ef eg = rw (ea, eb, ec, ed, ee, ef, eg) refl

both : (a b : Bool) → (a && b) ≡ true → (a ≡ true) × (b ≡ true)
both true b e = (refl, e)
both false b e = absurd (true≢false (sym e))

pub one_single : (ps : List Part) (s : Setting) → are_single ps ≡ true → is_single ps s ≡ true
one_single ps s h =
    let a = both _ _ h in
    let b = both _ _ a.1 in
    let c = both _ _ b.1 in
    let d = both _ _ c.1 in
    let e = both _ _ d.1 in
    let f = both _ _ e.1 in
    pick s a.0 b.0 c.0 d.0 e.0 f.0 f.1
  where
    pick : (s : Setting) → is_single ps Workers ≡ true → is_single ps Fuel ≡ true → is_single ps Frames ≡ true → is_single ps Script ≡ true → is_single ps Log ≡ true
        → is_single ps Report ≡ true → is_single ps Steps ≡ true → is_single ps s ≡ true
    pick Workers a b c d e f g = a
    pick Fuel a b c d e f g = b
    pick Frames a b c d e f g = c
    pick Script a b c d e f g = d
    pick Log a b c d e f g = e
    pick Report a b c d e f g = f
    pick Steps a b c d e f g = g

pub doubled : (ps : List Part) (s : Setting) → 2 ≤ tally (is_about s) ps → are_single ps ≡ false
doubled ps s h = go (are_single ps) refl
  where
    not_single : is_single ps s ≡ false
    not_single = grind (arith, tally_is (is_about s) ps, h)

    go : (b : Bool) → are_single ps ≡ b → b ≡ false
    go false e = refl
    go true e = absurd (true≢false (sym (one_single ps s e) ∙ not_single))

-- ---- what the parts come to

-- the parts are taken where they are single and the operands have places
abbrev pub Took : Verb → List Part → Option (List Use) → Type 0
Took v ps (Some us) = (us ≡ uses_from first ps) × (are_single ps ≡ true) × (fits v first (operands_in ps) ≡ true)
Took v ps None = (are_single ps ≡ false) ⊎ (fits v first (operands_in ps) ≡ false)

pub took : (v : Verb) (ps : List Part) → Took v ps (take v [] first ps)
took v ps = subst (λ o. Took v ps o) (sym (take_is v [] first ps)) (go (fits v first (operands_in ps)) refl (adds [] (uses_from first ps)) refl)
  where
    go : (b : Bool) → fits v first (operands_in ps) ≡ b → (o : Option (List Use)) → adds [] (uses_from first ps) ≡ o → Took v ps (cond b o None)
    go false e o eo = inr e
    go true e (Some us) eo = (
      adds_all [] (uses_from first ps) us eo,
      singles ps (λ s. subst (λ n. n ≤ 1) (times_setting s first ps) (le (times (setting s) (uses_from first ps)) (once (setting s) [] (uses_from first ps) us eo))),
      e,
    )
      where
        le : (n : ℕ) → 0 + n ≤ 1 → n ≤ 1
        le n h = omega (arith, h)
    go true e None eo = from (twice [] (uses_from first ps) eo)
      where
        le : (n : ℕ) → 2 ≤ 0 + n → 2 ≤ n
        le n h = omega (arith, h)

        at : (k : Key) → 2 ≤ times k (uses_from first ps) → Took v ps None
        at (setting s) h = inl (doubled ps s (subst (λ n. 2 ≤ n) (times_setting s first ps) h))
        at (operand q) h =
            let most = few v q (operands_in ps) e in
            let least : 2 ≤ hits q first (operands_in ps) = subst (λ n. 2 ≤ n) (times_place q first ps) h in
            absurd (omega (arith, most, least))

        from : (k : Key) × (2 ≤ one_if (is_used k []) + times k (uses_from first ps)) → Took v ps None
        from h = at h.0 (le (times h.0 (uses_from first ps)) h.1)
