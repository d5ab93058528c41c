-- What the shared names of an accepted program stand for: words and arrays one behind the other, each of its own kind.
use Rattle.std.proofs.Common.{◌≡◌, ℕ, zero, suc, ℤ, pos, negsuc, ◌+◌, ◌<◌, ◌≤◌, ◌⊎◌, inl, inr, Bool, true, false, if◌then◌else◌, List, [], ◌∷◌, ◌++◌, length, map, replicate, Option, Some, None, refl}
use Rattle.std.proofs.Common.{sym, ap, ◌∙◌, subst, arith, length-append}
use Rattle.std.specs.Prelude.{slice_get, is_some}
use Rattle.std.specs.List.{Contains}
use Rattle.std.specs.Str.{bytes_eq}
use Rattle.std.specs.Map.{lookup}
use Rattle.std.proofs.lemmas.List.{length-replicate}
use Rattle.std.proofs.lemmas.List.Elements.{Contains-append_cases}
use Rattle.std.proofs.lemmas.Option.{slice_get_within}
use Rattle.cal_terms.specs.declared.kinds.WordKind.{WordKind}
use Rattle.cal_terms.specs.declared.kinds.WordKind.TheVariants.{Ordinary, Tally}
use Rattle.cal_base.specs.declared.step.Word.{Word}
use Rattle.cal_base.specs.Memory.{Memory, memory_of}
use Rattle.csl_tree.specs.declared.name.Name.{Name}
use Rattle.csl_tree.specs.declared.program.Program.{Program}
use Rattle.csl_tree.specs.declared.program.ArraySize.{ArraySize}
use Rattle.csl_tree.specs.declared.program.Shared.{Shared}
use Rattle.csl_meaning.specs.declared.state.Area.{Area}
use Rattle.csl_meaning.specs.Layout.{Text, natural, items_in, word_count, words_in, area_from, first_words, first_memory}
use Rattle.type_check.specs.declared.fault.CheckKind.TheVariants.{NameTaken}
use Rattle.type_check.specs.declared.names.Declaration.{Declaration}
use Rattle.type_check.specs.Names.{Names, meant, taken, declare}
use Rattle.type_check.specs.Faults.{IsAccepted, most_functions, size_faults, value_faults, stands_for, shared_faults, word_faults, with_shared, all_function_faults, global_names, main_faults}
use Rattle.type_check.specs.Listed.{beyond}
use Rattle.type_check.specs.Words.{IsGoodSize, IsSized, AreSized}
use Rattle.type_check.proofs.CleanLemmas.{none_in_first, none_in_second, none_if, accepted_none}
use Rattle.type_check.proofs.WordLemmas.{accepted-sized}
use Rattle.bytecode.specs.declared.module.Code.{Code}
use Rattle.compiled_code.specs.Modules.{with_tally, tallies_from, module_of}
use Rattle.accepted_code.proofs.Lookups.{bytes_turned, found_in, found_behind}
use Rattle.accepted_code.proofs.Parts.{ArraysArePlain}
use Rattle.accepted_code.proofs.Agrees.{Means}

-- ---- tally words

-- a tally word of a memory that begins at this address
pub record TallyWord (at : ℕ) (memory : Memory) (a : ℕ) : Type 0 where
  pub place : ℕ
  pub word : Word
  pub there : slice_get memory place ≡ Some word
  pub tally : word.kind ≡ Tally
  pub here : a ≡ at + place

none_listed : (a : ℕ) → Contains [] a → ⊥
none_listed a (k, lt, is) = omega (arith, lt)

-- what a list contains is its first or one of the others
listed_cases : (x : ℕ) (xs : List ℕ) (a : ℕ) → Contains (x ∷ xs) a → (x ≡ a) ⊎ Contains xs a
listed_cases x xs a (zero, lt, is) = inl is
listed_cases x xs a (suc k, lt, is) = inr (k, omega (arith, lt), is)

-- what is listed are the addresses of tally words
pub listed_word : (memory : Memory) (at a : ℕ) → Contains (tallies_from at memory) a → TallyWord at memory a
listed_word [] at a h = absurd (none_listed a h)
listed_word (w ∷ memory) at a h = by w.kind refl (λ h'. listed_word memory (suc at) a h') h
  where
    later : TallyWord (suc at) memory a → TallyWord at (w ∷ memory) a
    later t = let e = t.here in record { place = suc t.place; word = t.word; there = t.there; tally = t.tally; here = omega (arith, e) }

    by : (kind : WordKind) → w.kind ≡ kind → (Contains (tallies_from (suc at) memory) a → TallyWord (suc at) memory a) → Contains (with_tally kind at (tallies_from (suc at) memory)) a
        → TallyWord at (w ∷ memory) a
    by Ordinary is go h' = later (go h')
    by Tally is go h' = which (listed_cases at (tallies_from (suc at) memory) a h')
      where
        which : (at ≡ a) ⊎ Contains (tallies_from (suc at) memory) a → TallyWord at (w ∷ memory) a
        which (inl e) = record { place = 0; word = w; there = refl; tally = is; here = omega (arith, e) }
        which (inr more) = later (go more)

-- so they are addresses of that memory
listed_from : (memory : Memory) (at a : ℕ) → Contains (tallies_from at memory) a → at ≤ a
listed_from memory at a h = let e = (listed_word memory at a h).here in omega (arith, e)

listed_before : (memory : Memory) (at a : ℕ) → Contains (tallies_from at memory) a → a < at + length memory
listed_before memory at a h =
    let t = listed_word memory at a h in
    let e = t.here in
    let inside = slice_get_within memory t.place t.word t.there in
    omega (arith, e, inside)

-- the tally words of two memories, one behind the other
pub tallies_append : (xs ys : Memory) (at : ℕ) → tallies_from at (xs ++ ys) ≡ tallies_from at xs ++ tallies_from (at + length xs) ys
tallies_append [] ys at = let here : at ≡ at + 0 = omega arith in ap (λ (n : ℕ). tallies_from n ys) here
tallies_append (w ∷ xs) ys at = by w.kind (tallies_append xs ys (suc at) ∙ ap (λ (n : ℕ). tallies_from (suc at) xs ++ tallies_from n ys) same)
  where
    same : suc at + length xs ≡ at + suc (length xs)
    same = omega arith

    by : (kind : WordKind) → tallies_from (suc at) (xs ++ ys) ≡ tallies_from (suc at) xs ++ tallies_from (at + suc (length xs)) ys
        → with_tally kind at (tallies_from (suc at) (xs ++ ys)) ≡ with_tally kind at (tallies_from (suc at) xs) ++ tallies_from (at + suc (length xs)) ys
    by Ordinary h = h
    by Tally h = ap (λ (l : List ℕ). at ∷ l) h

-- ordinary words hold no tally word
pub no_tallies : (n : ℕ) (values : List ℤ) (at : ℕ) → tallies_from at (memory_of (replicate n Ordinary) values) ≡ []
no_tallies zero values at = refl
no_tallies (suc n) [] at = refl
no_tallies (suc n) (z ∷ values) at = no_tallies n values (suc at)

-- ---- the words of declarations

length_replicated : (n : ℕ) (kind : WordKind) (values : List ℤ) → n ≤ length values → length (memory_of (replicate n kind) values) ≡ n
length_replicated zero kind values le = refl
length_replicated (suc n) kind [] le = absurd (omega (arith, le))
length_replicated (suc n) kind (z ∷ values) le = ap suc (length_replicated n kind values (omega (arith, le)))

-- a declaration has as many words as it says
pub length_words : (s : Shared) → length (first_words s) ≡ words_in s
length_words s = length_replicated (words_in s) s.kind (map (λ v. v.number) s.values ++ replicate (words_in s) (pos 0)) (enough (map (λ v. v.number) s.values) (words_in s))
  where
    enough : (values : List ℤ) (n : ℕ) → n ≤ length (values ++ replicate n (pos 0))
    enough values n = omega (arith, length-append values (replicate n (pos 0)), length-replicate n (pos 0))

plain_words : (s : Shared) (at a : ℕ) → s.kind ≡ Ordinary → Contains (tallies_from at (first_words s)) a → ⊥
plain_words s at a plain h =
    let values = map (λ v. v.number) s.values ++ replicate (words_in s) (pos 0) in
    let none : tallies_from at (first_words s) ≡ [] = ap (λ (k : WordKind). tallies_from at (memory_of (replicate (words_in s) k) values)) plain ∙ no_tallies (words_in s) values at in
    none_listed a (subst (λ (l : List ℕ). Contains l a) none h)

-- a tally word is one of the first declaration or of those behind it
in_words : (at : ℕ) (s : Shared) (rest : List Shared) (a : ℕ) → Contains (tallies_from at (first_memory (s ∷ rest))) a
    → Contains (tallies_from at (first_words s)) a ⊎ Contains (tallies_from (at + words_in s) (first_memory rest)) a
in_words at s rest a h =
    subst (λ (n : ℕ). Contains (tallies_from at (first_words s)) a ⊎ Contains (tallies_from (at + n) (first_memory rest)) a) (length_words s)
    (Contains-append_cases (tallies_from at (first_words s)) (tallies_from (at + length (first_words s)) (first_memory rest)) a
    (subst (λ (l : List ℕ). Contains l a) (tallies_append (first_words s) (first_memory rest) at) h))

-- a name is that of this declaration, whose words lie in the memory; ordinary ones are no tally words
pub record AreaIs (at : ℕ) (shared : List Shared) (name : Text) (s : Shared) : Type 0 where
  pub area : Area
  pub found : area_from at shared name ≡ Some area
  pub items : area.items ≡ items_in s.size
  pub behind : at ≤ area.first
  pub within : area.first + words_in s ≤ at + length (first_memory shared)
  pub plain : s.kind ≡ Ordinary → (a : ℕ) → area.first ≤ a → a < area.first + words_in s → Contains (tallies_from at (first_memory shared)) a → ⊥

first_here : (at n total : ℕ) (words rest : Memory) → length words ≡ n → total ≡ length (words ++ rest) → at + n ≤ at + total
first_here at n total words rest e t = omega (arith, e, t, length-append words rest)

others_here : (at n first count : ℕ) (words rest : Memory) → length words ≡ n → first + count ≤ at + n + length rest → first + count ≤ at + length (words ++ rest)
others_here at n first count words rest e le = omega (arith, e, le, length-append words rest)

own_area : (at : ℕ) (s : Shared) (rest : List Shared) (name : Text) → bytes_eq s.name.text name ≡ true → AreaIs at (s ∷ rest) name s
own_area at s rest name e =
    record {
      area = record { first = at; items = items_in s.size };
      found = ap (λ (b : Bool). if b then Some (record { first = at; items = items_in s.size }) else area_from (at + words_in s) rest name) e;
      items = refl;
      behind = omega arith;
      within = first_here at (words_in s) (length (first_memory (s ∷ rest))) (first_words s) (first_memory rest) (length_words s) refl;
      plain = λ kind a low high h. which kind a high (in_words at s rest a h);
    }
  where
    apart : (n a : ℕ) → a < at + n → at + n ≤ a → ⊥
    apart n a high low = omega (arith, high, low)

    which : s.kind ≡ Ordinary → (a : ℕ) → a < at + words_in s → Contains (tallies_from at (first_words s)) a ⊎ Contains (tallies_from (at + words_in s) (first_memory rest)) a → ⊥
    which kind a high (inl own) = plain_words s at a kind own
    which kind a high (inr other) = apart (words_in s) a high (listed_from (first_memory rest) (at + words_in s) a other)

other_area : (at : ℕ) (s : Shared) (rest : List Shared) (name : Text) (t : Shared) → bytes_eq s.name.text name ≡ false → AreaIs (at + words_in s) rest name t → AreaIs at (s ∷ rest) name t
other_area at s rest name t e is =
    record {
      area = is.area;
      found = ap (λ (b : Bool). if b then Some (record { first = at; items = items_in s.size }) else area_from (at + words_in s) rest name) e ∙ is.found;
      items = is.items;
      behind = behind (words_in s) is.area.first is.behind;
      within = others_here at (words_in s) is.area.first (words_in t) (first_words s) (first_memory rest) (length_words s) is.within;
      plain = λ kind a low high h. which kind a low high (in_words at s rest a h);
    }
  where
    behind : (n first : ℕ) → at + n ≤ first → at ≤ first
    behind n first le = omega (arith, le)

    apart : (n k first a : ℕ) → k ≡ n → at + n ≤ first → first ≤ a → a < at + k → ⊥
    apart n k first a same le low high = omega (arith, same, le, low, high)

    which : t.kind ≡ Ordinary → (a : ℕ) → is.area.first ≤ a → a < is.area.first + words_in t
        → Contains (tallies_from at (first_words s)) a ⊎ Contains (tallies_from (at + words_in s) (first_memory rest)) a → ⊥
    which kind a low high (inl own) = apart (words_in s) (length (first_words s)) is.area.first a (length_words s) is.behind low (listed_before (first_words s) at a own)
    which kind a low high (inr other) = is.plain kind a low high other

-- ---- names that are declared

-- so it is where the declared name is new
pub found_declared : (names : Names) (name : Name) (d : Declaration) (t : Text) → is_some (meant names name) ≡ false
    → lookup (bytes_eq t) (declare names name d) ≡ found_in (lookup (bytes_eq t) names) (bytes_eq t name.text) d
found_declared names name d t new = ap (λ (b : Bool). lookup (bytes_eq t) (if b then names else names ++ (name.text, d) ∷ [])) new ∙ found_behind names t name.text d

-- a name that is visible stays what it is
still_found : (names : Names) (name : Name) (x d : Declaration) (t : Text) → lookup (bytes_eq t) names ≡ Some d → lookup (bytes_eq t) (declare names name x) ≡ Some d
still_found names name x d t h = by (is_some (meant names name))
  where
    by : (b : Bool) → lookup (bytes_eq t) (if b then names else names ++ (name.text, x) ∷ []) ≡ Some d
    by true = h
    by false = found_behind names t name.text x ∙ ap (λ (o : Option Declaration). found_in o (bytes_eq t name.text) x) h

still_shared : (shared : List Shared) (names : Names) (d : Declaration) (t : Text) → lookup (bytes_eq t) names ≡ Some d → lookup (bytes_eq t) (with_shared names shared) ≡ Some d
still_shared [] names d t h = h
still_shared (s ∷ rest) names d t h = still_shared rest (declare names s.name (stands_for s.size s.kind)) d t (still_found names s.name (stands_for s.size s.kind) d t h)

-- ---- shared names

-- one of the shared declarations has this name, and the name stands for it
pub record SharedIs (at : ℕ) (shared : List Shared) (name : Text) (d : Declaration) : Type 0 where
  pub declaration : Shared
  pub stands : stands_for declaration.size declaration.kind ≡ d
  pub sized : IsSized declaration.size
  pub plain : (size : ArraySize) → declaration.size ≡ Some size → declaration.kind ≡ Ordinary
  pub area : AreaIs at shared name declaration

abbrev Named : ℕ → List Shared → Text → Option Declaration → Type 0
Named at shared name None = Unit {0}
Named at shared name (Some d) = SharedIs at shared name d

others_named : (at : ℕ) (s : Shared) (rest : List Shared) (name : Text) (o : Option Declaration) → bytes_eq s.name.text name ≡ false → Named (at + words_in s) rest name o → Named at (s ∷ rest) name o
others_named at s rest name None e h = tt
others_named at s rest name (Some d) e h = record { declaration = h.declaration; stands = h.stands; sized = h.sized; plain = h.plain; area = other_area at s rest name h.declaration e h.area }

named : (shared : List Shared) (names : Names) (at : ℕ) (name : Text) → shared_faults names shared ≡ [] → AreSized shared → ArraysArePlain shared → lookup (bytes_eq name) names ≡ None
    → Named at shared name (lookup (bytes_eq name) (with_shared names shared))
named [] names at name clean sized plain none = subst (λ (o : Option Declaration). Named at [] name o) (sym none) tt
named (s ∷ rest) names at name clean sized plain none =
    let d = stands_for s.size s.kind in
    let before = taken names s.name ++ size_faults s.size ++ value_faults s.size (map (λ v. v.at) s.values) in
    let after = shared_faults (declare names s.name d) rest in
    let first_two = none_in_first (taken names s.name ++ size_faults s.size) (value_faults s.size (map (λ v. v.at) s.values)) (none_in_first before after clean) in
    let new = none_if (is_some (meant names s.name)) NameTaken s.name.at (none_in_first (taken names s.name) (size_faults s.size) first_two) in
    by (bytes_eq s.name.text name) refl new (λ none'. named rest (declare names s.name d) (at + words_in s) name (none_in_second before after clean) sized.1 plain.1 none')
  where
    found : (b : Bool) → bytes_eq s.name.text name ≡ b → is_some (meant names s.name) ≡ false
        → lookup (bytes_eq name) (declare names s.name (stands_for s.size s.kind)) ≡ found_in None b (stands_for s.size s.kind)
    found b is new =
        found_declared names s.name (stands_for s.size s.kind) name new
        ∙ ap (λ (o : Option Declaration). found_in o (bytes_eq name s.name.text) (stands_for s.size s.kind)) none
        ∙ ap (λ (c : Bool). found_in None c (stands_for s.size s.kind)) (bytes_turned s.name.text name b is)

    by : (b : Bool) → bytes_eq s.name.text name ≡ b → is_some (meant names s.name) ≡ false
        → (lookup (bytes_eq name) (declare names s.name (stands_for s.size s.kind)) ≡ None → Named (at + words_in s) rest name
        (lookup (bytes_eq name) (with_shared (declare names s.name (stands_for s.size s.kind)) rest)))
        → Named at (s ∷ rest) name (lookup (bytes_eq name) (with_shared (declare names s.name (stands_for s.size s.kind)) rest))
    by true is new go =
        subst (λ (o : Option Declaration). Named at (s ∷ rest) name o) (sym (still_shared rest (declare names s.name (stands_for s.size s.kind)) (stands_for s.size s.kind) name (found true is new)))
        (record { declaration = s; stands = refl; sized = sized.0; plain = plain.0; area = own_area at s rest name is })
    by false is new go = others_named at s rest name (lookup (bytes_eq name) (with_shared (declare names s.name (stands_for s.size s.kind)) rest)) is (go (found false is new))

-- ---- what they stand for

some_items : (z : ℤ) → IsGoodSize z → 1 ≤ natural z
some_items (pos n) good = good.0
some_items (negsuc n) good = absurd good

inside : (first n words : ℕ) → n ≡ 1 → first + n ≤ 0 + words → first < words
inside first n words one le = omega (arith, one, le)

one_word : (first n : ℕ) → n ≡ 1 → first < first + n
one_word first n one = omega (arith, one)

all_words : (first n k words : ℕ) → n ≡ k → first + n ≤ 0 + words → first + k ≤ words
all_words first n k words same le = omega (arith, same, le)

module _ (p : Program) (c : Code) (visible : ℕ) (name : Text) where
  -- a declaration stands for what its size and its kind say
  declared_means : (s : Shared) (size : Option ArraySize) (kind : WordKind) → s.size ≡ size → s.kind ≡ kind → IsSized size → ((n : ArraySize) → s.size ≡ Some n → s.kind ≡ Ordinary)
      → AreaIs 0 p.shared name s
      → Means p (module_of p) c visible [] name (Some (stands_for size kind))
  declared_means s None Ordinary size_is kind_is sized plain is =
      let one : words_in s ≡ 1 = ap (λ (size : Option ArraySize). word_count (items_in size)) size_is in
      let low : is.area.first ≤ is.area.first = omega arith in (
        refl,
        record {
          area = is.area;
          found = is.found;
          scalar = is.items ∙ ap items_in size_is;
          in_range = inside is.area.first (words_in s) (length (first_memory p.shared)) one is.within;
          plain = is.plain kind_is is.area.first low (one_word is.area.first (words_in s) one);
        },
      )
  declared_means s None Tally size_is kind_is sized plain is =
      let one : words_in s ≡ 1 = ap (λ (size : Option ArraySize). word_count (items_in size)) size_is in (
        refl,
        record { area = is.area; found = is.found; scalar = is.items ∙ ap items_in size_is; in_range = inside is.area.first (words_in s) (length (first_memory p.shared)) one is.within },
      )
  declared_means s (Some n) kind size_is kind_is sized plain is =
      let count : words_in s ≡ natural n.number = ap (λ (size : Option ArraySize). word_count (items_in size)) size_is in (
        refl,
        record {
          area = is.area;
          size = natural n.number;
          found = is.found;
          array = is.items ∙ ap items_in size_is;
          in_range = (some_items n.number sized, all_words is.area.first (words_in s) (natural n.number) (length (first_memory p.shared)) count is.within);
          plain = subst (λ (k : ℕ). (a : ℕ) → is.area.first ≤ a → a < is.area.first + k → Contains (tallies_from 0 (first_memory p.shared)) a → ⊥) count (is.plain (plain n size_is));
        },
      )

  named_means : (o : Option Declaration) → Named 0 p.shared name o → Means p (module_of p) c visible [] name o
  named_means None h = refl
  named_means (Some d) h =
      let s = h.declaration in
      subst (λ (x : Declaration). Means p (module_of p) c visible [] name (Some x)) h.stands (declared_means s s.size s.kind refl refl h.sized h.plain h.area)

accepted_shared : (p : Program) → IsAccepted p → shared_faults [] p.shared ≡ []
accepted_shared p e =
    none_in_first (shared_faults [] p.shared) (word_faults 0 p.shared)
    (none_in_first (shared_faults [] p.shared ++ word_faults 0 p.shared) (all_function_faults (with_shared [] p.shared) p.functions)
    (none_in_first (shared_faults [] p.shared ++ word_faults 0 p.shared ++ all_function_faults (with_shared [] p.shared) p.functions) (beyond most_functions (map (λ f. f.name.at) p.functions))
    (none_in_first (shared_faults [] p.shared ++ word_faults 0 p.shared ++ all_function_faults (with_shared [] p.shared) p.functions ++ beyond most_functions (map (λ f. f.name.at) p.functions))
    (main_faults (global_names p) p.main)
    (accepted_none p e))))

-- each shared name of an accepted program stands for what the code takes it for
pub shared_means : (p : Program) → IsAccepted p → ArraysArePlain p.shared → (name : Text) (c : Code) (visible : ℕ)
    → Means p (module_of p) c visible [] name (lookup (bytes_eq name) (with_shared [] p.shared))
shared_means p accepted plain name c visible = named_means p c visible name (lookup (bytes_eq name) (with_shared [] p.shared))
    (named p.shared [] 0 name (accepted_shared p accepted) (accepted-sized p accepted) plain refl)
