-- What `clap` comes to at a line, and the rows that it leaves.
use Rattle.std.proofs.Common.{◌≡◌, ◌∙◌, Bool, cond, true, false, refl, sym, ap, ap₂, subst, arith, List, [], ◌∷◌, ◌++◌, Option, Some, None, codes, inl, inr, ◌⊎◌, ◌&&◌, ◌||◌, not, true≢false, is_some}
use Rattle.std.specs.List.{fold, find, list_any, list_all}
use Rattle.std.specs.Prelude.{option_and_then, option_map, slice_get}
use Rattle.std.specs.Option.{option_map_or, option_or}
use Rattle.std.specs.Str.{bytes_eq}
use Rattle.std.proofs.lemmas.List.Folds.{find-append}
use Rattle.clap.proofs.WalkLemmas.{find-map}
use Rattle.clap.specs.Walk.{Text, Row, Rule, Held, Walk, walked, settled, finished, with_default, default_rows, reading_by, has_row, first_of, more_values, is_empty}
use Rattle.clap.specs.Simple.{built, entered, matches_of}
use Rattle.clap.specs.Faults.{walk_fault, settle_fault, fault_of, entered_fault, defaults_fault, default_fault, given_default_fault, check_fault}
use Rattle.clap.specs.Takes.{is_given}
use Rattle.clap.specs.Kinds.{Kinds, or_else}
use Rattle.clap.specs.declared.parser.matches.ValueSource.TheVariants.{DefaultValue}
use Rattle.clap.specs.declared.error.kind.ErrorKind.TheVariants as kind
use Rattle.command_words.specs.declared.name.Verb.{Verb}
use Rattle.command_words.specs.declared.name.Verb.TheVariants.{Check, Eval, Run, Sim, Build, Exec, Gen, Selfrun}
use Rattle.command_words.specs.declared.name.Setting.TheVariants.{Workers, Fuel, Frames, Script, Log, Report, Steps}
use Rattle.command_words.specs.Found.{is_true}
use Rattle.clap.specs.Facts.{explicit_source}
use Rattle.command_words.specs.Line.{is_readable, line_of, has_two}
use Rattle.command_words.proofs.Rules.{Key, setting, operand, Place, first, second, past, shape, id_of, operand_id}
use Rattle.command_words.proofs.Steps.{Use, rows, row, free, State, held_at, walk_at, Settles, settle, settles, is_valued, at_none}
use Rattle.command_words.proofs.Turns.{Agrees, first_empty}
use Rattle.command_words.proofs.Runs.{run, runs}
use Rattle.command_words.proofs.Taken.{final}
use Rattle.command_words.proofs.Amounts.{is_of}

-- ---- defaults do no harm

abbrev is_harmless : Rule → Bool
is_harmless a = is_empty a.defaults || is_empty (given_default_fault a a.defaults)

harmless : (v : Verb) → list_all is_harmless (shape v).rules ≡ true
harmless Check = refl
harmless Eval = refl
harmless Run = refl
harmless Sim = refl
harmless Build = refl
harmless Exec = refl
harmless Gen = refl
harmless Selfrun = refl

both : (a b : Bool) → (a && b) ≡ true → (a ≡ true) × (b ≡ true)
both true b e = (refl, e)
both false b e = absurd (true≢false (sym e))

no_default_fault : (rs : List Row) (a : Rule) → is_harmless a ≡ true → default_fault rs a ≡ []
no_default_fault rs a h = go (has_row a.id rs) (is_empty a.defaults) (given_default_fault a a.defaults) h
  where
    go : (x d : Bool) (g : Kinds) → (d || is_empty g) ≡ true → cond (x || d) [] g ≡ []
    go true d g e = refl
    go false true g e = refl
    go false false [] e = refl
    go false false (k ∷ ks) e = grind (arith, e)

no_defaults_fault : (rules : List Rule) (rs : List Row) → list_all is_harmless rules ≡ true → defaults_fault rs rules ≡ []
unfolding defaults_fault
no_defaults_fault [] rs h = refl
no_defaults_fault (a ∷ rules) rs h =
    let parts = both _ _ h in
    ap (λ f. or_else f (defaults_fault (with_default rs a) rules)) (no_default_fault rs a parts.0) ∙ no_defaults_fault rules (with_default rs a) parts.1

-- ---- the level

-- the rows at the end
abbrev pub done : Verb → List Use → List Row
done v us = fold with_default (rows us) (shape v).rules

abbrev pub lacks : Verb → List Row → Bool
lacks v rs = list_any (λ (a : Rule). a.required && not (is_given a.id rs)) (shape v).rules

abbrev pub lacking : Bool → Kinds
lacking b = cond b (kind.MissingRequiredArgument ∷ []) []

abbrev pub Verdict : Verb → Kinds → List Row → Option (List Use) → Type 0
Verdict v f rs (Some us) = (f ≡ lacking (lacks v (done v us))) × (rs ≡ done v us)
Verdict v f rs None = f ≡ [] → ⊥

abbrev after_walk : Verb → Walk → Kinds
after_walk v w =
    or_else (entered_fault (built (line_of v)) w.stopped)
    (or_else (settle_fault (shape v).rules false w.held)
    (or_else (defaults_fault (settled (shape v).rules w.held).rows (shape v).rules)
    (check_fault (shape v) (finished (shape v).rules w.held) (is_some (entered (built (line_of v)) w.stopped)))))

abbrev start : State
start = record { uses = []; pend = free; place = first }

abbrev ended : Verb → List Text → Walk
ended v ws = fold (walked (shape v).rules []) (walk_at start) ws

fault_is : (v : Verb) (ws : List Text) → fault_of (line_of v) ws ≡ or_else (walk_fault (shape v) [] (walk_at start) ws) (after_walk v (ended v ws))
fault_is v ws = refl

matches_is : (v : Verb) (ws : List Text) → matches_of (line_of v) ws ≡ finished (shape v).rules (ended v ws).held
matches_is v ws = refl

settled_verdict : (v : Verb) (F : Kinds) (H : Held) (o : Option (List Use)) → Settles F H o
    → Verdict v (or_else F (or_else (defaults_fault H.rows (shape v).rules) (lacking (lacks v (fold with_default H.rows (shape v).rules))))) (fold with_default H.rows (shape v).rules) o
settled_verdict v F H None s = λ f. s (first_empty F _ f)
settled_verdict v F H (Some us) s =
    let at : H.rows ≡ rows us = ap (λ (h : Held). h.rows) s.1 in (
      ap (λ f. or_else f (or_else (defaults_fault H.rows (shape v).rules) (lacking (lacks v (fold with_default H.rows (shape v).rules))))) s.0
          ∙ (ap (λ f. or_else f (lacking (lacks v (fold with_default H.rows (shape v).rules)))) (no_defaults_fault (shape v).rules H.rows (harmless v))
          ∙ ap (λ rs. lacking (lacks v (fold with_default rs (shape v).rules))) at),
      ap (λ rs. fold with_default rs (shape v).rules) at,
    )

verdict-by : (v : Verb) (f g : Kinds) (rs ts : List Row) (o : Option (List Use)) → f ≡ g → rs ≡ ts → Verdict v g ts o → Verdict v f rs o
verdict-by v f g rs ts o ef er h = subst (λ k. Verdict v k rs o) (sym ef) (subst (λ r. Verdict v g r o) (sym er) h)

pub verdict : (v : Verb) (ws : List Text) → list_all is_readable ws ≡ true → Verdict v (fault_of (line_of v) ws) (matches_of (line_of v) ws) (final v [] free first ws)
verdict v ws readable = go (run v start ws) (runs v start ws tt readable)
  where
    go : (o : Option State) → Agrees v (walk_fault (shape v) [] (walk_at start) ws) (ended v ws) o
        → Verdict v (or_else (walk_fault (shape v) [] (walk_at start) ws) (after_walk v (ended v ws))) (finished (shape v).rules (ended v ws).held)
        (option_and_then (λ (st : State). settle st.uses st.pend) o)
    go None a = λ f. a (first_empty _ _ f)
    go (Some st) a = verdict-by v _ _ _ _ _
        (ap₂ (λ f (w : Walk). or_else f (after_walk v w)) a.0 a.1)
        (ap (λ (w : Walk). finished (shape v).rules w.held) a.1)
        (settled_verdict v _ (settled (shape v).rules (held_at st.uses st.pend)) (settle st.uses st.pend) (settles v st.uses st.pend a.2))

-- ---- rows by their ids

abbrev look : List Row → Text → Option Row
look rs id = find (λ (r : Row). bytes_eq r.id id) rs

abbrev default_row : Rule → Row
default_row a = record { id = a.id; values = a.defaults; count = None; source = Some DefaultValue; reading = reading_by a }

-- a default comes at the end, or not at all
default_adds : (rs : List Row) (a : Rule) → (with_default rs a ≡ rs) ⊎ ((with_default rs a ≡ rs ++ default_row a ∷ []) × (is_empty a.defaults ≡ false))
default_adds rs a = go (has_row a.id rs) refl a.defaults
  where
    go : (b : Bool) → has_row a.id rs ≡ b → (ds : List Text) → (cond b rs (default_rows a.id (reading_by a) ds rs) ≡ rs)
        ⊎ ((cond b rs (default_rows a.id (reading_by a) ds rs) ≡ rs ++ record { id = a.id; values = ds; count = None; source = Some DefaultValue; reading = reading_by a } ∷ [])
        × (is_empty ds ≡ false))
    go true e ds = inl refl
    go false e [] = inl refl
    go false e (d ∷ ds) = inr (at_none a.id (more_values DefaultValue (d ∷ ds)) (record { id = a.id; values = d ∷ ds; count = None; source = Some DefaultValue; reading = reading_by a } ∷ []) rs e, long_list d ds)
      where
        long_list : (d : Text) (ds : List Text) → is_empty (d ∷ ds) ≡ false
        long_list d ds = grind arith

-- what was found stays
stays : (id : Text) (r : Row) (rules : List Rule) (rs : List Row) → look rs id ≡ Some r → look (fold with_default rs rules) id ≡ Some r
stays id r [] rs e = e
stays id r (a ∷ rules) rs e = stays id r rules (with_default rs a) (go (default_adds rs a))
  where
    go : (with_default rs a ≡ rs) ⊎ ((with_default rs a ≡ rs ++ default_row a ∷ []) × (is_empty a.defaults ≡ false)) → look (with_default rs a) id ≡ Some r
    go (inl h) = ap (λ x. look x id) h ∙ e
    go (inr h) = ap (λ x. look x id) h.0 ∙ (find-append (λ (x : Row). bytes_eq x.id id) rs (default_row a ∷ []) ∙ ap (λ o. option_or o (look (default_row a ∷ []) id)) e)

abbrev spares : Text → Rule → Bool
spares id a = is_empty a.defaults || not (bytes_eq a.id id)

-- what was not found is not found, where its argument has no default
absent : (id : Text) (rules : List Rule) (rs : List Row) → list_all (spares id) rules ≡ true → look rs id ≡ None → look (fold with_default rs rules) id ≡ None
absent id [] rs h e = e
absent id (a ∷ rules) rs h e =
    let parts = both _ _ h in
    absent id rules (with_default rs a) parts.1 (go (default_adds rs a) (bytes_eq a.id id) refl parts.0)
  where
    go : (with_default rs a ≡ rs) ⊎ ((with_default rs a ≡ rs ++ default_row a ∷ []) × (is_empty a.defaults ≡ false)) → (b : Bool) → bytes_eq a.id id ≡ b → spares id a ≡ true
        → look (with_default rs a) id ≡ None
    go (inl x) b eb sp = ap (λ x. look x id) x ∙ e
    go (inr x) true eb sp = absurd (true≢false (sym sp ∙ ap₂ (λ p q. p || not q) x.1 eb))
    go (inr x) false eb sp =
        ap (λ x. look x id) x.0 ∙ (find-append (λ (y : Row). bytes_eq y.id id) rs (default_row a ∷ [])
        ∙ ap₂ (λ o b. option_or o (cond b (Some (default_row a)) None)) e eb)

-- ---- what the getters read

spared : (v : Verb) (k : Key) → is_valued k ≡ true → list_all (spares (id_of k)) (shape v).rules ≡ true
spared Run (setting Workers) h = refl
spared Run (setting Fuel) h = refl
spared Run (setting Frames) h = refl
spared Run (setting Script) h = refl
spared Run (setting Log) h = refl
spared Run (operand first) h = refl
spared Run (operand second) h = refl
spared Run (operand past) h = refl
spared Exec (setting Workers) h = refl
spared Exec (setting Fuel) h = refl
spared Exec (setting Frames) h = refl
spared Exec (setting Script) h = refl
spared Exec (setting Log) h = refl
spared Exec (operand first) h = refl
spared Exec (operand second) h = refl
spared Exec (operand past) h = refl
spared Check _ h = refl
spared Eval _ h = refl
spared Sim _ h = refl
spared Build _ h = refl
spared Gen _ h = refl
spared Selfrun _ h = refl
spared Run (setting Report) h = cc
spared Run (setting Steps) h = cc
spared Exec (setting Report) h = cc
spared Exec (setting Steps) h = cc

-- the value of an argument among those that were used
abbrev pub value : Key → List Use → Option Text
value k us = option_map (λ (u : Use). u.1) (find (is_of k) us)

found_row : (k : Key) (us : List Use) → look (rows us) (id_of k) ≡ option_map row (find (is_of k) us)
found_row k us = sym (find-map (λ (r : Row). bytes_eq r.id (id_of k)) row us)

pub read_value : (v : Verb) (k : Key) (us : List Use) → is_valued k ≡ true → first_of (id_of k) (done v us) ≡ value k us
read_value v k us h = go (find (is_of k) us) (found_row k us)
  where
    go : (o : Option Use) → look (rows us) (id_of k) ≡ option_map row o → first_of (id_of k) (done v us) ≡ option_map (λ (u : Use). u.1) o
    go None e = ap (option_and_then (λ (r : Row). slice_get r.values 0)) (absent (id_of k) (shape v).rules (rows us) (spared v k h) e)
    go (Some u) e = ap (option_and_then (λ (r : Row). slice_get r.values 0)) (stays (id_of k) (row u) (shape v).rules (rows us) e)

abbrev is_off : Rule → Bool
is_off a = not (is_true (slice_get a.defaults 0))

defaults_off : (v : Verb) → list_all is_off (shape v).rules ≡ true
defaults_off Check = refl
defaults_off Eval = refl
defaults_off Run = refl
defaults_off Sim = refl
defaults_off Build = refl
defaults_off Exec = refl
defaults_off Gen = refl
defaults_off Selfrun = refl

off : (id : Text) (rules : List Rule) (rs : List Row) → list_all is_off rules ≡ true → is_true (first_of id rs) ≡ false → is_true (first_of id (fold with_default rs rules)) ≡ false
off id [] rs h e = e
off id (a ∷ rules) rs h e =
    let parts = both _ _ h in
    off id rules (with_default rs a) parts.1 (go (default_adds rs a))
  where
    falsy : (b : Bool) → not b ≡ true → b ≡ false
    falsy true f = sym f
    falsy false f = refl

    at : (o : Option Row) → is_true (option_and_then (λ (r : Row). slice_get r.values 0) o) ≡ false → (b : Bool)
        → is_true (option_and_then (λ (r : Row). slice_get r.values 0) (option_or o (cond b (Some (default_row a)) None))) ≡ false
    at (Some r) f b = f
    at None f true = falsy _ (both _ _ h).0
    at None f false = refl

    go : (with_default rs a ≡ rs) ⊎ ((with_default rs a ≡ rs ++ default_row a ∷ []) × (is_empty a.defaults ≡ false)) → is_true (first_of id (with_default rs a)) ≡ false
    go (inl x) = ap (λ y. is_true (first_of id y)) x ∙ e
    go (inr x) = ap (λ y. is_true (first_of id y)) x.0 ∙ (ap (λ o. is_true (option_and_then (λ (r : Row). slice_get r.values 0) o))
        (find-append (λ (y : Row). bytes_eq y.id id) rs (default_row a ∷ []))
        ∙ at (look rs id) e (bytes_eq a.id id))

pub read_flag : (v : Verb) (k : Key) (us : List Use) → is_true (first_of (id_of k) (done v us)) ≡ is_true (value k us)
read_flag v k us = go (find (is_of k) us) (found_row k us)
  where
    go : (o : Option Use) → look (rows us) (id_of k) ≡ option_map row o → is_true (first_of (id_of k) (done v us)) ≡ is_true (option_map (λ (u : Use). u.1) o)
    go None e = off (id_of k) (shape v).rules (rows us) (defaults_off v) (ap (λ o. is_true (option_and_then (λ (r : Row). slice_get r.values 0) o)) e)
    go (Some u) e = ap (λ o. is_true (option_and_then (λ (r : Row). slice_get r.values 0) o)) (stays (id_of k) (row u) (shape v).rules (rows us) e)

given_is : (v : Verb) (p : Place) (us : List Use) → is_given (operand_id p) (done v us) ≡ is_some (value (operand p) us)
given_is v p us = go (find (is_of (operand p)) us) (found_row (operand p) us)
  where
    go : (o : Option Use) → look (rows us) (operand_id p) ≡ option_map row o → is_given (operand_id p) (done v us) ≡ is_some (option_map (λ (u : Use). u.1) o)
    go None e = ap (λ o. option_map_or (λ (r : Row). explicit_source r.source) o false) (absent (operand_id p) (shape v).rules (rows us) (spared v (operand p) refl) e)
    go (Some u) e = ap (λ o. option_map_or (λ (r : Row). explicit_source r.source) o false) (stays (operand_id p) (row u) (shape v).rules (rows us) e)

abbrev pub lacks_one : Bool → Option Text → Option Text → Bool
lacks_one two a b = not (is_some a) || (cond two (not (is_some b)) false || false)

lacks_by : (v : Verb) (rs : List Row) → lacks v rs ≡ (not (is_given (codes "FIRST") rs) || (cond (has_two v) (not (is_given (codes "SECOND") rs)) false || false))
lacks_by Check rs = refl
lacks_by Eval rs = refl
lacks_by Run rs = refl
lacks_by Sim rs = refl
lacks_by Build rs = refl
lacks_by Exec rs = refl
lacks_by Gen rs = refl
lacks_by Selfrun rs = refl

pub lacks_is : (v : Verb) (us : List Use) → lacks v (done v us) ≡ lacks_one (has_two v) (value (operand first) us) (value (operand second) us)
lacks_is v us = lacks_by v (done v us) ∙ ap₂ (λ a b. not a || (cond (has_two v) (not b) false || false)) (given_is v first us) (given_is v second us)
