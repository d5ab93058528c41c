-- One word: what `clap` does at it, and what it says.
use Rattle.std.proofs.Common.{◌≡◌, ◌∙◌, Bool, cond, true, false, refl, sym, ap, List, [], ◌∷◌, ◌++◌, map, Option, Some, None, codes, ◌&&◌, ◌||◌, append-nil, true≢false}
use Rattle.std.specs.List.{list_any}
use Rattle.std.specs.Prelude.{⊤}
use Rattle.std.specs.Str.{bytes_eq}
use Rattle.clap.specs.Walk.{more_values, Row, Text, Held, Walk, Waiting, idle, option, at_row, without, with_values, used, reading_by, has_row, settled}
use Rattle.clap.specs.Faults.{use_fault, settle_fault}
use Rattle.clap.specs.Kinds.{Kinds, or_else}
use Rattle.clap.specs.declared.error.kind.ErrorKind.{ErrorKind}
use Rattle.clap.specs.declared.error.kind.ErrorKind.TheVariants as kind
use Rattle.clap.specs.declared.parser.matches.ValueSource.TheVariants.{CommandLine}
use Rattle.command_words.specs.declared.name.Verb.{Verb}
use Rattle.command_words.specs.declared.name.Setting.{Setting}
use Rattle.command_words.specs.declared.name.Setting.TheVariants.{Workers, Fuel, Frames, Script, Log, Report, Steps}
use Rattle.command_words.specs.Words.{has_setting, has_value}
use Rattle.command_words.specs.Line.{name_of}
use Rattle.command_words.proofs.Rules.{Key, setting, operand, Place, number, shape, id_of, built_of, has_key, by_key, setting_built}

-- an argument with its value
abbrev pub Use : Type 0
Use = Key × Text

abbrev pub row : Use → Row
row u = record { id = id_of u.0; values = u.1 ∷ []; count = None; source = Some CommandLine; reading = reading_by (built_of u.0) }

abbrev pub rows : List Use → List Row
rows uses = map row uses

abbrev pub is_used : Key → List Use → Bool
is_used k uses = list_any (λ (u : Use). bytes_eq (id_of u.0) (id_of k)) uses

-- one more, which is new
abbrev pub add : List Use → Use → Option (List Use)
add uses u = cond (is_used u.0 uses) None (Some (uses ++ u ∷ []))

-- what was read and is not yet used
pub data Pend : Type 0 where
  free : Pend
  full : Use → Pend
  opened : Setting → Pend

pub record State : Type 0 where
  pub uses : List Use
  pub pend : Pend
  pub place : Place

abbrev pub pending_of : Pend → Option (Text × List Text)
pending_of free = None
pending_of (full u) = Some (id_of u.0, u.1 ∷ [])
pending_of (opened s) = Some (id_of (setting s), [])

abbrev pub waits_for : Pend → Waiting
waits_for free = idle
waits_for (full u) = idle
waits_for (opened s) = option (id_of (setting s))

abbrev pub held_at : List Use → Pend → Held
held_at uses pend = record { rows = rows uses; pending = pending_of pend; skip = 0 }

abbrev pub walk_at : State → Walk
walk_at st = record { held = held_at st.uses st.pend; waiting = waits_for st.pend; position = number st.place; is_trailing = false; stopped = None }

abbrev pub is_valued : Key → Bool
is_valued (setting s) = has_value s
is_valued (operand p) = true

-- what is pending is an argument of the command, with a value
abbrev pub Stands : Verb → Pend → Type 0
Stands v free = ⊤
Stands v (full u) = (has_key v u.0 ≡ true) × (is_valued u.0 ≡ true)
Stands v (opened s) = (has_setting v s ≡ true) × (has_value s ≡ true)

-- ---- uses

pub row_of_use : (k : Key) (uses : List Use) → has_row (id_of k) (rows uses) ≡ is_used k uses
row_of_use k [] = refl
row_of_use k (u ∷ uses) = ap (λ b. bytes_eq (id_of u.0) (id_of k) || b) (row_of_use k uses)

pub at_none : (id : Text) (change : Row → List Row) (missing : List Row) (rs : List Row) → has_row id rs ≡ false → at_row id change missing rs ≡ rs ++ missing
at_none id change missing [] h = refl
at_none id change missing (r ∷ rs) h = go (bytes_eq r.id id) (at_none id change missing rs) h
  where
    go : (b : Bool) → (has_row id rs ≡ false → at_row id change missing rs ≡ rs ++ missing) → (b || has_row id rs) ≡ false
        → cond b (change r ++ rs) (r ∷ at_row id change missing rs) ≡ r ∷ (rs ++ missing)
    go true ih e = absurd (true≢false e)
    go false ih e = ap (λ l. r ∷ l) (ih e)

rows_more : (uses : List Use) (u : Use) → rows uses ++ row u ∷ [] ≡ rows (uses ++ u ∷ [])
rows_more [] u = refl
rows_more (x ∷ uses) u = ap (λ l. row x ∷ l) (rows_more uses u)

used_is : (k : Key) (t : Text) (rs : List Row) → used (built_of k) (t ∷ []) rs ≡ with_values (id_of k) (reading_by (built_of k)) CommandLine (t ∷ []) (without (id_of k) rs)
used_is (setting Workers) t rs = refl
used_is (setting Fuel) t rs = refl
used_is (setting Frames) t rs = refl
used_is (setting Script) t rs = refl
used_is (setting Log) t rs = refl
used_is (setting Report) t rs = refl
used_is (setting Steps) t rs = refl
used_is (operand p) t rs = refl

flag_is : (s : Setting) (rs : List Row) → has_value s ≡ false → used (setting_built s) [] rs ≡ used (setting_built s) (codes "true" ∷ []) rs
flag_is Report rs h = refl
flag_is Steps rs h = refl
flag_is _ rs h = cc

new_use : (k : Key) (t : Text) (uses : List Use) → is_used k uses ≡ false → used (built_of k) (t ∷ []) (rows uses) ≡ rows (uses ++ (k, t) ∷ [])
new_use k t uses h =
    let none : has_row (id_of k) (rows uses) ≡ false = row_of_use k uses ∙ h in
    let kept : without (id_of k) (rows uses) ≡ rows uses = at_none (id_of k) (λ _. []) [] (rows uses) none ∙ append-nil (rows uses) in
    used_is k t (rows uses) ∙ ap (λ rs. with_values (id_of k) (reading_by (built_of k)) CommandLine (t ∷ []) rs) kept
    ∙ at_none (id_of k) (more_values CommandLine (t ∷ [])) (row (k, t) ∷ []) (rows uses) none ∙ rows_more uses (k, t)

abbrev clash : Bool → Kinds
clash b = cond b (kind.ArgumentConflict ∷ []) []

repeats : (b : Bool) → or_else (cond (b && true) (kind.ArgumentConflict ∷ []) []) [] ≡ clash b
repeats true = refl
repeats false = refl

fault_is : (k : Key) (t : Text) (rs : List Row) → is_valued k ≡ true → use_fault false (built_of k) (t ∷ []) rs ≡ clash (has_row (id_of k) rs)
fault_is (setting Workers) t rs h = repeats (has_row (id_of (setting Workers)) rs)
fault_is (setting Fuel) t rs h = repeats (has_row (id_of (setting Fuel)) rs)
fault_is (setting Frames) t rs h = repeats (has_row (id_of (setting Frames)) rs)
fault_is (setting Script) t rs h = repeats (has_row (id_of (setting Script)) rs)
fault_is (setting Log) t rs h = repeats (has_row (id_of (setting Log)) rs)
fault_is (setting Report) t rs h = cc
fault_is (setting Steps) t rs h = cc
fault_is (operand p) t rs h = repeats (has_row (id_of (operand p)) rs)

flag_fault_is : (s : Setting) (rs : List Row) → has_value s ≡ false → use_fault false (setting_built s) [] rs ≡ clash (has_row (name_of s) rs)
flag_fault_is Report rs h = repeats (has_row (name_of Report) rs)
flag_fault_is Steps rs h = repeats (has_row (name_of Steps) rs)
flag_fault_is _ rs h = cc

empty_fault : (s : Setting) (rs : List Row) → has_value s ≡ true → use_fault false (setting_built s) [] rs ≡ kind.InvalidValue ∷ []
empty_fault Workers rs h = refl
empty_fault Fuel rs h = refl
empty_fault Frames rs h = refl
empty_fault Script rs h = refl
empty_fault Log rs h = refl
empty_fault _ rs h = cc

-- what is added to the rows, or the fault
abbrev pub AddsRows : Kinds → List Row → Option (List Use) → Type 0
AddsRows f rs (Some uses) = (f ≡ []) × (rs ≡ rows uses)
AddsRows f rs None = f ≡ [] → ⊥

pub some_fault : (k : ErrorKind) (ks : Kinds) → k ∷ ks ≡ [] → ⊥
some_fault k ks e = cc

pub add_value : (k : Key) (t : Text) (uses : List Use) → is_valued k ≡ true → AddsRows (use_fault false (built_of k) (t ∷ []) (rows uses)) (used (built_of k) (t ∷ []) (rows uses)) (add uses (k, t))
add_value k t uses h = go (is_used k uses) refl
  where
    faults : use_fault false (built_of k) (t ∷ []) (rows uses) ≡ clash (is_used k uses)
    faults = fault_is k t (rows uses) h ∙ ap clash (row_of_use k uses)

    go : (b : Bool) → is_used k uses ≡ b → AddsRows (use_fault false (built_of k) (t ∷ []) (rows uses)) (used (built_of k) (t ∷ []) (rows uses)) (cond b None (Some (uses ++ (k, t) ∷ [])))
    go true e = λ f. some_fault _ _ (sym (faults ∙ ap clash e) ∙ f)
    go false e = (faults ∙ ap clash e, new_use k t uses e)

pub add_flag : (s : Setting) (uses : List Use) → has_value s ≡ false → AddsRows (use_fault false (setting_built s) [] (rows uses)) (used (setting_built s) [] (rows uses))
    (add uses (setting s, codes "true"))
add_flag s uses h = go (is_used (setting s) uses) refl
  where
    faults : use_fault false (setting_built s) [] (rows uses) ≡ clash (is_used (setting s) uses)
    faults = flag_fault_is s (rows uses) h ∙ ap clash (row_of_use (setting s) uses)

    go : (b : Bool) → is_used (setting s) uses ≡ b → AddsRows (use_fault false (setting_built s) [] (rows uses)) (used (setting_built s) [] (rows uses))
        (cond b None (Some (uses ++ (setting s, codes "true") ∷ [])))
    go true e = λ f. some_fault _ _ (sym (faults ∙ ap clash e) ∙ f)
    go false e = (faults ∙ ap clash e, flag_is s (rows uses) h ∙ new_use (setting s) (codes "true") uses e)

-- ---- what is pending is used

abbrev pub settle : List Use → Pend → Option (List Use)
settle uses free = Some uses
settle uses (full u) = add uses u
settle uses (opened s) = None

abbrev pub Settles : Kinds → Held → Option (List Use) → Type 0
Settles f h (Some uses) = (f ≡ []) × (h ≡ held_at uses free)
Settles f h None = f ≡ [] → ⊥

pub settles : (v : Verb) (uses : List Use) (pend : Pend) → Stands v pend
    → Settles (settle_fault (shape v).rules false (held_at uses pend)) (settled (shape v).rules (held_at uses pend)) (settle uses pend)
settles v uses free h = (refl, refl)
settles v uses (opened s) h =
    let found = by_key v (setting s) h.0 in
    rw found (λ f. some_fault _ _ (sym (empty_fault s (rows uses) h.1) ∙ f))
settles v uses (full u) h =
    let found = by_key v u.0 h.0 in
    rw found (go (add uses u) (add_value u.0 u.1 uses h.1))
  where
    go : (o : Option (List Use)) → AddsRows (use_fault false (built_of u.0) (u.1 ∷ []) (rows uses)) (used (built_of u.0) (u.1 ∷ []) (rows uses)) o
        → Settles (use_fault false (built_of u.0) (u.1 ∷ []) (rows uses)) (record { rows = used (built_of u.0) (u.1 ∷ []) (rows uses); pending = None; skip = 0 }) o
    go None a = a
    go (Some next) a = (a.0, ap (λ rs. record { rows = rs; pending = None; skip = 0 }) a.1)
