-- What `clap` does at a word that can be read is what the word says.
use Rattle.std.proofs.Common.{◌≡◌, ◌∙◌, Bool, cond, true, false, refl, sym, ap, subst, List, [], ◌∷◌, Option, Some, None, codes}
use Rattle.std.specs.Prelude.{⊤, option_and_then}
use Rattle.clap.specs.Walk.{Rule, Row, Text, Held, Walk, Waiting, Step, idle, option, positional, value, word_met, plain_word, option_word, settled, reacted, walked, arg_by_id, arg_by_long}
use Rattle.clap.specs.Walk.{arg_by_index, after_flag, long_met, after_step, long_word, takes_values}
use Rattle.clap.specs.Faults.{use_fault, settle_fault, long_fault}
use Rattle.clap.specs.Kinds.{Kinds, or_else}
use Rattle.clap.specs.Walk.{subcommand_met, long_or_other, is_pending, takes_several, to_positional}
use Rattle.clap.specs.Faults.{step_fault}
use Rattle.command_words.specs.declared.name.Verb.{Verb}
use Rattle.command_words.specs.declared.name.Setting.{Setting}
use Rattle.command_words.specs.Words.{Saying, says, opens, wrong, has_setting, has_value, says_behind, word_says, name_says, pair_says, is_plain, is_equals, has_equals, setting_named}
use Rattle.command_words.specs.Words as words
use Rattle.command_words.specs.Line.{name_of}
use Rattle.command_words.proofs.Rules.{setting, operand, Place, first, second, past, number, shape, has_place, setting_built}
use Rattle.command_words.proofs.Steps.{some_fault, Use, rows, add, Pend, free, full, opened, State, held_at, walk_at, Stands, AddsRows, Settles, settle, settles, add_value, add_flag}
use Rattle.command_words.proofs.Names.{allowed, takes}

abbrev pub next : Place → Place
next first = second
next second = past
next past = past

-- the state after a word, by what it says, behind no option that waits
abbrev pub placed : Verb → Place → Text → List Use → Option State
placed v place t uses = cond (has_place v place) (Some (record { uses = uses; pend = full (operand place, t); place = next place })) None

abbrev pub joined : Place → List Use → Option State
joined place uses = Some (record { uses = uses; pend = free; place = place })

abbrev pub said : Verb → List Use → Place → Saying → Option State
said v uses place (says (words.operand t)) = placed v place t uses
said v uses place (says (words.option s t)) = option_and_then (joined place) (add uses (setting s, t))
said v uses place (says (words.flag s)) = option_and_then (joined place) (add uses (setting s, codes "true"))
said v uses place (opens s) = Some (record { uses = uses; pend = opened s; place = place })
said v uses place wrong = None

abbrev pub filled : List Use → Place → Saying → Option State
filled uses place (says (words.option s t)) = Some (record { uses = uses; pend = full (setting s, t); place = place })
filled uses place _ = None

-- the state after a word
abbrev pub step_of : Verb → List Use → Pend → Place → Text → Option State
step_of v uses (opened s) place word = filled uses place (says_behind v (Some s) word)
step_of v uses pend place word = option_and_then (λ (us : List Use). said v us place (word_says v word)) (settle uses pend)

abbrev pub step : Verb → State → Text → Option State
step v st word = step_of v st.uses st.pend st.place word

-- clap's faults and its walk are those of the state, if there is one
abbrev pub Agrees : Verb → Kinds → Walk → Option State → Type 0
Agrees v f w (Some st) = (f ≡ []) × (w ≡ walk_at st) × Stands v st.pend
Agrees v f w None = f ≡ [] → ⊥

pub first_empty : (a b : Kinds) → or_else a b ≡ [] → a ≡ []
first_empty [] b e = refl
first_empty (k ∷ ks) b e = absurd (some_fault k ks e)

pub second_empty : (a b : Kinds) → or_else a b ≡ [] → b ≡ []
second_empty [] b e = e
second_empty (k ∷ ks) b e = absurd (some_fault k ks e)

pub both_empty : (a b : Kinds) → a ≡ [] → b ≡ [] → or_else a b ≡ []
both_empty a b e f = ap (λ x. or_else x b) e ∙ f

abbrev pub walk_with : List Row → Place → Walk
walk_with rs place = record { held = record { rows = rs; pending = None; skip = 0 }; waiting = idle; position = number place; is_trailing = false; stopped = None }

-- what is pending is used, and then one argument more
reacts : (v : Verb) (place : Place) (u : Use) (f : List Row → Kinds) (g : List Row → List Row) → ((us : List Use) → AddsRows (f (rows us)) (g (rows us)) (add us u))
    → (F : Kinds) (H : Held) (o : Option (List Use)) → Settles F H o
    → Agrees v (or_else (or_else F (f H.rows)) []) (walk_with (g H.rows) place) (option_and_then (λ (us : List Use). option_and_then (joined place) (add us u)) o)
reacts v place u f g adds F H None h = λ e. h (first_empty F _ (first_empty (or_else F (f H.rows)) [] e))
reacts v place u f g adds F H (Some us) h = go (add us u) (adds us)
  where
    at : H.rows ≡ rows us
    at = ap (λ (x : Held). x.rows) h.1

    go : (o : Option (List Use)) → AddsRows (f (rows us)) (g (rows us)) o → Agrees v (or_else (or_else F (f H.rows)) []) (walk_with (g H.rows) place) (option_and_then (joined place) o)
    go None a = λ e. a (sym (ap f at) ∙ second_empty F _ (first_empty (or_else F (f H.rows)) [] e))
    go (Some more) a = (
      both_empty _ [] (both_empty F _ h.0 (ap f at ∙ a.0)) refl,
      ap (λ rs. walk_with rs place) (ap g at ∙ a.1),
      tt,
    )

-- ---- `--name` and `--name=value`

abbrev pub after_long : Verb → Waiting → Place → Text → Held → Option Rule → Option Text → Held × Step
after_long v waiting place word h found val = after_flag (shape v).rules waiting word (long_met (shape v).rules found val h).0 (long_met (shape v).rules found val h).1

abbrev pub long_turn : Verb → Waiting → Place → Text → Held → Option Rule → Option Text → Kinds
long_turn v waiting place word h found val =
    or_else (long_fault (shape v).rules false found val h)
    (step_fault (shape v) (number place) (after_long v waiting place word h found val).0 (after_long v waiting place word h found val).1)

abbrev pub walk_held : Held → Waiting → Place → Walk
walk_held h waiting place = record { held = h; waiting = waiting; position = number place; is_trailing = false; stopped = None }

abbrev pub long_walk : Verb → Waiting → Place → Text → Held → Option Rule → Option Text → Walk
long_walk v waiting place word h found val =
    after_step (shape v).rules word (walk_held h waiting place) (after_long v waiting place word h found val).0 (after_long v waiting place word h found val).1

-- what a long word says
abbrev pub long_says : Verb → Option Setting → Option Text → Saying
long_says v so None = name_says v so
long_says v so (Some t) = pair_says v so t

abbrev pub IsPlainValue : Option Text → Type 0
IsPlainValue None = ⊤
IsPlainValue (Some t) = is_plain t ≡ true

module _ (v : Verb) (waiting : Waiting) (place : Place) (word : Text) (uses : List Use) (pend : Pend) (h : Stands v pend) where
  abbrev pub here : Held
  here = held_at uses pend

  abbrev pub Long : Option Setting → Option Text → Option Rule → Saying → Type 0
  Long so val found what = Agrees v (long_turn v waiting place word here found val) (long_walk v waiting place word here found val)
      (option_and_then (λ (us : List Use). said v us place what) (settle uses pend))

  nothing : (f : Kinds) (w : Walk) → (f ≡ [] → ⊥) → (o : Option (List Use)) → Agrees v f w (option_and_then (λ (us : List Use). said v us place wrong) o)
  nothing f w bad None = bad
  nothing f w bad (Some us) = bad

  unknown : (val : Option Text) → Long None val None wrong
  unknown val = nothing _ _ (λ e. some_fault _ _ e) (settle uses pend)

  valued : (s : Setting) (val : Option Text) → IsPlainValue val → has_setting v s ≡ true → (b : Bool) → has_value s ≡ b → Long (Some s) val (Some (setting_built s)) (long_says v (Some s) val)
  valued s (Some t) plain has true e =
      let what : long_says v (Some s) (Some t) ≡ says (words.option s t) = rw (has, e, plain) refl in
      rw (what, takes s ∙ e)
      (reacts v place (setting s, t) (λ rs. use_fault false (setting_built s) (t ∷ []) rs) (λ rs. Rattle.clap.specs.Walk.used (setting_built s) (t ∷ []) rs) (λ us. add_value (setting s) t us e) _ _
      (settle uses pend) (settles v uses pend h))
  valued s (Some t) plain has false e =
      let what : long_says v (Some s) (Some t) ≡ wrong = rw (has, e) refl in
      rw (what, takes s ∙ e) (nothing _ _ (λ f. some_fault _ _ f) (settle uses pend))
  valued s None plain has false e =
      let what : long_says v (Some s) None ≡ says (words.flag s) = rw (has, e) refl in
      rw (what, takes s ∙ e)
      (reacts v place (setting s, codes "true") (λ rs. use_fault false (setting_built s) [] rs) (λ rs. Rattle.clap.specs.Walk.used (setting_built s) [] rs) (λ us. add_flag s us e) _ _
      (settle uses pend) (settles v uses pend h))
  valued s None plain has true e =
      let what : long_says v (Some s) None ≡ opens s = rw (has, e) refl in
      rw (what, takes s ∙ e) (go (settle uses pend) (settles v uses pend h))
    where
      go : (o : Option (List Use)) → Settles (settle_fault (shape v).rules false here) (settled (shape v).rules here) o
          → Agrees v (or_else (settle_fault (shape v).rules false here) []) (walk_held (record (settled (shape v).rules here) { pending = Some (name_of s, []) }) (option (name_of s)) place)
          (option_and_then (λ (us : List Use). Some (record { uses = us; pend = opened s; place = place })) o)
      go None a = λ f. a (first_empty _ [] f)
      go (Some us) a = (both_empty _ [] a.0 refl, ap (λ (x : Held). walk_held (record x { pending = Some (name_of s, []) }) (option (name_of s)) place) a.1, (has, e))

  pub any : (so : Option Setting) (val : Option Text) → IsPlainValue val → Long so val (allowed v so) (long_says v so val)
  any None None plain = unknown None
  any None (Some t) plain = unknown (Some t)
  any (Some s) val plain = go (has_setting v s) refl
    where
      refuse : (val : Option Text) → has_setting v s ≡ false → long_says v (Some s) val ≡ wrong
      refuse None e = rw e refl
      refuse (Some t) e = rw e refl

      found : (b : Bool) → has_setting v s ≡ b → allowed v (Some s) ≡ cond b (Some (setting_built s)) None
      found b e = ap (λ x. cond x (Some (setting_built s)) None) e

      go : (b : Bool) → has_setting v s ≡ b → Long (Some s) val (allowed v (Some s)) (long_says v (Some s) val)
      go true e = subst (λ f. Long (Some s) val f (long_says v (Some s) val)) (sym (found true e)) (valued s val plain e (has_value s) refl)
      go false e = subst (λ f. Long (Some s) val f (long_says v (Some s) val)) (sym (found false e)) (subst (λ w. Long (Some s) val None w) (sym (refuse val e)) (unknown val))
