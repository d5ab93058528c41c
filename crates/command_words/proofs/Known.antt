-- The command that the words give is the one that is read from what `clap` found.
use Rattle.std.proofs.Common.{◌≡◌, ◌∙◌, ℕ, zero, suc, ◌+◌, Bool, cond, true, false, refl, sym, ap, ap₂, subst, arith, List, [], ◌∷◌, take, Option, Some, None, codes, inl, inr, ◌&&◌, ◌||◌, ◌==◌, not}
use Rattle.std.proofs.Common.{true≢false, nat_lt, is_some}
use Rattle.std.specs.List.{find, list_all, before_first, after_first, position_or_len}
use Rattle.std.specs.Prelude.{⊤, option_map}
use Rattle.std.specs.Str.{bytes_eq}
use Rattle.std.specs.Cmp.Lexicographic.{same_text}
use Rattle.clap.proofs.WalkLemmas.{first_value-rows}
use Rattle.clap.specs.Walk.{Text, first_of, rows_of}
use Rattle.clap.specs.Simple.{matches_of}
use Rattle.clap.specs.Faults.{fault_of}
use Rattle.clap.specs.Matches.{first_value}
use Rattle.clap.specs.declared.parser.matches.Found.{Found}
use Rattle.command_words.specs.declared.name.Verb.{Verb}
use Rattle.command_words.specs.declared.name.Verb.TheVariants.{Check, Eval, Run, Sim, Build, Exec, Gen, Selfrun}
use Rattle.command_words.specs.declared.name.Setting.{Setting}
use Rattle.command_words.specs.declared.name.Setting.TheVariants.{Workers, Fuel, Frames, Script, Log, Report, Steps}
use Rattle.command_words.specs.Commands as commands
use Rattle.command_words.specs.Words.{Part, Saying, says, opens, wrong, has_setting, has_value, says_behind, word_says, name_says, pair_says, is_plain, is_equals, has_equals, setting_named}
use Rattle.command_words.specs.Words.{parts_behind, parts_by, in_front, is_same, is_about, is_set, value_in, value_by, or_else, operands_in, operand_in, are_single, one_in, two_in, of_two, of_three}
use Rattle.command_words.specs.Words.{number_or, numbers_in, flags_in, command_by, command_with, command_behind}
use Rattle.command_words.specs.Words as words
use Rattle.command_words.specs.Line.{name_of, is_named, is_readable, line_of, has_two}
use Rattle.command_words.specs.Found.{is_true, first_found, both_found, flags_found, command_found}
use Rattle.command_words.proofs.Rules.{Key, setting, operand, Place, first, second, past, operand_id}
use Rattle.command_words.proofs.Steps.{Use, free}
use Rattle.command_words.proofs.Turns.{next}
use Rattle.command_words.proofs.Taken.{final, taken}
use Rattle.command_words.proofs.Taken as takes
use Rattle.command_words.proofs.Amounts.{is_of, uses_from, fits, tally, tally_is, named_same, place_named, named_place, Took, took}
use Rattle.command_words.proofs.Levels.{Verdict, verdict, done, lacks, lacking, lacks_one, lacks_is, value, read_value, read_flag}

-- ---- parts say values for options, and none for flags

abbrev is_sound : Part → Bool
is_sound (words.operand t) = true
is_sound (words.option s t) = has_value s
is_sound (words.flag s) = not (has_value s)

abbrev SoundSaying : Saying → Type 0
SoundSaying (says part) = is_sound part ≡ true
SoundSaying (opens s) = has_value s ≡ true
SoundSaying wrong = ⊤

abbrev SoundParts : Option (List Part) → Type 0
SoundParts None = ⊤
SoundParts (Some ps) = list_all is_sound ps ≡ true

abbrev SoundWaiting : Option Setting → Type 0
SoundWaiting None = ⊤
SoundWaiting (Some s) = has_value s ≡ true

either : (b : Bool) (x y : Saying) → SoundSaying x → SoundSaying y → SoundSaying (cond b x y)
either true x y a b = a
either false x y a b = b

sound_pair : (v : Verb) (so : Option Setting) (t : Text) → SoundSaying (pair_says v so t)
sound_pair v None t = tt
sound_pair v (Some s) t = go (has_setting v s) (has_value s) refl (is_plain t)
  where
    go : (a b : Bool) → has_value s ≡ b → (c : Bool) → SoundSaying (cond (a && (b && c)) (says (words.option s t)) wrong)
    go true true e true = e
    go true true e false = tt
    go true false e c = tt
    go false b e c = tt

sound_name : (v : Verb) (so : Option Setting) → SoundSaying (name_says v so)
sound_name v None = tt
sound_name v (Some s) = go (has_setting v s) (has_value s) refl
  where
    go : (a b : Bool) → has_value s ≡ b → SoundSaying (cond a (cond b (opens s) (says (words.flag s))) wrong)
    go true true e = e
    go true false e = ap not e
    go false b e = tt

sound_says : (v : Verb) (w : Option Setting) (word : Text) → SoundWaiting w → SoundSaying (says_behind v w word)
sound_says v None word h = either (is_plain word) _ _ refl (either (has_equals word) _ _ (sound_pair v (setting_named (before_first is_equals word)) (after_first is_equals word))
    (sound_name v (setting_named word)))
sound_says v (Some s) word h = either (is_plain word) _ wrong h tt

sound_front : (part : Part) (o : Option (List Part)) → is_sound part ≡ true → SoundParts o → SoundParts (in_front part o)
sound_front part None h s = tt
sound_front part (Some ps) h s = ap₂ (λ a b. a && b) h s

sound_by : (v : Verb) (what : Saying) (ws : List Text) → SoundSaying what → ((w : Option Setting) → SoundWaiting w → SoundParts (parts_behind v w ws))
    → SoundParts (parts_by what (λ n. parts_behind v n ws))
sound_by v (says part) ws h ih = sound_front part (parts_behind v None ws) h (ih None tt)
sound_by v (opens s) ws h ih = ih (Some s) h
sound_by v wrong ws h ih = tt

sound_parts : (v : Verb) (w : Option Setting) (ws : List Text) → SoundWaiting w → SoundParts (parts_behind v w ws)
sound_parts v None [] h = refl
sound_parts v (Some s) [] h = tt
sound_parts v None (word ∷ ws) h = sound_by v (says_behind v None word) ws (sound_says v None word h) (λ w r. sound_parts v w ws r)
sound_parts v (Some s) (word ∷ ws) h = sound_by v (says_behind v (Some s) word) ws (sound_says v (Some s) word h) (λ w r. sound_parts v w ws r)

-- ---- values of parts

both : (a b : Bool) → (a && b) ≡ true → (a ≡ true) × (b ≡ true)
both true b e = (refl, e)
both false b e = absurd (true≢false (sym e))

other_kind : (o s : Setting) → has_value o ≡ false → has_value s ≡ true → is_same o s ≡ false
other_kind Report Workers h e = refl
other_kind Report Fuel h e = refl
other_kind Report Frames h e = refl
other_kind Report Script h e = refl
other_kind Report Log h e = refl
other_kind Report Report h e = cc
other_kind Report Steps h e = cc
other_kind Steps Workers h e = refl
other_kind Steps Fuel h e = refl
other_kind Steps Frames h e = refl
other_kind Steps Script h e = refl
other_kind Steps Log h e = refl
other_kind Steps Report h e = cc
other_kind Steps Steps h e = cc
other_kind Workers s h e = cc
other_kind Fuel s h e = cc
other_kind Frames s h e = cc
other_kind Script s h e = cc
other_kind Log s h e = cc

other_flag : (o s : Setting) → has_value o ≡ true → has_value s ≡ false → is_same o s ≡ false
other_flag Workers Report h e = refl
other_flag Workers Steps h e = refl
other_flag Workers Workers h e = cc
other_flag Workers Fuel h e = cc
other_flag Workers Frames h e = cc
other_flag Workers Script h e = cc
other_flag Workers Log h e = cc
other_flag Fuel Report h e = refl
other_flag Fuel Steps h e = refl
other_flag Fuel Workers h e = cc
other_flag Fuel Fuel h e = cc
other_flag Fuel Frames h e = cc
other_flag Fuel Script h e = cc
other_flag Fuel Log h e = cc
other_flag Frames Report h e = refl
other_flag Frames Steps h e = refl
other_flag Frames Workers h e = cc
other_flag Frames Fuel h e = cc
other_flag Frames Frames h e = cc
other_flag Frames Script h e = cc
other_flag Frames Log h e = cc
other_flag Script Report h e = refl
other_flag Script Steps h e = refl
other_flag Script Workers h e = cc
other_flag Script Fuel h e = cc
other_flag Script Frames h e = cc
other_flag Script Script h e = cc
other_flag Script Log h e = cc
other_flag Log Report h e = refl
other_flag Log Steps h e = refl
other_flag Log Workers h e = cc
other_flag Log Fuel h e = cc
other_flag Log Frames h e = cc
other_flag Log Script h e = cc
other_flag Log Log h e = cc
other_flag Report s h e = cc
other_flag Steps s h e = cc

-- one more in front
value_more : (k : Key) (u : Use) (us : List Use) (b : Bool) → is_of k u ≡ b → value k (u ∷ us) ≡ cond b (Some u.1) (value k us)
value_more k u us true e = ap (λ b. option_map (λ (x : Use). x.1) (cond b (Some u) (find (is_of k) us))) e
value_more k u us false e = ap (λ b. option_map (λ (x : Use). x.1) (cond b (Some u) (find (is_of k) us))) e

option_value : (s : Setting) (p : Place) (ps : List Part) → has_value s ≡ true → list_all is_sound ps ≡ true → value (setting s) (uses_from p ps) ≡ value_in s ps
option_value s p [] h sound = refl
option_value s p (words.operand t ∷ ps) h sound = value_more (setting s) (operand p, t) _ false (place_named p s) ∙ option_value s (next p) ps h sound
option_value s p (words.option o t ∷ ps) h sound = go (is_same o s) refl (option_value s p ps h (both _ _ sound).1)
  where
    go : (b : Bool) → is_same o s ≡ b → value (setting s) (uses_from p ps) ≡ value_in s ps → value (setting s) ((setting o, t) ∷ uses_from p ps) ≡ or_else (cond (is_same o s) (Some t) None)
        (value_in s ps)
    go true e ih = value_more (setting s) (setting o, t) _ true (named_same o s ∙ e) ∙ sym (ap (λ b. or_else (cond b (Some t) None) (value_in s ps)) e)
    go false e ih = value_more (setting s) (setting o, t) _ false (named_same o s ∙ e) ∙ (ih ∙ sym (ap (λ b. or_else (cond b (Some t) None) (value_in s ps)) e))
option_value s p (words.flag o ∷ ps) h sound =
    value_more (setting s) (setting o, codes "true") _ false (named_same o s ∙ other_kind o s (flag_false (has_value o) (both _ _ sound).0) h) ∙ option_value s p ps h (both _ _ sound).1
  where
    flag_false : (b : Bool) → not b ≡ true → b ≡ false
    flag_false true e = sym e
    flag_false false e = refl

flag_value : (s : Setting) (p : Place) (ps : List Part) → has_value s ≡ false → list_all is_sound ps ≡ true → is_true (value (setting s) (uses_from p ps)) ≡ nat_lt 0 (tally (is_about s) ps)
flag_value s p [] h sound = refl
flag_value s p (words.operand t ∷ ps) h sound = ap is_true (value_more (setting s) (operand p, t) _ false (place_named p s)) ∙ (flag_value s (next p) ps h sound ∙ same_tally (tally (is_about s) ps))
  where
    same_tally : (n : ℕ) → nat_lt 0 n ≡ nat_lt 0 (0 + n)
    same_tally n = grind arith
flag_value s p (words.option o t ∷ ps) h sound =
    let differ : is_same o s ≡ false = other_flag o s (both _ _ sound).0 h in
    ap is_true (value_more (setting s) (setting o, t) _ false (named_same o s ∙ differ)) ∙ (flag_value s p ps h (both _ _ sound).1
    ∙ (same_tally (tally (is_about s) ps) ∙ sym (ap (λ b. nat_lt 0 (cond b 1 0 + tally (is_about s) ps)) differ)))
  where
    same_tally : (n : ℕ) → nat_lt 0 n ≡ nat_lt 0 (0 + n)
    same_tally n = grind arith
flag_value s p (words.flag o ∷ ps) h sound = go (is_same o s) refl (flag_value s p ps h (both _ _ sound).1)
  where
    same_tally : (n : ℕ) → nat_lt 0 n ≡ nat_lt 0 (0 + n)
    same_tally n = grind arith

    some_tally : (n : ℕ) → true ≡ nat_lt 0 (1 + n)
    some_tally n = grind arith

    go : (b : Bool) → is_same o s ≡ b → is_true (value (setting s) (uses_from p ps)) ≡ nat_lt 0 (tally (is_about s) ps)
        → is_true (value (setting s) ((setting o, codes "true") ∷ uses_from p ps)) ≡ nat_lt 0 (cond (is_same o s) 1 0 + tally (is_about s) ps)
    go true e ih = ap is_true (value_more (setting s) (setting o, codes "true") _ true (named_same o s ∙ e))
        ∙ (some_tally (tally (is_about s) ps) ∙ sym (ap (λ b. nat_lt 0 (cond b 1 0 + tally (is_about s) ps)) e))
    go false e ih = ap is_true (value_more (setting s) (setting o, codes "true") _ false (named_same o s ∙ e))
        ∙ (ih ∙ (same_tally (tally (is_about s) ps) ∙ sym (ap (λ b. nat_lt 0 (cond b 1 0 + tally (is_about s) ps)) e)))

-- the operand at a place
abbrev pick : Place → Place → List Text → Option Text
pick q p [] = None
pick q p (t ∷ ts) = cond (bytes_eq (operand_id p) (operand_id q)) (Some t) (pick q (next p) ts)

place_value : (q p : Place) (ps : List Part) → value (operand q) (uses_from p ps) ≡ pick q p (operands_in ps)
place_value q p [] = refl
place_value q p (words.operand t ∷ ps) = value_more (operand q) (operand p, t) _ (bytes_eq (operand_id p) (operand_id q)) refl
    ∙ ap (λ o. cond (bytes_eq (operand_id p) (operand_id q)) (Some t) o) (place_value q (next p) ps)
place_value q p (words.option o t ∷ ps) = value_more (operand q) (setting o, t) _ false (named_place o q) ∙ place_value q p ps
place_value q p (words.flag o ∷ ps) = value_more (operand q) (setting o, codes "true") _ false (named_place o q) ∙ place_value q p ps

and_false : (b : Bool) → (b && false) ≡ true → ⊥
and_false true e = true≢false (sym e)
and_false false e = true≢false (sym e)

one_picked : (v : Verb) (ts : List Text) → has_two v ≡ false → fits v first ts ≡ true → one_in ts ≡ pick first first ts
one_picked v [] h f = refl
one_picked v (a ∷ []) h f = refl
one_picked v (a ∷ b ∷ ts) h f = absurd (true≢false (sym (sym (ap (λ x. x && fits v past ts) h) ∙ f)))

two_picked : (v : Verb) (ts : List Text) → fits v first ts ≡ true → two_in ts ≡ of_two (λ a b. (a, b)) (pick first first ts) (pick second first ts)
two_picked v [] f = refl
two_picked v (a ∷ []) f = refl
two_picked v (a ∷ b ∷ []) f = refl
two_picked v (a ∷ b ∷ c ∷ ts) f = absurd (and_false (has_two v) f)

one_unfit : (v : Verb) (ts : List Text) → fits v first ts ≡ false → one_in ts ≡ None
one_unfit v [] f = cc
one_unfit v (a ∷ []) f = cc
one_unfit v (a ∷ b ∷ ts) f = refl

two_unfit : (v : Verb) (ts : List Text) → has_two v ≡ true → fits v first ts ≡ false → two_in ts ≡ None
two_unfit v [] h f = cc
two_unfit v (a ∷ []) h f = cc
two_unfit v (a ∷ b ∷ []) h f = absurd (true≢false (sym (ap (λ x. x && true) h) ∙ f))
two_unfit v (a ∷ b ∷ c ∷ ts) h f = refl

-- ---- commands

no_command : (v : Verb) (ts : List Text) (ps : List Part) → (has_two v ≡ false → one_in ts ≡ None) → (has_two v ≡ true → two_in ts ≡ None) → command_by v ts ps ≡ None
no_command Check ts ps a b = ap (option_map commands.check) (a refl)
no_command Eval ts ps a b = ap (option_map commands.eval) (a refl)
no_command Run ts ps a b = ap (λ o. of_two commands.run o (flags_in ps)) (a refl)
no_command Sim ts ps a b = ap (option_map (λ (files : Text × Text). commands.sim files.0 files.1 (value_in Log ps))) (b refl)
no_command Build ts ps a b = ap (option_map (λ (files : Text × Text). commands.build files.0 files.1)) (b refl)
no_command Exec ts ps a b = ap (λ o. of_two commands.exec o (flags_in ps)) (a refl)
no_command Gen ts ps a b = ap (λ o. option_map (λ (n : ℕ × ℕ). commands.gen n.0 n.1) (numbers_in o)) (b refl)
no_command Selfrun ts ps a b = ap (λ o. option_map (λ (n : ℕ × ℕ). commands.selfrun n.0 n.1) (numbers_in o)) (b refl)

same_command : (v : Verb) (ts : List Text) (ps : List Part) (f : Found) → (has_two v ≡ false → one_in ts ≡ first_found f) → (has_two v ≡ true → two_in ts ≡ both_found f)
    → value_in Log ps ≡ first_value f (codes "log") → flags_in ps ≡ flags_found f → command_by v ts ps ≡ command_found v f
same_command Check ts ps f a b l fl = ap (option_map commands.check) (a refl)
same_command Eval ts ps f a b l fl = ap (option_map commands.eval) (a refl)
same_command Run ts ps f a b l fl = ap₂ (of_two commands.run) (a refl) fl
same_command Sim ts ps f a b l fl = ap₂ (λ (log : Option Text) o. option_map (λ (files : Text × Text). commands.sim files.0 files.1 log) o) l (b refl)
same_command Build ts ps f a b l fl = ap (option_map (λ (files : Text × Text). commands.build files.0 files.1)) (b refl)
same_command Exec ts ps f a b l fl = ap₂ (of_two commands.exec) (a refl) fl
same_command Gen ts ps f a b l fl = ap (λ o. option_map (λ (n : ℕ × ℕ). commands.gen n.0 n.1) (numbers_in o)) (b refl)
same_command Selfrun ts ps f a b l fl = ap (λ o. option_map (λ (n : ℕ × ℕ). commands.selfrun n.0 n.1) (numbers_in o)) (b refl)

module _ (v : Verb) (ws : List Text) (f : Found) (kept : rows_of f ≡ matches_of (line_of v) ws) (us : List Use) (left : matches_of (line_of v) ws ≡ done v us)
    (ps : List Part) (these : us ≡ uses_from first ps) (sound : list_all is_sound ps ≡ true) where
  read : (id : Text) → first_value f id ≡ first_of id (done v us)
  read id = first_value-rows f id ∙ ap (first_of id) (kept ∙ left)

  read_option : (s : Setting) → has_value s ≡ true → value_in s ps ≡ first_value f (name_of s)
  read_option s h = sym (read (name_of s) ∙ (read_value v (setting s) us h ∙ (ap (value (setting s)) these ∙ option_value s first ps h sound)))

  read_set : (s : Setting) → has_value s ≡ false → is_set s ps ≡ is_true (first_value f (name_of s))
  read_set s h =
      ap (nat_lt 0) (tally_is (is_about s) ps)
      ∙ sym (ap is_true (read (name_of s)) ∙ (read_flag v (setting s) us ∙ (ap (λ l. is_true (value (setting s) l)) these ∙ flag_value s first ps h sound)))

  read_place : (p : Place) → pick p first (operands_in ps) ≡ first_value f (operand_id p)
  read_place p = sym (read (operand_id p) ∙ (read_value v (operand p) us refl ∙ (ap (value (operand p)) these ∙ place_value p first ps)))

  read_flags : flags_in ps ≡ flags_found f
  read_flags = λ i. of_three (λ workers fuel frames. record {
    workers = workers;
    fuel = fuel;
    frames = frames;
    script = read_option Script refl i;
    log = read_option Log refl i;
    report = read_set Report refl i;
    steps = read_set Steps refl i;
  })
      (number_or 4 0 32 (read_option Workers refl i)) (number_or 1000000 1 4294967295 (read_option Fuel refl i)) (number_or 64 2 4096 (read_option Frames refl i))

  read_command : fits v first (operands_in ps) ≡ true → command_by v (operands_in ps) ps ≡ command_found v f
  read_command fit = same_command v (operands_in ps) ps f
      (λ h. one_picked v (operands_in ps) h fit ∙ read_place first)
      (λ h. two_picked v (operands_in ps) fit ∙ ap₂ (of_two (λ a b. (a, b))) (read_place first) (read_place second))
      (read_option Log refl) read_flags

-- a line that clap reads
pub found_is : (v : Verb) (ws : List Text) (f : Found) → list_all is_readable ws ≡ true → rows_of f ≡ matches_of (line_of v) ws → fault_of (line_of v) ws ≡ []
    → command_behind (Some v) ws ≡ command_found v f
found_is v ws f readable kept passes =
    go (parts_behind v None ws) (sound_parts v None ws tt) (subst (λ o. Verdict v (fault_of (line_of v) ws) (matches_of (line_of v) ws) o) (taken v [] free first ws) (verdict v ws readable))
  where
    by : (ps : List Part) → list_all is_sound ps ≡ true → (o : Option (List Use)) → Took v ps o → Verdict v (fault_of (line_of v) ws) (matches_of (line_of v) ws) o
        → command_with v (Some ps) ≡ command_found v f
    by ps sound None t vd = absurd (vd passes)
    by ps sound (Some us) t vd =
        ap (λ b. cond b (command_by v (operands_in ps) ps) None) t.1 ∙ read_command v ws f kept us vd.1 ps t.0 sound t.2

    go : (o : Option (List Part)) → SoundParts o → Verdict v (fault_of (line_of v) ws) (matches_of (line_of v) ws) (takes.all_taken v first o []) → command_with v o ≡ command_found v f
    go None s vd = absurd (vd passes)
    go (Some ps) s vd = by ps s (takes.take v [] first ps) (took v ps) vd

-- a line that clap refuses
pub refused_is : (v : Verb) (ws : List Text) → list_all is_readable ws ≡ true → (fault_of (line_of v) ws ≡ [] → ⊥) → command_behind (Some v) ws ≡ None
refused_is v ws readable fails =
    go (parts_behind v None ws) (subst (λ o. Verdict v (fault_of (line_of v) ws) (matches_of (line_of v) ws) o) (taken v [] free first ws) (verdict v ws readable))
  where
    none : (b : Bool) (ps : List Part) → command_by v (operands_in ps) ps ≡ None → cond b (command_by v (operands_in ps) ps) None ≡ None
    none true ps e = e
    none false ps e = refl

    lacked : (ps : List Part) (two : Bool) → has_two v ≡ two → fits v first (operands_in ps) ≡ true → lacks_one two (pick first first (operands_in ps)) (pick second first (operands_in ps)) ≡ true
        → command_by v (operands_in ps) ps ≡ None
    lacked ps false e fit l = no_command v (operands_in ps) ps
        (λ h. one_picked v (operands_in ps) h fit ∙ gone (pick first first (operands_in ps)) l) (λ h. absurd (true≢false (sym h ∙ e)))
      where
        gone : (o : Option Text) → (not (is_some o) || (false || false)) ≡ true → o ≡ None
        gone None l = refl
        gone (Some t) l = cc
    lacked ps true e fit l = no_command v (operands_in ps) ps
        (λ h. absurd (true≢false (sym e ∙ h))) (λ h. two_picked v (operands_in ps) fit ∙ gone (pick first first (operands_in ps)) (pick second first (operands_in ps)) l)
      where
        gone : (o p : Option Text) → (not (is_some o) || (not (is_some p) || false)) ≡ true → of_two {C = Text × Text} (λ (a b : Text). (a, b)) o p ≡ None
        gone None p l = refl
        gone (Some a) None l = refl
        gone (Some a) (Some b) l = cc

    by : (ps : List Part) (o : Option (List Use)) → Took v ps o → Verdict v (fault_of (line_of v) ws) (matches_of (line_of v) ws) o → command_with v (Some ps) ≡ None
    by ps None (inl single) vd = ap (λ b. cond b (command_by v (operands_in ps) ps) None) single
    by ps None (inr unfit) vd = none (are_single ps) ps (no_command v (operands_in ps) ps (λ h. one_unfit v (operands_in ps) unfit) (λ h. two_unfit v (operands_in ps) h unfit))
    by ps (Some us) t vd = none (are_single ps) ps (lacked ps (has_two v) refl t.2 (lost (lacks v (done v us)) refl))
      where
        same : lacks v (done v us) ≡ lacks_one (has_two v) (pick first first (operands_in ps)) (pick second first (operands_in ps))
        same = lacks_is v us ∙ (ap (λ l. lacks_one (has_two v) (value (operand first) l) (value (operand second) l)) t.0
            ∙ ap₂ (lacks_one (has_two v)) (place_value first first ps) (place_value second first ps))

        lost : (b : Bool) → lacks v (done v us) ≡ b → lacks_one (has_two v) (pick first first (operands_in ps)) (pick second first (operands_in ps)) ≡ true
        lost true e = sym same ∙ e
        lost false e = absurd (fails (vd.0 ∙ ap lacking e))

    go : (o : Option (List Part)) → Verdict v (fault_of (line_of v) ws) (matches_of (line_of v) ws) (takes.all_taken v first o []) → command_with v o ≡ None
    go None vd = refl
    go (Some ps) vd = by ps (takes.take v [] first ps) (took v ps) vd

-- ---- a word that may not be read

-- a name of an option or a flag has two dashes before more
pub dashes : (name : Text) (s : Setting) → setting_named name ≡ Some s → (y : ℕ) × (r : Text) × (name ≡ 45 ∷ 45 ∷ y ∷ r)
dashes name s e = try Workers (λ a. try Fuel (λ b. try Frames (λ c. try Script (λ d. try Log (λ x. try Report (λ y. try Steps (λ z. none a b c d x y z)))))))
  where
    shaped : (s : Setting) → name ≡ 45 ∷ 45 ∷ name_of s → (y : ℕ) × (r : Text) × (name ≡ 45 ∷ 45 ∷ y ∷ r)
    shaped Workers e = (119, codes "orkers", e)
    shaped Fuel e = (102, codes "uel", e)
    shaped Frames e = (102, codes "rames", e)
    shaped Script e = (115, codes "cript", e)
    shaped Log e = (108, codes "og", e)
    shaped Report e = (114, codes "eport", e)
    shaped Steps e = (115, codes "teps", e)

    try : (s : Setting) → (bytes_eq name (45 ∷ 45 ∷ name_of s) ≡ false → (y : ℕ) × (r : Text) × (name ≡ 45 ∷ 45 ∷ y ∷ r)) → (y : ℕ) × (r : Text) × (name ≡ 45 ∷ 45 ∷ y ∷ r)
    try s more = go (bytes_eq name (45 ∷ 45 ∷ name_of s)) refl
      where
        go : (b : Bool) → bytes_eq name (45 ∷ 45 ∷ name_of s) ≡ b → (y : ℕ) × (r : Text) × (name ≡ 45 ∷ 45 ∷ y ∷ r)
        go true h = shaped s (same_text name (45 ∷ 45 ∷ name_of s) (sym h))
        go false h = more h

    none : bytes_eq name (codes "--workers") ≡ false → bytes_eq name (codes "--fuel") ≡ false → bytes_eq name (codes "--frames") ≡ false → bytes_eq name (codes "--script") ≡ false
        → bytes_eq name (codes "--log") ≡ false → bytes_eq name (codes "--report") ≡ false → bytes_eq name (codes "--steps") ≡ false → (y : ℕ) × (r : Text) × (name ≡ 45 ∷ 45 ∷ y ∷ r)
    none a b c d x y z =
        let nothing : setting_named name ≡ None = rw (a, b, c, d, x, y, z) refl in
        absurd (some_none s (sym e ∙ nothing))
      where
        some_none : (s : Setting) → Some s ≡ None → ⊥
        some_none s h = cc

byte_is : (x : ℕ) → x ≡ 45 → (x == 45) ≡ true
byte_is x e = rw e refl

abbrev head_or : ℕ → Text → ℕ
head_or d [] = d
head_or d (x ∷ xs) = x

abbrev tail : Text → Text
tail [] = []
tail (x ∷ xs) = xs

-- a word that begins with such a name
front_named : (k : ℕ) (word : Text) (y : ℕ) (r : Text) → take k word ≡ 45 ∷ 45 ∷ y ∷ r → is_named word ≡ true
front_named zero word y r e = cc
front_named (suc k) [] y r e = cc
front_named (suc zero) (a ∷ word) y r e = cc
front_named (suc (suc k)) (a ∷ []) y r e = cc
front_named (suc (suc zero)) (a ∷ b ∷ word) y r e = cc
front_named (suc (suc (suc k))) (a ∷ b ∷ []) y r e = cc
front_named (suc (suc (suc k))) (a ∷ b ∷ c ∷ word) y r e =
    let ea : a ≡ 45 = ap (head_or 45) e in
    let eb : b ≡ 45 = ap (λ l. head_or 45 (tail l)) e in
    ap₂ (λ p q. p && q) (byte_is a ea) (byte_is b eb)

-- such a word is wrong, wherever it stands
module _ (v : Verb) (word : Text) (h : is_readable word ≡ false) where
  not_plain : (b : Bool) → is_plain word ≡ b → is_plain word ≡ false
  not_plain false e = e
  not_plain true e = absurd (true≢false (sym (ap (λ b. b || (is_named word && (not (has_equals word) || is_plain (after_first is_equals word)))) e) ∙ h))

  plain_no : is_plain word ≡ false
  plain_no = not_plain (is_plain word) refl

  unless : (is_named word && (not (has_equals word) || is_plain (after_first is_equals word))) ≡ false
  unless = sym (ap (λ b. b || (is_named word && (not (has_equals word) || is_plain (after_first is_equals word)))) plain_no) ∙ h

  named_front : (s : Setting) → setting_named (before_first is_equals word) ≡ Some s → is_named word ≡ true
  named_front s e =
      let d = dashes (before_first is_equals word) s e in
      front_named (position_or_len is_equals word) word d.0 d.1 d.2

  pair_wrong : has_equals word ≡ true → (so : Option Setting) → setting_named (before_first is_equals word) ≡ so → pair_says v so (after_first is_equals word) ≡ wrong
  pair_wrong eq None e = refl
  pair_wrong eq (Some s) e =
      let value_no : is_plain (after_first is_equals word) ≡ false = sym (ap₂ (λ a b. a && (not b || is_plain (after_first is_equals word))) (named_front s e) eq) ∙ unless in
      ap (λ p. cond (has_setting v s && (has_value s && p)) (says (words.option s (after_first is_equals word))) wrong) value_no ∙ never (has_setting v s) (has_value s)
    where
      never : (a b : Bool) → cond (a && (b && false)) (says (words.option s (after_first is_equals word))) wrong ≡ wrong
      never true true = refl
      never true false = refl
      never false b = refl

  name_wrong : has_equals word ≡ false → (so : Option Setting) → setting_named word ≡ so → name_says v so ≡ wrong
  name_wrong eq None e = refl
  name_wrong eq (Some s) e =
      let d = dashes word s e in
      let named : is_named word ≡ true = subst (λ w. is_named w ≡ true) (sym d.2) refl in
      absurd (true≢false (sym (ap₂ (λ a b. a && (not b || is_plain (after_first is_equals word))) named eq) ∙ unless))

  word_wrong : (b : Bool) → has_equals word ≡ b → word_says v word ≡ wrong
  word_wrong true eq =
      ap (λ b. cond b (says (words.operand word)) (cond (has_equals word) (pair_says v (setting_named (before_first is_equals word)) (after_first is_equals word)) (name_says v (setting_named word))))
      plain_no
      ∙ (ap (λ b. cond b (pair_says v (setting_named (before_first is_equals word)) (after_first is_equals word)) (name_says v (setting_named word))) eq
      ∙ pair_wrong eq (setting_named (before_first is_equals word)) refl)
  word_wrong false eq =
      ap (λ b. cond b (says (words.operand word)) (cond (has_equals word) (pair_says v (setting_named (before_first is_equals word)) (after_first is_equals word)) (name_says v (setting_named word))))
      plain_no
      ∙ (ap (λ b. cond b (pair_says v (setting_named (before_first is_equals word)) (after_first is_equals word)) (name_says v (setting_named word))) eq
      ∙ name_wrong eq (setting_named word) refl)

  behind_wrong : (w : Option Setting) (ws : List Text) → parts_behind v w (word ∷ ws) ≡ None
  behind_wrong None ws = ap (λ s. parts_by s (λ n. parts_behind v n ws)) (word_wrong (has_equals word) refl)
  behind_wrong (Some s) ws = ap (λ b. parts_by (cond b (says (words.option s word)) wrong) (λ n. parts_behind v n ws)) plain_no

unread : (v : Verb) (w : Option Setting) (ws : List Text) → list_all is_readable ws ≡ false → parts_behind v w ws ≡ None
unread v w [] h = cc
unread v w (word ∷ ws) h = go (is_readable word) refl (λ n e. unread v n ws e)
  where
    by : (what : Saying) → ((n : Option Setting) → parts_behind v n ws ≡ None) → parts_by what (λ n. parts_behind v n ws) ≡ None
    by (says part) ih = ap (in_front part) (ih None)
    by (opens s) ih = ih (Some s)
    by wrong ih = refl

    split : (w : Option Setting) → parts_behind v w (word ∷ ws) ≡ parts_by (says_behind v w word) (λ n. parts_behind v n ws)
    split None = refl
    split (Some s) = refl

    go : (b : Bool) → is_readable word ≡ b → ((n : Option Setting) → list_all is_readable ws ≡ false → parts_behind v n ws ≡ None) → parts_behind v w (word ∷ ws) ≡ None
    go false e ih = behind_wrong v word e w ws
    go true e ih = split w ∙ by (says_behind v w word) (λ n. ih n (sym (ap (λ b. b && list_all is_readable ws) e) ∙ h))

-- a line with a word that may not be read
pub unread_is : (v : Verb) (ws : List Text) → list_all is_readable ws ≡ false → command_behind (Some v) ws ≡ None
unread_is v ws h = ap (command_with v) (unread v None ws h)
