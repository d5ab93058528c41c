-- What a load tells of the text that the file holds.
use Rattle.std.proofs.Common.{◌≡◌, ◌⊎◌, ◌≤◌, ◌<◌, ◌+◌, ℕ, List, length, take, Option, Some, None, Result, Ok, Err, inl, inr, sym, ap, ◌∙◌, subst, arith}
use Rattle.std.specs.Prelude.{MatchOption, IsSomeAnd, IfOk, IfErr}
use Rattle.std.proofs.lemmas.List.{length-take, take_all}
use Rattle.cal_base.specs.Contents.{Contents, Loads}
use Rattle.csl_grammar.specs.Texts.{text_limit}
use Rattle.csl_reader.specs.declared.refusal.Refusal.{Refusal}
use Rattle.csl_reader.specs.declared.refusal.ReadError.TheVariants.{Refused}
use Rattle.csl_reader.specs.Readings.{refused}
use Rattle.csl_reader.specs.Errors.{IsRefused}
use Rattle.calypso_cli.specs.Endings.{Ending, no_memory}
use Rattle.calypso_cli.specs.Commands.{IsNoModule, module_limit}
use Rattle.calypso_cli.specs.Steps.{Holds, ReadsAs, IsModuleRefusal, NoEnding, TurnsNoneAway, StopsLoad, no_room, not_usable, long, turned}

-- a front of up to one more than the limit, which is no longer than the limit, is the whole
whole_file : (limit : ℕ) (bytes all : List ℕ) → bytes ≡ take (limit + 1) all → length bytes ≤ limit → bytes ≡ all
whole_file limit bytes all is small =
    is ∙ take_all (limit + 1) all (omega (arith, ap length is, length-take (limit + 1) all, small))

-- and where it is longer, the whole is
long_file : (limit : ℕ) (bytes all : List ℕ) → bytes ≡ take (limit + 1) all → limit < length bytes → limit < length all
long_file limit bytes all is large = omega (arith, ap length is, length-take (limit + 1) all, large)

in_whole : (limit : ℕ) (held : Option (List ℕ)) (bytes : List ℕ) (Fact : List ℕ → Type 0) → MatchOption held ⊥ (λ all. bytes ≡ take (limit + 1) all)
    → length bytes ≤ limit → Fact bytes → IsSomeAnd held Fact
in_whole limit None bytes Fact h small fact = absurd h
in_whole limit (Some all) bytes Fact h small fact = subst Fact (whole_file limit bytes all h small) fact

in_long : (limit : ℕ) (held : Option (List ℕ)) (bytes : List ℕ) → MatchOption held ⊥ (λ all. bytes ≡ take (limit + 1) all)
    → limit < length bytes → IsSomeAnd held (λ text. limit < length text)
in_long limit None bytes h large = absurd h
in_long limit (Some all) bytes h large = long_file limit bytes all h large

-- what is true of the loaded bytes is true of the text that the file holds
pub holds_fact : (limit : ℕ) (told : Option Contents) (file bytes : List ℕ) (Fact : List ℕ → Type 0) → Loads told file limit bytes → length bytes ≤ limit → Fact bytes → Holds told file Fact
holds_fact limit None file bytes Fact h small fact = tt
holds_fact limit (Some contents) file bytes Fact h small fact = in_whole limit (contents file) bytes Fact h small fact

-- more bytes than the limit are told of a longer text
pub holds_long : (limit : ℕ) (told : Option Contents) (file bytes : List ℕ) → Loads told file limit bytes → limit < length bytes → Holds told file (λ text. limit < length text)
holds_long limit None file bytes h large = tt
holds_long limit (Some contents) file bytes h large = in_long limit (contents file) bytes h large

-- a refusal that is told of the bytes
pub refused_as : (bytes : List ℕ) (at : ℕ) (why : Refusal) → length bytes ≤ text_limit → IsRefused bytes (Refused at why) → ReadsAs (refused at why) bytes
refused_as bytes at why small h = (small, h)

-- bytes that are not had end a load, whatever would be made of them
pub not_had : (told : Option Contents) (file : List ℕ) (limit : ℕ) (May : Ending → Type 0) (TurnsAway : List ℕ → Ending → Type 0) (before after : ℕ) {ending : Ending}
    → StopsLoad told file limit NoEnding TurnsNoneAway before after ending → StopsLoad told file limit May TurnsAway before after ending
not_had told file limit May TurnsAway before after no_room = no_room
not_had told file limit May TurnsAway before after (not_usable rose) = not_usable rose
not_had told file limit May TurnsAway before after (long holds) = long holds
not_had told file limit May TurnsAway before after (turned ending may holds) = absurd may

-- bytes that are not read as a module end its load
pub not_read : (told : Option Contents) (file bytes : List ℕ) (before after : ℕ) (ending : Ending) → Loads told file 16777216 bytes → length bytes ≤ 16777216
    → (ending ≡ no_memory) ⊎ IsNoModule bytes ending → StopsLoad told file module_limit IsModuleRefusal IsNoModule before after ending
not_read told file bytes before after ending loads small (inl e) = subst (StopsLoad told file module_limit IsModuleRefusal IsNoModule before after) (sym e) no_room
not_read told file bytes before after ending loads small (inr away) =
    turned ending away.1 (holds_fact 16777216 told file bytes (λ held. (length held ≤ module_limit) × IsNoModule held ending) loads small (small, away))

pub if_ok_as : {T E : Type 0} (P Q : T → Type 0) (r : Result T E) → ((t : T) → P t → Q t) → IfOk r P → IfOk r Q
if_ok_as P Q (Ok t) f h = f t h
if_ok_as P Q (Err e) f h = tt

pub if_err_as : {T E : Type 0} (P Q : E → Type 0) (r : Result T E) → ((e : E) → P e → Q e) → IfErr r P → IfErr r Q
if_err_as P Q (Ok t) f h = tt
if_err_as P Q (Err e) f h = f e h
