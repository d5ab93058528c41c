use Rattle.std.proofs.Common.{◌≡◌, ◌∙◌, Bool, true, false, [], map, string_bytes, sym, ap, subst, inl, inr, ◌&&◌, refl, Result, Ok, Err}
use Rattle.clap.specs.Simple.{App, app_of, is_simple, matches_of}
use Rattle.clap.specs.Faults.{fault_of, is_simple_and_free, is_free_app}
use Rattle.clap.specs.Simple.{built}
use Rattle.clap.specs.declared.parser.matches.ArgMatches.{ArgMatches}
use Rattle.command_words.specs.declared.command.WordsError.{WordsError}
use Rattle.command_words.specs.declared.command.WordsError.TheVariants.{NoCommand}
use Rattle.clap.specs.Kinds.{HasKind}
use Rattle.clap.specs.Matches.{found_of}
use Rattle.command_words.proofs.Rules.{is_free}
use Rattle.command_words.proofs.Known.{found_is, refused_is, unread_is}
use Rattle.command_words.proofs.found.find.Goals as goal

simple : (a : App) → is_simple_and_free a ≡ true → is_simple a ≡ true
simple a h = go (is_simple a) (is_free_app (built a)) h
  where
    go : (x y : Bool) → (x && y) ≡ true → x ≡ true
    go true y e = refl
    go false y e = e

abbrev error_or : WordsError → Result ArgMatches WordsError → WordsError
error_or d (Ok m) = d
error_or d (Err e) = e

same_error : (a b : WordsError) → ◌≡◌ {A = Result ArgMatches WordsError} (Err a) (Err b) → a ≡ b
same_error a b e = ap (error_or a) e

pub returns-then-not-are_readable-clause-no_command : goal.returns-then-not-are_readable-clause-no_command
returns-then-not-are_readable-clause-no_command c = λ e. unread_is c.args.verb (map string_bytes c.args.list.now) (sym c.are_readable.ensures ∙ c.if-not-are_readable.true)

pub returns-in-Ok-clause-found : goal.returns-in-Ok-clause-found
returns-in-Ok-clause-found c =
    let texts = map string_bytes c.args.list.now in
    let same = c.in_ok-command.ensures in
    let free : is_simple_and_free (app_of c.in_ok-command.command) ≡ true = ap is_simple_and_free same ∙ is_free c.args.verb in
    let rows = c.in-Ok.ensures.matches (simple (app_of c.in_ok-command.command) free) in
    found_is c.args.verb texts (found_of c.in-Ok.matches) (sym c.are_readable.ensures ∙ c.if-not-are_readable.false)
    (rows.0 ∙ ap (λ a. matches_of a texts) same)
    (sym (ap (λ a. fault_of a texts) same) ∙ c.in-Ok.ensures.kinds free)

pub returns-in-Err-clause-no_command : goal.returns-in-Err-clause-no_command
returns-in-Err-clause-no_command c = λ refused.
    let texts = map string_bytes c.args.list.now in
    let same = c.in_ok-command.ensures in
    let free : is_simple_and_free (app_of c.in_ok-command.command) ≡ true = ap is_simple_and_free same ∙ is_free c.args.verb in
    refused_is c.args.verb texts (sym c.are_readable.ensures ∙ c.if-not-are_readable.false)
    (λ none.
    let has : HasKind [] c.in-Err.error = subst (λ k. HasKind k c.in-Err.error) (ap (λ a. fault_of a texts) same ∙ none) (c.in-Err.ensures.kinds free) in
    elim has [
      | inl memory ↦ c.refusal.ensures (same_error c.refusal.result NoCommand refused) (c.kind.ensures ∙ memory)
      | inr other ↦ other
    ])
