use Rattle.std.proofs.Common.{◌≤◌, length, subst, refl}
use Rattle.csl_grammar.specs.Texts.{text_limit}
use Rattle.csl_reader.specs.Errors.{IsRefused}
use Rattle.csl_reader.specs.Readings as reading
use Rattle.csl_reader.specs.Readings.{IsRead}
use Rattle.calypso_cli.specs.Endings.{refused}
use Rattle.calypso_cli.specs.Commands.{IsRefusedText}
use Rattle.calypso_cli.specs.Steps as step
use Rattle.calypso_cli.specs.Steps.{ReadsAs, IsRefusal}
use Rattle.calypso_cli.proofs.Loading.{holds_fact, not_had}
use Rattle.calypso_cli.proofs.load.load_program.Goals as goal

pub returns-in-Err-clause-stops : goal.returns-in-Err-clause-stops
returns-in-Err-clause-stops g c = not_had _ _ _ IsRefusal IsRefusedText _ _ c.in-Err.ensures.stops

pub returns-in-Ok-read_program-clause-loaded : goal.returns-in-Ok-read_program-clause-loaded
returns-in-Ok-read_program-clause-loaded g c =
    holds_fact 1048576 (g.F.Files.holds c.args.files.now) c.args.file.now c.in-Ok.text.items (ReadsAs (reading.accepted c.in-Ok-read_program.program)) c.in-Ok.ensures.loaded c.in-Ok.ensures.few
    (c.in-Ok.ensures.few, subst (λ bytes. IsRead bytes (reading.accepted c.in-Ok-read_program.program)) c.deref.ensures.value c.in-Ok-read_program.ensures.accepted)

pub returns-in-Err-Refused-clause-stops : goal.returns-in-Err-Refused-clause-stops
returns-in-Err-Refused-clause-stops g c =
    let at = c.in-Err-Refused.at in
    let why = c.in-Err-Refused.why in
    step.turned (refused at why) (at, why, refl)
    (holds_fact 1048576 (g.F.Files.holds c.args.files.now) c.args.file.now c.in-Ok.text.items (λ bytes. (length bytes ≤ text_limit) × IsRefusedText bytes (refused at why)) c.in-Ok.ensures.loaded
    c.in-Ok.ensures.few
    (c.in-Ok.ensures.few, (at, why, subst (λ bytes. IsRead bytes (reading.refused at why)) c.deref.ensures.value (subst (IsRefused c.deref.result.now) c.in-Err-Refused.field-0-is c.in-Err-Refused.ensures.refused), refl)))

pub returns-clause-stops : goal.returns-clause-stops
returns-clause-stops g c = step.no_room
