use Rattle.std.proofs.Common.{◌≡◌, ◌≤◌, length, Ok, Err, refl, ap, subst}
use Rattle.fault_script.specs.Events.{events_of}
use Rattle.fault_script.proofs.Workers.{listed_workers}
use Rattle.calypso_cli.specs.Endings.{events_refused}
use Rattle.calypso_cli.specs.Commands.{IsEvents, IsNoEvents, events_limit}
use Rattle.calypso_cli.specs.Steps as step
use Rattle.calypso_cli.specs.Steps.{Lists, IsEventsRefusal}
use Rattle.calypso_cli.proofs.Loading.{holds_fact, not_had}
use Rattle.calypso_cli.proofs.load.load_events.Goals as goal

pub returns-in-Err-clause-stops : goal.returns-in-Err-clause-stops
returns-in-Err-clause-stops g c = not_had _ _ _ IsEventsRefusal IsNoEvents _ _ c.in-Err.ensures.stops

pub returns-in-Ok-read_events-clause-listed : goal.returns-in-Ok-read_events-clause-listed
returns-in-Ok-read_events-clause-listed g c =
    holds_fact 1048576 (g.F.Files.holds c.args.files.now) c.args.file.now c.in-Ok.bytes.items (Lists c.in-Ok-read_events.list.items) c.in-Ok.ensures.loaded c.in-Ok.ensures.few
    (c.in-Ok.ensures.few, subst (λ bytes. events_of bytes ≡ Ok c.in-Ok-read_events.list.items) c.deref.ensures.value c.in-Ok-read_events.ensures.events)

pub returns-in-Ok-read_events-clause-workers : goal.returns-in-Ok-read_events-clause-workers
returns-in-Ok-read_events-clause-workers g c = listed_workers c.deref.result.now c.in-Ok-read_events.list.items c.in-Ok-read_events.ensures.events

pub returns-in-Err-Refused-clause-stops : goal.returns-in-Err-Refused-clause-stops
returns-in-Err-Refused-clause-stops g c =
    step.turned (events_refused c.in-Err-Refused.line) (c.in-Err-Refused.line, refl)
    (holds_fact 1048576 (g.F.Files.holds c.args.files.now) c.args.file.now c.in-Ok.bytes.items (λ bytes. (length bytes ≤ events_limit) × IsNoEvents bytes (events_refused c.in-Err-Refused.line))
    c.in-Ok.ensures.loaded c.in-Ok.ensures.few
    (c.in-Ok.ensures.few, (c.in-Err-Refused.line, subst (λ bytes. events_of bytes ≡ Err c.in-Err-Refused.line) c.deref.ensures.value (c.in-Err-Refused.ensures.refused c.in-Err-Refused.line (ap (λ e. Err e) c.in-Err-Refused.field-0-is)), refl)))

pub returns-clause-stops : goal.returns-clause-stops
returns-clause-stops g c = step.no_room
