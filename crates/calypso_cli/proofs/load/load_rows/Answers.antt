use Rattle.std.proofs.Common.{◌≡◌, ◌≤◌, length, Some, None, Err, refl, ap, subst}
use Rattle.fault_script.specs.Scripts.{script_of}
use Rattle.calypso_cli.specs.Endings.{script_refused}
use Rattle.calypso_cli.specs.Commands.{IsScript, IsNoScript, script_limit}
use Rattle.calypso_cli.specs.Steps as step
use Rattle.calypso_cli.specs.Steps.{IsScriptRefusal}
use Rattle.calypso_cli.proofs.Loading.{holds_fact, not_had}
use Rattle.calypso_cli.proofs.load.load_rows.Goals as goal

pub returns-in-Err-clause-stops : goal.returns-in-Err-clause-stops
returns-in-Err-clause-stops g c = not_had _ _ _ IsScriptRefusal IsNoScript _ _ c.in-Err.ensures.stops

pub returns-in-Ok-read_script-clause-loaded : goal.returns-in-Ok-read_script-clause-loaded
returns-in-Ok-read_script-clause-loaded g c =
    holds_fact 1048576 (g.F.Files.holds c.args.files.now) c.args.file.now c.in-Ok.bytes.items (λ bytes. (length bytes ≤ script_limit) × IsScript bytes c.in-Ok-read_script.script)
    c.in-Ok.ensures.loaded c.in-Ok.ensures.few
    (c.in-Ok.ensures.few, subst (λ bytes. script_of bytes ≡ Some c.in-Ok-read_script.script) c.deref.ensures.value c.in-Ok-read_script.ensures.script)

pub returns-in-Err-Refused-clause-stops : goal.returns-in-Err-Refused-clause-stops
returns-in-Err-Refused-clause-stops g c =
    step.turned script_refused refl
    (holds_fact 1048576 (g.F.Files.holds c.args.files.now) c.args.file.now c.in-Ok.bytes.items (λ bytes. (length bytes ≤ script_limit) × IsNoScript bytes script_refused) c.in-Ok.ensures.loaded
    c.in-Ok.ensures.few
    (c.in-Ok.ensures.few, (subst (λ bytes. script_of bytes ≡ None) c.deref.ensures.value (c.in-Err-Refused.ensures.refused (ap (λ e. Err e) c.in-Err-Refused.field-0-is)), refl)))

pub returns-clause-stops : goal.returns-clause-stops
returns-clause-stops g c = step.no_room
