use Rattle.std.proofs.Common.{◌≡◌, ◌⊎◌, subst}
use Rattle.calypso_cli.specs.Commands.{IsModule, IsNoModule, module_limit}
use Rattle.calypso_cli.specs.Endings.{no_memory}
use Rattle.calypso_cli.specs.Seen.{ending_seen}
use Rattle.calypso_cli.specs.Steps.{Holds, Spells, IsModuleRefusal, StopsLoad}
use Rattle.calypso_cli.proofs.Loading.{holds_fact, not_had, not_read, if_ok_as, if_err_as}
use Rattle.calypso_cli.proofs.load.load_module.Goals as goal

pub returns-in-Err-clause-stops : goal.returns-in-Err-clause-stops
returns-in-Err-clause-stops g c = not_had _ _ _ IsModuleRefusal IsNoModule _ _ c.in-Err.ensures.stops

pub returns-in-Ok-clause-loaded : goal.returns-in-Ok-clause-loaded
returns-in-Ok-clause-loaded g c =
    if_ok_as (λ code. IsModule c.deref.result.now code) (λ code. Holds (g.F.Files.holds c.args.files.now) c.args.file.now (Spells code)) c.read_module.result
    (λ code h. holds_fact 16777216 (g.F.Files.holds c.args.files.now) c.args.file.now c.in-Ok.bytes.items (Spells code) c.in-Ok.ensures.loaded c.in-Ok.ensures.few
    (c.in-Ok.ensures.few, subst (λ b. IsModule b code) c.deref.ensures.value h)) c.read_module.ensures.read

pub returns-in-Ok-clause-stops : goal.returns-in-Ok-clause-stops
returns-in-Ok-clause-stops g c =
    if_err_as (λ ending. (ending_seen ending ≡ no_memory) ⊎ IsNoModule c.deref.result.now (ending_seen ending))
    (λ ending. StopsLoad (g.F.Files.holds c.args.files.now) c.args.file.now module_limit IsModuleRefusal IsNoModule (g.F.Files.faults c.args.files.now) (g.F.Files.faults c.load_bytes.new.files)
    (ending_seen ending)) c.read_module.result
    (λ ending h. not_read (g.F.Files.holds c.args.files.now) c.args.file.now c.in-Ok.bytes.items (g.F.Files.faults c.args.files.now) (g.F.Files.faults c.load_bytes.new.files) (ending_seen ending)
    c.in-Ok.ensures.loaded c.in-Ok.ensures.few (subst (λ b. (ending_seen ending ≡ no_memory) ⊎ IsNoModule b (ending_seen ending)) c.deref.ensures.value h)) c.read_module.ensures.turned
