use Rattle.std.proofs.Common.{◌≡◌, ◌∙◌, ◌<◌, [], ◌∷◌, length, ap, sym, subst, rules, w64}
use Rattle.std.specs.Prelude.{pos}
use Rattle.std.proofs.lemmas.Int.{to_z-of_z}
use Rattle.cal_base.specs.Memory.{kinds_of}
use Rattle.cal_base.specs.declared.value.Val.TheVariants.{Int}
use Rattle.bytecode.specs.declared.module.Module.{Module}
use Rattle.code_verify.specs.Rules.{IsVerified}
use Rattle.machine_meaning.specs.Meaning.{module_memory}
use Rattle.routine_vm.specs.declared.frame.Body.TheVariants.{Block}
use Rattle.routine_vm.specs.Frames.{begun_frame}
use Rattle.routine_vm.proofs.Routines.{block_there, block_shape, never_at_event, routine_ready}
use Rattle.routine_vm.proofs.machine.Machine.run_routine.Goals as goal

pub begin-requires-clause-params : goal.begin-requires-clause-params
begin-requires-clause-params g c =
    let m = c.module-m.result.now in
    let ok = subst IsVerified (sym c.module-m.ensures.same) c.module-m.ensures.verified in
    let block = c.index-as_slice-block.result in
    let within : c.args.block < length m.blocks = subst (λ (x : Module). c.args.block < length x.blocks) (sym c.module-m.ensures.same) c.requires.block in
    let at = block_there m.blocks c.args.block block within (rw c.as_slice.ensures at c.index-as_slice-block.is) in
    (block_shape m ok c.args.block block at).has_params

pub begin-requires-clause-room : goal.begin-requires-clause-room
begin-requires-clause-room g c =
    let m = c.module-m.result.now in
    let ok = subst IsVerified (sym c.module-m.ensures.same) c.module-m.ensures.verified in
    let block = c.index-as_slice-block.result in
    let within : c.args.block < length m.blocks = subst (λ (x : Module). c.args.block < length x.blocks) (sym c.module-m.ensures.same) c.requires.block in
    let at = block_there m.blocks c.args.block block within (rw c.as_slice.ensures at c.index-as_slice-block.is) in
    (block_shape m ok c.args.block block at).few_locals

pub go-requires-clause-ready : goal.go-requires-clause-ready
go-requires-clause-ready g c =
    let m = c.module-m.result.now in
    let ok = subst IsVerified (sym c.module-m.ensures.same) c.module-m.ensures.verified in
    let block = c.index-as_slice-block.result in
    let within : c.args.block < length m.blocks = subst (λ (x : Module). c.args.block < length x.blocks) (sym c.module-m.ensures.same) c.requires.block in
    let at = block_there m.blocks c.args.block block within (rw c.as_slice.ensures at c.index-as_slice-block.is) in
    let call : c.begin.new.self ≡ begun_frame (Block c.args.block) block (Int (pos c.args.width) ∷ Int (pos c.args.id) ∷ []) =
    rw (sym c.from.ensures, sym c.from-2.ensures) (rw (c.int.ensures, c.int-2.ensures, to_z-of_z w64 c.from.result (search rules), to_z-of_z w64 c.from-2.result (search rules)) at c.begin.ensures)
    in
    let kinds = c.requires.kinds ∙ ap (λ (x : Module). kinds_of (module_memory x)) (sym c.module-m.ensures.same) in
    routine_ready m ok c.args.block block at c.args.width c.args.id c.args.fuel (g.M.Words.opening c.args.mem.now) (g.M.Words.written c.args.mem.now) c.requires.written
    (record { call = c.begin.new.self; waiting = c.self.inside.run.waiting; fuel = c.replace-main_fuel.new.dest }) call c.self.invariant c.replace-main_fuel.ensures.after kinds

pub unreachable-requires : goal.unreachable-requires
unreachable-requires g c =
    let m = c.module-m.result.now in
    let ok = subst IsVerified (sym c.module-m.ensures.same) c.module-m.ensures.verified in
    never_at_event m ok c.go.new.run (g.M.Words.opening c.go.new.words) (g.M.Words.written c.go.new.words) c.in-Event.ensures.goes_on c.in-Event.ensures.stopped.1
