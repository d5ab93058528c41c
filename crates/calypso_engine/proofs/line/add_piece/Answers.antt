use Rattle.std.proofs.Common.{◌≡◌, ◌++◌, ℕ, List, [], None, Option, sym, ap, ◌∙◌, append-nil}
use Rattle.std.specs.Prelude.{slice_get, slice_index_or}
use Rattle.std.specs.Option.{unwrap_or}
use Rattle.std.proofs.lemmas.Option.{unwrap_or-slice_get}
use Rattle.bytecode.specs.declared.module.Module.{Module}
use Rattle.routine_vm.specs.Events.{piece_of}
use Rattle.routine_vm.specs.declared.event.Item.{Item}
use Rattle.calypso_engine.proofs.line.add_piece.Goals as goal

pub returns-in-None : goal.returns-in-None
returns-in-None c =
    let none : slice_get c.args.code.now.texts c.in-Text.index ≡ None = sym (c.in-None.ensures.value ∙ ap (λ (m : Module). slice_get m.texts c.in-Text.index) c.module.ensures.same) in
    let empty : slice_index_or c.args.code.now.texts c.in-Text.index [] ≡ [] = sym (unwrap_or-slice_get c.args.code.now.texts c.in-Text.index []) ∙ ap (λ (o : Option (List ℕ)). unwrap_or o []) none in
    sym (append-nil c.args.line.now.items) ∙ ap (λ (t : List ℕ). c.args.line.now.items ++ t) (sym (ap (λ (x : Item). piece_of c.args.code.now x) c.in-Text.is ∙ empty))
