use Rattle.std.proofs.Common.{◌≡◌, ◌∙◌, List, Some, refl, ap, sym}
use Rattle.std.specs.Prelude.{slice_get}
use Rattle.bytecode.specs.declared.instr.Instr.{Instr}
use Rattle.bytecode.specs.declared.instr.Instr.TheVariants as i
use Rattle.bytecode.specs.declared.instr.PrintItem.{PrintItem}
use Rattle.machine_meaning.specs.Meaning.{module_memory}
use Rattle.routine_vm.specs.declared.frame.Frame.{Frame}
use Rattle.routine_vm.specs.Held.{Held}
use Rattle.routine_vm.proofs.Mains.{line_there, line_short, widths_there, blocks_few, shown_next, opened_next, behind_line, told_of_step}
use Rattle.routine_vm.proofs.machine.Machine.event.Goals as goal

pub show-requires-clause-there : goal.show-requires-clause-there
show-requires-clause-there c =
    let m = c.args.m.now in
    let stands : slice_get m.main.instrs c.args.self.now.call.place ≡ Some (i.Print c.as_slice.result.now) =
    ap (λ (h : Held). slice_get m.main.instrs h.call.place) (sym c.self.view_is) ∙ sym c.in-Some-Print.ensures.value ∙ ap (λ (x : Instr). Some x) c.in-Some-Print.field-0-is
    ∙ ap (λ (l : List PrintItem). Some (i.Print l)) (sym c.as_slice.ensures)
    in
    line_there m c.requires.verified c.args.self.now c.requires.may c.as_slice.result.now stands

pub show-requires-clause-few : goal.show-requires-clause-few
show-requires-clause-few c =
    let m = c.args.m.now in
    let stands : slice_get m.main.instrs c.args.self.now.call.place ≡ Some (i.Print c.as_slice.result.now) =
    ap (λ (h : Held). slice_get m.main.instrs h.call.place) (sym c.self.view_is) ∙ sym c.in-Some-Print.ensures.value ∙ ap (λ (x : Instr). Some x) c.in-Some-Print.field-0-is
    ∙ ap (λ (l : List PrintItem). Some (i.Print l)) (sym c.as_slice.ensures)
    in
    line_short m c.requires.verified c.args.self.now c.requires.may c.as_slice.result.now stands

pub returns-in-Some-Print-clause-told : goal.returns-in-Some-Print-clause-told
returns-in-Some-Print-clause-told c =
    let m = c.args.m.now in
    let h = c.args.self.now in
    let later = c.show.new.self in
    let stands : slice_get m.main.instrs h.call.place ≡ Some (i.Print c.as_slice.result.now) =
    ap (λ (h : Held). slice_get m.main.instrs h.call.place) (sym c.self.view_is) ∙ sym c.in-Some-Print.ensures.value ∙ ap (λ (x : Instr). Some x) c.in-Some-Print.field-0-is
    ∙ ap (λ (l : List PrintItem). Some (i.Print l)) (sym c.as_slice.ensures)
    in
    let next = shown_next m c.requires.verified h c.requires.may c.as_slice.result.now later (module_memory m) stands c.show.ensures.pieces c.show.ensures.call c.show.ensures.fuel in
    rw c.show.ensures.event (record {
      count = refl;
      place = h.call.place;
      line = c.as_slice.result.now;
      behind = ap (λ (f : Frame). f.place) c.show.ensures.call;
      stands = stands;
      named = c.show.ensures.named;
      may = behind_line m c.requires.verified h c.requires.may _ later (ap (λ (f : Frame). f.body) c.show.ensures.call ∙ c.requires.may.main) next;
    })

pub open-requires-clause-there : goal.open-requires-clause-there
open-requires-clause-there c =
    let m = c.args.m.now in
    let stands : slice_get m.main.instrs c.args.self.now.call.place ≡ Some (i.Par c.in-Some-Par.first c.in-Some-Par.count) =
    ap (λ (h : Held). slice_get m.main.instrs h.call.place) (sym c.self.view_is) ∙ sym c.in-Some-Par.ensures.value ∙ ap (λ (x : Instr). Some x) c.in-Some-Par.field-0-is
    in
    widths_there m c.requires.verified c.args.self.now c.requires.may c.in-Some-Par.first c.in-Some-Par.count stands

pub open-requires-clause-few : goal.open-requires-clause-few
open-requires-clause-few c =
    let m = c.args.m.now in
    let stands : slice_get m.main.instrs c.args.self.now.call.place ≡ Some (i.Par c.in-Some-Par.first c.in-Some-Par.count) =
    ap (λ (h : Held). slice_get m.main.instrs h.call.place) (sym c.self.view_is) ∙ sym c.in-Some-Par.ensures.value ∙ ap (λ (x : Instr). Some x) c.in-Some-Par.field-0-is
    in
    blocks_few m c.requires.verified c.args.self.now c.requires.may c.in-Some-Par.first c.in-Some-Par.count stands

pub returns-in-Some-Par-clause-next : goal.returns-in-Some-Par-clause-next
returns-in-Some-Par-clause-next c =
    let m = c.args.m.now in
    let stands : slice_get m.main.instrs c.args.self.now.call.place ≡ Some (i.Par c.in-Some-Par.first c.in-Some-Par.count) =
    ap (λ (h : Held). slice_get m.main.instrs h.call.place) (sym c.self.view_is) ∙ sym c.in-Some-Par.ensures.value ∙ ap (λ (x : Instr). Some x) c.in-Some-Par.field-0-is
    in
    λ memory. opened_next m c.requires.verified c.args.self.now c.requires.may c.in-Some-Par.first c.in-Some-Par.count c.open.result c.open.new.self memory stands c.open.ensures

pub returns-in-Some-Par-clause-told : goal.returns-in-Some-Par-clause-told
returns-in-Some-Par-clause-told c =
    let m = c.args.m.now in
    let stands : slice_get m.main.instrs c.args.self.now.call.place ≡ Some (i.Par c.in-Some-Par.first c.in-Some-Par.count) =
    ap (λ (h : Held). slice_get m.main.instrs h.call.place) (sym c.self.view_is) ∙ sym c.in-Some-Par.ensures.value ∙ ap (λ (x : Instr). Some x) c.in-Some-Par.field-0-is
    in
    told_of_step m c.requires.verified c.args.self.now c.requires.may c.in-Some-Par.first c.in-Some-Par.count c.open.result c.open.new.self stands c.open.ensures
