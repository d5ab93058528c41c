use Rattle.std.proofs.Common.{◌∙◌, sym}
use Rattle.std.proofs.lemmas.Result.{err_from_is_err_and}
use Rattle.tree_eval.proofs.Telling.{ready_none, ready_stops, ready_gives}
use Rattle.tree_eval.proofs.step.ready.Goals as goal

pub returns-in-None-clause-follows : goal.returns-in-None-clause-follows
returns-in-None-clause-follows c =
    ready_none c.args.p.now 0 c.args.blocks.now c.args.locals.now c.args.world.now c.new-numbers.result c.widths_of.new.numbers c.as_slice.result.now c.widths_of.new.world
    c.new-numbers.ensures c.in_ok-widths_of.ensures.follows c.as_slice.ensures (sym c.in-None.is ∙ c.in_ok-good_widths.ensures)

pub returns-in_err-take_unit-in-Some-clause-follows : goal.returns-in_err-take_unit-in-Some-clause-follows
returns-in_err-take_unit-in-Some-clause-follows c =
    let p = err_from_is_err_and c.from_residual-in_err-take_unit-in-Some.result c.from_residual-in_err-take_unit-in-Some.ensures.1 in
    rw (p.1, p.2) (ready_stops c.args.p.now 0 c.args.blocks.now c.args.locals.now c.args.world.now c.new-numbers.result c.widths_of.new.numbers c.as_slice.result.now c.in-Some.widths
    c.widths_of.new.world c.take_unit.new.world _
    c.new-numbers.ensures c.in_ok-widths_of.ensures.follows c.as_slice.ensures (sym c.in-Some.is ∙ c.in_ok-good_widths.ensures) c.in_err-take_unit-in-Some.ensures.follows)

pub returns-clause-follows : goal.returns-clause-follows
returns-clause-follows c =
    ready_gives c.args.p.now 0 c.args.blocks.now c.args.locals.now c.args.world.now c.new-numbers.result c.widths_of.new.numbers c.as_slice.result.now c.in-Some.widths c.widths_of.new.world
    c.take_unit.new.world
    c.new-numbers.ensures c.in_ok-widths_of.ensures.follows c.as_slice.ensures (sym c.in-Some.is ∙ c.in_ok-good_widths.ensures) c.in_ok-take_unit-in-Some.ensures.follows
