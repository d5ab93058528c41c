use Rattle.std.proofs.Common.{◌^◌, ap, ◌∙◌, length, SFits, w64, rules, arith}
use Rattle.std.proofs.lemmas.Int.{to_z-of_z}
use Rattle.write_buffer.specs.Buffered.{Buffered}
use Rattle.write_buffer.proofs.Written.{written_below}
use Rattle.write_buffer.proofs.Views.{next_is_none, next_is_some, next_in_page}
use Rattle.write_buffer.proofs.buffer.WriteBuffer.next.Goals as goal

pub value-requires-clause-range : goal.value-requires-clause-range
value-requires-clause-range c = next_in_page _ c.args.self.now c.args.from c.in-Some.a c.self.view_is c.self.invariant.same c.in-Some.ensures

pub returns-in-None-clause-next : goal.returns-in-None-clause-next
returns-in-None-clause-next c = next_is_none c.args.pool.now _ c.args.self.now c.args.from c.self.view_is c.in-None.ensures

pub returns-in-None-clause-addresses : goal.returns-in-None-clause-addresses
returns-in-None-clause-addresses c =
    let size = ap (λ (b : Buffered). length b.masks) c.self.view_is in
    written_below c.args.pool.now c.args.self.now (2 ^ 32) (omega (arith, size, c.self.invariant.pages, c.self.invariant.limit))

pub returns-in-Some-clause-next : goal.returns-in-Some-clause-next
returns-in-Some-clause-next c =
    let fits : SFits w64 c.value.result = search rules in
    next_is_some c.args.pool.now _ c.args.self.now c.args.from c.in-Some.a _ c.self.view_is c.in-Some.ensures (to_z-of_z w64 c.value.result fits ∙ c.value.ensures)

pub returns-in-Some-clause-addresses : goal.returns-in-Some-clause-addresses
returns-in-Some-clause-addresses c =
    let size = ap (λ (b : Buffered). length b.masks) c.self.view_is in
    written_below c.args.pool.now c.args.self.now (2 ^ 32) (omega (arith, size, c.self.invariant.pages, c.self.invariant.limit))
