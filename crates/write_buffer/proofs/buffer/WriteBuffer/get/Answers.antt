use Rattle.std.proofs.Common.{◌≡◌, ap, ◌∙◌, sym, Some, SFits, w64, rules, true, false}
use Rattle.std.proofs.lemmas.Int.{to_z-of_z}
use Rattle.write_buffer.specs.Bits.{is_marked}
use Rattle.write_buffer.specs.Buffered.{Buffered}
use Rattle.write_buffer.proofs.Written.{get_written, entry_some, entry_none}
use Rattle.write_buffer.proofs.buffer.WriteBuffer.get.Goals as goal

pub returns-then-is_marked-clause-entry : goal.returns-then-is_marked-clause-entry
returns-then-is_marked-clause-entry c =
    let pool = c.args.pool.now in
    let now = c.args.self.now in
    let a = c.args.a in
    let fits : SFits w64 c.value.result = search rules in
    let marked : is_marked now.masks a ≡ true = ap (λ (b : Buffered). is_marked b.masks a) (sym c.self.view_is) ∙ sym c.is_marked.ensures ∙ c.if-is_marked.true in
    ap (λ x. Some x) (to_z-of_z w64 c.value.result fits ∙ c.value.ensures) ∙ sym (get_written pool now a ∙ entry_some pool now a marked)

pub returns-else-is_marked-clause-entry : goal.returns-else-is_marked-clause-entry
returns-else-is_marked-clause-entry c =
    let pool = c.args.pool.now in
    let now = c.args.self.now in
    let a = c.args.a in
    let none : is_marked now.masks a ≡ false = ap (λ (b : Buffered). is_marked b.masks a) (sym c.self.view_is) ∙ sym c.is_marked.ensures ∙ c.if-is_marked.false in
    sym (get_written pool now a ∙ entry_none pool now a none)
