use Rattle.std.proofs.Common.{◌≡◌, ◌<◌, ◌/◌, ◌%◌, length, set, ap, ◌∙◌, w64, SFits, rules, arith}
use Rattle.std.proofs.lemmas.Int.{to_z-of_z}
use Rattle.std.proofs.lemmas.List.{get_or_default}
use Rattle.write_buffer.specs.Buffered.{Buffered, frame_of}
use Rattle.write_buffer.proofs.Written.{Puts, put_in, buffer_marked}
use Rattle.write_buffer.proofs.buffer.WriteBuffer.put.Goals as goal

puts : (c : goal.After-mark) → Puts c.args.pool.now (record { kinds = c.self.inside.kinds.items; frames = c.self.inside.frames.items; masks = c.self.inside.marks }) c.args.self.now
    c.index-frame.result.now c.args.a c.set_word.new.words c.args.v
puts c =
    let i = c.self.inside in
    let view : Buffered = record { kinds = i.kinds.items; frames = i.frames.items; masks = i.marks } in
    let size = ap (λ (b : Buffered). length b.kinds) c.self.view_is in
    let there : c.args.a / 64 < length i.frames.items = omega (arith, c.requires.range, size, c.self.invariant.pages, c.self.invariant.same) in
    let frame : c.index-frame.result.now ≡ frame_of i.frames.items (c.args.a / 64) = c.index-frame.ensures ∙ get_or_default i.frames.items (c.args.a / 64) c.index-frame.result.now 0 there in
    let fits : SFits w64 c.args.v = search rules in
    let words = c.set_word.ensures.words ∙ ap (λ x. set c.words_mut.result.now (c.args.a % 64) x) (to_z-of_z w64 c.args.v fits) in
    put_in c.args.pool.now view c.args.self.now c.index-frame.result.now c.args.a c.words_mut.result.now c.set_word.new.words c.args.v c.self.view_is c.self.invariant c.requires.own c.requires.range
    frame c.words_mut.ensures.words c.set_word.ensures.size words

pub invariant_of-self : goal.invariant_of-self
invariant_of-self c = rw c.mark.ensures (buffer_marked c.self.inside.kinds.items c.self.inside.frames.items c.self.inside.marks c.args.a c.self.invariant)

pub returns-clause-written : goal.returns-clause-written
returns-clause-written c = rw c.mark.ensures (puts c).0

pub returns-clause-own : goal.returns-clause-own
returns-clause-own c = rw c.mark.ensures (puts c).1
