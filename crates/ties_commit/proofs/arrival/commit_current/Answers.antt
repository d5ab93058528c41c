use Rattle.std.proofs.Common.{sym, ap, ◌∙◌, arith, length, true}
use Rattle.std.proofs.lemmas.List.{length-set}
use Rattle.ties_commit.proofs.Laying.{is_free, agree_first}
use Rattle.ties_commit.proofs.arrival.commit_current.Goals as goal

pub lay-requires-clause-in_range : goal.lay-requires-clause-in_range
lay-requires-clause-in_range g c = omega (arith, c.requires.agree.1.size, c.requires.number)

pub lay-requires-clause-free : goal.lay-requires-clause-free
lay-requires-clause-free g c = is_free c.args.table.now c.args.stage.now c.requires.agree.0 c.requires.agree.1 c.args.k (sym c.is_done.ensures ∙ c.if-is_done.false)

pub note_first-requires-clause-same_size : goal.note_first-requires-clause-same_size
note_first-requires-clause-same_size g c =
    ap (λ l. length l) c.lay.ensures.laid ∙ (length-set c.args.stage.now.laid c.args.k true ∙ c.requires.agree.1.size)

-- table and stage agree after the first answer too
pub returns-clause-agree : goal.returns-clause-agree
returns-clause-agree g c = λ answers agree.
    agree_first c.args.table.now c.args.stage.now answers agree c.args.k _ c.note_first.new.table c.lay.new.stage
    c.requires.number
    (sym c.is_done.ensures ∙ c.if-is_done.false)
    (record { claims = c.note_first.ensures.claims; done = c.note_first.ensures.done; lays = c.lay.ensures })
    c.note_first.ensures.bound
