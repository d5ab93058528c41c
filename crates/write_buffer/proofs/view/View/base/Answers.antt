use Rattle.std.proofs.Common.{◌≡◌, ap, ◌∙◌, sym, pos, SFits, w64, rules}
use Rattle.std.proofs.lemmas.Int.{to_z-of_z}
use Rattle.std.specs.Option.{unwrap_or}
use Rattle.cal_terms.specs.declared.kinds.WordKind.TheVariants.{Ordinary, Tally}
use Rattle.cal_base.specs.Memory.{kind_at}
use Rattle.cal_base.specs.Stores.{routine_base}
use Rattle.write_buffer.specs.Buffered.{written_of}
use Rattle.write_buffer.proofs.Views.{kind_joined}
use Rattle.write_buffer.proofs.view.View.base.Goals as goal

pub returns-in-Ordinary-clause-value : goal.returns-in-Ordinary-clause-value
returns-in-Ordinary-clause-value g c =
    let v = c.args.self.now in
    let memory = (g.S.PageSource.pages v.source.now).memory in
    let kind : kind_at memory c.args.a ≡ Ordinary = kind_joined v.buffer.now.kinds memory c.args.a Ordinary v.joined.kinds c.requires (c.in-Ordinary.ensures Ordinary) in
    let fits : SFits w64 c.value.result = search rules in
    to_z-of_z w64 c.value.result fits
    ∙ c.value.ensures.value
    ∙ ap (λ k. routine_base k memory (written_of v.pool.now v.buffer.now) c.args.a) (sym kind)

pub returns-in-None-clause-value : goal.returns-in-None-clause-value
returns-in-None-clause-value g c =
    let v = c.args.self.now in
    let memory = (g.S.PageSource.pages v.source.now).memory in
    let kind : kind_at memory c.args.a ≡ Tally = kind_joined v.buffer.now.kinds memory c.args.a Tally v.joined.kinds c.requires (c.in-Tally.ensures Tally) in
    ap (λ o. unwrap_or o (pos 0)) c.in-None.ensures.entry
    ∙ ap (λ k. routine_base k memory (written_of v.pool.now v.buffer.now) c.args.a) (sym kind)
