use Rattle.std.proofs.Common.{◌∙◌, ap, refl, Ok}
use Rattle.csl_meaning.specs.Effect.{calls_to, most_levels}
use Rattle.cal_base.specs.Printing.{line_of}
use Rattle.csl_meaning.specs.Meaning.{pieces}
use Rattle.tree_eval.proofs.Lines.{appended_whole}
use Rattle.tree_eval.proofs.main_stmt.printed.Goals as goal

pub returns-in-Ok-clause-tells : goal.returns-in-Ok-clause-tells
returns-in-Ok-clause-tells c = (
  c.pieces.new.texts,
  appended_whole (pieces c.args.p.now (calls_to c.args.p.now most_levels) c.args.locals.now c.args.items.now) c.new-texts.result c.pieces.new.texts c.args.world.now c.pieces.new.world (Ok tt)
      c.new-texts.ensures c.in-Ok.ensures.follows refl,
  c.from_vec.ensures ∙ c.in_ok-line_of-in-Ok.ensures ∙ ap line_of c.as_slice.ensures,
)
