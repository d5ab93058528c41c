use Rattle.csl_print.proofs.CanonicalLaw.{spelled_result}
use Rattle.csl_print.proofs.program.print_program.Goals as goal

pub returns-clause-spells : goal.returns-clause-spells
returns-clause-spells c = spelled_result _ c.print_text.result c.args.p.now c.requires c.print_text.ensures
