use Rattle.csl_print.proofs.CanonicalLaw.{canonical_spells}
use Rattle.csl_print.proofs.law.canonical_text.Goals as goal

pub returns : goal.returns
returns c = canonical_spells
