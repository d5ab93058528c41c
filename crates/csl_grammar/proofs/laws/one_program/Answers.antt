use Rattle.csl_grammar.proofs.UniqueProgram.{tokens_spell_one, text_spells_one}
use Rattle.csl_grammar.proofs.laws.one_program.Goals as goal

pub returns-clause-tokens : goal.returns-clause-tokens
returns-clause-tokens c = tokens_spell_one

pub returns-clause-texts : goal.returns-clause-texts
returns-clause-texts c = text_spells_one
