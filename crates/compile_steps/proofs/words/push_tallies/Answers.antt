use Rattle.std.proofs.Common.{rules}
use Rattle.compile_steps.proofs.SharedLemmas.{tallies_of_ordinary, tallies_of_tally}
use Rattle.compile_steps.proofs.words.push_tallies.Goals as goal

pub returns-in-Ordinary : goal.returns-in-Ordinary
returns-in-Ordinary c = rw (tallies_of_ordinary c.args.shared.now c.args.first c.in-Ordinary.is) (search rules)

pub returns-after-loop-i : goal.returns-after-loop-i
returns-after-loop-i c = rw (tallies_of_tally c.args.shared.now c.args.first c.in-Tally.is) (search rules)
