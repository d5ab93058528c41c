use Rattle.type_check.proofs.WordLemmas.{accepted-sized, accepted-words}
use Rattle.type_check.proofs.checked.Checked.words.Goals as goal

pub count_words-requires-clause-sized : goal.count_words-requires-clause-sized
count_words-requires-clause-sized c = rw c.as_slice.ensures (accepted-sized c.self.inside.program c.self.invariant.1)

pub count_words-requires-clause-few : goal.count_words-requires-clause-few
count_words-requires-clause-few c = rw c.as_slice.ensures (accepted-words c.self.inside.program c.self.invariant.1)

pub returns-clause-few : goal.returns-clause-few
returns-clause-few c = rw c.count_words.ensures (rw c.as_slice.ensures (accepted-words c.self.inside.program c.self.invariant.1))
