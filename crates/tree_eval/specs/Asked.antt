-- What the routines of a step answer where none is asked behind one that failed.
use Rattle.std.specs.Prelude.{Bool, ◌||◌, if◌then◌else◌, List, [], ◌∷◌, Some, None}
use Rattle.cal_base.specs.declared.answer.Answer.{Answer}
use Rattle.cal_base.specs.Answers.{Answers, is_fault}

-- has one failed by now, where one had failed or one of these did?
abbrev pub has_failed : Bool → List Answer → Bool
has_failed failed [] = failed
has_failed failed (answer ∷ answers) = has_failed (failed || is_fault (Some answer)) answers

-- the answers up to the first that failed, and none behind it; where one had failed before, none
abbrev pub until_fault : Bool → List Answer → Answers
until_fault failed [] = []
until_fault failed (answer ∷ answers) = (if failed then None else Some answer) ∷ until_fault (failed || is_fault (Some answer)) answers
