-- What a worker does with an answer.
use Rattle.std.specs.Prelude.{ℕ, Option, Some}
use Rattle.fault_script.specs.declared.act.Act.{Act}
use Rattle.fault_script.specs.declared.act.Act.TheVariants.{Deliver, Lose, Repeat, Hold}

-- how often an answer is delivered in its step
abbrev pub times_delivered : Act → ℕ
times_delivered Deliver = 1
times_delivered Lose = 0
times_delivered Repeat = 2
times_delivered Hold = 0

-- the step of what is held back after an answer of this step: this one where it is held back, else as before
abbrev pub held_after : Act → ℕ → Option ℕ → Option ℕ
held_after Hold step before = Some step
held_after Deliver step before = before
held_after Lose step before = before
held_after Repeat step before = before
