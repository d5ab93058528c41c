-- What the routines of a step answer.
use Rattle.std.specs.Prelude.{ℕ, pos, List, [], ◌∷◌, ◌++◌, map}
use Rattle.std.specs.FinMap.{empty}
use Rattle.std.specs.List.{range_with_len}
use Rattle.cal_base.specs.declared.answer.Answer.{Answer}
use Rattle.cal_base.specs.declared.ends.RoutineEnd.{RoutineEnd}
use Rattle.cal_base.specs.declared.ends.RoutineEnd.TheVariants.{Ended, Fault}
use Rattle.cal_base.specs.declared.value.Store.TheVariants.{Routine}
use Rattle.cal_base.specs.declared.value.Val.TheVariants.{Int}
use Rattle.cal_base.specs.Answers.{answer_by}
use Rattle.cal_base.specs.Memory.{Memory}
use Rattle.cal_base.specs.Stores.{written_in}
use Rattle.csl_tree.specs.declared.program.Program.{Program}
use Rattle.csl_tree.specs.declared.program.RoutineBlock.{RoutineBlock, RoutineBlock'}
use Rattle.csl_meaning.specs.declared.state.World.{World}
use Rattle.csl_meaning.specs.Locals.{bound}
use Rattle.csl_meaning.specs.Runs.{Outcome, Gives, Stops, ShowsLine, OpensStep}
use Rattle.csl_meaning.specs.Effect.{Went, in_order, nowhere, calls_to, most_levels}

-- the world in which a routine begins: the memory on which its step opened, no writes, and fuel of its own
abbrev pub opening_world : Memory → ℕ → World
opening_world memory fuel = record { store = Routine memory empty; fuel = fuel; steps = 0 }

-- how a routine's run goes: its block's body with the block's width and its number within the block
abbrev pub routine_run : Program → Memory → ℕ → RoutineBlock → ℕ → ℕ → Outcome Went
routine_run p memory fuel (RoutineBlock' at width width_name id_name shape body) w id =
    in_order p (calls_to p most_levels) nowhere body (bound (width_name.text ∷ id_name.text ∷ []) (Int (pos w) ∷ Int (pos id) ∷ []))
    (opening_world memory fuel)

-- how a routine ended; it shows no line and opens no step
abbrev pub end_of : Outcome Went → RoutineEnd
end_of (Gives went w) = Ended
end_of (Stops cause w) = Fault cause
end_of (ShowsLine line rest) = end_of rest
end_of (OpensStep job rest) = end_of (rest job.opening)

-- the world after a routine: what it wrote, and the fuel that it leaves
abbrev pub world_after : Outcome Went → World
world_after (Gives went w) = w
world_after (Stops cause w) = w
world_after (ShowsLine line rest) = world_after rest
world_after (OpensStep job rest) = world_after (rest job.opening)

-- the answer of a routine whose run goes so
abbrev pub answered : Outcome Went → Answer
answered run = answer_by (end_of run) (written_in (world_after run).store)

-- one routine's answer
abbrev pub answer : Program → Memory → ℕ → RoutineBlock → ℕ → ℕ → Answer
answer p memory fuel block w id = answered (routine_run p memory fuel block w id)

-- the answers of all routines of a step: the numbers run through the blocks in order
abbrev pub answers : Program → Memory → ℕ → List RoutineBlock → List ℕ → List Answer
answers p memory fuel [] widths = []
answers p memory fuel (block ∷ blocks) [] = []
answers p memory fuel (block ∷ blocks) (w ∷ widths) =
    map (λ id. answer p memory fuel block w id) (range_with_len 0 w) ++ answers p memory fuel blocks widths
