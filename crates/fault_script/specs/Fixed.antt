-- The script by which a generated program is run.
use Rattle.std.specs.Prelude.{ℕ, List, [], ◌∷◌, Some}
use Rattle.fault_script.specs.Rows.{Row, plain_row}

-- the first eight executions
abbrev pub first_eight : List ℕ
first_eight = 1 ∷ 2 ∷ 3 ∷ 4 ∷ 5 ∷ 6 ∷ 7 ∷ 8 ∷ []

-- worker 0 stops at its tenth claim, worker 1 delivers its first eight executions twice, and worker 2 never delivers its first eight
abbrev pub selfrun_rows : List Row
selfrun_rows = record (plain_row 0) { stop_at = Some 10 } ∷ record (plain_row 1) { repeat = first_eight } ∷ record (plain_row 2)
    { lose = first_eight } ∷ []
