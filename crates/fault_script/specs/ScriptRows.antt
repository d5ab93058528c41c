-- Worked examples: the bytes of scripts and the rows that they give, and what a row says of claims.
use Rattle.std.specs.Prelude.{◌≡◌, ◌^◌, ◌-◌, true, false, [], ◌∷◌, ◌++◌, codes, Some, None}
use Rattle.cal_base.specs.Text.{line}
use Rattle.fault_script.specs.declared.act.Act.TheVariants.{Deliver, Lose, Repeat, Hold}
use Rattle.fault_script.specs.Acts.{act_of}
use Rattle.fault_script.specs.Rows.{Row, plain_row, row_of, has_stopped, among_first}
use Rattle.fault_script.specs.Scripts.{script_of}

-- scripts
pub record Scripts : Type 0 where
  pub empty : script_of [] ≡ Some []
  pub remark : script_of (line (codes "# nothing")) ≡ Some []
  pub no_rows : script_of (line (codes "worker = []")) ≡ Some []
  pub repeats : script_of (line (codes "[[worker]]") ++ line (codes "number = 0") ++ line (codes "repeat = [1, 2]"))
      ≡ Some (record (plain_row 0) { repeat = 1 ∷ 2 ∷ [] } ∷ [])
  pub stops : script_of (line (codes "worker = [{number = 31, stop_at = 0x10}]")) ≡ Some (record (plain_row 31) { stop_at = Some 16 } ∷ [])
  pub two_rows : script_of (line (codes "worker = [{number = 2, lose = [3], hold = [4]}, {number = 1}]"))
      ≡ Some (record (plain_row 2) { lose = 3 ∷ []; hold = 4 ∷ [] } ∷ plain_row 1 ∷ [])

-- bytes that are no script
pub record RefusedScripts : Type 0 where
  pub no_text : script_of (35 ∷ 255 ∷ 10 ∷ []) ≡ None
  pub other_key : script_of (line (codes "workers = []")) ≡ None
  pub no_array : script_of (line (codes "[worker]") ++ line (codes "number = 0")) ≡ None
  pub no_number : script_of (line (codes "worker = [{stop_at = 1}]")) ≡ None
  pub number_too_high : script_of (line (codes "worker = [{number = 32}]")) ≡ None
  pub negative : script_of (line (codes "worker = [{number = -1}]")) ≡ None
  pub no_integer : script_of (line (codes "worker = [{number = 1.0}]")) ≡ None
  pub stop_zero : script_of (line (codes "worker = [{number = 0, stop_at = 0}]")) ≡ None
  pub not_ascending : script_of (line (codes "worker = [{number = 0, lose = [2, 2]}]")) ≡ None
  pub from_zero : script_of (line (codes "worker = [{number = 0, lose = [0]}]")) ≡ None
  pub in_two_lists : script_of (line (codes "worker = [{number = 0, lose = [1], hold = [1]}]")) ≡ None
  pub unknown_key : script_of (line (codes "worker = [{number = 0, drop = [1]}]")) ≡ None
  pub same_number : script_of (line (codes "worker = [{number = 0}, {number = 0}]")) ≡ None
  pub key_twice : script_of (line (codes "worker = []") ++ line (codes "worker = []")) ≡ None

-- a worker that stops at its third claim, loses its first execution and repeats its second
abbrev pub troubled : Row
troubled = record (plain_row 4) { stop_at = Some 3; lose = 1 ∷ 5 ∷ []; repeat = 2 ∷ []; hold = 4 ∷ [] }

-- what becomes of claims and executions
pub record Claims : Type 0 where
  pub loses : act_of troubled 1 ≡ Lose
  pub repeats : act_of troubled 2 ≡ Repeat
  pub delivers : act_of troubled 3 ≡ Deliver
  pub holds : act_of troubled 4 ≡ Hold
  pub goes_on : has_stopped troubled 2 ≡ false
  pub stops : has_stopped troubled 3 ≡ true
  pub never_stops : has_stopped (plain_row 4) 1000000 ≡ false
  pub last_claim : has_stopped (plain_row 4) (2 ^ 64 - 1) ≡ true
  pub one_lost : among_first 4 troubled.lose ≡ 1
  pub two_lost : among_first 5 troubled.lose ≡ 2
  pub its_row : row_of (plain_row 1 ∷ troubled ∷ []) 4 ≡ troubled
  pub no_row : row_of (plain_row 1 ∷ troubled ∷ []) 3 ≡ plain_row 3
