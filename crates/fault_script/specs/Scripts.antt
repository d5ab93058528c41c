-- What a script says, as bytes.
use Rattle.std.specs.Prelude.{ℕ, pos, ◌≡◌, nat_le, nat_lt, Bool, true, not, ◌&&◌, if◌then◌else◌, List, [], ◌∷◌, length, map, codes, Option}
use Rattle.std.specs.Prelude.{Some, None, option_map, option_and_then, Result, Ok, Err}
use Rattle.std.specs.List.{list_all, list_any}
use Rattle.std.specs.Str.{bytes_eq, is_utf8}
use Rattle.toml.specs.Data.{Data, integer, array, table, Items, no_items, item, Members, no_members, member, get_member}
use Rattle.toml.specs.Parse.{parse_document}
use Rattle.fault_script.specs.Rows.{Row, row_from, has}
use Rattle.fault_script.specs.declared.error.ScriptError.{ScriptError}
use Rattle.fault_script.specs.declared.error.ScriptError.TheVariants as error

infixl 10 ◌>>=◌
abbrev ◌>>=◌ : {A B : Type 0} → Option A → (A → Option B) → Option B
o >>= f = option_and_then f o

-- ---- values

-- the number that a value is, if it is an integer in the range
abbrev pub number_in : (least most : ℕ) → Data → Option ℕ
number_in least most (integer (pos n)) = if nat_le least n && nat_le n most then Some n else None
number_in least most _ = None

-- this in front of those, if all are there
abbrev pub in_front : {A : Type 0} → Option A → Option (List A) → Option (List A)
in_front None rest = None
in_front (Some first) None = None
in_front (Some first) (Some rest) = Some (first ∷ rest)

-- what each item of an array is read as, if each can be read
abbrev pub each_in : {A : Type 0} → (Data → Option A) → Items → Option (List A)
each_in read no_items = Some []
each_in read (item value values) = in_front (read value) (each_in read values)

-- what the value under a key is read as, or this where the key is not there
abbrev pub read_or : {A : Type 0} → Option A → (Data → Option A) → Option Data → Option A
read_or usual read None = usual
read_or usual read (Some value) = read value

-- has the table no other keys than these?
abbrev pub has_only : List (List ℕ) → Members → Bool
has_only names no_members = true
has_only names (member key value members) = list_any (λ name. bytes_eq name key) names && has_only names members

-- ---- lists of executions

-- is each number above the one before it, and the first above this one?
abbrev pub ascend_above : ℕ → List ℕ → Bool
ascend_above low [] = true
ascend_above low (n ∷ numbers) = nat_lt low n && ascend_above n numbers

-- the numbers, if they are at most 1,024 and ascend
abbrev pub ascending : List ℕ → Option (List ℕ)
ascending numbers = if nat_le (length numbers) 1024 && ascend_above 0 numbers then Some numbers else None

-- the executions that a value lists: integers from 1 to 4,294,967,295
abbrev pub executions_in : Data → Option (List ℕ)
executions_in (array values) = option_and_then ascending (each_in (number_in 1 4294967295) values)
executions_in _ = None

-- the executions that the value under a key lists; without the key there are none
abbrev pub executions_under : List ℕ → Members → Option (List ℕ)
executions_under key members = read_or (Some []) executions_in (get_member key members)

-- is no number in both lists?
abbrev pub are_apart : List ℕ → List ℕ → Bool
are_apart some others = list_all (λ n. not (has others n)) some

-- ---- rows

-- the keys of a row
abbrev pub row_keys : List (List ℕ)
row_keys = codes "number" ∷ codes "stop_at" ∷ codes "lose" ∷ codes "repeat" ∷ codes "hold" ∷ []

-- at which claim the worker stops, if the value says it
abbrev pub stop_in : Data → Option (Option ℕ)
stop_in value = option_map (λ n. Some n) (number_in 1 4294967295 value)

-- the number of a row's worker
abbrev pub number_under : Members → Option ℕ
number_under members = read_or None (number_in 0 31) (get_member (codes "number") members)

-- at which claim a row's worker stops, or that it does not
abbrev pub stop_under : Members → Option (Option ℕ)
stop_under members = read_or (Some None) stop_in (get_member (codes "stop_at") members)

-- the row, if no number is in two of its lists
abbrev pub apart : Row → Option Row
apart row = if are_apart row.lose row.repeat && (are_apart row.lose row.hold && are_apart row.repeat row.hold) then Some row else None

-- the row that a table is: it has a number, and may have the other keys
unfoldable pub row_with : Members → Option Row
row_with members = do
  number ← number_under members
  stop_at ← stop_under members
  lose ← executions_under (codes "lose") members
  repeat ← executions_under (codes "repeat") members
  hold ← executions_under (codes "hold") members
  apart (row_from number stop_at lose repeat hold)

-- the row that a value is
abbrev pub row_in : Data → Option Row
row_in (table members) = if has_only row_keys members then row_with members else None
row_in _ = None

-- ---- scripts

-- do all numbers differ?
abbrev pub are_different : List ℕ → Bool
are_different [] = true
are_different (n ∷ numbers) = not (has numbers n) && are_different numbers

-- the rows, if no two have one number
abbrev pub different : List Row → Option (List Row)
different rows = if are_different (map (λ row. row.number) rows) then Some rows else None

-- the rows that a value lists
abbrev pub rows_in : Data → Option (List Row)
rows_in (array values) = option_and_then different (each_in row_in values)
rows_in _ = None

-- the script that a table is: its only key, if any, is `worker`
abbrev pub script_with : Members → Option (List Row)
script_with members =
    if has_only (codes "worker" ∷ []) members then read_or (Some []) rows_in (get_member (codes "worker") members) else None

-- the table that bytes are read as by `toml`, where they are a text
abbrev pub table_in : List ℕ → Option Members
table_in bytes = if is_utf8 bytes then parse_document bytes else None

-- the script that bytes are
abbrev pub script_of : List ℕ → Option (List Row)
script_of bytes = option_and_then script_with (table_in bytes)

-- ---- answers

-- what was read is what is there; it was refused where nothing is there
abbrev pub Reads : {X Y : Type 0} → (X → Y) → Result X ScriptError → Option Y → Type 0
Reads view (Ok x) there = there ≡ Some (view x)
Reads view (Err error.Refused) there = there ≡ None
Reads view (Err error.NoMemory) there = Unit {0}
