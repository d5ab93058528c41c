-- The text of a generated program.
use Rattle.std.specs.Prelude.{ℕ, ◌+◌, ◌*◌, ◌%◌, List, ◌++◌, codes}
use Rattle.std.specs.List.{flat_map, range_with_len}
use Rattle.std.specs.Fmt.{decimal}

-- what word i of the array holds at first
abbrev pub first_value : ℕ → ℕ → ℕ
first_value number i = (number * (i + 1)) % 1009

-- a first value behind another
abbrev pub next_value : ℕ → ℕ → List ℕ
next_value number i = codes ", " ++ decimal (first_value number i)

-- the first values of all 256 words
unfoldable pub values : ℕ → List ℕ
values number = decimal (first_value number 0) ++ flat_map (next_value number) (range_with_len 1 255)

-- how far from its own word a routine of step j reads
abbrev pub distance : ℕ → ℕ → ℕ
distance number j = (number + 31 * j) % 256

-- what a routine of step j adds to the word that it read
abbrev pub addend : ℕ → ℕ → ℕ
addend number j = (number + j) % 10

-- the line of step j
unfoldable pub step_line : ℕ → ℕ → List ℕ
step_line number j =
    codes "parbegin routine[256](int w, int id) { a[id] = a[(id + " ++ decimal (distance number j)
    ++ codes ") % 256] + " ++ decimal (addend number j) ++ codes "; t += a[id]; } parend;\n"

-- the lines of the steps, from 1 on
unfoldable pub steps : (number size : ℕ) → List ℕ
steps number size = flat_map (step_line number) (range_with_len 1 size)

-- the lines before the first values, between them and the steps, and behind the steps
abbrev pub head : List ℕ
head = codes "shared {\n" ++ codes "int a[256] = {"

abbrev pub middle : List ℕ
middle = codes "};\n" ++ codes "tally int t;\n" ++ codes "}\n" ++ codes "main {\n"

abbrev pub tail : List ℕ
tail =
    codes "int s = 0;\n" ++ codes "for (int i = 0; i < 256; i += 1) { s += a[i]; }\n"
    ++ codes "print(\"sum\", s, \"total\", t, \"first\", a[0]);\n" ++ codes "}\n"

-- the program of this number with so many steps
unfoldable pub generated : (number size : ℕ) → List ℕ
generated number size = head ++ values number ++ middle ++ steps number size ++ tail
