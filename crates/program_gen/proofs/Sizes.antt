-- How long the texts are.
use Rattle.std.specs.Prelude.{ℕ, zero, suc, ◌+◌, ◌*◌, ◌<◌, ◌≤◌, List, ◌++◌, length, codes}
use Rattle.std.specs.List.{flat_map, range_with_len}
use Rattle.std.specs.Fmt.{decimal}
use Rattle.std.proofs.Common.{arith}
use Rattle.std.proofs.Math.Nat.{mod-lt}
use Rattle.std.proofs.lemmas.List.{length-append}
use Rattle.std.proofs.lemmas.Fmt.{length-decimal-le}
use Rattle.program_gen.specs.Generated.{first_value, next_value, values, distance, addend, step_line, steps, head, middle, tail, generated}

-- two texts, one behind another
behind : (a b : List ℕ) (j k : ℕ) → length a ≤ j → length b ≤ k → length (a ++ b) ≤ j + k
behind a b j k first second = omega (arith, length-append a b, first, second)

-- a text of so many bytes at most for each number of a range
each : (f : ℕ → List ℕ) (k : ℕ) → ((i : ℕ) → length (f i) ≤ k) → (a n : ℕ) → length (flat_map f (range_with_len a n)) ≤ n * k
each f k short a zero = omega arith
each f k short a (suc n) =
    let more = behind (f a) (flat_map f (range_with_len (a + 1) n)) k (n * k) (short a) (each f k short (a + 1) n) in
    omega (arith, more)

-- a number below 10,000 has four digits at most
four_digits : (n : ℕ) → n < 10000 → length (decimal n) ≤ 4
four_digits n below = length-decimal-le 4 n (omega arith) (omega (arith, below)) (omega (arith, below))

-- a first value
first_short : (number i : ℕ) → length (decimal (first_value number i)) ≤ 4
first_short number i =
    let below : first_value number i < 1009 = mod-lt (number * (i + 1)) (omega arith) in
    four_digits (first_value number i) (omega (arith, below))

-- a first value behind another
next_short : (number i : ℕ) → length (next_value number i) ≤ 6
next_short number i = behind (codes ", ") (decimal (first_value number i)) 2 4 (omega arith) (first_short number i)

-- the first values of all words
values_short : (number : ℕ) → length (values number) ≤ 2000
unfolding values
values_short number =
    let all = behind (decimal (first_value number 0)) (flat_map (next_value number) (range_with_len 1 255)) 4 (255 * 6)
    (first_short number 0) (each (next_value number) 6 (next_short number) 1 255) in
    omega (arith, all)

-- how far a routine reads
distance_short : (number j : ℕ) → length (decimal (distance number j)) ≤ 4
distance_short number j =
    let below : distance number j < 256 = mod-lt (number + 31 * j) (omega arith) in
    four_digits (distance number j) (omega (arith, below))

-- what a routine adds
addend_short : (number j : ℕ) → length (decimal (addend number j)) ≤ 4
addend_short number j =
    let below : addend number j < 10 = mod-lt (number + j) (omega arith) in
    four_digits (addend number j) (omega (arith, below))

-- the line of a step
line_short : (number j : ℕ) → length (step_line number j) ≤ 128
unfolding step_line
line_short number j =
    let before = codes "parbegin routine[256](int w, int id) { a[id] = a[(id + " in
    let reads = behind before (decimal (distance number j)) 60 4 (omega arith) (distance_short number j) in
    let between = behind (before ++ decimal (distance number j)) (codes ") % 256] + ") 64 20 reads (omega arith) in
    let adds = behind (before ++ decimal (distance number j) ++ codes ") % 256] + ") (decimal (addend number j)) 84 4 between (addend_short number j) in
    let all = behind (before ++ decimal (distance number j) ++ codes ") % 256] + " ++ decimal (addend number j)) (codes "; t += a[id]; } parend;\n") 88 40 adds (omega arith) in
    all

-- the lines of the steps
steps_short : (number size : ℕ) → length (steps number size) ≤ size * 128
unfolding steps
steps_short number size = each (step_line number) 128 (line_short number) 1 size

-- the program of 4,096 steps at most has at most 1,048,576 bytes
pub program_short : (number size : ℕ) → size ≤ 4096 → length (generated number size) ≤ 1048576
unfolding generated
program_short number size most =
    let one = behind head (values number) 100 2000 (omega arith) (values_short number) in
    let two = behind (head ++ values number) middle 2100 100 one (omega arith) in
    let three = behind (head ++ values number ++ middle) (steps number size) 2200 (size * 128) two (steps_short number size) in
    let four = behind (head ++ values number ++ middle ++ steps number size) tail (2200 + size * 128) 200 three (omega arith) in
    omega (arith, four, most)
