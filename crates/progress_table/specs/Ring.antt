-- The ring of the wanted numbers, as the code keeps it.
use Rattle.std.specs.Prelude.{◌≡◌, ℕ, ◌+◌, ◌<◌, ◌≤◌, ◌⊎◌, ◌==◌, Bool, nat_lt, if◌then◌else◌, List, length, IsTrue, IsFalse, slice_index}
use Rattle.progress_table.specs.Progress.{Progress, is_wanted_in}

-- the seats of the ring: the wanted numbers, and one seat at the end, which has the number of routines
abbrev pub IsSeat : ℕ → (ℕ → Bool) → ℕ → Type 0
IsSeat n wanted i = (i ≡ n) ⊎ IsTrue (wanted i)

-- the seats in a ring: behind each number the next wanted one, behind the last the end, and behind the end the first
pub record IsRing (n : ℕ) (wanted : ℕ → Bool) (next prev : List ℕ) : Type 0 where
  pub nexts : length next ≡ n + 1
  pub prevs : length prev ≡ n + 1
  pub below : (j : ℕ) → IsTrue (wanted j) → j < n
  pub seat_next : (i : ℕ) → IsSeat n wanted i → IsSeat n wanted (slice_index next i)
  pub seat_prev : (i : ℕ) → IsSeat n wanted i → IsSeat n wanted (slice_index prev i)
  pub back : (i : ℕ) → IsSeat n wanted i → slice_index prev (slice_index next i) ≡ i
  pub forth : (i : ℕ) → IsSeat n wanted i → slice_index next (slice_index prev i) ≡ i
  pub ascends : (i : ℕ) → IsTrue (wanted i) → i < slice_index next i
  pub gap : (i j : ℕ) → IsTrue (wanted i) → IsTrue (wanted j) → i < j → slice_index next i ≤ j
  pub first : (j : ℕ) → IsTrue (wanted j) → slice_index next n ≤ j

-- the cursor is at a wanted number, or at the end where nothing is wanted: the numbers before it have one claim more than those from it on
pub record IsCursor (n : ℕ) (wanted : ℕ → Bool) (claims : List ℕ) (cursor : ℕ) : Type 0 where
  pub seat : IsSeat n wanted cursor
  pub none : cursor ≡ n → (j : ℕ) → IsFalse (wanted j)
  pub turn : (j : ℕ) → IsTrue (wanted j) → slice_index claims j ≡ slice_index claims cursor + (if nat_lt j cursor then 1 else 0)

-- what a table holds fits together
pub record IsTable (progress : Progress) (next prev : List ℕ) (cursor : ℕ) : Type 0 where
  pub flags : length progress.claims ≡ length progress.done
  pub limit : length progress.claims ≤ 65536
  pub bound : progress.bound ≤ length progress.claims
  pub ring : IsRing (length progress.claims) (is_wanted_in progress) next prev
  pub stands : IsCursor (length progress.claims) (is_wanted_in progress) progress.claims cursor

-- the seat behind a number, and behind the last the first
abbrev pub turned_to : (n next first : ℕ) → ℕ
turned_to n next first = if nat_lt next n then next else first

-- the cursor after number k left the ring, which had this next seat
abbrev pub cursor_without : (n cursor k next first : ℕ) → ℕ
cursor_without n cursor k next first = if cursor == k then turned_to n next first else cursor

-- nothing above this number is wanted, which is the last wanted one, or the number of routines where nothing is wanted
pub record IsLast (progress : Progress) (last : ℕ) : Type 0 where
  pub most : last ≤ length progress.claims
  pub wanted : last < length progress.claims → IsTrue (is_wanted_in progress last)
  pub none_above : (j : ℕ) → IsTrue (is_wanted_in progress j) → (last < length progress.claims) × (j ≤ last)
