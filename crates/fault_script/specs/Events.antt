-- What a list of events says, as bytes.
use Rattle.std.specs.Prelude.{ℕ, ◌+◌, ◌==◌, Bool, true, false, not, ◌&&◌, if◌then◌else◌, List, [], ◌∷◌, codes}
use Rattle.std.specs.Prelude.{Option, Some, None, option_map, is_some, Result, Ok, Err, filter_map, position}
use Rattle.std.specs.List.{before_first, after_first}
use Rattle.std.specs.Str.{bytes_eq}
use Rattle.decimal_number.specs.Decimal.{number_between}
use Rattle.event_world.specs.declared.event.Event.{Event}
use Rattle.event_world.specs.declared.event.Event.TheVariants.{Claim, Fetch, Finish, Arrive, Stop}

-- ---- lines

-- is this LF, which ends a line?
abbrev pub is_lf : ℕ → Bool
is_lf byte = byte == 10

-- do the bytes begin with LF?
abbrev pub begins_with_lf : List ℕ → Bool
begins_with_lf [] = false
begins_with_lf (byte ∷ bytes) = is_lf byte

-- the first line begins with this byte; without lines it is the only one
abbrev pub in_first : ℕ → List (List ℕ) → List (List ℕ)
in_first byte [] = (byte ∷ []) ∷ []
in_first byte (line ∷ lines) = (byte ∷ line) ∷ lines

-- the lines, each without the LF that ends it and a CR right before that; the last may end with the bytes
abbrev pub lines_of : List ℕ → List (List ℕ)
lines_of [] = []
lines_of (byte ∷ bytes) =
    if is_lf byte then [] ∷ lines_of bytes
    else if (byte == 13) && begins_with_lf bytes then lines_of bytes
    else in_first byte (lines_of bytes)

-- ---- the event of a line

-- is this a blank?
abbrev pub is_blank : ℕ → Bool
is_blank byte = byte == 32

-- the number of a worker: 0 to 31
abbrev pub worker_in : List ℕ → Option ℕ
worker_in text = number_between 0 31 text

-- a worker fetches a page, if both are there
abbrev pub fetch_by : Option ℕ → Option ℕ → Option Event
fetch_by None page = None
fetch_by (Some who) None = None
fetch_by (Some who) (Some page) = Some (Fetch who page)

-- the fetch that stands behind the name: a worker, one blank, and a page
abbrev pub fetch_in : List ℕ → Option Event
fetch_in rest = fetch_by (worker_in (before_first is_blank rest)) (number_between 0 4294967295 (after_first is_blank rest))

-- the event of this name, with what stands behind the name: a worker, a worker and a page, or a delivery
abbrev pub event_named : (name rest : List ℕ) → Option Event
event_named name rest =
    if bytes_eq name (codes "claim") then option_map (λ who. Claim who) (worker_in rest)
    else if bytes_eq name (codes "fetch") then fetch_in rest
    else if bytes_eq name (codes "finish") then option_map (λ who. Finish who) (worker_in rest)
    else if bytes_eq name (codes "arrive") then option_map (λ number. Arrive number) (number_between 1 4294967295 rest)
    else if bytes_eq name (codes "stop") then option_map (λ who. Stop who) (worker_in rest)
    else None

-- the event that a line is: its name, one blank, and the rest
abbrev pub event_of : List ℕ → Option Event
event_of line = event_named (before_first is_blank line) (after_first is_blank line)

-- ---- a list of events

-- an empty line, and one that begins with `#`, is skipped
abbrev pub is_skipped : List ℕ → Bool
is_skipped [] = true
is_skipped (byte ∷ line) = byte == 35

-- the event of a line that is not skipped
abbrev pub told_by : List ℕ → Option Event
told_by line = if is_skipped line then None else event_of line

-- a line that is not skipped, and is no event
abbrev pub is_wrong : List ℕ → Bool
is_wrong line = not (is_skipped line) && not (is_some (event_of line))

-- the events of the lines, or the number of the first wrong line, counted from 1
abbrev pub events_by : Option ℕ → List (List ℕ) → Result (List Event) ℕ
events_by None lines = Ok (filter_map told_by lines)
events_by (Some place) lines = Err (place + 1)

-- the events that the bytes list, or the number of the first line that is none and is not skipped
abbrev pub events_of : List ℕ → Result (List Event) ℕ
events_of bytes = events_by (position is_wrong (lines_of bytes)) (lines_of bytes)
