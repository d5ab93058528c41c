-- The events that bytes list are of workers.
use Rattle.std.proofs.Common.{◌≡◌, ℕ, ◌<◌, ◌≤◌, Bool, true, false, List, [], ◌∷◌, refl, subst, arith, Option, Some, None}
use Rattle.std.specs.Prelude.{◌&&◌, nat_le, codes, Ok, if◌then◌else◌, filter_map, position, option_map}
use Rattle.std.specs.List.{cons_option, before_first, after_first}
use Rattle.std.specs.Str.{bytes_eq}
use Rattle.std.specs.Str.Parse.{digits_value}
use Rattle.cal_base.specs.declared.step.TheConstants.{CALLER}
use Rattle.event_world.specs.declared.event.Event.{Event}
use Rattle.event_world.specs.declared.event.Event.TheVariants.{Claim, Finish, Arrive, Stop}
use Rattle.event_world.specs.Law.{Each, IsOfWorker}
use Rattle.decimal_number.specs.Decimal.{is_numeral, number_between}
use Rattle.fault_script.specs.Events.{is_blank, worker_in, fetch_by, event_named, event_of, is_skipped, told_by, is_wrong, lines_of, events_by, events_of}

-- the number, where there is one, is a worker's
abbrev OfOne : Option ℕ → Type 0
OfOne None = Unit {0}
OfOne (Some who) = who < CALLER

-- the event, where there is one, is of a worker
abbrev OfWorker : Option Event → Type 0
OfWorker None = Unit {0}
OfWorker (Some e) = IsOfWorker e

in_range : (n : ℕ) (a b c : Bool) → nat_le n 31 ≡ c → OfOne (if a && (b && c) then Some n else None)
in_range n true true true e = let small : n ≤ 31 = grind (arith, e) in omega (arith, small)
in_range n true true false e = tt
in_range n true false c e = tt
in_range n false b c e = tt

worker_below : (text : List ℕ) → OfOne (worker_in text)
worker_below text = in_range (digits_value 10 text) (is_numeral text) (nat_le 0 (digits_value 10 text)) (nat_le (digits_value 10 text) 31) refl

by_one : (event : ℕ → Event) → ((who : ℕ) → who < CALLER → IsOfWorker (event who)) → (o : Option ℕ) → OfOne o → OfWorker (option_map event o)
by_one event each None below = tt
by_one event each (Some who) below = each who below

fetched : (who page : Option ℕ) → OfOne who → OfWorker (fetch_by who page)
fetched None page below = tt
fetched (Some who) None below = tt
fetched (Some who) (Some page) below = below

either : (b : Bool) (x y : Option Event) → OfWorker x → OfWorker y → OfWorker (if b then x else y)
either true x y h k = h
either false x y h k = k

named : (name rest : List ℕ) → OfWorker (event_named name rest)
named name rest =
    either (bytes_eq name (codes "claim")) _ _ (by_one (λ who. Claim who) (λ who below. below) (worker_in rest) (worker_below rest))
    (either (bytes_eq name (codes "fetch")) _ _ (fetched (worker_in (before_first is_blank rest)) (number_between 0 4294967295 (after_first is_blank rest)) (worker_below (before_first is_blank rest)))
    (either (bytes_eq name (codes "finish")) _ _ (by_one (λ who. Finish who) (λ who below. below) (worker_in rest) (worker_below rest))
    (either (bytes_eq name (codes "arrive")) _ _ (arrives (number_between 1 4294967295 rest))
    (either (bytes_eq name (codes "stop")) _ _ (by_one (λ who. Stop who) (λ who below. below) (worker_in rest) (worker_below rest)) tt))))
  where
    arrives : (o : Option ℕ) → OfWorker (option_map (λ number. Arrive number) o)
    arrives None = tt
    arrives (Some number) = tt

told : (line : List ℕ) → OfWorker (told_by line)
told line = either (is_skipped line) None (event_of line) tt (named (before_first is_blank line) (after_first is_blank line))

one_more : (o : Option Event) (events : List Event) → OfWorker o → Each IsOfWorker events → Each IsOfWorker (cons_option o events)
one_more None events h each = each
one_more (Some e) events h each = (h, each)

all_told : (lines : List (List ℕ)) → Each IsOfWorker (filter_map told_by lines)
all_told [] = tt
all_told (line ∷ lines) = one_more (told_by line) (filter_map told_by lines) (told line) (all_told lines)

by_place : (place : Option ℕ) (lines : List (List ℕ)) (list : List Event) → events_by place lines ≡ Ok list → Each IsOfWorker list
by_place None lines list e = let same : filter_map told_by lines ≡ list = cc in subst (Each IsOfWorker) same (all_told lines)
by_place (Some place) lines list e = absurd (cc)

-- the events that bytes list are of workers
pub listed_workers : (bytes : List ℕ) (list : List Event) → events_of bytes ≡ Ok list → Each IsOfWorker list
listed_workers bytes list e = by_place (position is_wrong (lines_of bytes)) (lines_of bytes) list e
