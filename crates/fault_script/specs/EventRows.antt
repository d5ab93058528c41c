-- Worked examples: lines, and the events that they list.
use Rattle.std.specs.Prelude.{◌≡◌, [], ◌∷◌, ◌++◌, codes, Ok, Err}
use Rattle.event_world.specs.declared.event.Event.TheVariants.{Claim, Fetch, Finish, Arrive, Stop}
use Rattle.cal_base.specs.Text.{line}
use Rattle.fault_script.specs.Events.{events_of}

-- each event, with the ends of its ranges
pub record EachEvent : Type 0 where
  pub claim : events_of (line (codes "claim 0") ++ line (codes "claim 31")) ≡ Ok (Claim 0 ∷ Claim 31 ∷ [])
  pub fetch : events_of (line (codes "fetch 2 0") ++ line (codes "fetch 31 4294967295")) ≡ Ok (Fetch 2 0 ∷ Fetch 31 4294967295 ∷ [])
  pub finish : events_of (line (codes "finish 3")) ≡ Ok (Finish 3 ∷ [])
  pub arrive : events_of (line (codes "arrive 1") ++ line (codes "arrive 4294967295")) ≡ Ok (Arrive 1 ∷ Arrive 4294967295 ∷ [])
  pub stop : events_of (line (codes "stop 31")) ≡ Ok (Stop 31 ∷ [])
  pub leading_zeros : events_of (line (codes "claim 007")) ≡ Ok (Claim 7 ∷ [])

-- lines, and those that are skipped
pub record Lines : Type 0 where
  pub none : events_of [] ≡ Ok []
  pub without_end : events_of (line (codes "claim 1") ++ codes "stop 1") ≡ Ok (Claim 1 ∷ Stop 1 ∷ [])
  pub empty : events_of (line [] ++ line (codes "claim 1") ++ line []) ≡ Ok (Claim 1 ∷ [])
  pub remark : events_of (line (codes "# claim 9 9") ++ line (codes "claim 1")) ≡ Ok (Claim 1 ∷ [])
  pub with_cr : events_of (codes "claim 1" ++ 13 ∷ 10 ∷ 13 ∷ 10 ∷ []) ≡ Ok (Claim 1 ∷ [])
  pub two_crs : events_of (codes "claim 1" ++ 13 ∷ 13 ∷ 10 ∷ []) ≡ Err 1
  pub cr_at_end : events_of (codes "claim 1" ++ 13 ∷ []) ≡ Err 1

-- lines that are no event: the first one is named
pub record Refused : Type 0 where
  pub first : events_of (line (codes "claim 1") ++ line [] ++ line (codes "clam 1") ++ line (codes "claim")) ≡ Err 3
  pub no_number : events_of (line (codes "claim")) ≡ Err 1
  pub empty_number : events_of (line (codes "claim ")) ≡ Err 1
  pub two_blanks : events_of (line (codes "claim  1")) ≡ Err 1
  pub blank_in_front : events_of (line (codes " claim 1")) ≡ Err 1
  pub blank_behind : events_of (line (codes "claim 1 ")) ≡ Err 1
  pub one_more : events_of (line (codes "finish 1 2")) ≡ Err 1
  pub one_less : events_of (line (codes "fetch 1")) ≡ Err 1
  pub signed : events_of (line (codes "claim +1")) ≡ Err 1
  pub worker_too_high : events_of (line (codes "claim 32")) ≡ Err 1
  pub delivery_zero : events_of (line (codes "arrive 0")) ≡ Err 1
  pub page_too_high : events_of (line (codes "fetch 0 4294967296")) ≡ Err 1
  pub only_blank : events_of (line (codes " ")) ≡ Err 1
