-- What a worker's shares say.
use Rattle.std.specs.Prelude.{ℕ, ◌+◌}
use Rattle.cal_base.specs.declared.step.Claimed.{Claimed}
use Rattle.cal_base.specs.declared.step.Claimed.TheVariants.{Work, AllDone, Spent}

-- the parts that are held of each of the four ledgers, and what was counted with them: claims, arrivals of this step, arrivals of held deliveries, and ends
pub record Amounts : Type 0 where
  pub parts : ℕ
  pub claims : ℕ
  pub arrivals : ℕ
  pub held : ℕ
  pub ends : ℕ

-- nothing was counted yet
abbrev pub nothing_counted : ℕ → Amounts
nothing_counted parts = record { parts = parts; claims = 0; arrivals = 0; held = 0; ends = 0 }

-- the amounts after a claim got this answer: a claim more, or an end more
abbrev pub with_claim : Amounts → Claimed → Amounts
with_claim amounts (Work k) = record amounts { claims = amounts.claims + 1 }
with_claim amounts AllDone = record amounts { ends = amounts.ends + 1 }
with_claim amounts Spent = record amounts { ends = amounts.ends + 1 }

-- the amounts after an arrival of this step more
abbrev pub with_arrival : Amounts → Amounts
with_arrival amounts = record amounts { arrivals = amounts.arrivals + 1 }

-- the amounts after an arrival of a held delivery more
abbrev pub with_held : Amounts → Amounts
with_held amounts = record amounts { held = amounts.held + 1 }

-- the parts and the amounts of both together
abbrev pub joined : Amounts → Amounts → Amounts
joined one other =
    record {
      parts = one.parts + other.parts;
      claims = one.claims + other.claims;
      arrivals = one.arrivals + other.arrivals;
      held = one.held + other.held;
      ends = one.ends + other.ends;
    }
