-- The history of a step after one claim or one delivery more.
use Rattle.std.specs.Prelude.{ℕ, ◌∷◌, ◌++◌, [], Bool, true, false, if◌then◌else◌}
use Rattle.cal_base.specs.declared.step.Claimed.{Claimed}
use Rattle.cal_base.specs.declared.step.Claimed.TheVariants.{Work, AllDone, Spent}
use Rattle.cal_base.specs.declared.step.Verdict.{Verdict}
use Rattle.cal_base.specs.declared.step.Verdict.TheVariants.{First, Again, Stale, Unasked, Full}
use Rattle.cal_base.specs.declared.step.Entry.TheVariants.{Claim, Arrive}
use Rattle.cal_base.specs.History.{History}

-- the history after a claim got this answer
abbrev pub after_claim : History → ℕ → Claimed → History
after_claim history who (Work k) = history ++ Claim who k ∷ []
after_claim history who AllDone = history
after_claim history who Spent = history

-- does a delivery with this verdict stand in the history?
abbrev pub has_entry : Verdict → Bool
has_entry First = true
has_entry Again = true
has_entry Stale = true
has_entry Unasked = true
has_entry Full = false

-- the history after a delivery got this verdict
abbrev pub after_arrival : History → ℕ → ℕ → ℕ → Verdict → History
after_arrival history who step k verdict = if has_entry verdict then history ++ Arrive who step k verdict ∷ [] else history
