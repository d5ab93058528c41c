-- What a run is asked for, and what is seen of it from outside.
use Rattle.std.specs.Prelude.{ℕ, List, option_map}
use Rattle.std.specs.declared.option.Option.{Option}
use Rattle.cal_base.specs.Contents.{Contents}
use Rattle.calypso_engine.specs.declared.options.RunOptions.{RunOptions}

-- the name of the log, where one is asked for
abbrev pub log_of : RunOptions → Option (List ℕ)
log_of options = option_map (λ name. name.now) options.log

-- what out got so far, and what the files hold, where they tell it
pub record Outside : Type 0 where
  pub out : Option (List ℕ)
  pub files : Option Contents

-- the same by its two parts
abbrev pub outside_of : Option (List ℕ) → Option Contents → Outside
outside_of out files = record { out = out; files = files }
