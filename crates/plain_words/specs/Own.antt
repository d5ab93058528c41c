-- Words with one entry each for what a routine wrote or added.
use Rattle.cal_base.specs.Memory.{Memory}
use Rattle.cal_base.specs.Updates.{Written}

-- the memory on which the step opened, and what the routine wrote and added
pub record Own : Type 0 where
  pub opening : Memory
  pub written : Written
