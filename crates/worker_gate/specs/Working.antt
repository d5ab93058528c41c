-- What a contract sees of a worker, and what its work leaves.
use Rattle.std.specs.Prelude.{◌≡◌, ℕ, ◌+◌, Bool, true, false, List, ◌++◌, Option}
use Rattle.cal_terms.specs.declared.kinds.WordKind.{WordKind}
use Rattle.cal_base.specs.declared.step.TheConstants.{CALLER}
use Rattle.cal_base.specs.declared.step.WorkerTally.{WorkerTally}
use Rattle.cal_base.specs.declared.step.Claimed.TheVariants.{Work, AllDone}
use Rattle.cal_base.specs.Memory.{kinds_of}
use Rattle.cal_base.specs.Pages.{Paged}
use Rattle.cal_base.specs.Updates.{Written}
use Rattle.cal_base.specs.History.{History}
use Rattle.cal_base.specs.Claims.{StepJob, claimed}
use Rattle.bytecode.specs.declared.module.Module.{Module}
use Rattle.machine_meaning.specs.Meaning.{module_memory}
use Rattle.shared_pages.specs.Cached.{Cached, Fits}
use Rattle.fault_script.specs.Rows.{Row}
use Rattle.step_laws.specs.Caller.{pair_of}
use Rattle.routine_executor.specs.Executing.{KeptPages}

-- a worker's row and tally, the step of the answer that it holds back, the kinds of the words for which it was made, the pages that it keeps, and what it wrote last
pub record WorkerState : Type 0 where
  pub row : Row
  pub tally : WorkerTally
  pub holds : Option ℕ
  pub words : List WordKind
  pub kept : KeptPages
  pub written : Written

-- the tally of a worker that has done nothing
abbrev pub first_tally : ℕ → WorkerTally
first_tally who = record { who = who; claims = 0; executed = 0; lost = 0; repeated = 0; held = 0; stopped = false; pages = 0 }

-- the tally after so many claims more, each of which was executed
abbrev pub with_claims : WorkerTally → ℕ → WorkerTally
with_claims tally n = record tally { claims = tally.claims + n; executed = tally.executed + n }

-- the tally with another number of fetched pages
abbrev pub with_pages : WorkerTally → ℕ → WorkerTally
with_pages tally n = record tally { pages = n }

-- the worker may work on this image by this code: the image has the words of the code's module, for which the worker was made, and the kept pages fit it
pub record MayWork (worker : WorkerState) (image : Paged) (m : Module) : Type 0 where
  pub kinds : kinds_of image.memory ≡ kinds_of (module_memory m)
  pub room : worker.words ≡ kinds_of image.memory
  pub fits : Fits worker.kept.frames worker.kept.pages image

-- an execution changed what the worker wrote last, its pages and how many it fetched, and nothing else, and it may still work on the image
pub record Executes (before after : WorkerState) (image : Paged) (m : Module) : Type 0 where
  pub row : after.row ≡ before.row
  pub tally : after.tally ≡ with_pages before.tally after.tally.pages
  pub holds : after.holds ≡ before.holds
  pub size : after.kept.size ≡ before.kept.size
  pub may : MayWork after image m

-- the caller took its turn: it claimed the number that it was to, and delivered it first, or nothing was wanted
abbrev pub TookTurn : StepJob → History → Bool → History → Type 0
TookTurn job before true later = (k : ℕ) × (claimed job before CALLER ≡ Work k) × (later ≡ before ++ pair_of job k)
TookTurn job before false later = (claimed job before CALLER ≡ AllDone) × (later ≡ before)

-- the cache of a worker: for how many pages there is room, those that it keeps, and how many it fetched
abbrev pub kept_by : WorkerState → Cached
kept_by worker = record { size = worker.kept.size; kept = worker.kept.pages; fetched = worker.tally.pages }
