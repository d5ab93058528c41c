-- What main has told: the text of its lines, as far as it was written.
use Rattle.std.specs.Prelude.{◌≡◌, ℕ, false, List, ◌++◌, Result, Ok, Err}
use Rattle.std.specs.declared.option.Option.{Option}
use Rattle.std.specs.Io.{StartsWith}
use Rattle.std.specs.Io.KnownBytes.{Appends}
use Rattle.cal_base.specs.declared.ends.RunEnd.{RunEnd}
use Rattle.cal_base.specs.declared.ends.RunEnd.TheVariants.{MainFault}
use Rattle.cal_base.specs.Causes.{Rose}
use Rattle.cal_base.specs.Main.{Main, Ends, Shows, Opens, meaning_of}
use Rattle.cal_base.specs.Text.{text_of}
use Rattle.csl_meaning.specs.declared.state.World.{World}
use Rattle.csl_meaning.specs.declared.state.Ending.{Ending}
use Rattle.csl_meaning.specs.Locals.{Locals}
use Rattle.csl_meaning.specs.Runs.{Outcome, Gives, Stops, ShowsLine, OpensStep}
use Rattle.csl_meaning.specs.Effect.{Went}
use Rattle.statement_eval.specs.declared.halt.Halt.{Halt}
use Rattle.statement_eval.specs.declared.halt.Halt.TheVariants.{Cause as Caused, NoMemory as MemoryWanted}
use Rattle.tree_eval.specs.declared.main_halt.MainHalt.{MainHalt}
use Rattle.tree_eval.specs.declared.main_halt.MainHalt.TheVariants.{Ended, NoMemory, OutFailed}

-- what main does, where it goes on so after what the outcome gives
abbrev pub continued : {A : Type 0} → Outcome A → (A → World → Main) → Main
continued (Gives a w) next = next a w
continued (Stops cause w) next = Ends (MainFault w.steps cause)
continued (ShowsLine line rest) next = Shows line (continued rest next)
continued (OpensStep job rest) next = Opens job (λ later. continued (rest later) next)

-- the text of what main does, without the lines of steps
abbrev pub text_by : Main → List ℕ
text_by main = text_of false (meaning_of main).events

-- how main ends
abbrev pub end_by : Main → RunEnd
end_by main = (meaning_of main).ending

-- the outcome shows some text, which was appended, and then is as the last one, however main goes on
pub record Told {A : Type 0} (outcome last : Outcome A) (old new : Option (List ℕ)) : Type 0 where
  pub text : List ℕ
  pub written : Appends old new text
  pub same_text : (next : A → World → Main) → text_by (continued outcome next) ≡ text ++ text_by (continued last next)
  pub same_end : (next : A → World → Main) → end_by (continued outcome next) ≡ end_by (continued last next)

-- the outcome shows some text, which was appended, and the run ends so
pub record Finishes {A : Type 0} (outcome : Outcome A) (ending : RunEnd) (old new : Option (List ℕ)) : Type 0 where
  pub text : List ℕ
  pub written : Appends old new text
  pub same_text : (next : A → World → Main) → text_by (continued outcome next) ≡ text
  pub same_end : (next : A → World → Main) → end_by (continued outcome next) ≡ ending

-- some front of the outcome's text was appended
pub record ToldSome {A : Type 0} (outcome : Outcome A) (old new : Option (List ℕ)) : Type 0 where
  pub front : List ℕ
  pub written : Appends old new front
  pub begins : (next : A → World → Main) → StartsWith (text_by (continued outcome next)) front

-- a part of main did what its definition says: exactly its text was appended, or a front of it where main gave up
abbrev pub TellsOf : {A : Type 0} → Outcome A → Result A MainHalt → World → Option (List ℕ) → Option (List ℕ) → Type 0
TellsOf outcome (Ok a) after old new = Told outcome (Gives a after) old new
TellsOf outcome (Err (Ended ending)) after old new = Finishes outcome ending old new
TellsOf outcome (Err NoMemory) after old new = ToldSome outcome old new
TellsOf outcome (Err OutFailed) after old new = ToldSome outcome old new

-- the same of a statement, with the locals after it
abbrev pub Tells : Outcome Went → Result Ending MainHalt → Locals → World → Option (List ℕ) → Option (List ℕ) → Type 0
Tells outcome (Ok e) locals after old new = Told outcome (Gives (e, locals) after) old new
Tells outcome (Err (Ended ending)) locals after old new = Finishes outcome ending old new
Tells outcome (Err NoMemory) locals after old new = ToldSome outcome old new
Tells outcome (Err OutFailed) locals after old new = ToldSome outcome old new

-- the same of what leaves locals alone
abbrev pub TellsLocals : Outcome Locals → Result (Unit {0}) MainHalt → Locals → World → Option (List ℕ) → Option (List ℕ) → Type 0
TellsLocals outcome (Ok u) locals after old new = Told outcome (Gives locals after) old new
TellsLocals outcome (Err (Ended ending)) locals after old new = Finishes outcome ending old new
TellsLocals outcome (Err NoMemory) locals after old new = ToldSome outcome old new
TellsLocals outcome (Err OutFailed) locals after old new = ToldSome outcome old new

-- a failed sink is the reason only where its count of faults rose
abbrev pub OutRose : {A : Type 0} → Result A MainHalt → ℕ → ℕ → Type 0
OutRose (Ok a) before now = Unit {0}
OutRose (Err (Ended ending)) before now = Unit {0}
OutRose (Err NoMemory) before now = Unit {0}
OutRose (Err OutFailed) before now = Rose before now

-- why main stops, after this many steps
abbrev pub main_halt : Halt → ℕ → MainHalt
main_halt (Caused cause) steps = Ended (MainFault steps cause)
main_halt MemoryWanted steps = NoMemory
