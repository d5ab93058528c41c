-- What `clap` reads of the rules of a command line.
use Rattle.std.proofs.Common.{◌≡◌, ℕ, Bool, cond, true, false, refl, [], Some, None, codes}
use Rattle.clap.specs.Walk.{Rule, Text, arg_by_id, arg_by_index}
use Rattle.clap.specs.Simple.{Shape, built, filled}
use Rattle.clap.specs.Faults.{is_simple_and_free}
use Rattle.command_words.specs.declared.name.Verb.{Verb}
use Rattle.command_words.specs.declared.name.Verb.TheVariants.{Check, Eval, Run, Sim, Build, Exec, Gen, Selfrun}
use Rattle.command_words.specs.declared.name.Setting.{Setting}
use Rattle.command_words.specs.declared.name.Setting.TheVariants.{Workers, Fuel, Frames, Script, Log, Report, Steps}
use Rattle.command_words.specs.Words.{has_setting}
use Rattle.command_words.specs.Line.{has_two, line_of, name_of, setting_rule, operand_rule}

abbrev pub shape : Verb → Shape
shape verb = (built (line_of verb)).top

pub is_free : (v : Verb) → is_simple_and_free (line_of v) ≡ true
is_free Check = refl
is_free Eval = refl
is_free Run = refl
is_free Sim = refl
is_free Build = refl
is_free Exec = refl
is_free Gen = refl
is_free Selfrun = refl

-- the place of the next operand
pub data Place : Type 0 where
  first : Place
  second : Place
  past : Place

abbrev pub number : Place → ℕ
number first = 1
number second = 2
number past = 3

abbrev pub operand_id : Place → Text
operand_id first = codes "FIRST"
operand_id second = codes "SECOND"
operand_id past = []

-- the argument with what it left out
abbrev pub setting_built : Setting → Rule
setting_built s = filled (setting_rule s)

abbrev pub operand_built : Place → Rule
operand_built p = record (filled (operand_rule (operand_id p))) { index = Some (number p) }

abbrev pub has_place : Verb → Place → Bool
has_place v first = true
has_place v second = has_two v
has_place v past = false

pub by_place : (v : Verb) (p : Place) → arg_by_index (shape v).rules (number p) ≡ cond (has_place v p) (Some (operand_built p)) None
by_place Check first = refl
by_place Check second = refl
by_place Check past = refl
by_place Eval first = refl
by_place Eval second = refl
by_place Eval past = refl
by_place Run first = refl
by_place Run second = refl
by_place Run past = refl
by_place Sim first = refl
by_place Sim second = refl
by_place Sim past = refl
by_place Build first = refl
by_place Build second = refl
by_place Build past = refl
by_place Exec first = refl
by_place Exec second = refl
by_place Exec past = refl
by_place Gen first = refl
by_place Gen second = refl
by_place Gen past = refl
by_place Selfrun first = refl
by_place Selfrun second = refl
by_place Selfrun past = refl

-- an argument that the command has
pub data Key : Type 0 where
  setting : Setting → Key
  operand : Place → Key

abbrev pub id_of : Key → Text
id_of (setting s) = name_of s
id_of (operand p) = operand_id p

abbrev pub has_key : Verb → Key → Bool
has_key v (setting s) = has_setting v s
has_key v (operand p) = has_place v p

abbrev pub built_of : Key → Rule
built_of (setting s) = setting_built s
built_of (operand p) = operand_built p

pub by_key : (v : Verb) (k : Key) → has_key v k ≡ true → arg_by_id (shape v).rules (id_of k) ≡ Some (built_of k)
by_key Run (setting Workers) h = refl
by_key Run (setting Fuel) h = refl
by_key Run (setting Frames) h = refl
by_key Run (setting Script) h = refl
by_key Run (setting Log) h = refl
by_key Run (setting Report) h = refl
by_key Run (setting Steps) h = refl
by_key Exec (setting Workers) h = refl
by_key Exec (setting Fuel) h = refl
by_key Exec (setting Frames) h = refl
by_key Exec (setting Script) h = refl
by_key Exec (setting Log) h = refl
by_key Exec (setting Report) h = refl
by_key Exec (setting Steps) h = refl
by_key Sim (setting Log) h = refl
by_key Sim (operand second) h = refl
by_key Build (operand second) h = refl
by_key Gen (operand second) h = refl
by_key Selfrun (operand second) h = refl
by_key Check (operand first) h = refl
by_key Eval (operand first) h = refl
by_key Run (operand first) h = refl
by_key Sim (operand first) h = refl
by_key Build (operand first) h = refl
by_key Exec (operand first) h = refl
by_key Gen (operand first) h = refl
by_key Selfrun (operand first) h = refl
by_key _ _ h = cc
