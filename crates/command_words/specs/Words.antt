-- What command the words of the command line give. They come without the program's own name.
use Rattle.std.specs.Prelude.{ℕ, Bool, true, false, not, ◌&&◌, ◌==◌, nat_le, nat_lt, if◌then◌else◌, List, [], ◌∷◌, length, count_by, codes}
use Rattle.std.specs.Prelude.{Option, Some, None, option_map}
use Rattle.std.specs.List.{flat_map, position_or_len, before_first, after_first}
use Rattle.std.specs.Str.{bytes_eq}
use Rattle.decimal_number.specs.Decimal.{number_between}
use Rattle.command_words.specs.declared.name.Verb.{Verb}
use Rattle.command_words.specs.declared.name.Verb.TheVariants.{Check, Eval, Run, Sim, Build, Exec, Gen, Selfrun}
use Rattle.command_words.specs.declared.name.Setting.{Setting}
use Rattle.command_words.specs.declared.name.Setting.TheVariants.{Workers, Fuel, Frames, Script, Log, Report, Steps}
use Rattle.command_words.specs.Commands.{Flags, Command, check, eval, run, sim, build, exec, gen, selfrun}

-- ---- names

-- the command of this name
abbrev pub verb_named : List ℕ → Option Verb
verb_named word =
    if bytes_eq word (codes "check") then Some Check
    else if bytes_eq word (codes "eval") then Some Eval
    else if bytes_eq word (codes "run") then Some Run
    else if bytes_eq word (codes "sim") then Some Sim
    else if bytes_eq word (codes "build") then Some Build
    else if bytes_eq word (codes "exec") then Some Exec
    else if bytes_eq word (codes "gen") then Some Gen
    else if bytes_eq word (codes "selfrun") then Some Selfrun
    else None

-- the option or flag of this name
abbrev pub setting_named : List ℕ → Option Setting
setting_named word =
    if bytes_eq word (codes "--workers") then Some Workers
    else if bytes_eq word (codes "--fuel") then Some Fuel
    else if bytes_eq word (codes "--frames") then Some Frames
    else if bytes_eq word (codes "--script") then Some Script
    else if bytes_eq word (codes "--log") then Some Log
    else if bytes_eq word (codes "--report") then Some Report
    else if bytes_eq word (codes "--steps") then Some Steps
    else None

-- an option has a value, a flag none
abbrev pub has_value : Setting → Bool
has_value Workers = true
has_value Fuel = true
has_value Frames = true
has_value Script = true
has_value Log = true
has_value Report = false
has_value Steps = false

-- are they the same?
abbrev pub is_same : Setting → Setting → Bool
is_same Workers Workers = true
is_same Fuel Fuel = true
is_same Frames Frames = true
is_same Script Script = true
is_same Log Log = true
is_same Report Report = true
is_same Steps Steps = true
is_same _ _ = false

-- `run` and `exec` have all of them, `sim` has a log, the other commands have none
abbrev pub has_setting : Verb → Setting → Bool
has_setting Check setting = false
has_setting Eval setting = false
has_setting Run setting = true
has_setting Sim setting = is_same setting Log
has_setting Build setting = false
has_setting Exec setting = true
has_setting Gen setting = false
has_setting Selfrun setting = false

-- ---- words

-- what the words behind the command's name say, part by part
pub data Part : Type 0 where
  operand : (text : List ℕ) → Part
  option : Setting → (value : List ℕ) → Part
  flag : Setting → Part

-- what a word says by itself: a part, or the option whose value is the next word, or nothing that is allowed
pub data Saying : Type 0 where
  says : Part → Saying
  opens : Setting → Saying
  wrong : Saying

-- the word can be an operand or a value: it is not empty and does not begin with a dash
abbrev pub is_plain : List ℕ → Bool
is_plain [] = false
is_plain (first ∷ rest) = not (first == 45)

-- is this the byte `=`?
abbrev pub is_equals : ℕ → Bool
is_equals byte = byte == 61

-- `=` stands in the word
abbrev pub has_equals : List ℕ → Bool
has_equals word = nat_lt (position_or_len is_equals word) (length word)

-- a word that is a name: that of a flag, or of an option whose value is the next word
abbrev pub name_says : Verb → Option Setting → Saying
name_says verb None = wrong
name_says verb (Some setting) =
    if has_setting verb setting then (if has_value setting then opens setting else says (flag setting)) else wrong

-- a word that is a name, `=` and a value
abbrev pub pair_says : Verb → Option Setting → List ℕ → Saying
pair_says verb None value = wrong
pair_says verb (Some setting) value =
    if has_setting verb setting && (has_value setting && is_plain value) then says (option setting value) else wrong

-- what a word says where no option waits for its value
abbrev pub word_says : Verb → List ℕ → Saying
word_says verb word =
    if is_plain word then says (operand word)
    else if has_equals word then pair_says verb (setting_named (before_first is_equals word)) (after_first is_equals word)
    else name_says verb (setting_named word)

-- what a word says: behind an option that waits, it is the option's value
abbrev pub says_behind : Verb → Option Setting → List ℕ → Saying
says_behind verb None word = word_says verb word
says_behind verb (Some setting) word = if is_plain word then says (option setting word) else wrong

-- one more part in front
abbrev pub in_front : Part → Option (List Part) → Option (List Part)
in_front part None = None
in_front part (Some parts) = Some (part ∷ parts)

-- the parts of a word and of the words behind it, by what the word says
abbrev pub parts_by : Saying → (Option Setting → Option (List Part)) → Option (List Part)
parts_by (says part) more = in_front part (more None)
parts_by (opens setting) more = more (Some setting)
parts_by wrong more = None

-- the parts that the words say, behind an option that waits for its value or behind none; no parts where a word is wrong or a value is missing
abbrev pub parts_behind : Verb → Option Setting → List (List ℕ) → Option (List Part)
parts_behind verb None [] = Some []
parts_behind verb (Some setting) [] = None
parts_behind verb waiting (word ∷ words) = parts_by (says_behind verb waiting word) (λ next. parts_behind verb next words)

-- ---- what the parts are together

-- the operand that a part is
abbrev pub operand_in : Part → List (List ℕ)
operand_in (operand text) = text ∷ []
operand_in (option setting value) = []
operand_in (flag setting) = []

-- the operands, in order
abbrev pub operands_in : List Part → List (List ℕ)
operands_in parts = flat_map operand_in parts

-- is the part this option or flag?
abbrev pub is_about : Setting → Part → Bool
is_about setting (operand text) = false
is_about setting (option other value) = is_same other setting
is_about setting (flag other) = is_same other setting

-- the option or flag comes at most once
abbrev pub is_single : List Part → Setting → Bool
is_single parts setting = nat_le (count_by (is_about setting) parts) 1

-- each option and flag comes at most once
abbrev pub are_single : List Part → Bool
are_single parts =
    is_single parts Workers && (is_single parts Fuel && (is_single parts Frames && (is_single parts Script
    && (is_single parts Log && (is_single parts Report && is_single parts Steps)))))

-- the value that a part gives the option
abbrev pub value_by : Setting → Part → Option (List ℕ)
value_by setting (operand text) = None
value_by setting (option other value) = if is_same other setting then Some value else None
value_by setting (flag other) = None

-- the first of two, or the second
abbrev pub or_else : Option (List ℕ) → Option (List ℕ) → Option (List ℕ)
or_else None second = second
or_else (Some value) second = Some value

-- the value of the option, if it is there
abbrev pub value_in : Setting → List Part → Option (List ℕ)
value_in setting [] = None
value_in setting (part ∷ parts) = or_else (value_by setting part) (value_in setting parts)

-- is the flag there?
abbrev pub is_set : Setting → List Part → Bool
is_set setting parts = nat_lt 0 (count_by (is_about setting) parts)

-- the number that an option's value is, and this one where the option is not there
abbrev pub number_or : (usual least most : ℕ) → Option (List ℕ) → Option ℕ
number_or usual least most None = Some usual
number_or usual least most (Some text) = number_between least most text

-- ---- commands

-- what is made of three numbers, where all are there
abbrev pub of_three : {A : Type 0} → (ℕ → ℕ → ℕ → A) → Option ℕ → Option ℕ → Option ℕ → Option A
of_three make None two three = None
of_three make (Some one) None three = None
of_three make (Some one) (Some two) None = None
of_three make (Some one) (Some two) (Some three) = Some (make one two three)

-- what is made of two things, where both are there
abbrev pub of_two : {A B C : Type 0} → (A → B → C) → Option A → Option B → Option C
of_two make None two = None
of_two make (Some one) None = None
of_two make (Some one) (Some two) = Some (make one two)

-- the options of a run: 0 to 32 workers, 4 where nothing is said; 1 to 4,294,967,295 units of fuel, else 1,000,000; 2 to 4,096 frames, else 64
abbrev pub flags_in : List Part → Option Flags
flags_in parts =
    of_three (λ workers fuel frames. record {
      workers = workers;
      fuel = fuel;
      frames = frames;
      script = value_in Script parts;
      log = value_in Log parts;
      report = is_set Report parts;
      steps = is_set Steps parts;
    })
    (number_or 4 0 32 (value_in Workers parts))
    (number_or 1000000 1 4294967295 (value_in Fuel parts))
    (number_or 64 2 4096 (value_in Frames parts))

-- the one operand, where there is just one
abbrev pub one_in : List (List ℕ) → Option (List ℕ)
one_in [] = None
one_in (one ∷ []) = Some one
one_in (one ∷ two ∷ rest) = None

-- the two operands, where there are just two
abbrev pub two_in : List (List ℕ) → Option (List ℕ × List ℕ)
two_in [] = None
two_in (one ∷ []) = None
two_in (one ∷ two ∷ []) = Some (one, two)
two_in (one ∷ two ∷ three ∷ rest) = None

-- the number and the size of a generated program: 0 to 4,294,967,295, and 1 to 4,096
abbrev pub numbers_in : Option (List ℕ × List ℕ) → Option (ℕ × ℕ)
numbers_in None = None
numbers_in (Some texts) = of_two (λ number size. (number, size)) (number_between 0 4294967295 texts.0) (number_between 1 4096 texts.1)

-- the command of this name with these operands and options
abbrev pub command_by : Verb → (operands : List (List ℕ)) → List Part → Option Command
command_by Check operands parts = option_map check (one_in operands)
command_by Eval operands parts = option_map eval (one_in operands)
command_by Run operands parts = of_two run (one_in operands) (flags_in parts)
command_by Sim operands parts = option_map (λ files. sim files.0 files.1 (value_in Log parts)) (two_in operands)
command_by Build operands parts = option_map (λ files. build files.0 files.1) (two_in operands)
command_by Exec operands parts = of_two exec (one_in operands) (flags_in parts)
command_by Gen operands parts = option_map (λ numbers. gen numbers.0 numbers.1) (numbers_in (two_in operands))
command_by Selfrun operands parts = option_map (λ numbers. selfrun numbers.0 numbers.1) (numbers_in (two_in operands))

-- the command of this name with the parts behind it
abbrev pub command_with : Verb → Option (List Part) → Option Command
command_with verb None = None
command_with verb (Some parts) = if are_single parts then command_by verb (operands_in parts) parts else None

-- the command of this name with the words behind it
abbrev pub command_behind : Option Verb → List (List ℕ) → Option Command
command_behind None words = None
command_behind (Some verb) words = command_with verb (parts_behind verb None words)

-- the command that the words give, or none
abbrev pub command_of : List (List ℕ) → Option Command
command_of [] = None
command_of (name ∷ words) = command_behind (verb_named name) words
