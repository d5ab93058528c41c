-- All faults of a program.
use Rattle.std.specs.Prelude.{◌≡◌, ℕ, ℤ, pos, negsuc, ◌+◌, Bool, true, false, not, ◌&&◌, nat_le, nat_eq, if◌then◌else◌, List, [], ◌∷◌, ◌++◌}
use Rattle.std.specs.Prelude.{Option, Some, None, map}
use Rattle.std.specs.List.{list_any}
use Rattle.csl_tree.specs.declared.program.Program.{Program}
use Rattle.csl_tree.specs.declared.program.Shared.{Shared}
use Rattle.csl_tree.specs.declared.program.ArraySize.{ArraySize}
use Rattle.cal_terms.specs.declared.kinds.WordKind.{WordKind}
use Rattle.cal_terms.specs.declared.kinds.WordKind.TheVariants.{Ordinary, Tally}
use Rattle.csl_tree.specs.declared.program.Function.{Function}
use Rattle.cal_terms.specs.declared.types.Gives.{Gives}
use Rattle.cal_terms.specs.declared.types.Gives.TheVariants as gives
use Rattle.csl_tree.specs.declared.program.Param.{Param}
use Rattle.csl_tree.specs.declared.program.Stmt.{Stmt}
use Rattle.csl_tree.specs.declared.program.Form.TheVariants as form
use Rattle.type_check.specs.declared.fault.Fault.{Fault}
use Rattle.type_check.specs.declared.fault.CheckKind.TheVariants.{NoReturn, Limit}
use Rattle.type_check.specs.declared.body.Body.{Body}
use Rattle.type_check.specs.declared.body.Body.TheVariants as body
use Rattle.type_check.specs.declared.names.Declaration.{Declaration}
use Rattle.type_check.specs.declared.names.Declaration.TheVariants as declared
use Rattle.type_check.specs.Listed.{is_tally_used, in_position, first, fault, fault_if, beyond}
use Rattle.type_check.specs.Names.{Names, taken, declare}
use Rattle.type_check.specs.Bodies.{locals_in, ends}
use Rattle.type_check.specs.Statements.{faults, body_of, too_many_locals}
use Rattle.cal_terms.specs.declared.limits.TheConstants.{MOST_WORDS}

-- the most shared words of a program
abbrev pub most_words : ℕ
most_words = MOST_WORDS

-- the most functions of a program
abbrev pub most_functions : ℕ
most_functions = 256

-- the most parameters of a function
abbrev pub most_params : ℕ
most_params = 8

-- ---- shared words

-- a size, and 0 for one that is negative or too large
abbrev pub good_size : ℤ → ℕ
good_size (pos n) = if nat_le n most_words then n else 0
good_size (negsuc n) = 0

-- how many words a declaration takes; an array with a bad size takes none
abbrev pub words_of : Option ArraySize → ℕ
words_of None = 1
words_of (Some size) = good_size size.number

-- an array's size is 0 or too large
abbrev pub size_faults : Option ArraySize → List Fault
size_faults None = []
size_faults (Some size) = fault_if (nat_eq (good_size size.number) 0) Limit size.at

-- what the name of a word stands for
abbrev pub shared_kind : WordKind → Declaration
shared_kind Ordinary = declared.Word
shared_kind Tally = declared.Tally

-- what a shared name stands for
abbrev pub stands_for : Option ArraySize → WordKind → Declaration
stands_for (Some size) kind = declared.Array
stands_for None kind = shared_kind kind

-- a size, and 0 for one that is negative
abbrev pub natural : ℤ → ℕ
natural (pos n) = n
natural (negsuc n) = 0

-- an initial value past the size
abbrev pub value_faults : Option ArraySize → List ℕ → List Fault
value_faults None positions = []
value_faults (Some size) positions = beyond (natural size.number) positions

-- the faults of shared declarations: each one's name, size and values, where the names before it are visible
abbrev pub shared_faults : Names → List Shared → List Fault
shared_faults names [] = []
shared_faults names (s ∷ rest) =
    taken names s.name
    ++ size_faults s.size
    ++ value_faults s.size (map (λ v. v.at) s.values)
    ++ shared_faults (declare names s.name (stands_for s.size s.kind)) rest

-- the names that the shared declarations make visible
abbrev pub with_shared : Names → List Shared → Names
with_shared names [] = names
with_shared names (s ∷ rest) = with_shared (declare names s.name (stands_for s.size s.kind)) rest

-- the first declaration with which there are too many words in all
abbrev pub word_faults : ℕ → List Shared → List Fault
word_faults before [] = []
word_faults before (s ∷ rest) =
    if nat_le (before + words_of s.size) most_words
    then word_faults (before + words_of s.size) rest
    else fault Limit s.name.at

-- ---- functions

-- a parameter's name is visible already
abbrev pub param_faults : Names → List Param → List Fault
param_faults names [] = []
param_faults names (q ∷ rest) = taken names q.name ++ param_faults (declare names q.name (declared.Local q.ty)) rest

-- the names that the parameters make visible
abbrev pub with_params : Names → List Param → Names
with_params names [] = names
with_params names (q ∷ rest) = with_params (declare names q.name (declared.Local q.ty)) rest

-- what a function's name stands for
abbrev pub as_declared : Function → Bool → Declaration
as_declared f touches = declared.Function (record { params = map (λ q. q.ty) f.params; gives = f.gives; touches = touches })

-- a body of one kind or another, where these names are visible
abbrev pub body_faults : Names → Body → Names → List Stmt → List Fault
body_faults globals body names statements = faults globals (body_of body) names 0 (form.Block statements)

-- a function's body sees the function's own name
abbrev pub with_own : Names → Function → Names
with_own globals f = declare globals f.name (as_declared f false)

-- a function reads or sets a tally word, itself or through its calls, where a routine with its body would be refused for that
abbrev pub touches_tally : Names → Function → Bool
touches_tally names f = list_any (λ x. is_tally_used x.kind) (body_faults names body.Routine (with_params names f.params) f.body)

-- whether a function has a result
abbrev pub gives_value : Gives → Bool
gives_value gives.Nothing = false
gives_value gives.Int = true
gives_value gives.Bool = true

-- inside a function, where its own name is visible
abbrev pub inside_faults : Names → Function → List Fault
inside_faults names f =
    param_faults names f.params
    ++ beyond most_params (map (λ q. q.name.at) f.params)
    ++ body_faults names (body.Function f.gives) (with_params names f.params) f.body
    ++ too_many_locals (map (λ q. q.name) f.params ++ locals_in (form.Block f.body))
    ++ fault_if (gives_value f.gives && not (ends (form.Block f.body))) NoReturn f.name.at

-- the faults of a function: its name, and what is inside it
abbrev pub function_faults : Names → Function → List Fault
function_faults globals f = taken globals f.name ++ inside_faults (with_own globals f) f

-- a function is visible from its declaration on
abbrev pub with_function : Names → Function → Names
with_function globals f = declare globals f.name (as_declared f (touches_tally (with_own globals f) f))

-- the faults of functions, each where those before it are visible
abbrev pub all_function_faults : Names → List Function → List Fault
all_function_faults globals [] = []
all_function_faults globals (f ∷ rest) = function_faults globals f ++ all_function_faults (with_function globals f) rest

-- the names that the functions make visible
abbrev pub with_functions : Names → List Function → Names
with_functions globals [] = globals
with_functions globals (f ∷ rest) = with_functions (with_function globals f) rest

-- ---- the whole

-- the names that are visible in main, but for its locals
abbrev pub global_names : Program → Names
global_names p = with_functions (with_shared [] p.shared) p.functions

-- the faults of main
abbrev pub main_faults : Names → List Stmt → List Fault
main_faults globals statements = body_faults globals body.Main globals statements ++ too_many_locals (locals_in (form.Block statements))

-- all faults, as they are found
abbrev pub faults_of : Program → List Fault
faults_of p =
    shared_faults [] p.shared
    ++ word_faults 0 p.shared
    ++ all_function_faults (with_shared [] p.shared) p.functions
    ++ beyond most_functions (map (λ f. f.name.at) p.functions)
    ++ main_faults (global_names p) p.main

-- all faults, by position and then by number
abbrev pub fault_list : Program → List Fault
fault_list p = in_position (faults_of p)

-- the fault that a refusal names
abbrev pub first_fault : Program → Option Fault
first_fault p = first (fault_list p)

-- an accepted program has no faults
abbrev pub IsAccepted : Program → Type 0
IsAccepted p = fault_list p ≡ []
