-- How a code is walked through in order: what becomes known of the kinds at its places, or none where a rule fails.
-- For the proof of the body: no public clause cites this.
use Rattle.std.specs.Prelude.{◌≡◌, ℕ, zero, suc, ◌+◌, nat_lt, if◌then◌else◌, Bool, true, false, List, [], ◌∷◌, length, Option, Some, None}
use Rattle.std.specs.Prelude.{slice_get, slice_set}
use Rattle.bytecode.specs.declared.instr.Instr.{Instr}
use Rattle.bytecode.specs.declared.instr.Instr.TheVariants as i
use Rattle.bytecode.specs.declared.module.Code.{Code}
use Rattle.bytecode.specs.declared.module.Module.{Module}
use Rattle.code_verify.specs.Kinds.{Kinds, same_kind, after}
use Rattle.code_verify.specs.Rules.{most_operands}

infixl 10 ◌>>=◌
-- goes on with what is there
abbrev pub ◌>>=◌ : {A B : Type 0} → Option A → (A → Option B) → Option B
(Some x) >>= f = f x
None >>= f = None

-- where the answer is yes, the change leads to this, and where it is no, there is none
abbrev pub Changes : {A : Type 0} → Bool → A → Option A → Type 0
Changes true later given = given ≡ Some later
Changes false later given = given ≡ None

-- the kinds of each place, where they are known
abbrev pub Table : Type 0
Table = List (Option Kinds)

-- are both lists the same?
abbrev pub same_kinds : Kinds → Kinds → Bool
same_kinds [] [] = true
same_kinds [] (j ∷ js) = false
same_kinds (k ∷ ks) [] = false
same_kinds (k ∷ ks) (j ∷ js) = if same_kind k j then same_kinds ks js else false

-- the table where these kinds come to a place of which this is known
abbrev pub agreed : Table → ℕ → Kinds → Option (Option Kinds) → Option Table
agreed table to ks None = None
agreed table to ks (Some None) = Some (slice_set table to (Some ks))
agreed table to ks (Some (Some known)) = if same_kinds known ks then Some table else None

-- the table where these kinds come to a place
abbrev pub expects : Table → ℕ → Kinds → Option Table
expects table to ks = agreed table to ks (slice_get table to)

-- the table, where just these kinds are known of a place
abbrev pub looped : Table → Kinds → Option (Option Kinds) → Option Table
looped table ks None = None
looped table ks (Some None) = None
looped table ks (Some (Some known)) = if same_kinds known ks then Some table else None

-- the table, where no kinds are left
abbrev pub ended : Table → Kinds → Option Table
ended table [] = Some table
ended table (k ∷ ks) = None

-- the table behind an instruction that leaves these kinds
abbrev pub goes_on : Instr → ℕ → Kinds → Table → Option Table
goes_on (i.Jump t) place rest table = expects table t rest
goes_on (i.Branch t) place rest table = expects table t rest >>= (λ later. expects later (place + 1) rest)
goes_on (i.Loop t) place rest table = looped table rest (slice_get table t)
goes_on i.Return place rest table = ended table rest
goes_on _ place rest table = expects table (place + 1) rest

-- the kinds with which a place is taken of which this is known
abbrev pub kinds_in : Option (Option Kinds) → Kinds
kinds_in None = []
kinds_in (Some None) = []
kinds_in (Some (Some ks)) = ks

-- the table where the place is taken of which this is known
abbrev pub opened : Table → ℕ → Option (Option Kinds) → Table
opened table place None = table
opened table place (Some None) = slice_set table place (Some [])
opened table place (Some (Some ks)) = table

-- the table behind an instruction that is taken with these kinds
abbrev pub goes_with : Module → Code → ℕ → Instr → Kinds → Table → Option Table
goes_with m c place instr ks table =
    if nat_lt most_operands (length ks) then None else (after m c instr ks >>= (λ rest. goes_on instr place rest table))

-- the table behind the instruction at a place
abbrev pub walk_at : Module → Code → ℕ → Instr → Table → Option Table
walk_at m c place instr table = goes_with m c place instr (kinds_in (slice_get table place)) (opened table place (slice_get table place))

-- the table behind these instructions, from a place on
abbrev pub walk : Module → Code → ℕ → List Instr → Table → Option Table
walk m c place [] table = Some table
walk m c place (instr ∷ rest) table = walk_at m c place instr table >>= (λ later. walk m c (place + 1) rest later)

-- nothing is known of this many places
abbrev pub unknown : ℕ → Table
unknown zero = []
unknown (suc n) = None ∷ unknown n
