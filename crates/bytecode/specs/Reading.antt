-- Reading bytes from left to right.
-- For the proof of the body: no public clause cites this.
use Rattle.std.specs.Prelude.{◌≡◌, ℕ, zero, suc, ◌+◌, ◌-◌, ◌*◌, ◌/◌, ◌%◌, ◌^◌, nat_lt, nat_le, ◌==◌, if◌then◌else◌, Bool, true, false, ◌&&◌}
use Rattle.std.specs.Prelude.{ℤ, pos, negsuc, List, [], ◌∷◌, length, take, drop, map, Option, Some, None, Result, Ok, Err}
use Rattle.std.specs.Ordering.{int_eq}
use Rattle.bytecode.specs.declared.fault.DecodeError.{DecodeError}
use Rattle.bytecode.specs.declared.fault.DecodeError.TheVariants.{Refused, NoMemory}
use Rattle.bytecode.specs.declared.instr.PrintItem.{PrintItem}
use Rattle.bytecode.specs.declared.instr.PrintItem.TheVariants as item
use Rattle.bytecode.specs.declared.instr.Instr.{Instr}
use Rattle.bytecode.specs.declared.instr.Instr.TheVariants as i
use Rattle.cal_terms.specs.declared.types.Ty.{Ty}
use Rattle.cal_terms.specs.declared.types.Ty.TheVariants as ty
use Rattle.cal_terms.specs.declared.types.Gives.{Gives}
use Rattle.cal_terms.specs.declared.types.Gives.TheVariants as gives
use Rattle.bytecode.specs.declared.module.Code.{Code}
use Rattle.bytecode.specs.declared.module.Module.{Module}

-- a value from the front of the bytes and the bytes after it, or none
abbrev pub Read : Type 0 → Type 0
Read A = Option (A × List ℕ)

infixl 10 ◌>>=◌
abbrev pub ◌>>=◌ : {A B : Type 0} → Option A → (A → Option B) → Option B
(Some x) >>= f = f x
None >>= f = None

-- what a function returned, seen by view, is what reading gives, unless memory ran out
abbrev pub Reads : {X Y : Type 0} → (X → Y) → Result X DecodeError → Option Y → Type 0
Reads view (Ok x) read = read ≡ Some (view x)
Reads view (Err Refused) read = read ≡ None
Reads view (Err NoMemory) read = Unit {0}

-- a number in at most this many bytes: none if the last of them is 0 behind others, or the number has more than 64 bits
unfoldable pub num_at : ℕ → List ℕ → Read ℕ
num_at zero bytes = None
num_at (suc more) [] = None
num_at (suc more) (b ∷ rest) =
    if nat_lt b 128 then Some (b, rest)
    else do
      high ← num_at more rest
      if high.0 == 0 then None else (if nat_lt high.0 (2 ^ 57) then Some (b - 128 + 128 * high.0, high.1) else None)

-- a number below 2 ^ 32
unfoldable pub num32_at : List ℕ → Read ℕ
num32_at bytes = do
  n ← num_at 10 bytes
  if nat_lt n.0 (2 ^ 32) then Some n else None

-- the signed number of a place in 0, -1, 1, -2, 2 and so on
abbrev pub unzigzag : ℕ → ℤ
unzigzag n = if n % 2 == 0 then pos (n / 2) else negsuc (n / 2)

unfoldable pub zig_at : List ℕ → Read ℤ
zig_at bytes = do
  n ← num_at 10 bytes
  Some (unzigzag n.0, n.1)

-- this many, one after another
unfoldable pub list_at : {A : Type 0} → (List ℕ → Read A) → ℕ → List ℕ → Read (List A)
list_at reads zero bytes = Some ([], bytes)
list_at reads (suc n) bytes = do
  first ← reads bytes
  others ← list_at reads n first.1
  Some (first.0 ∷ others.0, others.1)

-- how many, and then each
abbrev pub counted_at : {A : Type 0} → (List ℕ → Read A) → List ℕ → Read (List A)
counted_at reads bytes = do
  n ← num32_at bytes
  list_at reads n.0 n.1

-- an address, and a value that is not 0
unfoldable pub initial_at : List ℕ → Read (ℕ × ℤ)
initial_at bytes = do
  a ← num32_at bytes
  v ← zig_at a.1
  if int_eq v.0 (pos 0) then None else Some ((a.0, v.0), v.1)

unfoldable pub text_at : List ℕ → Read (List ℕ)
text_at bytes = do
  n ← num32_at bytes
  if nat_lt (length n.1) n.0 then None else Some (take n.0 n.1, drop n.0 n.1)

-- a byte, and what it stands for
unfoldable pub byte_at : {A : Type 0} → (ℕ → Option A) → List ℕ → Read A
byte_at means [] = None
byte_at means (b ∷ rest) = means b >>= (λ x. Some (x, rest))

abbrev pub kind_of : ℕ → Option Ty
kind_of b = if b == 1 then Some ty.Int else (if b == 2 then Some ty.Bool else None)

abbrev pub given_of : ℕ → Option Gives
given_of b = if b == 0 then Some gives.Nothing else (if b == 1 then Some gives.Int else (if b == 2 then Some gives.Bool else None))

unfoldable pub print_item_at : List ℕ → Read PrintItem
print_item_at [] = None
print_item_at (b ∷ rest) =
    if b == 0 then num32_at rest >>= (λ n. Some (item.Text n.0, n.1))
    else (if b == 1 then Some (item.Int, rest) else (if b == 2 then Some (item.Truth, rest) else None))

-- an instruction without operands
abbrev pub plain_of : ℕ → Option Instr
plain_of b =
    if b == 0x01 then Some i.False else
    (if b == 0x02 then Some i.True else
    (if b == 0x03 then Some i.Add else
    (if b == 0x04 then Some i.Sub else
    (if b == 0x05 then Some i.Mul else
    (if b == 0x06 then Some i.Div else
    (if b == 0x07 then Some i.Rem else
    (if b == 0x08 then Some i.Neg else
    (if b == 0x09 then Some i.Not else
    (if b == 0x0a then Some i.Eq else
    (if b == 0x0b then Some i.Ne else
    (if b == 0x0c then Some i.Lt else
    (if b == 0x0d then Some i.Le else
    (if b == 0x0e then Some i.Gt else
    (if b == 0x0f then Some i.Ge else
    (if b == 0x1c then Some i.Return else
    (if b == 0x1d then Some i.Pop else
    (if b == 0x1e then Some i.Assert else None)))))))))))))))))

-- an instruction of one number below 2 ^ 32
abbrev pub of_one : ℕ → ℕ → Option Instr
of_one b n =
    if b == 0x10 then Some (i.Load n) else
    (if b == 0x11 then Some (i.Store n) else
    (if b == 0x12 then Some (i.Word n) else
    (if b == 0x13 then Some (i.Put n) else
    (if b == 0x14 then Some (i.AddWord n) else
    (if b == 0x18 then Some (i.Jump n) else
    (if b == 0x19 then Some (i.Branch n) else
    (if b == 0x1a then Some (i.Loop n) else
    (if b == 0x1b then Some (i.Call n) else None))))))))

-- an instruction of two such numbers
abbrev pub of_two : ℕ → ℕ → ℕ → Option Instr
of_two b x y =
    if b == 0x15 then Some (i.Item x y) else
    (if b == 0x16 then Some (i.SetItem x y) else
    (if b == 0x17 then Some (i.AddItem x y) else
    (if b == 0x20 then Some (i.Par x y) else None)))

-- a byte of an instruction of two numbers
abbrev pub takes_two : ℕ → Bool
takes_two b = if b == 0x20 then true else (if nat_lt b 0x18 then nat_le 0x15 b else false)

-- the instruction that this byte begins
unfoldable pub operands_at : ℕ → List ℕ → Read Instr
operands_at b rest =
    if b == 0x00 then zig_at rest >>= (λ z. Some (i.Int z.0, z.1)) else
    (if b == 0x1f then counted_at print_item_at rest >>= (λ items. Some (i.Print items.0, items.1)) else
    (if takes_two b then num32_at rest >>= (λ x. num32_at x.1 >>= (λ y. of_two b x.0 y.0 >>= (λ instr. Some (instr, y.1)))) else
    (if nat_lt b 0x10 then plain_of b >>= (λ instr. Some (instr, rest)) else
    (if nat_lt b 0x1c then num32_at rest >>= (λ n. of_one b n.0 >>= (λ instr. Some (instr, n.1)))
    else plain_of b >>= (λ instr. Some (instr, rest))))))

unfoldable pub instr_at : List ℕ → Read Instr
instr_at [] = None
instr_at (b ∷ rest) = operands_at b rest

-- a code of this many parameters that gives this back
unfoldable pub code_at : ℕ → Gives → List ℕ → Read Code
code_at params result bytes = do
  locals ← counted_at (byte_at kind_of) bytes
  instrs ← counted_at instr_at locals.1
  Some (record { params = params; gives = result; locals = locals.0; instrs = instrs.0 }, instrs.1)

unfoldable pub function_at : List ℕ → Read Code
function_at bytes = do
  params ← num_at 10 bytes
  result ← byte_at given_of params.1
  if nat_lt params.0 256 then code_at params.0 result.0 result.1 else None

-- each number is at least the first one, and above those before it
abbrev pub are_ascending_from : ℕ → List ℕ → Bool
are_ascending_from least [] = true
are_ascending_from least (n ∷ rest) = if nat_lt n least then false else are_ascending_from (n + 1) rest

-- the four bytes before a module
unfoldable pub begun_at : List ℕ → Option (List ℕ)
begun_at (a ∷ b ∷ c ∷ d ∷ rest) = if a == 0x43 then (if b == 0x53 then (if c == 0x4c then (if d == 0x31 then Some rest else None) else None)
    else None) else None
begun_at _ = None

-- the module that all of the bytes spell
unfoldable pub module_of : List ℕ → Option Module
module_of bytes = do
  begun ← begun_at bytes
  words ← num32_at begun
  tallies ← counted_at num32_at words.1
  initial ← counted_at initial_at tallies.1
  texts ← counted_at text_at initial.1
  functions ← counted_at function_at texts.1
  blocks ← counted_at (code_at 2 gives.Nothing) functions.1
  main ← code_at 0 gives.Nothing blocks.1
  if are_ascending_from 0 tallies.0 && (are_ascending_from 0 (map (λ e. e.0) initial.0) && (length main.1 == 0)) then Some (record { words = words.0; tallies = tallies.0; initial = initial.0; texts = texts.0; functions = functions.0; blocks = blocks.0; main = main.0 }) else None
