-- What it says of an instruction that there is a next step.
use Rattle.std.proofs.Common.{◌≡◌, ℕ, Bool, true, false, cond, Option, Some, None, refl, sym}
use Rattle.std.specs.Prelude.{IsSome}
use Rattle.bytecode.specs.declared.module.Module.{Module}
use Rattle.machine_meaning.specs.Machine.{◌>>=◌, State, Next, may_use, using, at_item}

pub bind_there : {A B : Type 0} (o : Option A) (f : A → Option B) → IsSome (o >>= f) → IsSome o
bind_there (Some a) f h = refl
bind_there None f h = absurd cc

pub if_there : {A : Type 0} (b : Bool) (x : A) → IsSome (cond b (Some x) None) → b ≡ true
if_there true x h = refl
if_there false x h = absurd cc

-- the word of an instruction may be used
pub using_there : (m : Module) (s : State) (a : ℕ) (n : Next) → IsSome (using m s a n) → may_use m s.store a ≡ true
using_there m s a n h = if_there (may_use m s.store a) n h

unless_there : {A : Type 0} (b : Bool) (o : Option A) → IsSome (cond b None o) → IsSome o
unless_there true o h = absurd cc
unless_there false o h = h

-- the item of an array may be used
pub item_there : (m : Module) (s : State) (b : Bool) (o : Option ℕ) (a : ℕ) (f : ℕ → Next) → IsSome (cond b None (at_item m s o f)) → o ≡ Some a → may_use m s.store a ≡ true
item_there m s b None a f h e = absurd cc
item_there m s b (Some x) a f h e = let same : x ≡ a = cc in rw (sym same) (using_there m s x (f x) (unless_there b _ h))
