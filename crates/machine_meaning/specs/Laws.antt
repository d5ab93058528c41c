-- The laws over the machine of a verified module.
use Rattle.bytecode.specs.declared.module.Module.{Module}
use Rattle.code_verify.specs.Rules.{IsVerified}
use Rattle.machine_meaning.specs.Runs.{NeverStuck, EndsInTime, RoutinesEnd}
use Rattle.machine_meaning.specs.Meaning.{MainGoesOn, MainComes}
use Rattle.machine_meaning.specs.Reaching.{CallComposes, CallTraps, MainFollows, MainTraps, RoutineEnds, RoutineTraps}

-- each state that a verified module's machine reaches has a next step
abbrev pub VerifiedIsNeverStuck : Type 0
VerifiedIsNeverStuck = (m : Module) → IsVerified m → NeverStuck m

-- a verified module's machine comes to its end or to an event in so many steps
abbrev pub VerifiedEndsInTime : Type 0
VerifiedEndsInTime = (m : Module) → IsVerified m → EndsInTime m

-- a verified module's routines come to their ends
abbrev pub RoutinesOfVerifiedEnd : Type 0
RoutinesOfVerifiedEnd = (m : Module) → IsVerified m → RoutinesEnd m

-- calls do what bodies do
abbrev pub CallsCompose : Type 0
CallsCompose = (m : Module) → CallComposes m

-- calls trap where bodies do
abbrev pub TrapsOfCalls : Type 0
TrapsOfCalls = (m : Module) → CallTraps m

-- a verified module's main goes on just where its steps lead
abbrev pub MainOfVerifiedGoesOn : Type 0
MainOfVerifiedGoesOn = (m : Module) → IsVerified m → MainGoesOn m

-- a verified module's main goes on where its runs come to
abbrev pub MainOfVerifiedComes : Type 0
MainOfVerifiedComes = (m : Module) → IsVerified m → MainComes m

-- a verified module's main goes on alike from a state and from what that comes to
abbrev pub MainOfVerifiedFollows : Type 0
MainOfVerifiedFollows = (m : Module) → IsVerified m → MainFollows m

-- a verified module's main ends where it traps
abbrev pub TrapsOfVerifiedMain : Type 0
TrapsOfVerifiedMain = (m : Module) → IsVerified m → MainTraps m

-- a verified module's routines end as their runs do
abbrev pub EndsOfVerifiedRoutines : Type 0
EndsOfVerifiedRoutines = (m : Module) → IsVerified m → RoutineEnds m

-- a verified module's routines trap as their runs do
abbrev pub TrapsOfVerifiedRoutines : Type 0
TrapsOfVerifiedRoutines = (m : Module) → IsVerified m → RoutineTraps m
