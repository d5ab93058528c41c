-- What the verifier tests are the rules.
use Rattle.std.proofs.Common.{◌≡◌, ℕ, zero, suc, Bool, List, [], ◌∷◌, length, Some, Result, Ok, Err, refl, sym, arith}
use Rattle.std.specs.Prelude.{slice_get, IsTrue, IsSome, IfOk, ◌↔◌}
use Rattle.cal_terms.specs.declared.want.NoMemory.{NoMemory}
use Rattle.bytecode.specs.declared.instr.Instr.TheVariants as i
use Rattle.bytecode.specs.declared.module.Code.{Code}
use Rattle.bytecode.specs.declared.module.Module.{Module}
use Rattle.code_verify.specs.declared.owner.Owner.{Owner}
use Rattle.code_verify.specs.declared.owner.Owner.TheVariants.{Function, Block, Main}
use Rattle.code_verify.specs.Rules.{HasShape, IsFunction, IsBlock, IsMain, IsVerified}
use Rattle.code_verify.specs.Walk.{walk, unknown}
use Rattle.code_verify.specs.Tests.{KeepsRules, Each, IsCode, IsQuietBlock, SomeUses, BeginsWithInts, HasParts, TellsUses, CallBackwards}
use Rattle.code_verify.proofs.Complete.{walked_sound, sound_walked}
use Rattle.code_verify.proofs.Using.{uses_clash, uses_none}

-- an answer to one question is the answer to another
pub answers_so : (r : Result Bool NoMemory) (P Q : Type 0) → P ↔ Q → IfOk r (λ yes. IsTrue yes ↔ P) → IfOk r (λ yes. IsTrue yes ↔ Q)
answers_so (Ok answer) P Q h r = (λ y. h.0 (r.0 y), λ q. r.1 (h.1 q))
answers_so (Err e) P Q h r = tt

-- ---- one code

stands_at : {A B : Type 0} (xs : List A) (ys : List B) (n : ℕ) (x : A) → length xs ≡ length ys → slice_get xs n ≡ Some x → (y : B) × (slice_get ys n ≡ Some y)
stands_at [] ys n x e h = absurd cc
stands_at (a ∷ xs) [] n x e h = absurd (omega arith)
stands_at (a ∷ xs) (b ∷ ys) zero x e h = (b, refl)
stands_at (a ∷ xs) (b ∷ ys) (suc n) x e h = let same : length xs ≡ length ys = omega arith in stands_at xs ys n x same h

pub code_keeps : (m : Module) (owner : Owner) (c : Code) → IsCode m owner c → Each (KeepsRules m owner c) c.instrs
code_keeps m owner c h place x st =
    let kinds = stands_at c.instrs h.sound.taken place x (sym h.sound.is_taken.each) st in
    let right = h.sound.right place x kinds.0 st kinds.1 in
    let each = h.each place x st in
    record { in_range = right.in_range; ahead = right.ahead; plain = each.0; stands = each.1 }

pub code_by_walk : (m : Module) (owner : Owner) (c : Code) → HasShape c → Each (KeepsRules m owner c) c.instrs → IsSome (walk m c 0 c.instrs (unknown (length c.instrs))) ↔ IsCode m owner c
code_by_walk m owner c shape each = (
  λ some. record {
    sound = walked_sound m c (λ place x st. let k = each place x st in (k.in_range, k.ahead)) shape some;
    each = λ place x st. let k = each place x st in (k.plain, k.stands);
  },
  λ h. sound_walked m c h.sound,
)

pub quiet_by_code : (m : Module) (uses : List Bool) (c : Code) → BeginsWithInts c → (SomeUses m uses c → ⊥) → IsCode m Block c ↔ IsQuietBlock m uses c
quiet_by_code m uses c ints quiet = (λ h. record { code = h; params = ints; quiet = quiet }, λ h. h.code)

-- ---- the codes of a module

pub function_code : (m : Module) (f : ℕ) (c : Code) → IsFunction m f c → IsCode m (Function f) c
function_code m f c h = record { sound = h.sound; each = λ place x st. let t = h.each place x st in (t.0, (t.1, t.2)) }

code_function : (m : Module) (f : ℕ) (c : Code) → IsCode m (Function f) c → IsFunction m f c
code_function m f c h = record { sound = h.sound; each = λ place x st. let t = h.each place x st in (t.0, t.1.0, t.1.1) }

main_code : (m : Module) (c : Code) → IsMain m c → IsCode m Main c
main_code m c h = record { sound = h.sound; each = λ place x st. h.each place x st }

code_main : (m : Module) (c : Code) → IsCode m Main c → IsMain m c
code_main m c h = record { sound = h.sound; each = λ place x st. h.each place x st }

module _ (m : Module) (uses : List Bool) (tells : TellsUses m uses (length m.functions)) where
  block_quiet : (c : Code) → IsBlock m c → IsQuietBlock m uses c
  block_quiet c h = record {
    code = record { sound = h.sound; each = λ place x st. let t = h.each place x st in (t.0, t.1) };
    params = h.params;
    quiet = λ s. uses_clash m uses tells s.instr (h.each s.place s.instr s.stands).2 s.found;
  }

  quiet_block : (c : Code) → IsQuietBlock m uses c → IsBlock m c
  quiet_block c h = record { sound = h.code.sound; params = h.params; each = λ place x st. let t = h.code.each place x st in (t.0, t.1, uses_none m uses tells c place x st h.quiet) }

  -- where all else holds, the module keeps the rules exactly where its blocks do
  pub verified_by : HasParts m → Each (λ f c. IsCode m (Function f) c) m.functions → IsCode m Main m.main → Each (λ b c. IsQuietBlock m uses c) m.blocks ↔ IsVerified m
  verified_by parts functions main = (
    λ blocks. record {
      spelled = parts.spelled;
      few_words = parts.few_words;
      few_functions = parts.few_functions;
      tallies = parts.tallies;
      initial = parts.initial;
      functions = λ f c at. code_function m f c (functions f c at);
      blocks = λ b c at. quiet_block c (blocks b c at);
      main = code_main m m.main main;
    },
    λ v b c at. block_quiet c (v.blocks b c at),
  )

pub verified_parts : (m : Module) → IsVerified m → HasParts m
verified_parts m v = record { spelled = v.spelled; few_words = v.few_words; few_functions = v.few_functions; tallies = v.tallies; initial = v.initial }

pub verified_functions : (m : Module) → IsVerified m → Each (λ f c. IsCode m (Function f) c) m.functions
verified_functions m v f c at = function_code m f c (v.functions f c at)

pub verified_main : (m : Module) → IsVerified m → IsCode m Main m.main
verified_main m v = main_code m m.main v.main

pub calls_backwards : (m : Module) → Each (λ f c. IsCode m (Function f) c) m.functions → CallBackwards m
calls_backwards m each f c place g at st = ((each f c at).each place (i.Call g) st).1.1
