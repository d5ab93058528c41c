-- Items and widths, taken from the last to the first.
use Rattle.std.proofs.Common.{◌≡◌, ℕ, suc, ◌<◌, ◌≤◌, Bool, true, false, cond, List, [], ◌∷◌, ◌++◌, map, sum, Option, Some, None, ⊎_elim, refl, sym, ap, ◌∙◌, arith, append_assoc}
use Rattle.std.specs.Prelude.{IsSome, slice_get, ℤ, pos, negsuc}
use Rattle.std.proofs.lemmas.List.Sums.{sum_by-cons}
use Rattle.std.proofs.lemmas.Bool.{le-leb, leb-true}
use Rattle.std.proofs.lemmas.Bool.Decides.{leb_tells}
use Rattle.std.proofs.Math.Dec.{leb}
use Rattle.cal_base.specs.declared.value.Val.{Val}
use Rattle.cal_base.specs.declared.value.Val.TheVariants.{Int, Truth}
use Rattle.cal_base.specs.Printing.{shown}
use Rattle.cal_base.specs.Widths.{naturals, and_natural, unless_too_many, step_widths}
use Rattle.bytecode.specs.declared.instr.PrintItem.{PrintItem}
use Rattle.bytecode.specs.declared.instr.PrintItem.TheVariants as item
use Rattle.bytecode.specs.declared.module.Module.{Module}
use Rattle.machine_meaning.specs.Machine.{◌>>=◌, number, truth, many_numbers, pieces}
use Rattle.routine_vm.specs.Events.{WidthBeside}
use Rattle.routine_vm.proofs.There.{bind_there}

-- what is taken, with more behind it
abbrev pub with_more : {A : Type 0} → List A → Option (List A × List Val) → Option (List A × List Val)
with_more more None = None
with_more more (Some x) = Some (x.0 ++ more, x.1)

pub more_there : {A : Type 0} (more : List A) (o : Option (List A × List Val)) → IsSome (with_more more o) → IsSome o
more_there more (Some x) h = refl
more_there more None h = absurd cc

pub more_more : {A : Type 0} (p : A) (more : List A) (o : Option (List A × List Val)) → with_more more (with_more (p ∷ []) o) ≡ with_more (p ∷ more) o
more_more p more None = refl
more_more {A = A} p more (Some x) = ap (λ (l : List A). Some (l, x.1)) (append_assoc x.0 (p ∷ []) more)

pub some_of : {A : Type 0} (o : Option A) → IsSome o → (x : A) × (o ≡ Some x)
some_of (Some x) h = (x, refl)
some_of None h = absurd cc

-- ---- the items of a line

module _ (m : Module) where
  abbrev Pieces : Type 0
  Pieces = Option (List (List ℕ) × List Val)

  -- the piece of an item, before others
  abbrev before : PrintItem → List (List ℕ) × List Val → Pieces
  before (item.Text index) others = slice_get m.texts index >>= (λ text. Some (text ∷ others.0, others.1))
  before item.Int others = number others.1 >>= (λ z. Some (shown (Int z.0) ∷ others.0, z.1))
  before item.Truth others = truth others.1 >>= (λ b. Some (shown (Truth b.0) ∷ others.0, b.1))

  unfolded : (x : PrintItem) (items : List PrintItem) (vs : List Val) → pieces m (x ∷ items) vs ≡ (pieces m items vs >>= before x)
  unfolded (item.Text index) items vs = refl
  unfolded item.Int items vs = refl
  unfolded item.Truth items vs = refl

  before_more : (x : PrintItem) (more : List (List ℕ)) (y : List (List ℕ) × List Val) → before x (y.0 ++ more, y.1) ≡ with_more more (before x y)
  before_more (item.Text index) more y = told (slice_get m.texts index)
    where
      told : (o : Option (List ℕ)) → (o >>= (λ text. Some (text ∷ (y.0 ++ more), y.1))) ≡ with_more more (o >>= (λ text. Some (text ∷ y.0, y.1)))
      told None = refl
      told (Some text) = refl
  before_more item.Int more y = told (number y.1)
    where
      told : (o : Option (ℤ × List Val)) → (o >>= (λ z. Some (shown (Int z.0) ∷ (y.0 ++ more), z.1))) ≡ with_more more (o >>= (λ z. Some (shown (Int z.0) ∷ y.0, z.1)))
      told None = refl
      told (Some z) = refl
  before_more item.Truth more y = told (truth y.1)
    where
      told : (o : Option (Bool × List Val)) → (o >>= (λ b. Some (shown (Truth b.0) ∷ (y.0 ++ more), b.1))) ≡ with_more more (o >>= (λ b. Some (shown (Truth b.0) ∷ y.0, b.1)))
      told None = refl
      told (Some b) = refl

  -- the pieces of items behind which one is taken already
  abbrev pub behind_last : List PrintItem → Pieces → Pieces
  behind_last others o = o >>= (λ y. with_more y.0 (pieces m others y.1))

  through : (x : PrintItem) (others : List PrintItem) (o : Pieces) → (behind_last others o >>= before x) ≡ behind_last (x ∷ others) o
  through x others None = refl
  through x others (Some y) = told (pieces m others y.1) ∙ ap (λ (o : Pieces). with_more y.0 o) (sym (unfolded x others y.1))
    where
      told : (o : Pieces) → (with_more y.0 o >>= before x) ≡ with_more y.0 (o >>= before x)
      told None = refl
      told (Some z) = before_more x y.0 z

  first_alone : (o : Pieces) → o ≡ behind_last [] o
  first_alone None = refl
  first_alone (Some y) = refl

  -- the last item is taken first
  pub pieces_last : (others : List PrintItem) (last : PrintItem) (vs : List Val) → pieces m (others ++ last ∷ []) vs ≡ behind_last others (pieces m (last ∷ []) vs)
  pieces_last [] last vs = first_alone (pieces m (last ∷ []) vs)
  pieces_last (x ∷ others) last vs =
      unfolded x (others ++ last ∷ []) vs ∙ ap (λ (o : Pieces). o >>= before x) (pieces_last others last vs) ∙ through x others (pieces m (last ∷ []) vs)

-- ---- widths

pub number_there : (n : ℕ) (vs : List Val) → IsSome (many_numbers (suc n) vs) → IsSome (number vs)
number_there n vs h = bind_there (number vs) _ h

-- the numbers behind which one is taken already
pub numbers_last : (n : ℕ) (vs more : List Val) (z : ℤ) → number vs ≡ Some (z, more) → many_numbers (suc n) vs ≡ with_more (z ∷ []) (many_numbers n more)
numbers_last n vs more z e = ap (λ (o : Option (ℤ × List Val)). o >>= (λ last. many_numbers n last.1 >>= (λ others. Some (others.0 ++ last.0 ∷ [], others.1)))) e ∙ told (many_numbers n more)
  where
    told : (o : Option (List ℤ × List Val)) → (o >>= (λ others. Some (others.0 ++ z ∷ [], others.1))) ≡ with_more (z ∷ []) o
    told None = refl
    told (Some x) = refl

natural_all : (ws : List ℕ) → naturals (map pos ws) ≡ Some ws
natural_all [] = refl
natural_all (w ∷ ws) = ap (λ (o : Option (List ℕ)). and_natural (pos w) o) (natural_all ws)

natural_none : (front zs : List ℤ) → naturals zs ≡ None → naturals (front ++ zs) ≡ None
natural_none [] zs e = e
natural_none (pos n ∷ front) zs e = ap (λ (o : Option (List ℕ)). and_natural (pos n) o) (natural_none front zs e)
natural_none (negsuc n ∷ front) zs e = refl

-- widths of at most so many routines
pub good_widths : (ws : List ℕ) → sum ws ≤ 65536 → step_widths (map pos ws) ≡ Some ws
good_widths ws le = ap unless_too_many (natural_all ws) ∙ ap (λ (b : Bool). cond b (Some ws) None) (le-leb (sum ws) 65536 le)

-- the widths in front of these, if they are any, make no fewer routines
abbrev AtLeast : ℕ → Option (List ℕ) → Type 0
AtLeast least None = Unit {0}
AtLeast least (Some ns) = least ≤ sum ns

at_least : (front zs : List ℤ) (least : ℕ) → AtLeast least (naturals zs) → AtLeast least (naturals (front ++ zs))
at_least [] zs least h = h
at_least (negsuc n ∷ front) zs least h = tt
at_least (pos n ∷ front) zs least h = told (naturals (front ++ zs)) (at_least front zs least h)
  where
    told : (o : Option (List ℕ)) → AtLeast least o → AtLeast least (and_natural (pos n) o)
    told None h = tt
    told (Some ns) h = let more = sum_by-cons (λ x. x) n ns in omega (arith, h, more)

lt-leb : (a b : ℕ) → b < a → leb a b ≡ false
lt-leb a b lt = ⊎_elim (λ (h : (leb a b ≡ true) × (a ≤ b)). absurd (omega (arith, h.1, lt))) (λ (h : (leb a b ≡ false) × (b < a)). h.0) (leb_tells a b)

too_many : (o : Option (List ℕ)) → AtLeast 65537 o → unless_too_many o ≡ None
too_many None h = refl
too_many (Some ns) h = ap (λ (b : Bool). cond b (Some ns) None) (lt-leb (sum ns) 65536 (omega (arith, h)))

-- a number that is no width makes no step
pub bad_widths : (front : List ℤ) (z : ℤ) (ws : List ℕ) → WidthBeside (sum ws) z None → step_widths (front ++ z ∷ map pos ws) ≡ None
bad_widths front (negsuc n) ws h = ap unless_too_many (natural_none front (negsuc n ∷ map pos ws) refl)
bad_widths front (pos n) ws h = too_many (naturals (front ++ pos n ∷ map pos ws)) (at_least front (pos n ∷ map pos ws) 65537
    (rw (natural_all ws) (let more = sum_by-cons (λ x. x) n ws in omega (arith, h, more))))

-- widths of a step make few routines
pub few_routines : (ws : List ℕ) → step_widths (map pos ws) ≡ Some ws → sum ws ≤ 65536
few_routines ws e = told (leb (sum ws) 65536) refl (sym (ap unless_too_many (natural_all ws)) ∙ e)
  where
    told : (b : Bool) → leb (sum ws) 65536 ≡ b → cond b (Some ws) None ≡ Some ws → sum ws ≤ 65536
    told true is e = leb-true (sum ws) 65536 is
    told false is e = absurd cc
