-- Each field that is read is the field that was written, and what was written is read again.
use Rattle.std.proofs.Common.{◌≡◌, ◌≢◌, ℕ, zero, suc, ◌+◌, ◌*◌, ◌/◌, ◌%◌, ◌^◌, ◌<◌, ◌≤◌, Bool, true, false, cond, ltb, eqb, List, [], ◌∷◌, ◌++◌, length, take, drop, Option, Some, None, map, refl, sym}
use Rattle.std.proofs.Common.{ap, subst, ◌∙◌, append_assoc, arith}
use Rattle.bytecode.specs.declared.fault.DecodeError.{DecodeError}
use Rattle.bytecode.specs.declared.fault.DecodeError.TheVariants as error
use Rattle.std.specs.Prelude.{IfOk, MatchResult, Result, Ok, Err, ℤ, pos, negsuc, ◌&&◌}
use Rattle.std.specs.Ordering.{int_eq}
use Rattle.std.specs.List.{flat_map, AllByRecursion}
use Rattle.std.proofs.lemmas.Bool.{ltb-true, ltb-false, lt-ltb, le-ltb, eqb-true, eqb-false, eq-eqb, ne_eqb, and_parts}
use Rattle.std.proofs.lemmas.List.{append-nil, nil_from_length, take_at, drop_at, take-append-drop, length-append, length-take, get_or-drop}
use Rattle.std.proofs.lemmas.Bool.Decides.{Decides-int_eq}
use Rattle.std.proofs.lemmas.List.Concat.{flat_map-cons}
use Rattle.bytecode.specs.declared.instr.PrintItem.{PrintItem}
use Rattle.bytecode.specs.declared.instr.PrintItem.TheVariants as item
use Rattle.bytecode.specs.declared.instr.Instr.{Instr}
use Rattle.bytecode.specs.declared.instr.Instr.TheVariants as i
use Rattle.cal_terms.specs.declared.types.Ty.{Ty}
use Rattle.cal_terms.specs.declared.types.Ty.TheVariants as ty
use Rattle.cal_terms.specs.declared.types.Gives.{Gives}
use Rattle.cal_terms.specs.declared.types.Gives.TheVariants as gives
use Rattle.bytecode.specs.declared.module.Code.{Code}
use Rattle.bytecode.specs.declared.module.Module.{Module}
use Rattle.bytecode.specs.Spelling as Spelling
use Rattle.bytecode.specs.Spelling.{num, zigzag, zig, counted, initial, text, kind, given, print_item, instr, code, function, Counted, FitsNum, FitsZig, FitsInitial, FitsByte, FitsText, FitsKind}
use Rattle.bytecode.specs.Spelling.{FitsItem, FitsInstr, FitsCode, FitsFunction, FitsBlock, FitsMain, AreAscendingFrom, HasSpelling, spelling}
use Rattle.bytecode.specs.Reading.{Reads, Read, ◌>>=◌, num_at, num32_at, unzigzag, zig_at, list_at, counted_at, initial_at, text_at, byte_at, kind_of, given_of, print_item_at, plain_of, of_one}
use Rattle.bytecode.specs.Reading.{of_two, takes_two, operands_at, instr_at, code_at, function_at, begun_at, are_ascending_from, module_of}
use Rattle.bytecode.proofs.Numbers.{IsBytes, Takes, IsForm, bind_some, when_some, unless_some, some_same, num_form}

-- one field, and then another
pub parts_then : (bytes a mid b rest : List ℕ) → bytes ≡ a ++ mid → mid ≡ b ++ rest → bytes ≡ (a ++ b) ++ rest
parts_then bytes a mid b rest p q = p ∙ ap (λ (t : List ℕ). a ++ t) q ∙ sym (append_assoc a b rest)

-- ---- numbers

pub num32_form : IsForm num FitsNum num32_at
unfolding num32_at
num32_form = record {
  takes = λ bytes x h e.
      let n = bind_some (num_at 10 bytes) (λ n. cond (ltb n.0 (2 ^ 32)) (Some n) None) x e in
      let small = when_some (ltb n.0.0 (2 ^ 32)) (Some n.0) x n.2 in
      let taken = num_form.takes bytes n.0 h n.1 in
      subst (λ (y : ℕ × List ℕ). Takes num FitsNum bytes y) (some_same n.0 x (Some n.0) refl small.1)
      (record { parts = taken.parts; fits = ltb-true n.0.0 (2 ^ 32) small.0; rest_bytes = taken.rest_bytes });
  again = λ n rest fits. rw (num_form.again n rest (omega arith), lt-ltb n (2 ^ 32) fits) refl;
}

zigzag_back : (n : ℕ) → zigzag (unzigzag n) ≡ n
zigzag_back n = tested (eqb (n % 2) 0) refl
  where
    tested : (t : Bool) → eqb (n % 2) 0 ≡ t → zigzag (cond t (pos (n / 2)) (negsuc (n / 2))) ≡ n
    tested true t = let even : n % 2 ≡ 0 = eqb-true (n % 2) 0 t in omega arith
    tested false t = let odd : n % 2 ≢ 0 = eqb-false (n % 2) 0 t in omega arith

unzigzag_back : (z : ℤ) → unzigzag (zigzag z) ≡ z
unzigzag_back (pos n) =
    let even : eqb (2 * n % 2) 0 ≡ true = eq-eqb (2 * n % 2) 0 (omega arith) in
    let half : 2 * n / 2 ≡ n = omega arith in
    rw even (ap pos half)
unzigzag_back (negsuc n) =
    let odd : eqb ((2 * n + 1) % 2) 0 ≡ false = ne_eqb ((2 * n + 1) % 2) 0 (λ z. omega (arith, z)) in
    let half : (2 * n + 1) / 2 ≡ n = omega arith in
    rw odd (ap negsuc half)

pub zig_form : IsForm zig FitsZig zig_at
unfolding zig_at
zig_form = record {
  takes = λ bytes x h e.
      let n = bind_some (num_at 10 bytes) (λ n. Some (unzigzag n.0, n.1)) x e in
      let taken = num_form.takes bytes n.0 h n.1 in
      subst (λ (y : ℤ × List ℕ). Takes zig FitsZig bytes y) (some_same (unzigzag n.0.0, n.0.1) x (Some (unzigzag n.0.0, n.0.1)) refl n.2)
      (record { parts = rw (zigzag_back n.0.0) taken.parts; fits = rw (zigzag_back n.0.0) taken.fits; rest_bytes = taken.rest_bytes });
  again = λ z rest fits. rw (num_form.again (zigzag z) rest fits) (ap (λ (y : ℤ). Some (y, rest)) (unzigzag_back z));
}

-- ---- lists

module _ {A : Type 0} (spell : A → List ℕ) (Fits : A → Type 0) (reads : List ℕ → Read A) (form : IsForm spell Fits reads) where
  list_takes : (n : ℕ) (bytes : List ℕ) (x : List A × List ℕ) → IsBytes bytes → list_at reads n bytes ≡ Some x → Takes (flat_map spell) (λ xs. (length xs ≡ n) × AllByRecursion Fits xs) bytes x
  unfolding list_at
  list_takes zero bytes x h e =
      subst (λ (y : List A × List ℕ). Takes (flat_map spell) (λ xs. (length xs ≡ 0) × AllByRecursion Fits xs) bytes y) (some_same ([], bytes) x (Some ([], bytes)) refl e)
      (record { parts = refl; fits = (refl, tt); rest_bytes = h })
  list_takes (suc n) bytes x h e =
      let a = bind_some (reads bytes) (λ first. list_at reads n first.1 >>= λ others. Some (first.0 ∷ others.0, others.1)) x e in
      let b = bind_some (list_at reads n a.0.1) (λ others. Some (a.0.0 ∷ others.0, others.1)) x a.2 in
      let first = form.takes bytes a.0 h a.1 in
      let others = list_takes n a.0.1 b.0 first.rest_bytes b.1 in
      subst (λ (y : List A × List ℕ). Takes (flat_map spell) (λ xs. (length xs ≡ suc n) × AllByRecursion Fits xs) bytes y) (some_same (a.0.0 ∷ b.0.0, b.0.1) x (Some (a.0.0 ∷ b.0.0, b.0.1)) refl b.2)
      (record { parts = rw flat_map-cons (parts_then bytes (spell a.0.0) a.0.1 (flat_map spell b.0.0) b.0.1 first.parts others.parts); fits = (ap suc others.fits.0, (first.fits, others.fits.1)); rest_bytes = others.rest_bytes })

  list_again : (xs : List A) (rest : List ℕ) → AllByRecursion Fits xs → list_at reads (length xs) (flat_map spell xs ++ rest) ≡ Some (xs, rest)
  unfolding list_at
  list_again [] rest fits = refl
  list_again (a ∷ xs) rest fits =
      let regrouped : flat_map spell (a ∷ xs) ++ rest ≡ spell a ++ (flat_map spell xs ++ rest) = ap (λ (l : List ℕ). l ++ rest) (flat_map-cons spell a xs)
      ∙ append_assoc (spell a) (flat_map spell xs) rest in
      ap (list_at reads (suc (length xs))) regrouped ∙ rw (form.again a (flat_map spell xs ++ rest) fits.0, list_again xs rest fits.1) refl

  pub counted_form : IsForm (counted spell) (Counted Fits) (counted_at reads)
  counted_form = record {
    takes = λ bytes x h e.
        let n = bind_some (num32_at bytes) (λ n. list_at reads n.0 n.1) x e in
        let count = num32_form.takes bytes n.0 h n.1 in
        let members = list_takes n.0.0 n.0.1 x count.rest_bytes n.2 in
        let same : n.0.0 ≡ length x.0 = sym members.fits.0 in
        record { parts = subst (λ (k : ℕ). bytes ≡ (num k ++ flat_map spell x.0) ++ x.1) same (parts_then bytes (num n.0.0) n.0.1 (flat_map spell x.0) x.1 count.parts members.parts); fits = (subst (λ (k : ℕ). k < 2 ^ 32) same count.fits, members.fits.1); rest_bytes = members.rest_bytes };
    again = λ xs rest fits.
        ap (counted_at reads) (append_assoc (num (length xs)) (flat_map spell xs) rest) ∙ rw (num32_form.again (length xs) (flat_map spell xs ++ rest) fits.0) (list_again xs rest fits.1);
  }

-- ---- a byte with a meaning

bytes_rest : (b : ℕ) (bytes : List ℕ) → IsBytes (b ∷ bytes) → IsBytes bytes
bytes_rest b bytes h i = h (suc i)

pub byte_form : {A : Type 0} (spell : A → List ℕ) (means : ℕ → Option A) → ((b : ℕ) (a : A) → means b ≡ Some a → spell a ≡ b ∷ []) → ((a : A) → (b : ℕ) × (spell a ≡ b ∷ []) × (means b ≡ Some a))
    → IsForm spell (λ a. Unit {0}) (byte_at means)
unfolding byte_at
byte_form {A} spell means found back = record { takes = takes; again = again }
  where
    takes : (bytes : List ℕ) (x : A × List ℕ) → IsBytes bytes → byte_at means bytes ≡ Some x → Takes spell (λ a. Unit {0}) bytes x
    takes [] x h e = absurd cc
    takes (b ∷ bytes) x h e =
        let a = bind_some (means b) (λ a. Some (a, bytes)) x e in
        subst (λ (y : A × List ℕ). Takes spell (λ a. Unit {0}) (b ∷ bytes) y) (some_same (a.0, bytes) x (Some (a.0, bytes)) refl a.2)
        (record { parts = ap (λ (l : List ℕ). l ++ bytes) (sym (found b a.0 a.1)); fits = tt; rest_bytes = bytes_rest b bytes h })

    again : (a : A) (rest : List ℕ) → Unit {0} → byte_at means (spell a ++ rest) ≡ Some (a, rest)
    again a rest fits = let b = back a in ap (λ (l : List ℕ). byte_at means (l ++ rest)) b.1 ∙ rw (b.2) refl

-- a test of a byte in a chain of them
choose : {A P : Type 0} (b k : ℕ) (x others : Option A) (y : A) → cond (eqb b k) x others ≡ Some y → (b ≡ k → x ≡ Some y → P) → (others ≡ Some y → P) → P
choose {A} {P} b k x others y e this those = tested (eqb b k) refl e
  where
    tested : (t : Bool) → eqb b k ≡ t → cond t x others ≡ Some y → P
    tested true t e = this (eqb-true b k t) e
    tested false t e = those e

pick : {A P : Type 0} (b k : ℕ) (x : A) (others : Option A) (y : A) → cond (eqb b k) (Some x) others ≡ Some y → (b ≡ k → x ≡ y → P) → (others ≡ Some y → P) → P
pick b k x others y e this those = choose b k (Some x) others y e (λ p q. this p (some_same x y (Some x) refl q)) those

kind_found : (b : ℕ) (k : Ty) → kind_of b ≡ Some k → kind k ≡ b ∷ []
kind_found b k e = pick b 1 ty.Int _ k e (λ p q. here 1 ty.Int p q refl) (λ e. pick b 2 ty.Bool _ k e (λ p q. here 2 ty.Bool p q refl) (λ e. absurd cc))
  where
    here : (n : ℕ) (x : Ty) → b ≡ n → x ≡ k → kind x ≡ n ∷ [] → kind k ≡ b ∷ []
    here n x p q spelled = subst (λ (z : Ty). kind z ≡ b ∷ []) q (spelled ∙ ap (λ (n : ℕ). n ∷ []) (sym p))

given_found : (b : ℕ) (k : Gives) → given_of b ≡ Some k → given k ≡ b ∷ []
given_found b k e = pick b 0 gives.Nothing _ k e (λ p q. here 0 gives.Nothing p q refl) (λ e. pick b 1 gives.Int _ k e (λ p q. here 1 gives.Int p q refl)
    (λ e. pick b 2 gives.Bool _ k e (λ p q. here 2 gives.Bool p q refl) (λ e. absurd cc)))
  where
    here : (n : ℕ) (x : Gives) → b ≡ n → x ≡ k → given x ≡ n ∷ [] → given k ≡ b ∷ []
    here n x p q spelled = subst (λ (z : Gives). given z ≡ b ∷ []) q (spelled ∙ ap (λ (n : ℕ). n ∷ []) (sym p))

given_back : (k : Gives) → (b : ℕ) × (given k ≡ b ∷ []) × (given_of b ≡ Some k)
given_back gives.Nothing = (0, refl, refl)
given_back gives.Int = (1, refl, refl)
given_back gives.Bool = (2, refl, refl)

given_form : IsForm given (λ g. Unit {0}) (byte_at given_of)
given_form = byte_form given given_of given_found given_back

kind_back : (k : Ty) → (b : ℕ) × (kind k ≡ b ∷ []) × (kind_of b ≡ Some k)
kind_back ty.Int = (1, refl, refl)
kind_back ty.Bool = (2, refl, refl)

pub kind_form : IsForm kind FitsKind (byte_at kind_of)
kind_form = byte_form kind kind_of kind_found kind_back

-- ---- instructions

print_item_takes : (bytes : List ℕ) (x : PrintItem × List ℕ) → IsBytes bytes → print_item_at bytes ≡ Some x → Takes print_item FitsItem bytes x
unfolding print_item_at
print_item_takes [] x h e = absurd cc
print_item_takes (b ∷ bytes) x h e =
    choose b 0 (num32_at bytes >>= (λ n. Some (item.Text n.0, n.1))) _ x e
    (λ p e.
    let n = bind_some (num32_at bytes) (λ n. Some (item.Text n.0, n.1)) x e in
    let taken = num32_form.takes bytes n.0 (bytes_rest b bytes h) n.1 in
    subst (λ (y : PrintItem × List ℕ). Takes print_item FitsItem (b ∷ bytes) y) (some_same (item.Text n.0.0, n.0.1) x (Some (item.Text n.0.0, n.0.1)) refl n.2)
    (record { parts = rw p (ap (λ (l : List ℕ). 0 ∷ l) taken.parts); fits = taken.fits; rest_bytes = taken.rest_bytes }))
    (λ e. choose b 1 (Some (item.Int, bytes)) _ x e
    (λ p e. subst (λ (y : PrintItem × List ℕ). Takes print_item FitsItem (b ∷ bytes) y) (some_same (item.Int, bytes) x (Some (item.Int, bytes)) refl e)
    (record { parts = rw p refl; fits = tt; rest_bytes = bytes_rest b bytes h }))
    (λ e. choose b 2 (Some (item.Truth, bytes)) _ x e
    (λ p e. subst (λ (y : PrintItem × List ℕ). Takes print_item FitsItem (b ∷ bytes) y) (some_same (item.Truth, bytes) x (Some (item.Truth, bytes)) refl e)
    (record { parts = rw p refl; fits = tt; rest_bytes = bytes_rest b bytes h }))
    (λ e. absurd cc)))

print_item_again : (a : PrintItem) (rest : List ℕ) → FitsItem a → print_item_at (print_item a ++ rest) ≡ Some (a, rest)
unfolding print_item_at
print_item_again (item.Text index) rest fits = rw (num32_form.again index rest fits) refl
print_item_again item.Int rest fits = refl
print_item_again item.Truth rest fits = refl

pub print_item_form : IsForm print_item FitsItem print_item_at
print_item_form = record { takes = print_item_takes; again = print_item_again }

items_form : IsForm (counted print_item) (Counted FitsItem) (counted_at print_item_at)
items_form = counted_form print_item FitsItem print_item_at print_item_form

leaf : (b k : ℕ) (tail : List ℕ) (x y : Instr) (Fit : Type 0) → b ≡ k → x ≡ y → instr x ≡ k ∷ tail → (Fit → FitsInstr x) → (instr y ≡ b ∷ tail) × (Fit → FitsInstr y)
leaf b k tail x y Fit p q spelled fits =
    let here : instr x ≡ b ∷ tail = spelled ∙ ap (λ (n : ℕ). n ∷ tail) (sym p) in
    subst (λ (z : Instr). (instr z ≡ b ∷ tail) × (Fit → FitsInstr z)) q (here, fits)

plain_takes : (b : ℕ) (y : Instr) → plain_of b ≡ Some y → (instr y ≡ b ∷ []) × (Unit {0} → FitsInstr y)
unfolding instr
plain_takes b y e = pick b 1 i.False _ y e (λ p q. leaf b 1 [] i.False y (Unit {0}) p q refl (λ f. tt))
    (λ e. pick b 2 i.True _ y e (λ p q. leaf b 2 [] i.True y (Unit {0}) p q refl (λ f. tt))
    (λ e. pick b 3 i.Add _ y e (λ p q. leaf b 3 [] i.Add y (Unit {0}) p q refl (λ f. tt)) (λ e. pick b 4 i.Sub _ y e (λ p q. leaf b 4 [] i.Sub y (Unit {0}) p q refl (λ f. tt))
    (λ e. pick b 5 i.Mul _ y e (λ p q. leaf b 5 [] i.Mul y (Unit {0}) p q refl (λ f. tt)) (λ e. pick b 6 i.Div _ y e (λ p q. leaf b 6 [] i.Div y (Unit {0}) p q refl (λ f. tt))
    (λ e. pick b 7 i.Rem _ y e (λ p q. leaf b 7 [] i.Rem y (Unit {0}) p q refl (λ f. tt)) (λ e. pick b 8 i.Neg _ y e (λ p q. leaf b 8 [] i.Neg y (Unit {0}) p q refl (λ f. tt))
    (λ e. pick b 9 i.Not _ y e (λ p q. leaf b 9 [] i.Not y (Unit {0}) p q refl (λ f. tt)) (λ e. pick b 10 i.Eq _ y e (λ p q. leaf b 10 [] i.Eq y (Unit {0}) p q refl (λ f. tt))
    (λ e. pick b 11 i.Ne _ y e (λ p q. leaf b 11 [] i.Ne y (Unit {0}) p q refl (λ f. tt)) (λ e. pick b 12 i.Lt _ y e (λ p q. leaf b 12 [] i.Lt y (Unit {0}) p q refl (λ f. tt))
    (λ e. pick b 13 i.Le _ y e (λ p q. leaf b 13 [] i.Le y (Unit {0}) p q refl (λ f. tt)) (λ e. pick b 14 i.Gt _ y e (λ p q. leaf b 14 [] i.Gt y (Unit {0}) p q refl (λ f. tt))
    (λ e. pick b 15 i.Ge _ y e (λ p q. leaf b 15 [] i.Ge y (Unit {0}) p q refl (λ f. tt)) (λ e. pick b 28 i.Return _ y e (λ p q. leaf b 28 [] i.Return y (Unit {0}) p q refl (λ f. tt))
    (λ e. pick b 29 i.Pop _ y e (λ p q. leaf b 29 [] i.Pop y (Unit {0}) p q refl (λ f. tt))
    (λ e. pick b 30 i.Assert _ y e (λ p q. leaf b 30 [] i.Assert y (Unit {0}) p q refl (λ f. tt)) (λ e. absurd cc))))))))))))))))))

one_takes : (b n : ℕ) (y : Instr) → of_one b n ≡ Some y → (instr y ≡ b ∷ num n) × (FitsNum n → FitsInstr y)
unfolding instr
one_takes b n y e = pick b 16 (i.Load n) _ y e (λ p q. leaf b 16 (num n) (i.Load n) y (FitsNum n) p q refl (λ f. f))
    (λ e. pick b 17 (i.Store n) _ y e (λ p q. leaf b 17 (num n) (i.Store n) y (FitsNum n) p q refl (λ f. f))
    (λ e. pick b 18 (i.Word n) _ y e (λ p q. leaf b 18 (num n) (i.Word n) y (FitsNum n) p q refl (λ f. f))
    (λ e. pick b 19 (i.Put n) _ y e (λ p q. leaf b 19 (num n) (i.Put n) y (FitsNum n) p q refl (λ f. f))
    (λ e. pick b 20 (i.AddWord n) _ y e (λ p q. leaf b 20 (num n) (i.AddWord n) y (FitsNum n) p q refl (λ f. f))
    (λ e. pick b 24 (i.Jump n) _ y e (λ p q. leaf b 24 (num n) (i.Jump n) y (FitsNum n) p q refl (λ f. f))
    (λ e. pick b 25 (i.Branch n) _ y e (λ p q. leaf b 25 (num n) (i.Branch n) y (FitsNum n) p q refl (λ f. f))
    (λ e. pick b 26 (i.Loop n) _ y e (λ p q. leaf b 26 (num n) (i.Loop n) y (FitsNum n) p q refl (λ f. f))
    (λ e. pick b 27 (i.Call n) _ y e (λ p q. leaf b 27 (num n) (i.Call n) y (FitsNum n) p q refl (λ f. f)) (λ e. absurd cc)))))))))

two_takes : (b m n : ℕ) (y : Instr) → of_two b m n ≡ Some y → (instr y ≡ b ∷ num m ++ num n) × (FitsNum m × FitsNum n → FitsInstr y)
unfolding instr
two_takes b m n y e = pick b 21 (i.Item m n) _ y e (λ p q. leaf b 21 (num m ++ num n) (i.Item m n) y (FitsNum m × FitsNum n) p q refl (λ f. f))
    (λ e. pick b 22 (i.SetItem m n) _ y e (λ p q. leaf b 22 (num m ++ num n) (i.SetItem m n) y (FitsNum m × FitsNum n) p q refl (λ f. f))
    (λ e. pick b 23 (i.AddItem m n) _ y e (λ p q. leaf b 23 (num m ++ num n) (i.AddItem m n) y (FitsNum m × FitsNum n) p q refl (λ f. f))
    (λ e. pick b 32 (i.Par m n) _ y e (λ p q. leaf b 32 (num m ++ num n) (i.Par m n) y (FitsNum m × FitsNum n) p q refl (λ f. f)) (λ e. absurd cc))))

-- what is behind an instruction's byte
record Behind (b : ℕ) (rest : List ℕ) (x : Instr × List ℕ) : Type 0 where
  pub parts : b ∷ rest ≡ instr x.0 ++ x.1
  pub fits : FitsInstr x.0
  pub rest_bytes : IsBytes x.1

behind_plain : (b : ℕ) (rest : List ℕ) (x : Instr × List ℕ) → IsBytes rest → (plain_of b >>= (λ y. Some (y, rest))) ≡ Some x → Behind b rest x
behind_plain b rest x h e =
    let y = bind_some (plain_of b) (λ y. Some (y, rest)) x e in
    let found = plain_takes b y.0 y.1 in
    subst (λ (z : Instr × List ℕ). Behind b rest z) (some_same (y.0, rest) x (Some (y.0, rest)) refl y.2)
    (record { parts = ap (λ (l : List ℕ). l ++ rest) (sym found.0); fits = found.1 tt; rest_bytes = h })

behind_one : (b : ℕ) (rest : List ℕ) (x : Instr × List ℕ) → IsBytes rest → (num32_at rest >>= (λ n. of_one b n.0 >>= (λ y. Some (y, n.1)))) ≡ Some x → Behind b rest x
behind_one b rest x h e =
    let n = bind_some (num32_at rest) (λ n. of_one b n.0 >>= (λ y. Some (y, n.1))) x e in
    let y = bind_some (of_one b n.0.0) (λ y. Some (y, n.0.1)) x n.2 in
    let found = one_takes b n.0.0 y.0 y.1 in
    let taken = num32_form.takes rest n.0 h n.1 in
    subst (λ (z : Instr × List ℕ). Behind b rest z) (some_same (y.0, n.0.1) x (Some (y.0, n.0.1)) refl y.2)
    (record { parts = ap (λ (l : List ℕ). b ∷ l) taken.parts ∙ ap (λ (l : List ℕ). l ++ n.0.1) (sym found.0); fits = found.1 taken.fits; rest_bytes = taken.rest_bytes })

behind_two : (b : ℕ) (rest : List ℕ) (x : Instr × List ℕ) → IsBytes rest → (num32_at rest >>= (λ m. num32_at m.1 >>= (λ n. of_two b m.0 n.0 >>= (λ y. Some (y, n.1))))) ≡ Some x → Behind b rest x
behind_two b rest x h e =
    let m = bind_some (num32_at rest) (λ m. num32_at m.1 >>= (λ n. of_two b m.0 n.0 >>= (λ y. Some (y, n.1)))) x e in
    let n = bind_some (num32_at m.0.1) (λ n. of_two b m.0.0 n.0 >>= (λ y. Some (y, n.1))) x m.2 in
    let y = bind_some (of_two b m.0.0 n.0.0) (λ y. Some (y, n.0.1)) x n.2 in
    let found = two_takes b m.0.0 n.0.0 y.0 y.1 in
    let first = num32_form.takes rest m.0 h m.1 in
    let second = num32_form.takes m.0.1 n.0 first.rest_bytes n.1 in
    let both = parts_then rest (num m.0.0) m.0.1 (num n.0.0) n.0.1 first.parts second.parts in
    subst (λ (z : Instr × List ℕ). Behind b rest z) (some_same (y.0, n.0.1) x (Some (y.0, n.0.1)) refl y.2)
    (record { parts = ap (λ (l : List ℕ). b ∷ l) both ∙ ap (λ (l : List ℕ). l ++ n.0.1) (sym found.0); fits = found.1 (first.fits, second.fits); rest_bytes = second.rest_bytes })

-- either side of a test
sides : {A P : Type 0} (t : Bool) (x y : Option A) (z : A) → cond t x y ≡ Some z → (x ≡ Some z → P) → (y ≡ Some z → P) → P
sides true x y z e this that = this e
sides false x y z e this that = that e

operands_take : (b : ℕ) (rest : List ℕ) (x : Instr × List ℕ) → IsBytes rest → operands_at b rest ≡ Some x → Behind b rest x
unfolding operands_at instr
operands_take b rest x h e =
    choose b 0 (zig_at rest >>= (λ z. Some (i.Int z.0, z.1))) _ x e
    (λ p e.
    let z = bind_some (zig_at rest) (λ z. Some (i.Int z.0, z.1)) x e in
    let taken = zig_form.takes rest z.0 h z.1 in
    subst (λ (y : Instr × List ℕ). Behind b rest y) (some_same (i.Int z.0.0, z.0.1) x (Some (i.Int z.0.0, z.0.1)) refl z.2)
    (record { parts = rw p (ap (λ (l : List ℕ). 0 ∷ l) taken.parts); fits = taken.fits; rest_bytes = taken.rest_bytes }))
    (λ e. choose b 0x1f (counted_at print_item_at rest >>= (λ items. Some (i.Print items.0, items.1))) _ x e
    (λ p e.
    let z = bind_some (counted_at print_item_at rest) (λ items. Some (i.Print items.0, items.1)) x e in
    let taken = items_form.takes rest z.0 h z.1 in
    subst (λ (y : Instr × List ℕ). Behind b rest y) (some_same (i.Print z.0.0, z.0.1) x (Some (i.Print z.0.0, z.0.1)) refl z.2)
    (record { parts = rw p (ap (λ (l : List ℕ). 0x1f ∷ l) taken.parts); fits = taken.fits; rest_bytes = taken.rest_bytes }))
    (λ e. sides (takes_two b) _ _ x e (λ e. behind_two b rest x h e)
    (λ e. sides (ltb b 0x10) _ _ x e (λ e. behind_plain b rest x h e)
    (λ e. sides (ltb b 0x1c) _ _ x e (λ e. behind_one b rest x h e) (λ e. behind_plain b rest x h e)))))

instr_takes : (bytes : List ℕ) (x : Instr × List ℕ) → IsBytes bytes → instr_at bytes ≡ Some x → Takes instr FitsInstr bytes x
unfolding instr_at
instr_takes [] x h e = absurd cc
instr_takes (b ∷ bytes) x h e = let r = operands_take b bytes x (bytes_rest b bytes h) e in record { parts = r.parts; fits = r.fits; rest_bytes = r.rest_bytes }

abbrev two_at : ℕ → List ℕ → Read Instr
two_at b rest = num32_at rest >>= (λ x. num32_at x.1 >>= (λ z. of_two b x.0 z.0 >>= (λ y. Some (y, z.1))))

two_again : (b m n : ℕ) (y : Instr) (rest : List ℕ) → FitsNum m × FitsNum n → of_two b m n ≡ Some y → two_at b ((num m ++ num n) ++ rest) ≡ Some (y, rest)
two_again b m n y rest fits e =
    ap (two_at b) (append_assoc (num m) (num n) rest) ∙ rw (num32_form.again m (num n ++ rest) fits.0, num32_form.again n rest fits.1) (rw e refl)

instr_again : (x : Instr) (rest : List ℕ) → FitsInstr x → instr_at (instr x ++ rest) ≡ Some (x, rest)
unfolding instr_at instr operands_at
instr_again (i.Int z) rest fits = rw (zig_form.again z rest fits) refl
instr_again (i.Print items) rest fits = rw (items_form.again items rest fits) refl
instr_again i.False rest fits = refl
instr_again i.True rest fits = refl
instr_again i.Add rest fits = refl
instr_again i.Sub rest fits = refl
instr_again i.Mul rest fits = refl
instr_again i.Div rest fits = refl
instr_again i.Rem rest fits = refl
instr_again i.Neg rest fits = refl
instr_again i.Not rest fits = refl
instr_again i.Eq rest fits = refl
instr_again i.Ne rest fits = refl
instr_again i.Lt rest fits = refl
instr_again i.Le rest fits = refl
instr_again i.Gt rest fits = refl
instr_again i.Ge rest fits = refl
instr_again i.Return rest fits = refl
instr_again i.Pop rest fits = refl
instr_again i.Assert rest fits = refl
instr_again (i.Load n) rest fits = rw (num32_form.again n rest fits) refl
instr_again (i.Store n) rest fits = rw (num32_form.again n rest fits) refl
instr_again (i.Word n) rest fits = rw (num32_form.again n rest fits) refl
instr_again (i.Put n) rest fits = rw (num32_form.again n rest fits) refl
instr_again (i.AddWord n) rest fits = rw (num32_form.again n rest fits) refl
instr_again (i.Jump n) rest fits = rw (num32_form.again n rest fits) refl
instr_again (i.Branch n) rest fits = rw (num32_form.again n rest fits) refl
instr_again (i.Loop n) rest fits = rw (num32_form.again n rest fits) refl
instr_again (i.Call n) rest fits = rw (num32_form.again n rest fits) refl
instr_again (i.Item m n) rest fits = two_again 0x15 m n (i.Item m n) rest fits refl
instr_again (i.SetItem m n) rest fits = two_again 0x16 m n (i.SetItem m n) rest fits refl
instr_again (i.AddItem m n) rest fits = two_again 0x17 m n (i.AddItem m n) rest fits refl
instr_again (i.Par m n) rest fits = two_again 0x20 m n (i.Par m n) rest fits refl

pub instr_form : IsForm instr FitsInstr instr_at
instr_form = record { takes = instr_takes; again = instr_again }

-- ---- codes

locals_form : IsForm (counted kind) (Counted FitsKind) (counted_at (byte_at kind_of))
locals_form = counted_form kind FitsKind (byte_at kind_of) kind_form

instrs_form : IsForm (counted instr) (Counted FitsInstr) (counted_at instr_at)
instrs_form = counted_form instr FitsInstr instr_at instr_form

pub code_form : (params : ℕ) (result : Gives) → IsForm code (FitsCode params result) (code_at params result)
unfolding code_at
code_form params result = record {
  takes = λ bytes x h e.
      let a = bind_some (counted_at (byte_at kind_of) bytes) (λ locals. counted_at instr_at locals.1 >>= λ instrs. Some
      (record { params = params; gives = result; locals = locals.0; instrs = instrs.0 }, instrs.1)) x e in
      let b = bind_some (counted_at instr_at a.0.1) (λ instrs. Some (record { params = params; gives = result; locals = a.0.0; instrs = instrs.0 }, instrs.1)) x a.2 in
      let locals = locals_form.takes bytes a.0 h a.1 in
      let instrs = instrs_form.takes a.0.1 b.0 locals.rest_bytes b.1 in
      let made : Code × List ℕ = (record { params = params; gives = result; locals = a.0.0; instrs = b.0.0 }, b.0.1) in
      subst (λ (y : Code × List ℕ). Takes code (FitsCode params result) bytes y) (some_same made x (Some made) refl b.2)
      (record { parts = parts_then bytes (counted kind a.0.0) a.0.1 (counted instr b.0.0) b.0.1 locals.parts instrs.parts; fits = record { params = refl; gives = refl; locals = locals.fits; instrs = instrs.fits }; rest_bytes = instrs.rest_bytes });
  again = λ c rest fits.
      let regrouped : code c ++ rest ≡ counted kind c.locals ++ (counted instr c.instrs ++ rest) = append_assoc (counted kind c.locals) (counted instr c.instrs) rest in
      ap (code_at params result) regrouped ∙ rw (locals_form.again c.locals (counted instr c.instrs ++ rest) fits.locals, instrs_form.again c.instrs rest fits.instrs)
      (rw (← fits.params, ← fits.gives) refl);
}

-- ---- functions

function_same : (c : Code) (n : ℕ) (g : Gives) → c.params ≡ n → c.gives ≡ g → (num n ++ given g) ++ code c ≡ function c
function_same c n g p q = ap (λ (k : ℕ). (num k ++ given g) ++ code c) (sym p) ∙ ap (λ (h : Gives). (num c.params ++ given h) ++ code c) (sym q)

pub function_form : IsForm function FitsFunction function_at
unfolding function_at code_at
function_form = record { takes = takes; again = again }
  where
    takes : (bytes : List ℕ) (x : Code × List ℕ) → IsBytes bytes → function_at bytes ≡ Some x → Takes function FitsFunction bytes x
    takes bytes x h e =
        let p = bind_some (num_at 10 bytes) (λ params. byte_at given_of params.1 >>= λ result. cond (ltb params.0 256) (code_at params.0 result.0 result.1) None) x e in
        let g = bind_some (byte_at given_of p.0.1) (λ result. cond (ltb p.0.0 256) (code_at p.0.0 result.0 result.1) None) x p.2 in
        let small = when_some (ltb p.0.0 256) (code_at p.0.0 g.0.0 g.0.1) x g.2 in
        let params = num_form.takes bytes p.0 h p.1 in
        let result = given_form.takes p.0.1 g.0 params.rest_bytes g.1 in
        let body = (code_form p.0.0 g.0.0).takes g.0.1 x result.rest_bytes small.1 in
        let front = parts_then bytes (num p.0.0) p.0.1 (given g.0.0) g.0.1 params.parts result.parts in
        let whole = parts_then bytes (num p.0.0 ++ given g.0.0) g.0.1 (code x.0) x.1 front body.parts in
        let same : (num p.0.0 ++ given g.0.0) ++ code x.0 ≡ function x.0 = function_same x.0 p.0.0 g.0.0 body.fits.params body.fits.gives in
        record { parts = whole ∙ ap (λ (l : List ℕ). l ++ x.1) same; fits = (subst (λ (k : ℕ). k < 256) (sym body.fits.params) (ltb-true p.0.0 256 small.0), record { params = refl; gives = refl; locals = body.fits.locals; instrs = body.fits.instrs }); rest_bytes = body.rest_bytes }

    again : (c : Code) (rest : List ℕ) → FitsFunction c → function_at (function c ++ rest) ≡ Some (c, rest)
    again c rest fits =
        let regrouped : function c ++ rest ≡ num c.params ++ (given c.gives ++ (code c ++ rest)) = append_assoc (num c.params ++ given c.gives) (code c) rest
        ∙ append_assoc (num c.params) (given c.gives) (code c ++ rest) in
        ap function_at regrouped ∙ rw (num_form.again c.params (given c.gives ++ (code c ++ rest)) (omega (arith, fits.0)), given_form.again c.gives (code c ++ rest) tt, lt-ltb c.params 256 fits.0)
        ((code_form c.params c.gives).again c rest fits.1)

-- ---- modules

pub tallies_form : IsForm (counted num) (Counted FitsNum) (counted_at num32_at)
tallies_form = counted_form num FitsNum num32_at num32_form

not_zero : (z : ℤ) → int_eq z (pos 0) ≡ false → z ≢ pos 0
not_zero (pos zero) e = absurd cc
not_zero (pos (suc n)) e = λ q. cc
not_zero (negsuc n) e = λ q. cc

is_not_zero : (z : ℤ) → z ≢ pos 0 → int_eq z (pos 0) ≡ false
is_not_zero z h = tested (int_eq z (pos 0)) refl
  where
    tested : (t : Bool) → int_eq z (pos 0) ≡ t → int_eq z (pos 0) ≡ false
    tested true t = absurd (h ((Decides-int_eq z (pos 0)).0 t))
    tested false t = t

initial_takes : (bytes : List ℕ) (x : (ℕ × ℤ) × List ℕ) → IsBytes bytes → initial_at bytes ≡ Some x → Takes initial FitsInitial bytes x
unfolding initial_at
initial_takes bytes x h e =
    let a = bind_some (num32_at bytes) (λ a. zig_at a.1 >>= λ v. cond (int_eq v.0 (pos 0)) None (Some ((a.0, v.0), v.1))) x e in
    let v = bind_some (zig_at a.0.1) (λ v. cond (int_eq v.0 (pos 0)) None (Some ((a.0.0, v.0), v.1))) x a.2 in
    let other = unless_some (int_eq v.0.0 (pos 0)) (Some ((a.0.0, v.0.0), v.0.1)) x v.2 in
    let first = num32_form.takes bytes a.0 h a.1 in
    let second = zig_form.takes a.0.1 v.0 first.rest_bytes v.1 in
    let made : (ℕ × ℤ) × List ℕ = ((a.0.0, v.0.0), v.0.1) in
    subst (λ (y : (ℕ × ℤ) × List ℕ). Takes initial FitsInitial bytes y) (some_same made x (Some made) refl other.1)
    (record { parts = parts_then bytes (num a.0.0) a.0.1 (zig v.0.0) v.0.1 first.parts second.parts; fits = (first.fits, second.fits, not_zero v.0.0 other.0); rest_bytes = second.rest_bytes })

initial_again : (a : ℕ × ℤ) (rest : List ℕ) → FitsInitial a → initial_at (initial a ++ rest) ≡ Some (a, rest)
unfolding initial_at
initial_again a rest fits =
    ap initial_at (append_assoc (num a.0) (zig a.1) rest) ∙ rw (num32_form.again a.0 (zig a.1 ++ rest) fits.0, zig_form.again a.1 rest fits.1, is_not_zero a.1 fits.2) refl

initial_form : IsForm initial FitsInitial initial_at
initial_form = record { takes = initial_takes; again = initial_again }

initials_form : IsForm (counted initial) (Counted FitsInitial) (counted_at initial_at)
initials_form = counted_form initial FitsInitial initial_at initial_form

functions_form : IsForm (counted function) (Counted FitsFunction) (counted_at function_at)
functions_form = counted_form function FitsFunction function_at function_form

blocks_form : IsForm (counted code) (Counted FitsBlock) (counted_at (code_at 2 gives.Nothing))
blocks_form = counted_form code FitsBlock (code_at 2 gives.Nothing) (code_form 2 gives.Nothing)

-- ---- texts

drop_bytes : (n : ℕ) (bytes : List ℕ) → IsBytes bytes → IsBytes (drop n bytes)
drop_bytes n bytes h i = rw get_or-drop (h (n + i))

all_bytes : (n : ℕ) (bytes : List ℕ) → IsBytes bytes → AllByRecursion FitsByte (take n bytes)
all_bytes zero bytes h = tt
all_bytes (suc n) [] h = tt
all_bytes (suc n) (b ∷ bytes) h = (h 0, all_bytes n bytes (bytes_rest b bytes h))

text_takes : (bytes : List ℕ) (x : List ℕ × List ℕ) → IsBytes bytes → text_at bytes ≡ Some x → Takes text FitsText bytes x
unfolding text_at
text_takes bytes x h e =
    let n = bind_some (num32_at bytes) (λ n. cond (ltb (length n.1) n.0) None (Some (take n.0 n.1, drop n.0 n.1))) x e in
    let enough = unless_some (ltb (length n.0.1) n.0.0) (Some (take n.0.0 n.0.1, drop n.0.0 n.0.1)) x n.2 in
    let taken = num32_form.takes bytes n.0 h n.1 in
    let long : n.0.0 ≤ length n.0.1 = ltb-false _ _ enough.0 in
    let len : length (take n.0.0 n.0.1) ≡ n.0.0 = omega (arith, length-take n.0.0 n.0.1) in
    let made : List ℕ × List ℕ = (take n.0.0 n.0.1, drop n.0.0 n.0.1) in
    let both = parts_then bytes (num n.0.0) n.0.1 (take n.0.0 n.0.1) (drop n.0.0 n.0.1) taken.parts (sym (take-append-drop n.0.0 n.0.1)) in
    subst (λ (y : List ℕ × List ℕ). Takes text FitsText bytes y) (some_same made x (Some made) refl enough.1)
    (record { parts = subst (λ (k : ℕ). bytes ≡ (num k ++ take n.0.0 n.0.1) ++ drop n.0.0 n.0.1) (sym len) both; fits = (subst (λ (k : ℕ). k < 2 ^ 32) (sym len) taken.fits, all_bytes n.0.0 n.0.1 taken.rest_bytes); rest_bytes = drop_bytes n.0.0 n.0.1 taken.rest_bytes })

text_again : (a : List ℕ) (rest : List ℕ) → FitsText a → text_at (text a ++ rest) ≡ Some (a, rest)
unfolding text_at
text_again a rest fits =
    let long : ltb (length (a ++ rest)) (length a) ≡ false = le-ltb _ _ (omega (arith, length-append a rest)) in
    ap text_at (append_assoc (num (length a)) a rest) ∙ rw (num32_form.again (length a) (a ++ rest) fits.0, long, take_at a rest (length a) refl, drop_at a rest (length a) refl) refl

texts_form : IsForm (counted text) (Counted FitsText) (counted_at text_at)
texts_form = counted_form text FitsText text_at (record { takes = text_takes; again = text_again })

-- ---- the whole

pub ascending_holds : (least : ℕ) (ns : List ℕ) → are_ascending_from least ns ≡ true → AreAscendingFrom least ns
ascending_holds least [] e = tt
ascending_holds least (n ∷ ns) e = tested (ltb n least) refl e (λ e. ascending_holds (n + 1) ns e)
  where
    tested : (t : Bool) → ltb n least ≡ t → cond t false (are_ascending_from (n + 1) ns) ≡ true → (are_ascending_from (n + 1) ns ≡ true → AreAscendingFrom (n + 1) ns)
        → (least ≤ n) × AreAscendingFrom (n + 1) ns
    tested true t e more = absurd cc
    tested false t e more = (ltb-false n least t, more e)

pub ascending_tested : (least : ℕ) (ns : List ℕ) → AreAscendingFrom least ns → are_ascending_from least ns ≡ true
ascending_tested least [] h = refl
ascending_tested least (n ∷ ns) h = rw (le-ltb n least h.0) (ascending_tested (n + 1) ns h.1)

-- what follows the four bytes
abbrev body : Module → List ℕ
body m = num m.words ++ (counted num m.tallies ++ (counted initial m.initial ++ (counted text m.texts ++ (counted function m.functions ++ (counted code m.blocks ++ code m.main)))))

regroup : (a b c d e f g : List ℕ) → a ++ b ++ c ++ d ++ e ++ f ++ g ≡ a ++ (b ++ (c ++ (d ++ (e ++ (f ++ g)))))
regroup a b c d e f g = simp append_assoc

spelling_parts : (m : Module) → spelling m ≡ 0x43 ∷ 0x53 ∷ 0x4c ∷ 0x31 ∷ body m
unfolding spelling
spelling_parts m = ap (λ (l : List ℕ). 0x43 ∷ 0x53 ∷ 0x4c ∷ 0x31 ∷ l) (regroup (num m.words) (counted num m.tallies) (counted initial m.initial) (counted text m.texts) (counted function m.functions)
    (counted code m.blocks) (code m.main))

begun_takes : (bytes rest : List ℕ) → begun_at bytes ≡ Some rest → bytes ≡ 0x43 ∷ 0x53 ∷ 0x4c ∷ 0x31 ∷ rest
unfolding begun_at
begun_takes [] rest e = absurd cc
begun_takes (a ∷ []) rest e = absurd cc
begun_takes (a ∷ b ∷ []) rest e = absurd cc
begun_takes (a ∷ b ∷ c ∷ []) rest e = absurd cc
begun_takes (a ∷ b ∷ c ∷ d ∷ more) rest e =
    choose a 0x43 _ None rest e (λ p e. choose b 0x53 _ None rest e (λ q e. choose c 0x4c _ None rest e
    (λ r e. choose d 0x31 (Some more) None rest e (λ s e. rw (p, q, r, s) (ap (λ (l : List ℕ). 0x43 ∷ 0x53 ∷ 0x4c ∷ 0x31 ∷ l) (some_same more rest (Some more) refl e))) (λ e. absurd cc))
    (λ e. absurd cc)) (λ e. absurd cc)) (λ e. absurd cc)

pub module_again : (m : Module) → HasSpelling m → module_of (spelling m) ≡ Some m
unfolding module_of begun_at
module_again m h =
    let last = (code_form 0 gives.Nothing).again m.main [] h.main in
    let main_read : code_at 0 gives.Nothing (code m.main) ≡ Some (m.main, []) = ap (code_at 0 gives.Nothing) (sym (append-nil (code m.main))) ∙ last in
    let up = ascending_tested 0 m.tallies h.tallies.1 in
    let up_too = ascending_tested 0 (map (λ (e : ℕ × ℤ). e.0) m.initial) h.initial.1 in
    ap module_of (spelling_parts m) ∙ rw (num32_form.again m.words _ h.words, tallies_form.again m.tallies _ h.tallies.0, initials_form.again m.initial _ h.initial.0, texts_form.again m.texts _ h.texts, functions_form.again m.functions _ h.functions, blocks_form.again m.blocks _ h.blocks, main_read, up, up_too) refl

-- what is read of the parts
pub record Parts (bytes : List ℕ) (m : Module) : Type 0 where
  pub spelled : HasSpelling m
  pub parts : bytes ≡ spelling m

joined : (bytes w a b c d e f r1 r2 r3 r4 r5 r6 : List ℕ) → bytes ≡ w ++ r1 → r1 ≡ a ++ r2 → r2 ≡ b ++ r3 → r3 ≡ c ++ r4 → r4 ≡ d ++ r5 → r5 ≡ e ++ r6 → r6 ≡ f ++ []
    → bytes ≡ w ++ (a ++ (b ++ (c ++ (d ++ (e ++ f)))))
joined bytes w a b c d e f r1 r2 r3 r4 r5 r6 p0 p1 p2 p3 p4 p5 p6 = p0 ∙ rw (p1, p2, p3, p4, p5, p6, append-nil f) refl

-- eight steps that did not fail, one after another
steps : {S A B C D E F G M P : Type 0} (s : Option S) (ra : S → Option A) (rb : A → Option B) (rc : A → B → Option C) (rd : A → B → C → Option D) (re : A → B → C → D → Option E)
    (rf : A → B → C → D → E → Option F) (rg : A → B → C → D → E → F → Option G) (end : A → B → C → D → E → F → G → Option M) (m : M)
    → (s >>= λ s. ra s >>= λ a. rb a >>= λ b. rc a b >>= λ c. rd a b c >>= λ d. re a b c d >>= λ e. rf a b c d e >>= λ f. rg a b c d e f >>= λ g. end a b c d e f g) ≡ Some m
    → ((s' : S) (a : A) (b : B) (c : C) (d : D) (e : E) (f : F) (g : G) → s ≡ Some s' → ra s' ≡ Some a → rb a ≡ Some b → rc a b ≡ Some c → rd a b c ≡ Some d → re a b c d ≡ Some e
    → rf a b c d e ≡ Some f → rg a b c d e f ≡ Some g → end a b c d e f g ≡ Some m → P) → P
steps s ra rb rc rd re rf rg end m h go =
    let s' = bind_some s _ m h in
    let a = bind_some (ra s'.0) _ m s'.2 in
    let b = bind_some (rb a.0) _ m a.2 in
    let c = bind_some (rc a.0 b.0) _ m b.2 in
    let d = bind_some (rd a.0 b.0 c.0) _ m c.2 in
    let e = bind_some (re a.0 b.0 c.0 d.0) _ m d.2 in
    let f = bind_some (rf a.0 b.0 c.0 d.0 e.0) _ m e.2 in
    let g = bind_some (rg a.0 b.0 c.0 d.0 e.0 f.0) _ m f.2 in
    go s'.0 a.0 b.0 c.0 d.0 e.0 f.0 g.0 s'.1 a.1 b.1 c.1 d.1 e.1 f.1 g.1 g.2

abbrev finish : ℕ × List ℕ → List ℕ × List ℕ → List (ℕ × ℤ) × List ℕ → List (List ℕ) × List ℕ → List Code × List ℕ → List Code × List ℕ → Code × List ℕ → Option Module
finish words tallies initial texts functions blocks main =
    cond (are_ascending_from 0 tallies.0 && (are_ascending_from 0 (map (λ (e : ℕ × ℤ). e.0) initial.0) && eqb (length main.1) 0))
    (Some (record { words = words.0; tallies = tallies.0; initial = initial.0; texts = texts.0; functions = functions.0; blocks = blocks.0; main = main.0 })) None

four : (bytes begun : List ℕ) → IsBytes bytes → bytes ≡ 0x43 ∷ 0x53 ∷ 0x4c ∷ 0x31 ∷ begun → IsBytes begun
four bytes begun h e i = (subst IsBytes e h) (suc (suc (suc (suc i))))

finished : (words : ℕ × List ℕ) (tallies : List ℕ × List ℕ) (initial : List (ℕ × ℤ) × List ℕ) (texts : List (List ℕ) × List ℕ) (functions : List Code × List ℕ) (blocks : List Code × List ℕ)
    (main : Code × List ℕ) (bytes begun : List ℕ) (m : Module)
    → bytes ≡ 0x43 ∷ 0x53 ∷ 0x4c ∷ 0x31 ∷ begun → Takes num FitsNum begun words → Takes (counted num) (Counted FitsNum) words.1 tallies
    → Takes (counted Spelling.initial) (Counted FitsInitial) tallies.1 initial → Takes (counted text) (Counted FitsText) initial.1 texts
    → Takes (counted function) (Counted FitsFunction) texts.1 functions → Takes (counted code) (Counted FitsBlock) functions.1 blocks → Takes code FitsMain blocks.1 main
    → finish words tallies initial texts functions blocks main ≡ Some m → Parts bytes m
finished words tallies initial texts functions blocks main bytes begun m start w t i' x f b c e =
    let made : Module = record { words = words.0; tallies = tallies.0; initial = initial.0; texts = texts.0; functions = functions.0; blocks = blocks.0; main = main.0 } in
    let tested = when_some (are_ascending_from 0 tallies.0 && (are_ascending_from 0 (map (λ (e : ℕ × ℤ). e.0) initial.0) && eqb (length main.1) 0)) (Some made) m e in
    let up = and_parts (are_ascending_from 0 tallies.0) (are_ascending_from 0 (map (λ (e : ℕ × ℤ). e.0) initial.0) && eqb (length main.1) 0) tested.0 in
    let up_too = and_parts (are_ascending_from 0 (map (λ (e : ℕ × ℤ). e.0) initial.0)) (eqb (length main.1) 0) up.1 in
    let nothing : main.1 ≡ [] = nil_from_length main.1 (eqb-true (length main.1) 0 up_too.1) in
    let last : blocks.1 ≡ code main.0 ++ [] = subst (λ (r : List ℕ). blocks.1 ≡ code main.0 ++ r) nothing c.parts in
    let all : begun ≡ body made = joined begun (num words.0) (counted num tallies.0) (counted Spelling.initial initial.0) (counted text texts.0) (counted function functions.0) (counted code blocks.0)
    (code main.0) words.1 tallies.1 initial.1 texts.1 functions.1 blocks.1 w.parts t.parts i'.parts x.parts f.parts b.parts last in
    let whole : bytes ≡ spelling made = start ∙ ap (λ (l : List ℕ). 0x43 ∷ 0x53 ∷ 0x4c ∷ 0x31 ∷ l) all ∙ sym (spelling_parts made) in
    subst (λ (n : Module). Parts bytes n) (some_same made m (Some made) refl tested.1)
    (record { spelled = record { words = w.fits; tallies = (t.fits, ascending_holds 0 tallies.0 up.0); initial = (i'.fits, ascending_holds 0 (map (λ (e : ℕ × ℤ). e.0) initial.0) up_too.0); texts = x.fits; functions = f.fits; blocks = b.fits; main = c.fits }; parts = whole })

pub module_takes : (bytes : List ℕ) (m : Module) → IsBytes bytes → module_of bytes ≡ Some m → Parts bytes m
unfolding module_of
module_takes bytes m h e =
    steps (begun_at bytes) num32_at (λ words. counted_at num32_at words.1) (λ words tallies. counted_at initial_at tallies.1) (λ words tallies initial. counted_at text_at initial.1)
    (λ words tallies initial texts. counted_at function_at texts.1) (λ words tallies initial texts functions. counted_at (code_at 2 gives.Nothing) functions.1)
    (λ words tallies initial texts functions blocks. code_at 0 gives.Nothing blocks.1) finish m e
    (λ begun words tallies initial texts functions blocks main e0 e1 e2 e3 e4 e5 e6 e7 e8.
    let start = begun_takes bytes begun e0 in
    let w = num32_form.takes begun words (four bytes begun h start) e1 in
    let t = tallies_form.takes words.1 tallies w.rest_bytes e2 in
    let n = initials_form.takes tallies.1 initial t.rest_bytes e3 in
    let x = texts_form.takes initial.1 texts n.rest_bytes e4 in
    let f = functions_form.takes texts.1 functions x.rest_bytes e5 in
    let b = blocks_form.takes functions.1 blocks f.rest_bytes e6 in
    let c = (code_form 0 gives.Nothing).takes blocks.1 main b.rest_bytes e7 in
    finished words tallies initial texts functions blocks main bytes begun m start w t n x f b c e8)

pub is_found : (bytes : List ℕ) (r : Result Module DecodeError) → IsBytes bytes → Reads (λ m. m) r (module_of bytes) → IfOk r (λ m. HasSpelling m × (bytes ≡ spelling m))
is_found bytes (Ok m) h given = let p = module_takes bytes m h given in (p.spelled, p.parts)
is_found bytes (Err e) h given = tt

-- what answers the module, answers it alone
pub is_only : (m : Module) (r : Result Module DecodeError) → Reads (λ x. x) r (Some m) → MatchResult r (λ found. found ≡ m) (λ e. e ≡ error.NoMemory)
is_only m (Ok found) given = some_same found m (Some m) given refl
is_only m (Err error.Refused) given = absurd cc
is_only m (Err error.NoMemory) given = refl
