-- The code of declarations and changes.
use Rattle.std.proofs.Common.{◌≡◌, ℕ, ◌+◌, Bool, true, false, if◌then◌else◌, List, [], ◌∷◌, ◌++◌, length, Option, Some, None, Result, Ok, Err, refl, sym, ap, ◌∙◌, subst, arith}
use Rattle.std.specs.Prelude.{ℤ, ◌+ℤ◌, nat_lt, slice_get, slice_set, unwrap_or}
use Rattle.std.proofs.Math.IntN.{+ℤ_comm}
use Rattle.cal_base.specs.declared.ends.Cause.{Cause}
use Rattle.cal_base.specs.declared.ends.Cause.TheVariants as cause
use Rattle.cal_base.specs.declared.value.Val.{Val}
use Rattle.cal_base.specs.declared.value.Val.TheVariants as val
use Rattle.cal_base.specs.declared.value.Store.{Store}
use Rattle.cal_base.specs.Arithmetic.{checked}
use Rattle.cal_base.specs.Stores.{read_word, write_word, add_word, with_sum, base_of}
use Rattle.csl_tree.specs.declared.program.Program.{Program}
use Rattle.csl_tree.specs.declared.program.Expr.{Expr}
use Rattle.csl_tree.specs.declared.program.Place.{Place, Place', None', Some'}
use Rattle.csl_meaning.specs.declared.state.Area.{Area}
use Rattle.csl_meaning.specs.declared.state.World.{World}
use Rattle.csl_meaning.specs.Layout.{Text, area_of}
use Rattle.csl_meaning.specs.Locals.{Locals, local_value, set_local}
use Rattle.csl_meaning.specs.Operators.{number_in, as_int}
use Rattle.csl_meaning.specs.Runs.{Gives, and_then, ◌>>=◌, pure, try, put_word, raise_word, with_store}
use Rattle.csl_meaning.specs.Value.{item_at, in_range, declared, value_of, boxed}
use Rattle.csl_meaning.specs.Effect.{calls_to, set_name, add_to_name, set, add_to}
use Rattle.bytecode.specs.declared.instr.Instr.TheVariants as i
use Rattle.bytecode.specs.declared.module.Code.{Code}
use Rattle.code_verify.specs.Kinds.{same_kind}
use Rattle.code_verify.specs.Rules.{IsVerified}
use Rattle.machine_meaning.specs.Machine as machine
use Rattle.machine_meaning.specs.Machine.{Call, State, Next, On, Traps, kind_of, on_with, may_use, using, at_item, number, numbers, leaves_store, writes, stores, pushes, step, next}
use Rattle.compiled_code.specs.Slots.{Slot, Slots, slot_of}
use Rattle.compiled_code.specs.Sizes.{size_of, boxed_size, place_size}
use Rattle.compiled_code.specs.Values.{code_of, boxed_code}
use Rattle.compiled_code.specs.Statements.{store_instr, add_code, set_code, add_to_code}
use Rattle.compiled_code.specs.Modules.{module_of}
use Rattle.compiled_code.specs.Shape.{PlaceIs, ValueIs}
use Rattle.compiled_code.proofs.Does.{Sound, Does, then_does, step_does, trap_does, no_step}
use Rattle.compiled_code.proofs.Pieces.{Holds, front, back}
use Rattle.compiled_code.proofs.Frames.{Agree, Ascend, Named, no_local, a_local, named, set_agrees, set_length}
use Rattle.compiled_code.proofs.Lengths.{both, behind, boxed_length, expr_length}
use Rattle.compiled_code.proofs.Operands.{item_same}
use Rattle.compiled_code.proofs.Kept.{written_kinds, base_same}
use Rattle.compiled_code.proofs.Values.{CallsDo, at_instr, from, mk, Left, gives_one, value_does, boxed_does}

module _ (p : Program) (ok : IsVerified (module_of p)) (r : Bool) (whole : ℕ) (c : Code) (callers : List Call) (levels : ℕ) (calls : CallsDo p ok r whole levels) (deep : length callers + levels ≡ 64)
  where
    -- the locals agree with these slots, at a place without operands
    abbrev pub Settled : ℕ → Slots → ℕ → Locals → World → State → Type 0
    Settled place slots count ls u s' = (ml : List Val) × (s' ≡ mk p ok r whole c ml callers place [] u) × Agree slots ls ml × (length ml ≡ count)

    -- ---- single instructions

    -- a value is put into a slot
    pub store_does : {A : Type 0} (Post : A → World → State → Type 0) (a : A) (ml : List Val) (slot : ℕ) (v old : Val) (place : ℕ) (u : World) → slice_get ml slot ≡ Some old
        → Sound p ok r whole (mk p ok r whole c ml callers place (v ∷ []) u)
        → slice_get c.instrs place ≡ Some (i.Store slot) → Post a u (mk p ok r whole c (slice_set ml slot v) callers (place + 1) [] u)
        → Does p ok r whole Post (Gives a u) (mk p ok r whole c ml callers place (v ∷ []) u)
    store_does Post a ml slot v old place u is sound h post =
        by (same_kind (kind_of old) (kind_of v))
        (at_instr p ok r whole (mk p ok r whole c ml callers place (v ∷ []) u) (i.Store slot) h ∙ ap (λ (o : Option Val). stores (mk p ok r whole c ml callers place (v ∷ []) u) slot (v ∷ []) o) is)
      where
        by : (b : Bool) → next (module_of p) (mk p ok r whole c ml callers place (v ∷ []) u) ≡ (if b then Some (On (mk p ok r whole c (slice_set ml slot v) callers (place + 1) [] u)) else None)
            → Does p ok r whole Post (Gives a u) (mk p ok r whole c ml callers place (v ∷ []) u)
        by true e = gives_one p ok r whole c ml callers Post a (mk p ok r whole c ml callers place (v ∷ []) u) (mk p ok r whole c (slice_set ml slot v) callers (place + 1) [] u) u sound e sound.kinds
            post
        by false e = no_step p ok r whole (mk p ok r whole c ml callers place (v ∷ []) u) sound e

    module _ (slots : Slots) (ls : Locals) (ml : List Val) (agree : Agree slots ls ml) (to : ℕ) (up : Ascend 0 slots to) where
      abbrev mk' : ℕ → List Val → World → State
      mk' place ops w = mk p ok r whole c ml callers place ops w

      abbrev Done : ℕ → Locals → World → State → Type 0
      Done place ls' u s' = Settled place slots (length ml) ls' u s'

      -- a word is written
      put_does : (address : ℕ) (v : Val) (place : ℕ) (u : World) → Sound p ok r whole (mk' place (v ∷ []) u) → slice_get c.instrs place ≡ Some (i.Put address)
          → Does p ok r whole (Done (place + 1)) ((put_word address (number_in v) >>= (λ _. pure ls)) u) (mk' place (v ∷ []) u)
      put_does address (val.Truth b) place u sound h = no_step p ok r whole (mk' place (val.Truth b ∷ []) u) sound (at_instr p ok r whole (mk' place (val.Truth b ∷ []) u) (i.Put address) h)
      put_does address (val.Int z) place u sound h = by (may_use (module_of p) u.store address) (at_instr p ok r whole (mk' place (val.Int z ∷ []) u) (i.Put address) h)
        where
          by : (b : Bool) → next (module_of p) (mk' place (val.Int z ∷ []) u) ≡ (if b then Some (On (mk' (place + 1) [] (record u { store = write_word u.store address z }))) else None)
              → Does p ok r whole (Done (place + 1)) ((put_word address z >>= (λ _. pure ls)) u) (mk' place (val.Int z ∷ []) u)
          by true e =
              gives_one p ok r whole c ml callers (Done (place + 1)) ls (mk' place (val.Int z ∷ []) u) (mk' (place + 1) [] (record u { store = write_word u.store address z }))
              (record u { store = write_word u.store address z }) sound e
              (written_kinds p u.store address z sound.kinds) (ml, refl, agree, refl)
          by false e = no_step p ok r whole (mk' place (val.Int z ∷ []) u) sound e

      -- the store behind a step, or its trap
      left_does : (res : Result ℤ Cause) (address : ℕ) (under : List Val) (place : ℕ) (u : World) → Sound p ok r whole (mk' place under u)
          → next (module_of p) (mk' place under u) ≡ Some (leaves_store (mk' place under u) [] (with_sum u.store address res))
          → Does p ok r whole (Done (place + 1)) (and_then (with_store (with_sum u.store address res) u) (λ _. pure ls)) (mk' place under u)
      left_does (Ok z) address under place u sound e =
          gives_one p ok r whole c ml callers (Done (place + 1)) ls (mk' place under u) (mk' (place + 1) [] (record u { store = write_word u.store address z }))
          (record u { store = write_word u.store address z }) sound e
          (written_kinds p u.store address z sound.kinds) (ml, refl, agree, refl)
      left_does (Err met) address under place u sound e = trap_does p ok r whole (Done (place + 1)) met u (mk' place under u) e

      -- a word is added to
      add_word_does : (address : ℕ) (v : Val) (place : ℕ) (u : World) → Sound p ok r whole (mk' place (v ∷ []) u) → slice_get c.instrs place ≡ Some (i.AddWord address)
          → Does p ok r whole (Done (place + 1)) ((raise_word address (number_in v) >>= (λ _. pure ls)) u) (mk' place (v ∷ []) u)
      add_word_does address (val.Truth b) place u sound h = no_step p ok r whole (mk' place (val.Truth b ∷ []) u) sound (at_instr p ok r whole (mk' place (val.Truth b ∷ []) u) (i.AddWord address) h)
      add_word_does address (val.Int z) place u sound h = by (nat_lt address (module_of p).words) (at_instr p ok r whole (mk' place (val.Int z ∷ []) u) (i.AddWord address) h)
        where
          by : (b : Bool) → next (module_of p) (mk' place (val.Int z ∷ []) u) ≡ (if b then Some (leaves_store (mk' place (val.Int z ∷ []) u) [] (add_word u.store address z)) else None)
              → Does p ok r whole (Done (place + 1)) ((raise_word address z >>= (λ _. pure ls)) u) (mk' place (val.Int z ∷ []) u)
          by true e = left_does (checked (base_of u.store address +ℤ z)) address (val.Int z ∷ []) place u sound e
          by false e = no_step p ok r whole (mk' place (val.Int z ∷ []) u) sound e

      -- an item of an array is written
      set_item_does : (area : Area) (x v : Val) (place : ℕ) (u : World) → Sound p ok r whole (mk' place (v ∷ x ∷ []) u) → slice_get c.instrs place ≡ Some (i.SetItem area.first (unwrap_or area.items 0))
          → Does p ok r whole (Done (place + 1)) ((in_range (item_at area (number_in x)) >>= (λ address. put_word address (number_in v) >>= (λ _. pure ls))) u) (mk' place (v ∷ x ∷ []) u)
      set_item_does area (val.Truth a) (val.Int z) place u sound h = no_step p ok r whole (mk' place (val.Int z ∷ val.Truth a ∷ []) u) sound
          (at_instr p ok r whole (mk' place (val.Int z ∷ val.Truth a ∷ []) u) (i.SetItem area.first (unwrap_or area.items 0)) h)
      set_item_does area (val.Int y) (val.Truth b) place u sound h = no_step p ok r whole (mk' place (val.Truth b ∷ val.Int y ∷ []) u) sound
          (at_instr p ok r whole (mk' place (val.Truth b ∷ val.Int y ∷ []) u) (i.SetItem area.first (unwrap_or area.items 0)) h)
      set_item_does area (val.Truth a) (val.Truth b) place u sound h = no_step p ok r whole (mk' place (val.Truth b ∷ val.Truth a ∷ []) u) sound
          (at_instr p ok r whole (mk' place (val.Truth b ∷ val.Truth a ∷ []) u) (i.SetItem area.first (unwrap_or area.items 0)) h)
      set_item_does area (val.Int y) (val.Int z) place u sound h =
          by (nat_lt (module_of p).words (area.first + unwrap_or area.items 0)) (item_at area y)
          (at_instr p ok r whole under (i.SetItem area.first (unwrap_or area.items 0)) h
          ∙ ap (λ (o : Option ℕ). if nat_lt (module_of p).words (area.first + unwrap_or area.items 0) then None else at_item (module_of p) under o (λ a. leaves_store under [] (writes u.store a (Ok z))))
          (item_same area y))
        where
          under : State
          under = mk' place (val.Int z ∷ val.Int y ∷ []) u

          used : (a : ℕ) (b : Bool) → next (module_of p) under ≡ (if b then Some (leaves_store under [] (Ok (write_word u.store a z))) else None)
              → Does p ok r whole (Done (place + 1)) ((put_word a z >>= (λ _. pure ls)) u) under
          used a true e = left_does (Ok z) a (val.Int z ∷ val.Int y ∷ []) place u sound e
          used a false e = no_step p ok r whole under sound e

          by : (b : Bool) (o : Option ℕ) → next (module_of p) under ≡ (if b then None else at_item (module_of p) under o (λ a. leaves_store under [] (writes u.store a (Ok z))))
              → Does p ok r whole (Done (place + 1)) ((in_range o >>= (λ address. put_word address z >>= (λ _. pure ls))) u) under
          by true o e = no_step p ok r whole under sound e
          by false None e = trap_does p ok r whole (Done (place + 1)) cause.OutOfRange u under e
          by false (Some a) e = used a (may_use (module_of p) u.store a) e

      -- an item of an array is added to
      add_item_does : (area : Area) (x v : Val) (place : ℕ) (u : World) → Sound p ok r whole (mk' place (v ∷ x ∷ []) u) → slice_get c.instrs place ≡ Some (i.AddItem area.first (unwrap_or area.items 0))
          → Does p ok r whole (Done (place + 1)) ((in_range (item_at area (number_in x)) >>= (λ address. raise_word address (number_in v) >>= (λ _. pure ls))) u) (mk' place (v ∷ x ∷ []) u)
      add_item_does area (val.Truth a) (val.Int z) place u sound h = no_step p ok r whole (mk' place (val.Int z ∷ val.Truth a ∷ []) u) sound
          (at_instr p ok r whole (mk' place (val.Int z ∷ val.Truth a ∷ []) u) (i.AddItem area.first (unwrap_or area.items 0)) h)
      add_item_does area (val.Int y) (val.Truth b) place u sound h = no_step p ok r whole (mk' place (val.Truth b ∷ val.Int y ∷ []) u) sound
          (at_instr p ok r whole (mk' place (val.Truth b ∷ val.Int y ∷ []) u) (i.AddItem area.first (unwrap_or area.items 0)) h)
      add_item_does area (val.Truth a) (val.Truth b) place u sound h = no_step p ok r whole (mk' place (val.Truth b ∷ val.Truth a ∷ []) u) sound
          (at_instr p ok r whole (mk' place (val.Truth b ∷ val.Truth a ∷ []) u) (i.AddItem area.first (unwrap_or area.items 0)) h)
      add_item_does area (val.Int y) (val.Int z) place u sound h =
          by (nat_lt (module_of p).words (area.first + unwrap_or area.items 0)) (item_at area y)
          (at_instr p ok r whole under (i.AddItem area.first (unwrap_or area.items 0)) h
          ∙ ap (λ (o : Option ℕ). if nat_lt (module_of p).words (area.first + unwrap_or area.items 0) then None else at_item (module_of p) under o
          (λ a. leaves_store under [] (writes u.store a (checked (read_word u.store a +ℤ z))))) (item_same area y))
        where
          under : State
          under = mk' place (val.Int z ∷ val.Int y ∷ []) u

          same_sum : (a : ℕ) (res : Result ℤ Cause) → writes u.store a res ≡ with_sum u.store a res
          same_sum a (Ok n) = refl
          same_sum a (Err met) = refl

          used : (a : ℕ) (b : Bool) → may_use (module_of p) u.store a ≡ b → next (module_of p) under ≡
              (if b then Some (leaves_store under [] (writes u.store a (checked (read_word u.store a +ℤ z)))) else None)
              → Does p ok r whole (Done (place + 1)) ((raise_word a z >>= (λ _. pure ls)) u) under
          used a true may e =
              left_does (checked (base_of u.store a +ℤ z)) a (val.Int z ∷ val.Int y ∷ []) place u sound
              (e ∙ ap (λ (st : Result Store Cause). Some (leaves_store under [] st)) (same_sum a (checked (read_word u.store a +ℤ z)))
              ∙ ap (λ (base : ℤ). Some (leaves_store under [] (with_sum u.store a (checked (base +ℤ z))))) (sym (base_same p u.store a sound.kinds may)))
          used a false may e = no_step p ok r whole under sound e

          by : (b : Bool) (o : Option ℕ) → next (module_of p) under ≡ (if b then None else at_item (module_of p) under o
              (λ a. leaves_store under [] (writes u.store a (checked (read_word u.store a +ℤ z)))))
              → Does p ok r whole (Done (place + 1)) ((in_range o >>= (λ address. raise_word address z >>= (λ _. pure ls))) u) under
          by true o e = no_step p ok r whole under sound e
          by false None e = trap_does p ok r whole (Done (place + 1)) cause.OutOfRange u under e
          by false (Some a) e = used a (may_use (module_of p) u.store a) refl e

      -- a name is set
      set_name_does : (slot : Option Slot) (local : Option Val) → Named ml slot local → (name : Text) → slot ≡ slot_of slots name → (area : Area) (v : Val) (place : ℕ) (u : World)
          → Sound p ok r whole (mk' place (v ∷ []) u)
          → slice_get c.instrs place ≡ Some (store_instr slot area) → Does p ok r whole (Done (place + 1)) (set_name local area name v ls u) (mk' place (v ∷ []) u)
      set_name_does slot local no_local name is area v place u sound h = put_does area.first v place u sound h
      set_name_does slot local (a_local s old held) name is area v place u sound h =
          store_does (Done (place + 1)) (set_local ls name v) ml s.number v old place u held sound h
          (slice_set ml s.number v, refl, set_agrees 0 slots to ls ml name s v up agree (sym is), set_length ml s.number v)

      -- a name is added to
      add_name_does : (slot : Option Slot) (local : Option Val) → Named ml slot local → (name : Text) → slot ≡ slot_of slots name → (area : Area) (v : Val) (place : ℕ) (u : World)
          → Sound p ok r whole (mk' place (v ∷ []) u)
          → Holds c.instrs place (add_code slot area) → Does p ok r whole (Done (place + length (add_code slot area))) (add_to_name local area name v ls u) (mk' place (v ∷ []) u)
      add_name_does slot local no_local name is area v place u sound h = add_word_does area.first v place u sound h.0
      add_name_does slot local (a_local s old held) name is area v place u sound h =
          step_does p ok r whole (Done (place + 3)) ((try (as_int (checked (number_in old +ℤ number_in v))) >>= (λ sum. pure (set_local ls name sum))) u) (mk' place (v ∷ []) u)
          (mk' (place + 1) (old ∷ v ∷ []) u) sound
          (at_instr p ok r whole (mk' place (v ∷ []) u) (i.Load s.number) h.0 ∙ ap (λ (o : Option Val). machine.◌>>=◌ o (λ x. Some (On (on_with (mk' place (v ∷ []) u) (x ∷ v ∷ []))))) held) sound.kinds
          (λ sound1.
          by old v sound1 held (at_instr p ok r whole (mk' (place + 1) (old ∷ v ∷ []) u) i.Add h.1.0))
        where
          summed : (old' v' : Val) (res : Result ℤ Cause) → slice_get ml s.number ≡ Some old' → Sound p ok r whole (mk' (place + 1) (old' ∷ v' ∷ []) u)
              → next (module_of p) (mk' (place + 1) (old' ∷ v' ∷ []) u) ≡ Some (pushes (mk' (place + 1) (old' ∷ v' ∷ []) u) [] res)
              → Does p ok r whole (Done (place + 3)) ((try (as_int res) >>= (λ sum. pure (set_local ls name sum))) u) (mk' (place + 1) (old' ∷ v' ∷ []) u)
          summed old' v' (Err met) held' sound' e = trap_does p ok r whole (Done (place + 3)) met u (mk' (place + 1) (old' ∷ v' ∷ []) u) e
          summed old' v' (Ok z) held' sound' e =
              let three : place + 1 + 1 + 1 ≡ place + 3 = omega arith in
              step_does p ok r whole (Done (place + 3)) (Gives (set_local ls name (val.Int z)) u) (mk' (place + 1) (old' ∷ v' ∷ []) u) (mk' (place + 1 + 1) (val.Int z ∷ []) u) sound' e sound'.kinds
              (λ sound2.
              store_does (Done (place + 3)) (set_local ls name (val.Int z)) ml s.number (val.Int z) old' (place + 1 + 1) u held' sound2 h.1.1.0
              (slice_set ml s.number (val.Int z), ap (λ (q : ℕ). mk p ok r whole c (slice_set ml s.number (val.Int z)) callers q [] u) three, set_agrees 0 slots to ls ml name s (val.Int z) up agree (sym is), set_length ml s.number (val.Int z)))

          by : (old' v' : Val) → Sound p ok r whole (mk' (place + 1) (old' ∷ v' ∷ []) u) → slice_get ml s.number ≡ Some old'
              → next (module_of p) (mk' (place + 1) (old' ∷ v' ∷ []) u) ≡ machine.◌>>=◌ (numbers (old' ∷ v' ∷ [])) (λ x. Some (pushes (mk' (place + 1) (old' ∷ v' ∷ []) u) x.2 (checked (x.0 +ℤ x.1))))
              → Does p ok r whole (Done (place + 3)) ((try (as_int (checked (number_in old' +ℤ number_in v'))) >>= (λ sum. pure (set_local ls name sum))) u) (mk' (place + 1) (old' ∷ v' ∷ []) u)
          by (val.Int x) (val.Int y) sound' held' e =
              summed (val.Int x) (val.Int y) (checked (x +ℤ y)) held' sound' (e ∙ ap (λ (z : ℤ). Some (pushes (mk' (place + 1) (val.Int x ∷ val.Int y ∷ []) u) [] (checked z))) (+ℤ_comm y x))
          by (val.Truth x) (val.Int y) sound' held' e = no_step p ok r whole (mk' (place + 1) (val.Truth x ∷ val.Int y ∷ []) u) sound' e
          by (val.Int x) (val.Truth y) sound' held' e = no_step p ok r whole (mk' (place + 1) (val.Int x ∷ val.Truth y ∷ []) u) sound' e
          by (val.Truth x) (val.Truth y) sound' held' e = no_step p ok r whole (mk' (place + 1) (val.Truth x ∷ val.Truth y ∷ []) u) sound' e

      -- ---- whole changes

      module _ (place : ℕ) (w : World) (sound : Sound p ok r whole (mk' place [] w)) where
        -- `x = e` and `a[i] = e`
        pub set_does : (target : Place) (e : Expr) → PlaceIs p target → ValueIs p e.node → Holds c.instrs place (set_code p slots target e place)
            → Does p ok r whole (Done (place + place_size target + size_of e + 1)) (set p (calls_to p levels) ls target e w) (mk' place [] w)
        set_does (Place' name None') e is value_is has =
            let there : place + size_of e + 1 ≡ place + 0 + size_of e + 1 = omega arith in
            subst (λ (q : ℕ). Does p ok r whole (Done q) (set p (calls_to p levels) ls (Place' name None') e w) (mk' place [] w)) there
            (then_does p ok r whole (Left p ok r whole c ml callers (place + size_of e) []) (Done (place + size_of e + 1)) (value_of p (calls_to p levels) ls e w)
            (λ v. set_name (local_value ls name.text) (declared (area_of p.shared name.text)) name.text v ls) (mk' place [] w)
            (value_does p ok r whole c ml callers slots ls agree levels calls deep e.node place [] w value_is sound
            (front c.instrs place (code_of p slots e place) (store_instr (slot_of slots name.text) (declared (area_of p.shared name.text)) ∷ []) has)) (λ v u s' sound' q.
            from p ok r whole (Done (place + size_of e + 1)) (set_name (local_value ls name.text) (declared (area_of p.shared name.text)) name.text v ls u) s' (mk' (place + size_of e) (v ∷ []) u) q
            sound' (λ sound1.
            set_name_does (slot_of slots name.text) (local_value ls name.text) (named slots ls ml name.text agree) name.text refl (declared (area_of p.shared name.text)) v (place + size_of e) u sound1
            (back c.instrs place (code_of p slots e place) (store_instr (slot_of slots name.text) (declared (area_of p.shared name.text)) ∷ []) (size_of e) (expr_length p slots e place) has).0)))
        set_does (Place' name (Some' shape index)) e is value_is has =
            let area = declared (area_of p.shared name.text) in
            let last = i.SetItem area.first (unwrap_or area.items 0) in
            let ahead = front c.instrs place (boxed_code p slots index place ++ code_of p slots e (place + boxed_size index)) (last ∷ []) has in
            let end = back c.instrs place (boxed_code p slots index place ++ code_of p slots e (place + boxed_size index)) (last ∷ []) (boxed_size index + size_of e)
            (both (boxed_code p slots index place) (code_of p slots e (place + boxed_size index)) (boxed_size index) (size_of e) (boxed_length p slots index place)
            (expr_length p slots e (place + boxed_size index))) has in
            let there : place + (boxed_size index + size_of e) ≡ place + boxed_size index + size_of e = omega arith in
            then_does p ok r whole (Left p ok r whole c ml callers (place + boxed_size index) []) (Done (place + boxed_size index + size_of e + 1)) (boxed p (calls_to p levels) ls index w)
            (λ x. value_of p (calls_to p levels) ls e >>= (λ v. in_range (item_at area (number_in x)) >>= (λ address. put_word address (number_in v) >>= (λ _. pure ls)))) (mk' place [] w)
            (boxed_does p ok r whole c ml callers slots ls agree levels calls deep index place [] w is sound
            (front c.instrs place (boxed_code p slots index place) (code_of p slots e (place + boxed_size index)) ahead)) (λ x u s' sound' q.
            from p ok r whole (Done (place + boxed_size index + size_of e + 1)) ((value_of p (calls_to p levels) ls e
            >>= (λ v. in_range (item_at area (number_in x)) >>= (λ address. put_word address (number_in v) >>= (λ _. pure ls)))) u) s' (mk' (place + boxed_size index) (x ∷ []) u) q sound' (λ sound1.
            then_does p ok r whole (Left p ok r whole c ml callers (place + boxed_size index + size_of e) (x ∷ [])) (Done (place + boxed_size index + size_of e + 1))
            (value_of p (calls_to p levels) ls e u) (λ v. in_range (item_at area (number_in x)) >>= (λ address. put_word address (number_in v) >>= (λ _. pure ls)))
            (mk' (place + boxed_size index) (x ∷ []) u)
            (value_does p ok r whole c ml callers slots ls agree levels calls deep e.node (place + boxed_size index) (x ∷ []) u value_is sound1
            (back c.instrs place (boxed_code p slots index place) (code_of p slots e (place + boxed_size index)) (boxed_size index) (boxed_length p slots index place) ahead)) (λ v u' s'' sound'' q'.
            from p ok r whole (Done (place + boxed_size index + size_of e + 1)) ((in_range (item_at area (number_in x)) >>= (λ address. put_word address (number_in v) >>= (λ _. pure ls))) u') s''
            (mk' (place + boxed_size index + size_of e) (v ∷ x ∷ []) u') q' sound'' (λ sound2.
            set_item_does area x v (place + boxed_size index + size_of e) u' sound2 (subst (λ (z : ℕ). slice_get c.instrs z ≡ Some last) there end.0)))))

        -- `x += e` and `a[i] += e`
        pub add_to_does : (target : Place) (e : Expr) → PlaceIs p target → ValueIs p e.node → Holds c.instrs place (add_to_code p slots target e place)
            → Does p ok r whole (Done (place + length (add_to_code p slots target e place))) (add_to p (calls_to p levels) ls target e w) (mk' place [] w)
        add_to_does (Place' name None') e is value_is has =
            let tail = add_code (slot_of slots name.text) (declared (area_of p.shared name.text)) in
            let size : length (code_of p slots e place ++ tail) ≡ size_of e + length tail = both (code_of p slots e place) tail (size_of e) (length tail) (expr_length p slots e place) refl in
            let there : place + size_of e + length tail ≡ place + length (code_of p slots e place ++ tail) = omega (arith, size) in
            subst (λ (q : ℕ). Does p ok r whole (Done q) (add_to p (calls_to p levels) ls (Place' name None') e w) (mk' place [] w)) there
            (then_does p ok r whole (Left p ok r whole c ml callers (place + size_of e) []) (Done (place + size_of e + length tail)) (value_of p (calls_to p levels) ls e w)
            (λ v. add_to_name (local_value ls name.text) (declared (area_of p.shared name.text)) name.text v ls) (mk' place [] w)
            (value_does p ok r whole c ml callers slots ls agree levels calls deep e.node place [] w value_is sound (front c.instrs place (code_of p slots e place) tail has)) (λ v u s' sound' q.
            from p ok r whole (Done (place + size_of e + length tail)) (add_to_name (local_value ls name.text) (declared (area_of p.shared name.text)) name.text v ls u) s'
            (mk' (place + size_of e) (v ∷ []) u) q sound' (λ sound1.
            add_name_does (slot_of slots name.text) (local_value ls name.text) (named slots ls ml name.text agree) name.text refl (declared (area_of p.shared name.text)) v (place + size_of e) u sound1
            (back c.instrs place (code_of p slots e place) tail (size_of e) (expr_length p slots e place) has))))
        add_to_does (Place' name (Some' shape index)) e is value_is has =
            let area = declared (area_of p.shared name.text) in
            let last = i.AddItem area.first (unwrap_or area.items 0) in
            let pieces = both (boxed_code p slots index place) (code_of p slots e (place + boxed_size index)) (boxed_size index) (size_of e) (boxed_length p slots index place)
            (expr_length p slots e (place + boxed_size index)) in
            let ahead = front c.instrs place (boxed_code p slots index place ++ code_of p slots e (place + boxed_size index)) (last ∷ []) has in
            let end = back c.instrs place (boxed_code p slots index place ++ code_of p slots e (place + boxed_size index)) (last ∷ []) (boxed_size index + size_of e) pieces has in
            let there : place + (boxed_size index + size_of e) ≡ place + boxed_size index + size_of e = omega arith in
            let size : length (boxed_code p slots index place ++ code_of p slots e (place + boxed_size index) ++ last ∷ []) ≡ boxed_size index + size_of e + 1 = behind
            (boxed_code p slots index place ++ code_of p slots e (place + boxed_size index)) last (boxed_size index + size_of e) pieces in
            let done : place + boxed_size index + size_of e + 1 ≡ place + length (boxed_code p slots index place ++ code_of p slots e (place + boxed_size index) ++ last ∷ []) = omega (arith, size) in
            subst (λ (q : ℕ). Does p ok r whole (Done q) (add_to p (calls_to p levels) ls (Place' name (Some' shape index)) e w) (mk' place [] w)) done
            (then_does p ok r whole (Left p ok r whole c ml callers (place + boxed_size index) []) (Done (place + boxed_size index + size_of e + 1)) (boxed p (calls_to p levels) ls index w)
            (λ x. value_of p (calls_to p levels) ls e >>= (λ v. in_range (item_at area (number_in x)) >>= (λ address. raise_word address (number_in v) >>= (λ _. pure ls)))) (mk' place [] w)
            (boxed_does p ok r whole c ml callers slots ls agree levels calls deep index place [] w is sound
            (front c.instrs place (boxed_code p slots index place) (code_of p slots e (place + boxed_size index)) ahead)) (λ x u s' sound' q.
            from p ok r whole (Done (place + boxed_size index + size_of e + 1)) ((value_of p (calls_to p levels) ls e
            >>= (λ v. in_range (item_at area (number_in x)) >>= (λ address. raise_word address (number_in v) >>= (λ _. pure ls)))) u) s' (mk' (place + boxed_size index) (x ∷ []) u) q sound'
            (λ sound1.
            then_does p ok r whole (Left p ok r whole c ml callers (place + boxed_size index + size_of e) (x ∷ [])) (Done (place + boxed_size index + size_of e + 1))
            (value_of p (calls_to p levels) ls e u) (λ v. in_range (item_at area (number_in x)) >>= (λ address. raise_word address (number_in v) >>= (λ _. pure ls)))
            (mk' (place + boxed_size index) (x ∷ []) u)
            (value_does p ok r whole c ml callers slots ls agree levels calls deep e.node (place + boxed_size index) (x ∷ []) u value_is sound1
            (back c.instrs place (boxed_code p slots index place) (code_of p slots e (place + boxed_size index)) (boxed_size index) (boxed_length p slots index place) ahead)) (λ v u' s'' sound'' q'.
            from p ok r whole (Done (place + boxed_size index + size_of e + 1)) ((in_range (item_at area (number_in x)) >>= (λ address. raise_word address (number_in v) >>= (λ _. pure ls))) u') s''
            (mk' (place + boxed_size index + size_of e) (v ∷ x ∷ []) u') q' sound'' (λ sound2.
            add_item_does area x v (place + boxed_size index + size_of e) u' sound2 (subst (λ (z : ℕ). slice_get c.instrs z ≡ Some last) there end.0))))))
