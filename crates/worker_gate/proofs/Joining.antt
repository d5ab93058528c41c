-- What the last worker and all others did together.
use Rattle.std.proofs.Common.{◌≡◌, ℕ, ◌-◌, ◌≤◌, length, get_or, List, [], ◌∷◌, ◌++◌, sym, ap, ◌∙◌, subst, arith}
use Rattle.std.proofs.lemmas.List.{length_push, get_or_append_left}
use Rattle.std.proofs.lemmas.List.Sums.{sum_by_push}
use Rattle.std.proofs.lemmas.List.Elements.{AllZip-push}
use Rattle.std.specs.Prelude.{All}
use Rattle.bytecode.specs.declared.module.Module.{Module}
use Rattle.cal_base.specs.Pages.{Paged}
use Rattle.step_board.specs.Amounts.{Amounts, nothing_counted, joined}
use Rattle.worker_gate.specs.Working.{WorkerState}
use Rattle.worker_gate.specs.Worked.{Worked, IsLeft, late, ends}

-- what holds of all holds of all but the last
pub all_front : (P : WorkerState → Type 0) (items xs : List WorkerState) (x : WorkerState) → items ≡ xs ++ x ∷ [] → All P items → All P xs
all_front P items xs x is all k d less =
    let same : get_or items k d ≡ get_or xs k d = ap (λ (ys : List WorkerState). get_or ys k d) is ∙ get_or_append_left xs (x ∷ []) d k less in
    subst P same (all k d (omega (arith, less, ap length is, length_push xs x)))

module _ {step : ℕ} {image : Paged} {m : Module} where
  -- the others and the last one
  pub worked_push : (others others' : List WorkerState) (last last' : WorkerState) (shares shares' further' : Amounts) → 2 ≤ shares.parts
      → Worked step image m others others' (record shares { parts = shares.parts - 1 }) shares' → Worked step image m (last ∷ []) (last' ∷ []) (nothing_counted 1) further'
      → Worked step image m (others ++ last ∷ []) (others' ++ last' ∷ []) shares (joined shares' further')
  worked_push others others' last last' shares shares' further' two w v =
      let claims = sum_by_push (λ (x : WorkerState). x.tally.claims) others last in
      let claims' = sum_by_push (λ (x : WorkerState). x.tally.claims) others' last' in
      let executed = sum_by_push (λ (x : WorkerState). x.tally.executed) others last in
      let executed' = sum_by_push (λ (x : WorkerState). x.tally.executed) others' last' in
      let repeated = sum_by_push (λ (x : WorkerState). x.tally.repeated) others last in
      let repeated' = sum_by_push (λ (x : WorkerState). x.tally.repeated) others' last' in
      let lost = sum_by_push (λ (x : WorkerState). x.tally.lost) others last in
      let lost' = sum_by_push (λ (x : WorkerState). x.tally.lost) others' last' in
      let held = sum_by_push (λ (x : WorkerState). x.tally.held) others last in
      let held' = sum_by_push (λ (x : WorkerState). x.tally.held) others' last' in
      record {
        claims = omega (arith, claims, claims', w.claims, v.claims);
        arrivals = omega (arith, executed, executed', repeated, repeated', lost, lost', held, held', w.arrivals, v.arrivals);
        few = omega (arith, claims, claims', w.few, v.few);
        held = omega (arith, sum_by_push late others last, w.held, v.held);
        ends = omega (arith, sum_by_push ends others' last', w.ends, v.ends);
        parts = omega (arith, two, w.parts, v.parts);
        each = AllZip-push (IsLeft step image m) others others' last last' w.each v.each.0;
      }

  -- the same, under the names that the parts have
  pub worked_joined : {others others' : List WorkerState} {last last' : WorkerState} {shares rest shares' further further' : Amounts} (items items' : List WorkerState) (whole : Amounts)
      → Worked step image m others others' rest shares' → Worked step image m (last ∷ []) (last' ∷ []) further further'
      → 2 ≤ shares.parts → rest ≡ record shares { parts = shares.parts - 1 } → further ≡ nothing_counted 1
      → items ≡ others ++ last ∷ [] → items' ≡ others' ++ last' ∷ [] → whole ≡ joined shares' further'
      → Worked step image m items items' shares whole
  worked_joined {others} {others'} {last} {last'} {shares} {rest} {shares'} {further} {further'} items items' whole w v two r f i i' s =
      let w' = subst (λ (x : Amounts). Worked step image m others others' x shares') r w in
      let v' = subst (λ (x : Amounts). Worked step image m (last ∷ []) (last' ∷ []) x further') f v in
      subst (λ (x : List WorkerState). Worked step image m x items' shares whole) (sym i)
      (subst (λ (x : List WorkerState). Worked step image m (others ++ last ∷ []) x shares whole) (sym i')
      (subst (λ (x : Amounts). Worked step image m (others ++ last ∷ []) (others' ++ last' ∷ []) shares x) (sym s)
      (worked_push others others' last last' shares shares' further' two w' v')))
