use Rattle.std.proofs.Common.{◌≡◌, ◌<◌, ℕ, zero, suc, List, [], ◌∷◌, length, true, refl, ap, sym, ◌∙◌, arith}
use Rattle.cal_terms.specs.declared.kinds.WordKind.TheVariants.{Ordinary}
use Rattle.cal_base.specs.Memory.{Memory, kinds_of, kind_at, is_ordinary}
use Rattle.page_rows.proofs.pages.touch.Goals as goal

-- a word of the kind is ordinary
ordinary_kind : (memory : Memory) (a : ℕ) → a < length memory → kind_at memory a ≡ Ordinary → is_ordinary (kinds_of memory) a ≡ true
ordinary_kind [] a there kind = absurd (omega arith)
ordinary_kind (word ∷ memory) zero there kind = rw kind refl
ordinary_kind (word ∷ memory) (suc a) there kind = ordinary_kind memory a (omega arith) kind

pub read-requires-clause-ordinary : goal.read-requires-clause-ordinary
read-requires-clause-ordinary g c =
    let kind : kind_at c.args.image.now.memory c.loop-a.a ≡ Ordinary = sym c.in-Ordinary.ensures in
    let there : c.loop-a.a < length c.args.image.now.memory = omega (arith, c.loop-a-test.true, c.len-a-end.ensures.words) in
    ap (λ (m : Memory). is_ordinary (kinds_of m) c.loop-a.a) c.loop-a.invariant.opening ∙ ordinary_kind c.args.image.now.memory c.loop-a.a there kind
