-- How a text grows token by token.
use Rattle.std.proofs.Common.{◌≡◌, ℕ, suc, ◌+◌, ◌*◌, ◌<◌, ◌≤◌, List, [], ◌∷◌, ◌++◌, length, get_or, drop, drop-cons, add-one, sym, ap, ◌∙◌, append_assoc, arith}
use Rattle.std.proofs.lemmas.List.{replicate_more, drop_all}
use Rattle.std.proofs.lemmas.List.Sums.{fold-append}
use Rattle.std.specs.Prelude.{replicate}
use Rattle.csl_tree.specs.declared.token.TokenKind.{TokenKind}
use Rattle.csl_print.specs.Canonical.{blanks}
use Rattle.csl_print.specs.Layout.{Laid, adds, adds_all}
use Rattle.csl_print.specs.TreeTokens.{each, further, parted}
pub use Rattle.cal_terms.proofs.Lists.{next_item}

-- one step more
pub blanks_more : (steps : ℕ) → blanks steps ++ 32 ∷ 32 ∷ [] ≡ blanks (steps + 1)
blanks_more steps =
    sym (append_assoc (blanks steps) (32 ∷ []) (32 ∷ []))
    ∙ ap (λ x. x ++ 32 ∷ []) (replicate_more (2 * steps) 32)
    ∙ replicate_more (2 * steps + 1) 32
    ∙ ap (λ n. replicate n 32) (omega arith)

-- tokens added, and then others
pub also : (f g h : Laid) (xs ys : List TokenKind) → g ≡ adds_all f xs → h ≡ adds_all g ys → h ≡ adds_all f (xs ++ ys)
also f g h xs ys first then = then ∙ ap (λ l. adds_all l ys) first ∙ sym (fold-append adds f xs ys)

module _ {T : Type 0} (between : List TokenKind) (tokens : T → List TokenKind) where
  -- the first part of a list, and then the further ones
  pub list_begun : (old new : Laid) (all rest : List T) (x : T) → all ≡ x ∷ rest → new ≡ adds_all old (tokens x) → adds_all new (further between tokens rest) ≡ adds_all old (parted between tokens all)
  list_begun old new all rest x is added =
      ap (λ l. adds_all l (further between tokens rest)) added
      ∙ sym (fold-append adds old (tokens x) (further between tokens rest))
      ∙ ap (λ xs. adds_all old (parted between tokens xs)) (sym is)

  -- one further part
  pub list_goes_on : (old middle new whole : Laid) (xs : List T) (i : ℕ) (x : T) → drop i xs ≡ x ∷ drop (i + 1) xs → middle ≡ adds_all old between → new ≡ adds_all middle (tokens x)
      → adds_all old (further between tokens (drop i xs)) ≡ whole → adds_all new (further between tokens (drop (i + 1) xs)) ≡ whole
  list_goes_on old middle new whole xs i x is one two before =
      ap (λ l. adds_all l (further between tokens (drop (i + 1) xs))) (also old middle new between (tokens x) one two)
      ∙ sym (fold-append adds old (between ++ tokens x) (further between tokens (drop (i + 1) xs)))
      ∙ ap (λ ys. adds_all old (further between tokens ys)) (sym is)
      ∙ before

  -- no part is left
  pub list_done : (old whole : Laid) (xs : List T) (i : ℕ) → length xs ≤ i → adds_all old (further between tokens (drop i xs)) ≡ whole → old ≡ whole
  list_done old whole xs i past before = ap (λ ys. adds_all old (further between tokens ys)) (sym (drop_all i xs past)) ∙ before

module _ {T : Type 0} (tokens : T → List TokenKind) where
  -- one part of several
  pub each_goes_on : (old new whole : Laid) (xs : List T) (i : ℕ) (x : T) → drop i xs ≡ x ∷ drop (i + 1) xs → new ≡ adds_all old (tokens x) → adds_all old (each tokens (drop i xs)) ≡ whole
      → adds_all new (each tokens (drop (i + 1) xs)) ≡ whole
  each_goes_on old new whole xs i x is added before =
      ap (λ l. adds_all l (each tokens (drop (i + 1) xs))) added
      ∙ sym (fold-append adds old (tokens x) (each tokens (drop (i + 1) xs)))
      ∙ ap (λ ys. adds_all old (each tokens ys)) (sym is)
      ∙ before

  -- no part is left
  pub each_done : (old whole : Laid) (xs : List T) (i : ℕ) → length xs ≤ i → adds_all old (each tokens (drop i xs)) ≡ whole → old ≡ whole
  each_done old whole xs i past before = ap (λ ys. adds_all old (each tokens ys)) (sym (drop_all i xs past)) ∙ before
