-- Tokens of the same kinds at other places are the first ones moved.
use Rattle.std.proofs.Common.{◌≡◌, ◌≤◌, ◌<◌, ◌+◌, ℕ, true, false, if◌then◌else◌, List, [], ◌∷◌, refl, sym, ap, ◌∙◌, arith, rules}
use Rattle.std.specs.Prelude.{nat_eq}
use Rattle.csl_tree.specs.declared.token.Token.{Token}
use Rattle.csl_tree.specs.declared.token.TokenKind.{TokenKind}
use Rattle.csl_tree.specs.declared.token.TokenKind.TheVariants as kind
use Rattle.csl_lexer.specs.Laws.{AscendsFrom}
use Rattle.csl_print.proofs.Bares.{at_place}
use Rattle.csl_print.proofs.Leads.{kinds}
use Rattle.csl_print.proofs.Moves.{moved_kind, moved, all_moved}
use Rattle.csl_print.proofs.Reduces.{GoodKind, AllGood}
use Rattle.csl_print.proofs.Written.{at_kind, ArePlaced}

-- the place of the token of the second list that stands where in the first one stands at a place
abbrev pub place_of : List Token → List Token → ℕ → ℕ
place_of [] ts' n = n
place_of (t ∷ ts) [] n = n
place_of (t ∷ ts) (t' ∷ ts') n = if nat_eq n t.at then t'.at else place_of ts ts' n

moved_good : (f : ℕ → ℕ) (at : ℕ) (k : TokenKind) → GoodKind at k → moved_kind f k ≡ at_kind (f at) k
moved_good f at (kind.Word w) h = refl
moved_good f at (kind.Named n) h = ap (λ x. kind.Named (at_place (f x) n)) h.0
moved_good f at (kind.Number z) h = refl
moved_good f at (kind.Text n) h = ap (λ x. kind.Text (at_place (f x) n)) h.0
moved_good f at (kind.Mark m) h = refl
moved_good f at kind.End h = refl

nat_eq_same : (n : ℕ) → nat_eq n n ≡ true
nat_eq_same n = search rules

nat_eq_other : (n m : ℕ) → m < n → nat_eq n m ≡ false
nat_eq_other n m h = search rules

moved_from : (ts ts' : List Token) (place : ℕ) (f : ℕ → ℕ) → ArePlaced (kinds ts) ts' → AllGood ts → AscendsFrom place ts → ((n : ℕ) → place ≤ n → f n ≡ place_of ts ts' n) → all_moved f ts ≡ ts'
moved_from [] [] place f placed good ascends agrees = refl
moved_from [] (t' ∷ ts') place f placed good ascends agrees = absurd placed
moved_from (t ∷ ts) [] place f placed good ascends agrees = absurd placed
moved_from (t ∷ ts) (t' ∷ ts') place f placed good ascends agrees =
    let here : f t.at ≡ t'.at = agrees t.at ascends.0 ∙ ap (λ b. if b then t'.at else place_of ts ts' t.at) (nat_eq_same t.at) in
    let same_kind : moved_kind f t.kind ≡ t'.kind = moved_good f t.at t.kind good.0 ∙ ap (λ x. at_kind x t.kind) here ∙ sym placed.0 in
    let first : moved f t ≡ t' = λ i. record { at = here i; kind = same_kind i } in
    let others : all_moved f ts ≡ ts' = moved_from ts ts' (t.at + 1) f placed.1 good.1 ascends.1
    (λ n h. agrees n (omega (arith, ascends.0, h)) ∙ ap (λ b. if b then t'.at else place_of ts ts' n) (nat_eq_other n t.at (omega (arith, h)))) in
    λ i. first i ∷ others i

pub moved_all : (ts ts' : List Token) → ArePlaced (kinds ts) ts' → AllGood ts → AscendsFrom 0 ts → all_moved (place_of ts ts') ts ≡ ts'
moved_all ts ts' placed good ascends = moved_from ts ts' 0 (place_of ts ts') placed good ascends (λ n h. refl)
