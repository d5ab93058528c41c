-- Tokens whose kinds are known, one behind the other.
use Rattle.std.proofs.Common.{◌≡◌, ℤ, List, [], ◌∷◌, ◌++◌, refl, sym, ap, ◌∙◌, append_assoc, subst}
use Rattle.csl_tree.specs.declared.token.Token.{Token}
use Rattle.csl_tree.specs.declared.token.TokenKind.{TokenKind}
use Rattle.csl_tree.specs.declared.token.TokenKind.TheVariants as kind
use Rattle.csl_tree.specs.declared.token.Mark.TheVariants.{Minus}

-- what the tokens are, places aside
abbrev pub kinds : List Token → List TokenKind
kinds [] = []
kinds (t ∷ ts) = t.kind ∷ kinds ts

-- the tokens are some of these kinds, and then the rest
pub record Leads (ts rest : List Token) (ks : List TokenKind) : Type 0 where
  pub is : kinds ts ≡ ks ++ kinds rest

pub leads_none : (ts : List Token) → Leads ts ts []
leads_none ts = record { is = refl }

pub leads_one : {t : Token} {ts : List Token} {k : TokenKind} → t.kind ≡ k → Leads (t ∷ ts) ts (k ∷ [])
leads_one {ts = ts} e = record { is = ap (λ k. k ∷ kinds ts) e }

pub leads_then : {a b c : List Token} {xs ys : List TokenKind} → Leads a b xs → Leads b c ys → Leads a c (xs ++ ys)
leads_then {c = c} {xs = xs} {ys = ys} one two = record { is = one.is ∙ ap (λ k. xs ++ k) two.is ∙ sym (append_assoc xs ys (kinds c)) }

pub leads_as : {ts rest : List Token} {ks ks' : List TokenKind} → ks ≡ ks' → Leads ts rest ks → Leads ts rest ks'
leads_as {ts = ts} {rest = rest} e l = let P : List TokenKind → Type 0 = λ k. Leads ts rest k in subst P e l

-- some minus signs of the first list are left out in the second, where the number behind one takes its place
pub data Reduced : List Token → List Token → Type 0 where
  none : Reduced [] []
  keeps : (t : Token) {ts ts' : List Token} → Reduced ts ts' → Reduced (t ∷ ts) (t ∷ ts')
  drops : (sign t : Token) {n : ℤ} {ts ts' : List Token} → sign.kind ≡ kind.Mark Minus → t.kind ≡ kind.Number n → Reduced ts ts'
      → Reduced (sign ∷ t ∷ ts) (record { at = sign.at; kind = t.kind } ∷ ts')

-- tokens that spell the same tree, without the minus signs that no tree has
pub record Normal {X : Type 0} (spells : List Token → List Token → X → Type 0) (ts rest : List Token) (x : X) (ks : List TokenKind) : Type 0 where
  pub tokens : List Token
  pub reduced : Reduced ts tokens
  pub spelled : spells tokens rest x
  pub leads : Leads tokens rest ks
