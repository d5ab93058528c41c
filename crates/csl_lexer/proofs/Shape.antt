-- The end is the last token alone, and the places of tokens ascend.
use Rattle.std.proofs.Common.{◌≡◌, ◌≢◌, ◌≤◌, ◌+◌, ℕ, List, [], ◌∷◌, Result, Ok, Err, length, refl, ap, subst, arith, length-append}
use Rattle.csl_tree.specs.declared.token.Token.{Token}
use Rattle.csl_tree.specs.declared.token.TokenKind.{TokenKind}
use Rattle.csl_tree.specs.declared.token.TokenKind.TheVariants as kind
use Rattle.csl_lexer.specs.declared.LexError.{LexError}
use Rattle.csl_lexer.specs.Tokens.{Item, Longest, keyword, name, IsToken, run_token, number_token, text_token, mark_token, Reads, at_end, gap, token, fault_here}
use Rattle.csl_lexer.specs.Laws.{EndsAt, AscendsFrom, ListsEnd, PlacesAscend}
use Rattle.csl_lexer.proofs.Items.{item_some}

no_end : {at : ℕ} {item : Item} {k : TokenKind} → IsToken at item k → k ≡ kind.End → ⊥
no_end (run_token s keyword) e = cc
no_end (run_token s (name other)) e = cc
no_end (number_token h) e = cc
no_end text_token e = cc
no_end mark_token e = cc

ends_more : (place : ℕ) (t : Token) (tokens : List Token) → t.kind ≢ kind.End → EndsAt place tokens → EndsAt place (t ∷ tokens)
ends_more place t [] other ends = absurd ends
ends_more place t (next ∷ tokens) other ends = (other, ends)

ascends_lower : (low high : ℕ) (tokens : List Token) → low ≤ high → AscendsFrom high tokens → AscendsFrom low tokens
ascends_lower low high [] below ascends = tt
ascends_lower low high (t ∷ tokens) below ascends = (omega (arith, below, ascends.0), ascends.1)

behind : (at : ℕ) {bytes piece rest : List ℕ} {item : Item} → Longest bytes piece rest item → at + length piece + length rest ≡ at + length bytes
behind at {piece = piece} {rest = rest} l = omega (arith, ap (λ (x : List ℕ). length x) l.split, length-append piece rest)

ends : {at : ℕ} {bytes : List ℕ} {o : Result (List Token) LexError} → Reads at bytes o → (tokens : List Token) → o ≡ Ok tokens → EndsAt (at + length bytes) tokens
ends {at = at} at_end tokens e =
    let last : Token = record { at = at; kind = kind.End } in
    let same : last ∷ [] ≡ tokens = cc in
    subst (λ (x : List Token). EndsAt (at + 0) x) same (refl, omega arith)
ends {at = at} (gap l d) tokens e = subst (λ (x : ℕ). EndsAt x tokens) (behind at l) (ends d tokens e)
ends {at = at} {bytes = bytes} (token {k = k} {outcome = Ok more} l is d) tokens e =
    let first : Token = record { at = at; kind = k } in
    let same : first ∷ more ≡ tokens = cc in
    subst (λ (x : List Token). EndsAt (at + length bytes) x) same
    (ends_more (at + length bytes) first more (no_end is) (subst (λ (x : ℕ). EndsAt x more) (behind at l) (ends d more refl)))
ends (token {outcome = Err x} l is d) tokens e = absurd (cc)
ends (fault_here f) tokens e = absurd (cc)

ascends : {at : ℕ} {bytes : List ℕ} {o : Result (List Token) LexError} → Reads at bytes o → (tokens : List Token) → o ≡ Ok tokens → AscendsFrom at tokens
ascends {at = at} at_end tokens e =
    let last : Token = record { at = at; kind = kind.End } in
    let same : last ∷ [] ≡ tokens = cc in
    subst (λ (x : List Token). AscendsFrom at x) same (omega arith, tt)
ascends {at = at} (gap {piece = piece} l d) tokens e = ascends_lower at (at + length piece) tokens (omega arith) (ascends d tokens e)
ascends {at = at} (token {piece = piece} {k = k} {outcome = Ok more} l is d) tokens e =
    let first : Token = record { at = at; kind = k } in
    let same : first ∷ more ≡ tokens = cc in
    subst (λ (x : List Token). AscendsFrom at x) same
    (omega arith, ascends_lower (at + 1) (at + length piece) more (omega (arith, item_some l.is_item)) (ascends d more refl))
ascends (token {outcome = Err x} l is d) tokens e = absurd (cc)
ascends (fault_here f) tokens e = absurd (cc)

pub lists_end : ListsEnd
lists_end text tokens reads =
    let place : 0 + length text ≡ length text = omega arith in
    subst (λ (x : ℕ). EndsAt x tokens) place (ends reads tokens refl)

pub places_ascend : PlacesAscend
places_ascend text tokens reads = ascends reads tokens refl
