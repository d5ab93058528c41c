-- The parts of statements and declarations: what stands at the front of a token list is one part and one rest.
use Rattle.std.proofs.Common.{◌≡◌, ℕ, Bool, List, ◌∷◌, refl, sym, ◌∙◌, subst}
use Rattle.csl_tree.specs.declared.name.Name.{Name}
use Rattle.csl_tree.specs.declared.token.Token.{Token}
use Rattle.csl_tree.specs.declared.token.TokenKind.{TokenKind}
use Rattle.csl_tree.specs.declared.token.TokenKind.TheVariants as kind
use Rattle.csl_tree.specs.declared.token.Mark.{Mark}
use Rattle.csl_tree.specs.declared.token.Mark.TheVariants as mark
use Rattle.csl_tree.specs.declared.program.UnaryOp.{UnaryOp}
use Rattle.csl_tree.specs.declared.program.UnaryOp.TheVariants as unary_op
use Rattle.cal_terms.specs.declared.types.Ty.{Ty}
use Rattle.cal_terms.specs.declared.types.Ty.TheVariants as ty
use Rattle.csl_tree.specs.declared.program.Valued.{Valued}
use Rattle.csl_tree.specs.declared.program.Shared.{Shared}
use Rattle.csl_tree.specs.declared.program.Param.{Param}
use Rattle.csl_tree.specs.declared.program.Expr.{Expr}
use Rattle.csl_tree.specs.declared.program.Place.{Place}
use Rattle.csl_tree.specs.declared.program.Call.{Call}
use Rattle.csl_tree.specs.declared.program.Item.{Item}
use Rattle.csl_tree.specs.declared.program.Stmt.{Stmt}
use Rattle.csl_grammar.specs.Expressions.{SpellsExpr, chain, prefixed, number, truth, named, indexed as indexed_expr, called as called_expr, paren, prefix_mark, whole}
use Rattle.csl_grammar.specs.Stops.{BeginsOtherThan, Stops}
use Rattle.csl_grammar.specs.Programs.{IsMark, type_word, SpellsPlace, bare, indexed, SpellsCall, called, SpellsDecl, declare, SpellsChange, set, add_to, SpellsItem, text, value, MoreOf, no_more}
use Rattle.csl_grammar.specs.Programs.{more, ListOf, nothing, something, SpellsValue, plain, minus, SpellsInitial, unlisted, listed, SpellsShared, scalar, array, tally, SpellsParam, param}
use Rattle.csl_grammar.proofs.Unique.{unique, unique_arguments, stops_at, begins_clash}

-- ---- what no expression begins with

-- a mark that begins no expression
pub record BeginsNone (m : Mark) : Type 0 where
  pub no_prefix : (op : UnaryOp) → prefix_mark op ≡ m → ⊥
  pub no_paren : m ≡ mark.OpenParen → ⊥

pub no_expression : {level : ℕ} {ts rest behind : List Token} {t : Expr} {first : Token} {m : Mark} → SpellsExpr level ts rest t → ts ≡ first ∷ behind → first.kind ≡ kind.Mark m → BeginsNone m → ⊥
no_expression (chain d c) e k none = no_expression d e k none
no_expression (prefixed {op = op} s d) e k none = none.no_prefix op (cc)
no_expression (number s) e k none = cc
no_expression (truth s) e k none = cc
no_expression (named s) e k none = cc
no_expression (indexed_expr s o d c) e k none = cc
no_expression (called_expr s o d c) e k none = cc
no_expression (paren s d c) e k none = none.no_paren (cc)

pub semicolon_begins_none : BeginsNone mark.Semicolon
semicolon_begins_none = record { no_prefix = λ op e. at op e; no_paren = λ e. cc }
  where
    at : (op : UnaryOp) → prefix_mark op ≡ mark.Semicolon → ⊥
    at unary_op.Neg e = cc
    at unary_op.Not e = cc

pub closing_begins_none : BeginsNone mark.CloseParen
closing_begins_none = record { no_prefix = λ op e. at op e; no_paren = λ e. cc }
  where
    at : (op : UnaryOp) → prefix_mark op ≡ mark.CloseParen → ⊥
    at unary_op.Neg e = cc
    at unary_op.Not e = cc

-- no expression begins with a text
pub no_text : {level : ℕ} {ts rest behind : List Token} {t : Expr} {first : Token} {n : Name} → SpellsExpr level ts rest t → ts ≡ first ∷ behind → first.kind ≡ kind.Text n → ⊥
no_text (chain d c) e k = no_text d e k
no_text (prefixed {op = op} s d) e k = cc
no_text (number s) e k = cc
no_text (truth s) e k = cc
no_text (named s) e k = cc
no_text (indexed_expr s o d c) e k = cc
no_text (called_expr s o d c) e k = cc
no_text (paren s d c) e k = cc

-- ---- what may stand behind an expression

pub stops_semicolon : {first : Token} {ts : List Token} → IsMark first mark.Semicolon → Stops whole (first ∷ ts)
stops_semicolon k = stops_at k refl (λ h. cc) (λ h. cc)

pub stops_paren : {first : Token} {ts : List Token} → IsMark first mark.CloseParen → Stops whole (first ∷ ts)
stops_paren k = stops_at k refl (λ h. cc) (λ h. cc)

pub stops_bracket : {first : Token} {ts : List Token} → IsMark first mark.CloseBracket → Stops whole (first ∷ ts)
stops_bracket k = stops_at k refl (λ h. cc) (λ h. cc)

pub stops_comma : {first : Token} {ts : List Token} → IsMark first mark.Comma → Stops whole (first ∷ ts)
stops_comma k = stops_at k refl (λ h. cc) (λ h. cc)

pub type_word-same : (a b : Ty) → type_word a ≡ type_word b → a ≡ b
type_word-same ty.Int ty.Int e = refl
type_word-same ty.Int ty.Bool e = cc
type_word-same ty.Bool ty.Int e = cc
type_word-same ty.Bool ty.Bool e = refl

-- ---- places, calls, declarations of locals, changes

pub unique_place : {ts rest ts' rest' : List Token} {p p' : Place} → SpellsPlace ts rest p → SpellsPlace ts' rest' p' → ts ≡ ts' → BeginsOtherThan (kind.Mark mark.OpenBracket) rest
    → BeginsOtherThan (kind.Mark mark.OpenBracket) rest' → (rest ≡ rest') × (p ≡ p')
unique_place (bare n) (bare n') e s s' = ((cc), (cc))
unique_place (bare {rest = r} n) (indexed {opening = q} {tokens = w} n' o' d' c') e s s' = let same : r ≡ q ∷ w = cc in absurd (begins_clash _ s same o')
unique_place (indexed {opening = q} {tokens = w} n o d c) (bare {rest = r} n') e s s' = let same : r ≡ q ∷ w = cc in absurd (begins_clash _ s' same o)
unique_place (indexed n o d c) (indexed n' o' d' c') e s s' = let both : _ × _ = unique d d' (cc) (stops_bracket c) (stops_bracket c') in ((cc both.0), (cc both.1))

pub unique_call : {ts rest ts' rest' : List Token} {k k' : Call} → SpellsCall ts rest k → SpellsCall ts' rest' k' → ts ≡ ts' → (rest ≡ rest') × (k ≡ k')
unique_call (called n o d c) (called n' o' d' c') e = let both : _ × _ = unique_arguments d d' (cc) refl refl c c' in ((cc both.0), (cc both.1))

pub unique_decl : {ts rest ts' rest' : List Token} {s s' : Stmt} → SpellsDecl ts rest s → SpellsDecl ts' rest' s' → ts ≡ ts' → Stops whole rest → Stops whole rest' → (rest ≡ rest') × (s ≡ s')
unique_decl (declare {t = t} w n a d) (declare {t = t'} w' n' a' d') e s s' =
    let type : t ≡ t' = type_word-same t t' (cc) in
    let both : _ × _ = unique d d' (cc) s s' in
    (both.0, (cc (type, both.1)))

-- two places in front of a token that is no bracket
places_before : {ts m ts' m' : List Token} {eq eq' : Token} {p p' : Place} → SpellsPlace ts (eq ∷ m) p → SpellsPlace ts' (eq' ∷ m') p' → ts ≡ ts' → (eq.kind ≡ kind.Mark mark.OpenBracket → ⊥)
    → (eq'.kind ≡ kind.Mark mark.OpenBracket → ⊥) → ((eq ∷ m) ≡ (eq' ∷ m')) × (p ≡ p')
places_before d d' e other other' = unique_place d d' e other other'

pub unique_change : {ts rest ts' rest' : List Token} {s s' : Stmt} → SpellsChange ts rest s → SpellsChange ts' rest' s' → ts ≡ ts' → Stops whole rest → Stops whole rest' → (rest ≡ rest') × (s ≡ s')
unique_change (set p a d) (set p' a' d') e s s' =
    let places : _ × _ = places_before p p' e (λ h. cc) (λ h. cc) in
    let both : _ × _ = unique d d' (cc places.0) s s' in
    (both.0, (cc (e, places.1, both.1)))
unique_change (set p a d) (add_to p' a' d') e s s' = let places : _ × _ = places_before p p' e (λ h. cc) (λ h. cc) in absurd (cc places.0)
unique_change (add_to p a d) (set p' a' d') e s s' = let places : _ × _ = places_before p p' e (λ h. cc) (λ h. cc) in absurd (cc places.0)
unique_change (add_to p a d) (add_to p' a' d') e s s' =
    let places : _ × _ = places_before p p' e (λ h. cc) (λ h. cc) in
    let both : _ × _ = unique d d' (cc places.0) s s' in
    (both.0, (cc (e, places.1, both.1)))

-- ---- items of a print

pub unique_item : {ts rest ts' rest' : List Token} {i i' : Item} → SpellsItem ts rest i → SpellsItem ts' rest' i' → ts ≡ ts' → Stops whole rest → Stops whole rest' → (rest ≡ rest') × (i ≡ i')
unique_item (text k) (text k') e s s' = ((cc), (cc))
unique_item (text k) (value d') e s s' = absurd (no_text d' (sym e) k)
unique_item (value d) (text k') e s s' = absurd (no_text d e k')
unique_item (value d) (value d') e s s' = let both : _ × _ = unique d d' e s s' in (both.0, (cc both.1))

-- no item begins with a closing parenthesis
pub no_item : {ts rest behind : List Token} {i : Item} {closing : Token} → SpellsItem ts rest i → ts ≡ closing ∷ behind → IsMark closing mark.CloseParen → ⊥
no_item (text k) e c = cc
no_item (value d) e c = no_expression d e c closing_begins_none

-- ---- lists with commas between, up to a token with which nothing in them begins

module _ {T : Type 0} {spells : List Token → List Token → T → Type 0} (k : TokenKind) (stops : List Token → Type 0)
    (one : (ts rest ts' rest' : List Token) (x x' : T) → spells ts rest x → spells ts' rest' x' → ts ≡ ts' → stops rest → stops rest' → (rest ≡ rest') × (x ≡ x'))
    (never : (ts rest behind : List Token) (x : T) (first : Token) → spells ts rest x → ts ≡ first ∷ behind → first.kind ≡ k → ⊥)
    (other : k ≡ kind.Mark mark.Comma → ⊥)
    (at_end : (token : Token) (ts : List Token) → token.kind ≡ k → stops (token ∷ ts))
    (at_comma : (token : Token) (ts : List Token) → token.kind ≡ kind.Mark mark.Comma → stops (token ∷ ts)) where
  -- in front of more, or of the end, an element has stopped
  pub list_stops : {ts rest behind : List Token} {xs : List T} {last : Token} → MoreOf spells ts rest xs → rest ≡ last ∷ behind → last.kind ≡ k → stops ts
  list_stops {behind = behind} {last = last} no_more e l = subst stops (sym e) (at_end last behind l)
  list_stops (more {comma = comma} {tokens = tokens} c d m) e l = at_comma comma tokens c

  pub unique_more : {ts rest ts' rest' behind behind' : List Token} {xs xs' : List T} {last last' : Token} → MoreOf spells ts rest xs → MoreOf spells ts' rest' xs' → ts ≡ ts' → rest ≡ last ∷ behind
      → rest' ≡ last' ∷ behind' → last.kind ≡ k → last'.kind ≡ k → (rest ≡ rest') × (xs ≡ xs')
  unique_more no_more no_more e r r' l l' = (e, refl)
  unique_more no_more (more c d m) e r r' l l' = absurd (other (cc))
  unique_more (more c d m) no_more e r r' l l' = absurd (other (cc))
  unique_more (more c d m) (more c' d' m') e r r' l l' =
      let both : _ × _ = one _ _ _ _ _ _ d d' (cc) (list_stops m r l) (list_stops m' r' l') in
      let ends : _ × _ = unique_more m m' both.0 r r' l l' in
      (ends.0, (cc (both.1, ends.1)))

  pub unique_list : {ts rest ts' rest' behind behind' : List Token} {xs xs' : List T} {last last' : Token} → ListOf spells ts rest xs → ListOf spells ts' rest' xs' → ts ≡ ts' → rest ≡ last ∷ behind
      → rest' ≡ last' ∷ behind' → last.kind ≡ k → last'.kind ≡ k → (rest ≡ rest') × (xs ≡ xs')
  unique_list nothing nothing e r r' l l' = (e, refl)
  unique_list nothing (something d m) e r r' l l' = absurd (never _ _ _ _ _ d (sym e ∙ r) l)
  unique_list (something d m) nothing e r r' l l' = absurd (never _ _ _ _ _ d (e ∙ r') l')
  unique_list (something d m) (something d' m') e r r' l l' =
      let both : _ × _ = one _ _ _ _ _ _ d d' e (list_stops m r l) (list_stops m' r' l') in
      let ends : _ × _ = unique_more m m' both.0 r r' l l' in
      (ends.0, (cc (both.1, ends.1)))

-- what may be followed by anything
abbrev pub anywhere : List Token → Type 0
anywhere rest = Unit {0}

pub unique_items : {ts rest ts' rest' behind behind' : List Token} {xs xs' : List Item} {last last' : Token} → ListOf SpellsItem ts rest xs → ListOf SpellsItem ts' rest' xs' → ts ≡ ts'
    → rest ≡ last ∷ behind → rest' ≡ last' ∷ behind' → IsMark last mark.CloseParen → IsMark last' mark.CloseParen → (rest ≡ rest') × (xs ≡ xs')
unique_items d d' e r r' l l' = unique_list (kind.Mark mark.CloseParen) (Stops whole) (λ _ _ _ _ _ _ a b. unique_item a b) (λ _ _ _ _ _ a. no_item a) (λ h. cc) (λ _ _ h. stops_paren h)
    (λ _ _ h. stops_comma h) d d' e r r' l l'

-- ---- shared declarations

pub unique_value : {ts rest ts' rest' : List Token} {v v' : Valued} → SpellsValue ts rest v → SpellsValue ts' rest' v' → ts ≡ ts' → (rest ≡ rest') × (v ≡ v')
unique_value (plain k) (plain k') e = ((cc), (cc))
unique_value (plain k) (minus s' k') e = absurd (cc)
unique_value (minus s k) (plain k') e = absurd (cc)
unique_value (minus s k) (minus s' k') e = ((cc), (cc))

-- no value begins with a closing brace
pub no_value_closes : {ts rest behind : List Token} {v : Valued} {closing : Token} → SpellsValue ts rest v → ts ≡ closing ∷ behind → IsMark closing mark.CloseBrace → ⊥
no_value_closes (plain k) e c = cc
no_value_closes (minus s k) e c = cc

pub unique_values : {ts rest ts' rest' behind behind' : List Token} {xs xs' : List Valued} {last last' : Token} → ListOf SpellsValue ts rest xs → ListOf SpellsValue ts' rest' xs' → ts ≡ ts'
    → rest ≡ last ∷ behind → rest' ≡ last' ∷ behind' → IsMark last mark.CloseBrace → IsMark last' mark.CloseBrace → (rest ≡ rest') × (xs ≡ xs')
unique_values d d' e r r' l l' = unique_list (kind.Mark mark.CloseBrace) anywhere (λ _ _ _ _ _ _ a b f _ _. unique_value a b f) (λ _ _ _ _ _ a. no_value_closes a) (λ h. cc) (λ _ _ _. tt) (λ _ _ _. tt)
    d d' e r r' l l'

pub unique_initial : {ts rest ts' rest' behind behind' : List Token} {b b' : Bool} {vs vs' : List Valued} {last last' : Token} → SpellsInitial ts rest b vs → SpellsInitial ts' rest' b' vs' → ts ≡ ts'
    → rest ≡ last ∷ behind → rest' ≡ last' ∷ behind' → IsMark last mark.Semicolon → IsMark last' mark.Semicolon → (rest ≡ rest') × (b ≡ b') × (vs ≡ vs')
unique_initial unlisted unlisted e r r' l l' = (e, refl, refl)
unique_initial unlisted (listed a o d c) e r r' l l' = absurd (cc)
unique_initial (listed a o d c) unlisted e r r' l l' = absurd (cc)
unique_initial (listed a o d c) (listed a' o' d' c') e r r' l l' = let both : _ × _ = unique_values d d' (cc) refl refl c c' in ((cc both.0), refl, both.1)

pub unique_shared : {ts rest ts' rest' : List Token} {s s' : Shared} → SpellsShared ts rest s → SpellsShared ts' rest' s' → ts ≡ ts' → (rest ≡ rest') × (s ≡ s')
unique_shared (scalar w n l) (scalar w' n' l') e = ((cc), (cc))
unique_shared (scalar w n l) (array w' n' o' k' c' d' l') e = absurd (cc)
unique_shared (scalar w n l) (tally w' i' n' l') e = absurd (cc)
unique_shared (array w n o k c d l) (scalar w' n' l') e = absurd (cc)
unique_shared (array w n o k c d l) (array w' n' o' k' c' d' l') e = let all : _ × _ × _ = unique_initial d d' (cc) refl refl l l' in ((cc all.0), (cc (all.1, all.2)))
unique_shared (array w n o k c d l) (tally w' i' n' l') e = absurd (cc)
unique_shared (tally w i n l) (scalar w' n' l') e = absurd (cc)
unique_shared (tally w i n l) (array w' n' o' k' c' d' l') e = absurd (cc)
unique_shared (tally w i n l) (tally w' i' n' l') e = ((cc), (cc))

-- ---- parameters

pub unique_param : {ts rest ts' rest' : List Token} {p p' : Param} → SpellsParam ts rest p → SpellsParam ts' rest' p' → ts ≡ ts' → (rest ≡ rest') × (p ≡ p')
unique_param (param {t = t} w n) (param {t = t'} w' n') e = let type : t ≡ t' = type_word-same t t' (cc) in ((cc), (cc type))

-- no parameter begins with a closing parenthesis
pub no_param_closes : {ts rest behind : List Token} {p : Param} {closing : Token} → SpellsParam ts rest p → ts ≡ closing ∷ behind → IsMark closing mark.CloseParen → ⊥
no_param_closes (param {t = t} w n) e c = cc

pub unique_params : {ts rest ts' rest' behind behind' : List Token} {xs xs' : List Param} {last last' : Token} → ListOf SpellsParam ts rest xs → ListOf SpellsParam ts' rest' xs' → ts ≡ ts'
    → rest ≡ last ∷ behind → rest' ≡ last' ∷ behind' → IsMark last mark.CloseParen → IsMark last' mark.CloseParen → (rest ≡ rest') × (xs ≡ xs')
unique_params d d' e r r' l l' = unique_list (kind.Mark mark.CloseParen) anywhere (λ _ _ _ _ _ _ a b f _ _. unique_param a b f) (λ _ _ _ _ _ a. no_param_closes a) (λ h. cc) (λ _ _ _. tt) (λ _ _ _. tt)
    d d' e r r' l l'
