-- A program and the end behind it.
use Rattle.std.proofs.Common.{◌≡◌, ℕ, List, [], ◌∷◌, ◌++◌, Err, refl, ap, sym, ◌∙◌, subst, append_assoc}
use Rattle.csl_tree.specs.declared.token.Token.{Token}
use Rattle.csl_tree.specs.declared.token.TokenKind.TheVariants as kind
use Rattle.csl_tree.specs.declared.program.Shared.{Shared}
use Rattle.csl_tree.specs.declared.program.Function.{Function}
use Rattle.csl_tree.specs.declared.program.Program.{Program}
use Rattle.expression_parser.specs.declared.ParseError.{ParseError}
use Rattle.expression_parser.specs.declared.ParseError.TheVariants as error
use Rattle.csl_grammar.specs.Stops.{IsEnded}
use Rattle.csl_grammar.specs.Programs.{SpellsProgram, program}
use Rattle.csl_grammar.specs.Spelling.{IsUnexpected}
use Rattle.csl_grammar.proofs.UniqueProgram.{unique_block}
use Rattle.expression_parser.specs.Reading.{Found, Refused, Fails, tok, ret, seq, stops_anywhere}
use Rattle.csl_parser.specs.Program.{program_of, MainRest, ProgramTokens, Tells}
use Rattle.expression_parser.proofs.Single.{some_token}
use Rattle.csl_parser.proofs.Functions.{all_shared_once, all_functions_once}

with_end : {ts rest : List Token} {p : Program} {end : Token} → ProgramTokens ts rest p → rest ≡ end ∷ [] → end.kind ≡ kind.End → SpellsProgram ts p
with_end {ts = ts} {end = end} (seq {middle = m1} (tok s) (seq {middle = m2} (tok o) (seq {part = xs} d (seq {part = fs} f (seq {part = body} b ret))))) e k =
    let at : List Shared → Type 0 = λ x. SpellsProgram ts (program_of x fs body) in
    let from : List Function → Type 0 = λ x. SpellsProgram ts (program_of d.1 x body) in
    subst at (sym d.4) (subst from (sym f.4) (program s o d.2 d.3 f.2 f.3 (rw e at b) k))

-- what a program is but for its end
pub record Unended (tokens : List Token) (p : Program) : Type 0 where
  pub end : Token
  pub last : end.kind ≡ kind.End
  pub before : ProgramTokens tokens (end ∷ []) p

unended : {ts : List Token} {p : Program} → SpellsProgram ts p → Unended ts p
unended (program {closing = closing} {main = main} {end = end} {shared = xs} {functions = fs} s o d c f m b k) = record {
  end = end;
  last = k;
  before = seq (tok s) (seq (tok o) (seq (closing, xs, d, c, refl) (seq (main, fs, f, m, refl) (seq b ret))));
}

main_once : {xs xs' : List Shared} {fs fs' : List Function} {ts ts' rest rest' : List Token} {p p' : Program} → MainRest xs fs ts rest p → MainRest xs' fs' ts' rest' p' → ts ≡ ts' → xs ≡ xs'
    → fs ≡ fs' → (rest ≡ rest') × (p ≡ p')
main_once (seq b ret) (seq b' ret) e shared functions = let body : _ × _ = unique_block b b' e in (body.0, (cc (shared, functions, body.1)))

-- tokens have one program at their front
tokens_once : {ts ts' rest rest' : List Token} {p p' : Program} → ProgramTokens ts rest p → ProgramTokens ts' rest' p' → ts ≡ ts' → (rest ≡ rest') × (p ≡ p')
tokens_once (seq (tok s) (seq (tok o) (seq d (seq f m)))) (seq (tok s') (seq (tok o') (seq d' (seq f' m')))) e =
    let shared : _ × _ = all_shared_once d d' (cc) in
    let functions : _ × _ = all_functions_once f f' shared.0 in
    main_once m m' functions.0 shared.1 functions.1

pub whole_found : (tokens rest : List Token) (p : Program) (end : Token) (left : List Token) → Found ProgramTokens stops_anywhere tokens rest p → rest ≡ end ∷ left → end.kind ≡ kind.End
    → SpellsProgram tokens p
whole_found tokens rest p end left found e k =
    let from : List Token → Type 0 = λ x. ProgramTokens x rest p in
    with_end (subst from (sym found.split) (found.spelled rest)) (e ∙ ap (λ x. end ∷ x) (alone end left (subst IsEnded e found.ended) k)) k
  where
    alone : (end : Token) (left : List Token) → IsEnded (end ∷ left) → end.kind ≡ kind.End → left ≡ []
    alone end [] ended k = refl
    alone end (x ∷ xs) ended k = absurd (ended.0 k)

-- the tokens before a place are an unfinished program, and with the token there they are none
module _ (tokens read left : List Token) (token : Token) (split : tokens ≡ read ++ token ∷ left) where
  pub unexpected : (at : ℕ) → token.at ≡ at → (finishing : List Token) (finished : Program) → ((others : List Token) → ProgramTokens (read ++ (finishing ++ others)) others finished)
      → ((others rest : List Token) (p : Program) → ProgramTokens (read ++ token ∷ others) rest p → (end : Token) → rest ≡ end ∷ [] → end.kind ≡ kind.End → ⊥) → IsUnexpected tokens at
  unexpected at stands finishing finished some never = record {
    before = read;
    token = token;
    after = left;
    split = split;
    stands = stands;
    so_far =
        let end : Token = some_token kind.End in
        (finishing ++ end ∷ [], finished, with_end (some (end ∷ [])) refl refl);
    no_more = λ goes_on.
        let more : List Token = goes_on.0 in
        let from : List Token → Type 0 = λ x. SpellsProgram x goes_on.1 in
        let u : Unended (read ++ token ∷ more) goes_on.1 = unended (subst from (append_assoc read (token ∷ []) more) goes_on.2) in
        never more (u.end ∷ []) goes_on.1 u.before u.end refl u.last;
  }

pub whole_refused : (tokens : List Token) (at : ℕ) → Refused ProgramTokens stops_anywhere tokens at → IsUnexpected tokens at
whole_refused tokens at r = unexpected tokens r.read r.left r.token r.split at r.stands r.ending r.finished r.some (λ others rest p d end e k. r.none others rest p d tt)

pub goes_on_behind : (tokens rest : List Token) (p : Program) (next : Token) (left : List Token) → Found ProgramTokens stops_anywhere tokens rest p → rest ≡ next ∷ left → (next.kind ≡ kind.End → ⊥)
    → IsUnexpected tokens next.at
goes_on_behind tokens rest p next left found e other =
    unexpected tokens found.read left next (found.split ∙ ap (λ x. found.read ++ x) e) next.at refl [] p found.spelled
    (λ others rest' p' d end e' k. other (cc ((tokens_once (found.spelled (next ∷ others)) d refl).0, e', k)))

pub whole_error : (tokens : List Token) (e : ParseError) → Fails ProgramTokens stops_anywhere tokens e → Tells tokens (Err e)
whole_error tokens error.NoMemory h = tt
whole_error tokens (error.TooDeep at) h = h
whole_error tokens (error.Unexpected at) h = whole_refused tokens at h
