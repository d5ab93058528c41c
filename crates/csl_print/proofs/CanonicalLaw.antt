-- The canonical text of a program spells it, positions aside.
use Rattle.std.proofs.Common.{◌≡◌, ℕ, List, [], ◌∷◌, ◌++◌, Result, sym, subst, arith}
use Rattle.std.specs.Prelude.{IfOk}
use Rattle.std.proofs.lemmas.Result.{IfOk-weaker}
use Rattle.csl_tree.specs.declared.token.Token.{Token}
use Rattle.csl_tree.specs.declared.token.TokenKind.{TokenKind}
use Rattle.csl_tree.specs.declared.token.TokenKind.TheVariants as kind
use Rattle.csl_tree.specs.declared.program.Program.{Program}
use Rattle.csl_lexer.proofs.Shape.{places_ascend}
use Rattle.csl_grammar.specs.Levels.{outermost, IsFlat}
use Rattle.csl_grammar.specs.Programs.{SpellsProgram}
use Rattle.csl_grammar.specs.Texts.{Spells, IsSpelled}
use Rattle.csl_print.specs.TreeTokens.{tokens_of}
use Rattle.csl_print.specs.Canonical.{laid, canonical}
use Rattle.csl_print.specs.Aside.{SpellsAside, CanonicalSpells}
use Rattle.csl_print.proofs.NormalProgram.{NormalProgram, normal_program}
use Rattle.csl_print.proofs.Moves.{all_moved}
use Rattle.csl_print.proofs.MovesProgram.{MovedProgram, move_program}
use Rattle.csl_print.proofs.Reduces.{AllGood, all_whole, reduced_good, reduced_ended, reduced_ascends, reduced_flat, flat_moved}
use Rattle.csl_print.proofs.Goods.{list_good, list_ended, all_fit}
use Rattle.csl_print.proofs.Written.{ArePlaced, Found, finds_laid}
use Rattle.csl_print.proofs.Pairs.{place_of, moved_all}

spells_from : (text : List ℕ) (p : Program) → Spells text p → SpellsAside (canonical p) p
unfolding canonical
spells_from text p s =
    let good : AllGood s.tokens = list_good text s.tokens s.read in
    let n : NormalProgram s.tokens p = normal_program s.tokens p s.spelled (all_whole s.tokens good) in
    let good' : AllGood n.tokens = reduced_good n.reduced good in
    let found : Found 0 (laid [] (tokens_of p)) (tokens_of p ++ kind.End ∷ []) =
    finds_laid [] (tokens_of p) (all_fit (tokens_of p) n.tokens n.are good' (reduced_ended n.reduced (list_ended text s.tokens s.read))) 0 in
    let f : ℕ → ℕ = place_of n.tokens found.tokens in
    let by_kinds : List TokenKind → Type 0 = λ x. ArePlaced x found.tokens in
    let same : all_moved f n.tokens ≡ found.tokens = moved_all n.tokens found.tokens (subst by_kinds (sym n.are) found.placed) good'
    (reduced_ascends n.reduced 0 (places_ascend text s.tokens s.read)) in
    let m : MovedProgram f n.tokens p = move_program f n.spelled in
    let flat : IsFlat (all_moved f n.tokens) = flat_moved f n.tokens outermost (reduced_flat n.reduced outermost outermost (record { level = omega arith; opened = tt }) s.flat) in
    let spelling : List Token → Type 0 = λ x. SpellsProgram x m.tree in
    record {
      spelled = m.tree;
      spells = record { tokens = found.tokens; read = found.reads; flat = subst IsFlat same flat; spelled = subst spelling same m.spelled };
      same = m.same;
    }

pub canonical_spells : CanonicalSpells
canonical_spells p h = spells_from h.0 p h.2

-- so does a text that is the canonical one, if there is a text
pub spelled_result : {X E : Type 0} (bytes : X → List ℕ) (r : Result X E) (p : Program) → IsSpelled p → IfOk r (λ x. bytes x ≡ canonical p) → IfOk r (λ x. SpellsAside (bytes x) p)
spelled_result bytes r p h is =
    let P : List ℕ → Type 0 = λ x. SpellsAside x p in
    IfOk-weaker r (λ x. bytes x ≡ canonical p) (λ x. SpellsAside (bytes x) p) (λ x e. subst P (sym e) (canonical_spells p h)) is
