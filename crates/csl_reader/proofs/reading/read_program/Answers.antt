use Rattle.std.proofs.Common.{◌≡◌, List, sym, subst, arith}
use Rattle.csl_tree.specs.declared.token.Token.{Token}
use Rattle.csl_grammar.specs.Levels.{IsFlat}
use Rattle.csl_grammar.specs.Programs.{SpellsProgram}
use Rattle.csl_reader.specs.Errors.{AreRefused}
use Rattle.csl_reader.proofs.Refusing.{all_bytes, spelled_within, tokens_refused, program_refused, program_accepted, on_ok, on_err}
use Rattle.csl_reader.proofs.reading.read_program.Goals as goal

pub accepted-requires : goal.accepted-requires
accepted-requires c =
    spelled_within c.args.text.now c.in_ok-tokens.tokens.items c.in-Ok.program c.requires (all_bytes c.args.text.now (λ i. omega (arith, c.type_inv.text i))) c.in_ok-tokens.ensures.tokens
    (subst (λ (ts : List Token). IsFlat ts × SpellsProgram ts c.in-Ok.program) c.as_slice.ensures.value c.in-Ok.ensures.spelled)

pub returns-in-Ok-clause-accepted : goal.returns-in-Ok-clause-accepted
returns-in-Ok-clause-accepted c =
    on_ok c.accepted.result
    (λ program both. program_accepted c.args.text.now c.in_ok-tokens.tokens.items c.in-Ok.program program c.in_ok-tokens.ensures.tokens
    (subst (λ (ts : List Token). IsFlat ts × SpellsProgram ts c.in-Ok.program) c.as_slice.ensures.value c.in-Ok.ensures.spelled) both)
    c.accepted.ensures.accepted

pub returns-in-Ok-clause-refused : goal.returns-in-Ok-clause-refused
returns-in-Ok-clause-refused c =
    on_err c.accepted.result
    (λ error faulty. program_refused c.args.text.now c.in_ok-tokens.tokens.items c.in-Ok.program error c.in_ok-tokens.ensures.tokens
    (subst (λ (ts : List Token). IsFlat ts × SpellsProgram ts c.in-Ok.program) c.as_slice.ensures.value c.in-Ok.ensures.spelled) faulty)
    c.accepted.ensures.refused

pub returns-clause-refused : goal.returns-clause-refused
returns-clause-refused c =
    tokens_refused c.args.text.now c.in_ok-tokens.tokens.items c.in-Err.refused c.in_ok-tokens.ensures.tokens
    (subst (λ ts. AreRefused ts c.in-Err.refused) c.as_slice.ensures.value c.in-Err.ensures.refused)
