use Rattle.std.proofs.Common.{subst, sym, ⊎_elim}
use Rattle.std.specs.Prelude.{IsTrue, ◌↔◌}
use Rattle.bytecode.specs.declared.instr.Instr.{Instr}
use Rattle.code_verify.specs.Rules.{IsPlainArray}
use Rattle.code_verify.proofs.standing.is_plain_array.Goals as goal

pub returns-in-Item : goal.returns-in-Item
returns-in-Item c =
    let at = λ (x : Instr). IsTrue c.holds_no_tally.result ↔ IsPlainArray c.args.m.now x in
    ⊎_elim
    (λ is. subst at (sym is) c.holds_no_tally.ensures)
    (λ more. ⊎_elim (λ is. subst at (sym is) c.holds_no_tally.ensures) (λ is. subst at (sym is) c.holds_no_tally.ensures) more)
    c.in-Item.is
