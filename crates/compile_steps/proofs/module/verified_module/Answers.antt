use Rattle.std.proofs.Common.{◌∙◌, ap, sym, subst}
use Rattle.csl_tree.specs.declared.program.Program.{Program}
use Rattle.csl_grammar.specs.Texts.{IsSpelledWithin, text_limit}
use Rattle.type_check.specs.Faults.{IsAccepted}
use Rattle.compiled_code.specs.Modules.{module_of}
use Rattle.compile_steps.proofs.ModuleLemmas.{module_verified, module_means, module_steps, module_routines}
use Rattle.compile_steps.proofs.module.verified_module.Goals as goal

pub unreachable-requires : goal.unreachable-requires
unreachable-requires c =
    let wanted = c.in-Err-Refused.ensures.only (module_verified c.program.result.now (subst (λ (q : Program). IsSpelledWithin text_limit q) (sym c.program.ensures.same) c.program.ensures.spelled)
    (subst (λ (q : Program). IsAccepted q) (sym c.program.ensures.same) c.program.ensures.accepted) c.in_ok-module.module c.in_ok-module.ensures) in
    let refused = c.in-Err-Refused.field-0-is in
    cc

pub returns-in-Ok-clause-module : goal.returns-in-Ok-clause-module
returns-in-Ok-clause-module c = c.in-Ok.ensures.kept ∙ c.in_ok-module.ensures ∙ ap module_of c.program.ensures.same

pub returns-in-Ok-clause-means : goal.returns-in-Ok-clause-means
returns-in-Ok-clause-means c =
    module_means c.args.p.now c.program.ensures.spelled c.program.ensures.accepted
    c.in-Ok.verified
    (c.in-Ok.ensures.kept ∙ c.in_ok-module.ensures ∙ ap module_of c.program.ensures.same)

pub returns-in-Ok-clause-steps : goal.returns-in-Ok-clause-steps
returns-in-Ok-clause-steps c =
    module_steps c.args.p.now c.program.ensures.spelled c.program.ensures.accepted
    c.in-Ok.verified
    (c.in-Ok.ensures.kept ∙ c.in_ok-module.ensures ∙ ap module_of c.program.ensures.same)

pub returns-in-Ok-clause-routines : goal.returns-in-Ok-clause-routines
returns-in-Ok-clause-routines c =
    module_routines c.args.p.now c.program.ensures.spelled c.program.ensures.accepted
    c.in-Ok.verified
    (c.in-Ok.ensures.kept ∙ c.in_ok-module.ensures ∙ ap module_of c.program.ensures.same)
