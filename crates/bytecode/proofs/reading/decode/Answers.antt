use Rattle.std.proofs.Common.{ap, subst, ◌∙◌, arith, Option}
use Rattle.bytecode.specs.declared.module.Module.{Module}
use Rattle.bytecode.specs.Reading.{Reads, module_of}
use Rattle.bytecode.proofs.Forms.{is_found, is_only, module_again}
use Rattle.bytecode.proofs.reading.decode.Goals as goal

pub returns-clause-spelled : goal.returns-clause-spelled
returns-clause-spelled c = is_found c.args.bytes.now c.module.result (λ i. omega (arith, c.type_inv.bytes i)) c.module.ensures

pub returns-clause-only : goal.returns-clause-only
returns-clause-only c = λ m fits e. is_only m c.module.result (subst (λ (o : Option Module). Reads (λ x. x) c.module.result o) (ap module_of e ∙ module_again m fits) c.module.ensures)
