use Rattle.std.proofs.Common.{ap, ◌∙◌}
use Rattle.bytecode.specs.Spelling.{spelling}
use Rattle.bytecode.specs.Reading.{module_of}
use Rattle.bytecode.proofs.Numbers.{some_same}
use Rattle.bytecode.proofs.Forms.{module_again}
use Rattle.bytecode.proofs.laws.one_module.Goals as goal

pub returns : goal.returns
returns c = λ m n fits_m fits_n e. some_same m n (module_of (spelling m)) (module_again m fits_m) (ap module_of e ∙ module_again n fits_n)
