-- Laws over the rules.
use Rattle.bytecode.specs.declared.module.Code.{Code}
use Rattle.bytecode.specs.declared.module.Module.{Module}
use Rattle.code_verify.specs.Rules.{HasOneTable}

-- in a code whose jumps go on and whose loops go back, each place has at most one list of kinds
abbrev pub OneTablePerCode : Type 0
OneTablePerCode = (m : Module) (c : Code) → HasOneTable m c
