-- What an accepted program is to its code.
use Rattle.std.specs.Prelude.{◌≡◌, ℕ}
use Rattle.csl_tree.specs.declared.program.Program.{Program}
use Rattle.csl_grammar.specs.Texts.{IsSpelledWithin, text_limit}
use Rattle.csl_meaning.specs.Meaning.{meaning}
use Rattle.type_check.specs.Faults.{IsAccepted}
use Rattle.code_verify.specs.Rules.{IsVerified}
use Rattle.machine_meaning.specs.Meaning.{machine_meaning}
use Rattle.compiled_code.specs.Modules.{module_of}
use Rattle.compiled_code.specs.Shape.{HasShape}

-- a program that some text spells and that has no fault has the shape that its code asks for
abbrev pub AcceptedHasShape : Type 0
AcceptedHasShape = (p : Program) → IsSpelledWithin text_limit p → IsAccepted p → HasShape p

-- so, if its module keeps the rules, the module means what the program means, for each amount of fuel
abbrev pub AcceptedKeepsItsMeaning : Type 0
AcceptedKeepsItsMeaning = (p : Program) → IsSpelledWithin text_limit p → IsAccepted p → IsVerified (module_of p) → (fuel : ℕ)
    → machine_meaning (module_of p) fuel ≡ meaning p fuel

-- a program that some text spells and that has no fault: its module keeps the rules
abbrev pub AcceptedIsVerified : Type 0
AcceptedIsVerified = (p : Program) → IsSpelledWithin text_limit p → IsAccepted p → IsVerified (module_of p)

-- so the module means what the program means, for each amount of fuel
abbrev pub AcceptedMeansTheSame : Type 0
AcceptedMeansTheSame = (p : Program) → IsSpelledWithin text_limit p → IsAccepted p → (fuel : ℕ)
    → machine_meaning (module_of p) fuel ≡ meaning p fuel
