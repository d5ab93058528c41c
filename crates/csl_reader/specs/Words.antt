-- The words that tell of a refusal.
use Rattle.std.specs.Prelude.{ℕ, List, codes}
use Rattle.type_check.specs.declared.fault.CheckKind.{CheckKind}
use Rattle.type_check.specs.declared.fault.CheckKind.TheVariants.{UnknownName, NameTaken, WrongUse, WrongType, WrongCount, NoReturn}
use Rattle.type_check.specs.declared.fault.CheckKind.TheVariants.{WrongReturn, NotInLoop, OnlyInMain, TallyUsed, Limit}
use Rattle.csl_reader.specs.declared.refusal.Refusal.{Refusal}
use Rattle.csl_reader.specs.declared.refusal.Refusal.TheVariants.{BadByte, LongName, LongNumber, OpenComment, OpenText, TooDeep, Unexpected}
use Rattle.csl_reader.specs.declared.refusal.Refusal.TheVariants.{Faulty}

-- the words for a fault of names, types, effects or limits
abbrev pub fault_words : CheckKind → List ℕ
fault_words UnknownName = codes "unknown name"
fault_words NameTaken = codes "name taken"
fault_words WrongUse = codes "wrong use of a name"
fault_words WrongType = codes "wrong type"
fault_words WrongCount = codes "wrong number of arguments"
fault_words NoReturn = codes "no return"
fault_words WrongReturn = codes "wrong return"
fault_words NotInLoop = codes "not in a loop"
fault_words OnlyInMain = codes "only in main"
fault_words TallyUsed = codes "tally used"
fault_words Limit = codes "limit"

-- the words for a refusal
abbrev pub words_of : Refusal → List ℕ
words_of BadByte = codes "bad byte"
words_of LongName = codes "name too long"
words_of LongNumber = codes "number too large"
words_of OpenComment = codes "open comment"
words_of OpenText = codes "open text"
words_of TooDeep = codes "too deep"
words_of Unexpected = codes "unexpected"
words_of (Faulty kind) = fault_words kind
