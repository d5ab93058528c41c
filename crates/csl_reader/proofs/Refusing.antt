-- Refusals of the parts are refusals of the text.
use Rattle.std.proofs.Common.{◌≡◌, ◌≢◌, ◌≤◌, ◌<◌, ℕ, suc, List, [], ◌∷◌, length, get_or, Result, Ok, Err, IfOk, IfErr, Option, Some, None, refl, sym, ap, ◌∙◌, subst}
use Rattle.csl_tree.specs.declared.token.Token.{Token}
use Rattle.csl_tree.specs.declared.program.Program.{Program}
use Rattle.csl_lexer.specs.declared.LexError.{LexError}
use Rattle.csl_lexer.specs.declared.LexError.TheVariants as lexer
use Rattle.csl_lexer.specs.Tokens.{IsTokenList, IsFirstFault}
use Rattle.csl_grammar.specs.Levels.{IsFlat, IsTooDeep}
use Rattle.csl_grammar.specs.Programs.{SpellsProgram}
use Rattle.csl_grammar.specs.Spelling.{IsUnexpected}
use Rattle.csl_grammar.specs.Texts.{Spells, AreBytes, IsSpelledWithin, text_limit}
use Rattle.expression_parser.specs.declared.ParseError.{ParseError}
use Rattle.expression_parser.specs.declared.ParseError.TheVariants as parser
use Rattle.type_check.specs.declared.checked.CheckError.{CheckError}
use Rattle.type_check.specs.declared.checked.CheckError.TheVariants as checker
use Rattle.type_check.specs.Refusal.{IsRefusal}
use Rattle.type_check.specs.Listed.{first}
use Rattle.type_check.specs.Faults.{first_fault, IsAccepted}
use Rattle.csl_reader.specs.declared.refusal.ReadError.{ReadError}
use Rattle.csl_reader.specs.declared.refusal.ReadError.TheVariants.{Refused, NoMemory}
use Rattle.csl_reader.specs.Readings.{Reading, accepted, refused, judged, AreRead, too_deep, unexpected, spelled, IsRead, by_fault, by_tokens}
use Rattle.csl_reader.specs.Errors.{of_lexer, of_parser, of_check, IsRefused, AreRefused, IsFaulty}

pub lexer_refuses : (text : List ℕ) (e : LexError) → (e ≢ lexer.NoMemory → IsFirstFault text e) → IsRefused text (of_lexer e)
lexer_refuses text (lexer.BadByte at) h = by_fault (lexer.BadByte at) (h (λ e. cc)) refl
lexer_refuses text (lexer.LongName at) h = by_fault (lexer.LongName at) (h (λ e. cc)) refl
lexer_refuses text (lexer.LongNumber at) h = by_fault (lexer.LongNumber at) (h (λ e. cc)) refl
lexer_refuses text (lexer.OpenComment at) h = by_fault (lexer.OpenComment at) (h (λ e. cc)) refl
lexer_refuses text (lexer.OpenText at) h = by_fault (lexer.OpenText at) (h (λ e. cc)) refl
lexer_refuses text lexer.NoMemory h = tt

pub parser_refuses : (tokens : List Token) (result : Result Program ParseError) (e : ParseError) → result ≡ Err e
    → ((at : ℕ) → result ≡ Err (parser.TooDeep at) → IsTooDeep tokens at)
    → ((at : ℕ) → result ≡ Err (parser.Unexpected at) → IsFlat tokens × IsUnexpected tokens at) → AreRefused tokens (of_parser e)
parser_refuses tokens result (parser.TooDeep at) is deep not = too_deep at (deep at is)
parser_refuses tokens result (parser.Unexpected at) is deep not = unexpected at (not at is).0 (not at is).1
parser_refuses tokens result parser.NoMemory is deep not = tt

pub check_refuses : (p : Program) (e : CheckError) → IsRefusal p e → IsFaulty p (of_check e)
check_refuses p (checker.Refused at kind) h = ap (judged p) h
check_refuses p checker.NoMemory h = tt

-- the entries of a list are bytes if those at each place are
pub all_bytes : (text : List ℕ) → ((i : ℕ) → get_or text i 0 < 256) → AreBytes text
all_bytes [] h = tt
all_bytes (b ∷ text) h = (h 0, all_bytes text (λ i. h (suc i)))

-- the program that tokens of a short text of bytes spell is spelled by it
pub spelled_within : (text : List ℕ) (tokens : List Token) (p : Program) → length text ≤ text_limit → AreBytes text → IsTokenList text tokens → IsFlat tokens × SpellsProgram tokens p
    → IsSpelledWithin text_limit p
spelled_within text tokens p short bytes is h = (text, short, bytes, record { tokens = tokens; read = is; flat = h.0; spelled = h.1 })

pub tokens_refused : (text : List ℕ) (tokens : List Token) (e : ReadError) → IsTokenList text tokens → AreRefused tokens e → IsRefused text e
tokens_refused text tokens (Refused at why) is h = by_tokens tokens is h
tokens_refused text tokens NoMemory is h = tt

pub program_refused : (text : List ℕ) (tokens : List Token) (p : Program) (e : ReadError) → IsTokenList text tokens → IsFlat tokens × SpellsProgram tokens p → IsFaulty p e → IsRefused text e
program_refused text tokens p (Refused at why) is h faulty = by_tokens tokens is (subst (AreRead tokens) faulty (spelled p h.0 h.1))
program_refused text tokens p NoMemory is h faulty = tt

pub program_accepted : (text : List ℕ) (tokens : List Token) (p q : Program) → IsTokenList text tokens → IsFlat tokens × SpellsProgram tokens p → (q ≡ p) × IsAccepted p → IsRead text (accepted q)
program_accepted text tokens p q is h a =
    subst (λ x. IsRead text (accepted x)) (sym a.0) (by_tokens tokens is (subst (AreRead tokens) (ap (judged p) (ap first a.1)) (spelled p h.0 h.1)))

pub on_ok : {T E : Type 0} {P Q : T → Type 0} (r : Result T E) → ((v : T) → P v → Q v) → IfOk r P → IfOk r Q
on_ok (Ok v) f h = f v h
on_ok (Err e) f h = tt

pub on_err : {T E : Type 0} {P Q : E → Type 0} (r : Result T E) → ((e : E) → P e → Q e) → IfErr r P → IfErr r Q
on_err (Ok v) f h = tt
on_err (Err e) f h = f e h
