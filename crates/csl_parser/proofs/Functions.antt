-- The rules of functions and programs, each as one part and then another.
use Rattle.std.proofs.Common.{◌≡◌, List, [], ◌∷◌, refl, sym, ◌∙◌, subst}
use Rattle.csl_tree.specs.declared.name.Name.{Name}
use Rattle.csl_tree.specs.declared.token.Token.{Token}
use Rattle.csl_tree.specs.declared.token.TokenKind.{TokenKind}
use Rattle.csl_tree.specs.declared.token.TokenKind.TheVariants as kind
use Rattle.csl_tree.specs.declared.token.Keyword.TheVariants as word
use Rattle.csl_tree.specs.declared.token.Mark.TheVariants as mark
use Rattle.cal_terms.specs.declared.types.Ty.{Ty}
use Rattle.cal_terms.specs.declared.types.Ty.TheVariants as ty
use Rattle.cal_terms.specs.declared.types.Gives.{Gives}
use Rattle.cal_terms.specs.declared.types.Gives.TheVariants as gives
use Rattle.csl_tree.specs.declared.program.Param.{Param}
use Rattle.csl_tree.specs.declared.program.Shared.{Shared}
use Rattle.csl_tree.specs.declared.program.Function.{Function}
use Rattle.csl_tree.specs.declared.program.Stmt.{Stmt}
use Rattle.csl_grammar.specs.Programs.{type_word, result_word, SpellsShared, SpellsParam, param, SpellsFunction, function, SpellsBlock, braces, none}
use Rattle.csl_grammar.proofs.UniqueParts.{type_word-same, unique_shared, unique_param, unique_params}
use Rattle.csl_grammar.proofs.UniqueProgram.{result_word-same, unique_block, unique_function, unique_each, no_shared, no_function}
use Rattle.expression_parser.specs.Reading.{Refused, Tok, tok, NameTok, name_tok, Ret, ret, Then, seq, ListUntil, Until, Completes, Parting, Repeating, behind, stops_anywhere}
use Rattle.csl_parser.specs.Program.{param_of, function_of, program_of, ParamRest, ParamsRest, FunctionRest, MainRest, FunctionsRest}
use Rattle.expression_parser.proofs.Sequence.{Passes, passes_same, refused_here}
use Rattle.expression_parser.proofs.Single.{some_token}
use Rattle.expression_parser.proofs.Then.{Follows, completes_ret, completes_tok, completes_name, completes_then, completes_list, completes_until, tok_follows, name_follows, no_name}

abbrev round : TokenKind
round = kind.Mark mark.CloseParen

abbrev brace : TokenKind
brace = kind.Mark mark.CloseBrace

abbrev main : TokenKind
main = kind.Word word.Main

-- ---- one parameter

pub param_name : (t : Ty) → Follows NameTok stops_anywhere (λ name. Ret (param_of t name)) stops_anywhere
param_name t = name_follows stops_anywhere (λ name. completes_ret (param_of t name))

param_there : {first : Token} {t : Ty} {ts r : List Token} {p : Param} → first.kind ≡ kind.Word (type_word t) → ParamRest t ts r p → SpellsParam (first ∷ ts) r p
param_there w (seq (name_tok n) ret) = param w n

type_alike : {a b : Ty} → type_word a ≡ type_word b → a ≡ b
type_alike {a = a} {b = b} e = type_word-same a b e

param_back : {first : Token} {t : Ty} {ts r : List Token} {p : Param} → first.kind ≡ kind.Word (type_word t) → SpellsParam (first ∷ ts) r p → ParamRest t ts r p
param_back {t = t} {r = r} w (param {token = x} {t = t'} {name = name} w' n) =
    let same : t' ≡ t = type_alike (cc) in
    let at : Ty → Type 0 = λ u. ParamRest t (x ∷ r) r (param_of u name) in
    subst at (sym same) (seq (name_tok n) ret)

pub param_same : (first : Token) (t : Ty) (tokens : List Token) → first.kind ≡ kind.Word (type_word t) → Passes (ParamRest t) (behind first SpellsParam) stops_anywhere tokens tokens
param_same first t tokens w = passes_same (ParamRest t) (behind first SpellsParam) stops_anywhere tokens (record { there = λ ts r p d. param_there w d; back = λ ts r p d h. param_back w d })

no_param_here : {first : Token} {all ts r : List Token} {p : Param} → SpellsParam all r p → all ≡ first ∷ ts → ((t : Ty) → first.kind ≡ kind.Word (type_word t) → ⊥) → ⊥
no_param_here (param {t = t} w n) e never = never t (cc)

some_param : Completes SpellsParam
some_param = record {
  ending = some_token (kind.Word word.Int) ∷ some_token (kind.Named no_name) ∷ [];
  finished = param_of ty.Int no_name;
  some = λ others. param refl refl;
}

pub param_refused : (tokens : List Token) (first : Token) (rest : List Token) → tokens ≡ first ∷ rest → ((t : Ty) → first.kind ≡ kind.Word (type_word t) → ⊥)
    → Refused SpellsParam stops_anywhere tokens first.at
param_refused tokens first rest split never =
    let at : List Token → Type 0 = λ x. Refused SpellsParam stops_anywhere x first.at in
    subst at (sym split) (refused_here SpellsParam stops_anywhere first rest (λ others r p d h. no_param_here d refl never) some_param.ending some_param.finished some_param.some)

-- ---- the parameters of a function

pub params_parted : Parting round SpellsParam stops_anywhere
params_parted = record {
  unique = λ tokens middle middle' x x' d d' s s'. unique_param d d' refl;
  same_first = λ _ _ _ _. tt;
  at_end = λ _ _ _. tt;
  at_comma = λ _ _ _. tt;
  no_comma = λ h. cc;
  no_end = λ h. cc;
  sample = some_param;
}

-- ---- one function

some_block : Completes SpellsBlock
some_block = record {
  ending = some_token (kind.Mark mark.OpenBrace) ∷ some_token brace ∷ [];
  finished = [];
  some = λ others. braces refl none refl;
}

-- a block at the end of a rule
pub block_last : {T : Type 0} (f : List Stmt → T) → Follows SpellsBlock stops_anywhere (λ body. Ret (f body)) stops_anywhere
block_last f = record {
  unique = λ tokens middle middle' b b' d d' s s'. unique_block d d' refl;
  same_first = λ token xs ys s. tt;
  ahead = λ middle rest part tree d s. tt;
  completes = λ body. completes_ret (f body);
}

block_as : {T : Type 0} (f : List Stmt → T) → Completes (Then SpellsBlock (λ body. Ret (f body)))
block_as f = completes_then some_block (λ body. completes_ret (f body))

params_once : {tokens middle middle' : List Token} {ps ps' : List Param} → ListUntil round SpellsParam tokens middle ps → ListUntil round SpellsParam tokens middle' ps'
    → (middle ≡ middle') × (ps ≡ ps')
params_once d d' = let both : _ × _ = unique_params d.1 d'.1 refl refl refl d.2 d'.2 in ((cc both.0), both.1)

pub function_params : (g : Gives) (name : Name) → Follows (ListUntil round SpellsParam) stops_anywhere (λ params. Then SpellsBlock (λ body. Ret (function_of g name params body))) stops_anywhere
function_params g name = record {
  unique = λ tokens middle middle' ps ps' d d' s s'. params_once d d';
  same_first = λ token xs ys s. tt;
  ahead = λ middle rest part tree d s. tt;
  completes = λ params. block_as (function_of g name params);
}

params_rest : (g : Gives) (name : Name) → Completes (ParamsRest g name)
params_rest g name = completes_then (completes_list round SpellsParam stops_anywhere) (λ params. block_as (function_of g name params))

pub function_opening : (g : Gives) (name : Name) → Follows (Tok (kind.Mark mark.OpenParen)) stops_anywhere (λ opening. ParamsRest g name) stops_anywhere
function_opening g name = tok_follows (kind.Mark mark.OpenParen) stops_anywhere (λ opening. params_rest g name)

pub function_name : (g : Gives) → Follows NameTok stops_anywhere (λ name. Then (Tok (kind.Mark mark.OpenParen)) (λ opening. ParamsRest g name)) stops_anywhere
function_name g = name_follows stops_anywhere (λ name. completes_then (completes_tok (kind.Mark mark.OpenParen)) (λ opening. params_rest g name))

function_there : {first : Token} {g : Gives} {ts r : List Token} {f : Function} → first.kind ≡ kind.Word (result_word g) → FunctionRest g ts r f → SpellsFunction (first ∷ ts) r f
function_there w (seq (name_tok n) (seq (tok o) (seq (closing, d, c) (seq b ret)))) = function w n o d c b

gives_alike : {a b : Gives} → result_word a ≡ result_word b → a ≡ b
gives_alike {a = a} {b = b} e = result_word-same a b e

function_back : {first : Token} {g : Gives} {ts r : List Token} {f : Function} → first.kind ≡ kind.Word (result_word g) → SpellsFunction (first ∷ ts) r f → FunctionRest g ts r f
function_back {g = g} {r = r} w (function {token = x} {opening = y} {closing = z} {tokens = ts} {g = g'} {name = name} {ps = ps} {body = body} w' n o d c b) =
    let same : g' ≡ g = gives_alike (cc) in
    let at : Gives → Type 0 = λ u. FunctionRest g (x ∷ y ∷ ts) r (function_of u name ps body) in
    subst at (sym same) (seq (name_tok n) (seq (tok o) (seq (z, d, c) (seq b ret))))

pub function_same : (first : Token) (g : Gives) (tokens : List Token) → first.kind ≡ kind.Word (result_word g) → Passes (FunctionRest g) (behind first SpellsFunction) stops_anywhere tokens tokens
function_same first g tokens w = passes_same (FunctionRest g) (behind first SpellsFunction) stops_anywhere tokens
    (record { there = λ ts r f d. function_there w d; back = λ ts r f d h. function_back w d })

no_function_here : {first : Token} {all ts r : List Token} {f : Function} → SpellsFunction all r f → all ≡ first ∷ ts → ((g : Gives) → first.kind ≡ kind.Word (result_word g) → ⊥) → ⊥
no_function_here (function {g = g} w n o d c b) e never = never g (cc)

pub function_refused : (tokens : List Token) (first : Token) (rest : List Token) → tokens ≡ first ∷ rest → ((g : Gives) → first.kind ≡ kind.Word (result_word g) → ⊥)
    → Refused SpellsFunction stops_anywhere tokens first.at
function_refused tokens first rest split never =
    let some : Completes (FunctionRest gives.Nothing) = completes_then completes_name (λ name. completes_then (completes_tok (kind.Mark mark.OpenParen)) (λ opening. params_rest gives.Nothing name)) in
    let void : Token = some_token (kind.Word word.Void) in
    let at : List Token → Type 0 = λ x. Refused SpellsFunction stops_anywhere x first.at in
    subst at (sym split) (refused_here SpellsFunction stops_anywhere first rest (λ others r f d h. no_function_here d refl never) (void ∷ some.ending) some.finished
    (λ others. function_there refl (some.some others)))

-- ---- shared declarations up to the brace, functions up to `main`

pub shared_repeated : Repeating brace SpellsShared stops_anywhere
shared_repeated = record {
  unique = λ tokens middle middle' x x' d d' s s'. unique_shared d d' refl;
  same_first = λ _ _ _ _. tt;
  before = λ _ _ _ _ _ _. tt;
  no_end = λ h. cc;
}

pub functions_repeated : Repeating main SpellsFunction stops_anywhere
functions_repeated = record {
  unique = λ tokens middle middle' x x' d d' s s'. unique_function d d' refl;
  same_first = λ _ _ _ _. tt;
  before = λ _ _ _ _ _ _. tt;
  no_end = λ h. cc;
}

-- ---- a program but for its end

pub all_shared_once : {ts ts' middle middle' : List Token} {xs xs' : List Shared} → Until brace SpellsShared [] ts middle xs → Until brace SpellsShared [] ts' middle' xs' → ts ≡ ts'
    → (middle ≡ middle') × (xs ≡ xs')
all_shared_once d d' e =
    let both : _ × _ = unique_each brace (λ _ _ _ _ _ _ a b. unique_shared a b) (λ _ _ _ _ _ a. no_shared a) d.2 d'.2 e refl refl d.3 d'.3 in
    ((cc both.0), d.4 ∙ both.1 ∙ sym d'.4)

pub all_functions_once : {ts ts' middle middle' : List Token} {xs xs' : List Function} → Until main SpellsFunction [] ts middle xs → Until main SpellsFunction [] ts' middle' xs' → ts ≡ ts'
    → (middle ≡ middle') × (xs ≡ xs')
all_functions_once d d' e =
    let both : _ × _ = unique_each main (λ _ _ _ _ _ _ a b. unique_function a b) (λ _ _ _ _ _ a. no_function a) d.2 d'.2 e refl refl d.3 d'.3 in
    ((cc both.0), d.4 ∙ both.1 ∙ sym d'.4)

pub main_block : (shared : List Shared) (functions : List Function) → Follows SpellsBlock stops_anywhere (λ body. Ret (program_of shared functions body)) stops_anywhere
main_block shared functions = block_last (program_of shared functions)

pub functions_main : (shared : List Shared) → Follows (Until main SpellsFunction []) stops_anywhere (MainRest shared) stops_anywhere
functions_main shared = record {
  unique = λ tokens middle middle' fs fs' d d' s s'. all_functions_once d d' refl;
  same_first = λ token xs ys s. tt;
  ahead = λ middle rest part tree d s. tt;
  completes = λ functions. block_as (program_of shared functions);
}

functions_rest : (shared : List Shared) → Completes (FunctionsRest shared)
functions_rest shared = completes_then (completes_until main SpellsFunction stops_anywhere []) (λ functions. block_as (program_of shared functions))

pub shared_functions : Follows (Until brace SpellsShared []) stops_anywhere FunctionsRest stops_anywhere
shared_functions = record {
  unique = λ tokens middle middle' xs xs' d d' s s'. all_shared_once d d' refl;
  same_first = λ token xs ys s. tt;
  ahead = λ middle rest part tree d s. tt;
  completes = functions_rest;
}

shared_rest : Completes (Then (Until brace SpellsShared []) FunctionsRest)
shared_rest = completes_then (completes_until brace SpellsShared stops_anywhere []) functions_rest

pub program_opening : Follows (Tok (kind.Mark mark.OpenBrace)) stops_anywhere (λ opening. Then (Until brace SpellsShared []) FunctionsRest) stops_anywhere
program_opening = tok_follows (kind.Mark mark.OpenBrace) stops_anywhere (λ opening. shared_rest)

pub program_first : Follows (Tok (kind.Word word.Shared)) stops_anywhere (λ first. Then (Tok (kind.Mark mark.OpenBrace)) (λ opening. Then (Until brace SpellsShared []) FunctionsRest)) stops_anywhere
program_first = tok_follows (kind.Word word.Shared) stops_anywhere (λ first. completes_then (completes_tok (kind.Mark mark.OpenBrace)) (λ opening. shared_rest))
