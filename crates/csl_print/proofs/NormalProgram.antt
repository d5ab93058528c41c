-- A program's tokens are those of its tree, but for minus signs before 0.
use Rattle.std.proofs.Common.{◌≡◌, zero, suc, ℤ, pos, negsuc, List, [], ◌∷◌, ◌++◌, Bool, refl, ap, ◌∙◌, subst}
use Rattle.csl_tree.specs.declared.token.Token.{Token}
use Rattle.csl_tree.specs.declared.token.TokenKind.{TokenKind}
use Rattle.csl_tree.specs.declared.token.TokenKind.TheVariants as kind
use Rattle.csl_tree.specs.declared.token.Mark.TheVariants.{Comma}
use Rattle.csl_tree.specs.declared.program.Valued.{Valued}
use Rattle.csl_tree.specs.declared.program.Shared.{Shared}
use Rattle.csl_tree.specs.declared.program.Param.{Param}
use Rattle.csl_tree.specs.declared.program.Function.{Function}
use Rattle.csl_tree.specs.declared.program.Program.{Program}
use Rattle.csl_grammar.specs.Programs.{MoreOf, no_more, more, ListOf, nothing, something, Each, stop, again, SpellsValue, plain, minus, SpellsInitial, unlisted, listed, SpellsShared, scalar, array}
use Rattle.csl_grammar.specs.Programs.{tally, SpellsParam, param, SpellsFunction, function, SpellsProgram, program}
use Rattle.csl_print.specs.TreeTokens.{mark, number, each, further, separated, signed_tokens, value_tokens, initial_tokens, shared_tokens, param_tokens, function_tokens, tokens_of}
use Rattle.csl_print.proofs.Leads.{kinds, Leads, leads_none, leads_one, leads_then, leads_as, Reduced, none, keeps, drops, Normal}
use Rattle.csl_print.proofs.NormalStmt.{normal_each, normal_list, normal_block}

-- ---- numbers that the reader of tokens gives are not negative

abbrev pub IsWholeNumber : ℤ → Type 0
IsWholeNumber (pos n) = Unit {0}
IsWholeNumber (negsuc n) = ⊥

abbrev pub IsWhole : TokenKind → Type 0
IsWhole (kind.Number z) = IsWholeNumber z
IsWhole (kind.Word w) = Unit {0}
IsWhole (kind.Named name) = Unit {0}
IsWhole (kind.Text text) = Unit {0}
IsWhole (kind.Mark m) = Unit {0}
IsWhole kind.End = Unit {0}

-- no number among the tokens is negative
abbrev pub AreWhole : List Token → Type 0
AreWhole [] = Unit {0}
AreWhole (t ∷ ts) = IsWhole t.kind × AreWhole ts

whole_signed : (z : ℤ) → IsWholeNumber z → number z ≡ signed_tokens z
whole_signed (pos n) h = refl
whole_signed (negsuc n) h = absurd h

-- ---- initial values

normal_value : {ts rest : List Token} {v : Valued} → SpellsValue ts rest v → AreWhole ts → (rest' : List Token) → Reduced rest rest' → Normal SpellsValue ts rest' v (value_tokens v)
normal_value (plain {token = token} {n = n} k) whole rest' r =
    let P : TokenKind → Type 0 = λ x. IsWhole x in
    record { tokens = token ∷ rest'; reduced = keeps token r; spelled = plain k; leads = leads_as (whole_signed n (subst P k whole.0)) (leads_one k) }
normal_value (minus {sign = sign} {token = token} {n = zero} m k) whole rest' r =
    record { tokens = record { at = sign.at; kind = token.kind } ∷ rest'; reduced = drops sign token m k r; spelled = plain k; leads = leads_one k }
normal_value (minus {sign = sign} {token = token} {n = suc n} m k) whole rest' r =
    record { tokens = sign ∷ token ∷ rest'; reduced = keeps sign (keeps token r); spelled = minus m k; leads = leads_then (leads_one m) (leads_one k) }

value_whole : {ts rest : List Token} {v : Valued} → SpellsValue ts rest v → AreWhole ts → AreWhole rest
value_whole (plain k) whole = whole.1
value_whole (minus m k) whole = whole.1.1

normal_more_values : {ts rest : List Token} {vs : List Valued} → MoreOf SpellsValue ts rest vs → AreWhole ts → (rest' : List Token) → Reduced rest rest'
    → Normal (MoreOf SpellsValue) ts rest' vs (further (mark Comma) value_tokens vs)
normal_more_values no_more whole rest' r = record { tokens = rest'; reduced = r; spelled = no_more; leads = leads_none rest' }
normal_more_values (more {comma = comma} k d m) whole rest' r =
    let others : Normal _ _ rest' _ _ = normal_more_values m (value_whole d whole.1) rest' r in
    let n : Normal _ _ others.tokens _ _ = normal_value d whole.1 others.tokens others.reduced in
    record { tokens = comma ∷ n.tokens; reduced = keeps comma n.reduced; spelled = more k n.spelled others.spelled; leads = leads_then (leads_then (leads_one k) n.leads) others.leads }

normal_values : {ts rest : List Token} {vs : List Valued} → ListOf SpellsValue ts rest vs → AreWhole ts → (rest' : List Token) → Reduced rest rest'
    → Normal (ListOf SpellsValue) ts rest' vs (separated value_tokens vs)
normal_values nothing whole rest' r = record { tokens = rest'; reduced = r; spelled = nothing; leads = leads_none rest' }
normal_values (something d m) whole rest' r =
    let others : Normal _ _ rest' _ _ = normal_more_values m (value_whole d whole) rest' r in
    let n : Normal _ _ others.tokens _ _ = normal_value d whole others.tokens others.reduced in
    record { tokens = n.tokens; reduced = n.reduced; spelled = something n.spelled others.spelled; leads = leads_then n.leads others.leads }

more_values_whole : {ts rest : List Token} {vs : List Valued} → MoreOf SpellsValue ts rest vs → AreWhole ts → AreWhole rest
more_values_whole no_more whole = whole
more_values_whole (more k d m) whole = more_values_whole m (value_whole d whole.1)

values_whole : {ts rest : List Token} {vs : List Valued} → ListOf SpellsValue ts rest vs → AreWhole ts → AreWhole rest
values_whole nothing whole = whole
values_whole (something d m) whole = more_values_whole m (value_whole d whole)

record NormalInitial (ts rest : List Token) (stated : Bool) (vs : List Valued) : Type 0 where
  tokens : List Token
  reduced : Reduced ts tokens
  spelled : SpellsInitial tokens rest stated vs
  leads : Leads tokens rest (initial_tokens stated vs)

normal_initial : {ts rest : List Token} {stated : Bool} {vs : List Valued} → SpellsInitial ts rest stated vs → AreWhole ts → (rest' : List Token) → Reduced rest rest'
    → NormalInitial ts rest' stated vs
normal_initial unlisted whole rest' r = record { tokens = rest'; reduced = r; spelled = unlisted; leads = leads_none rest' }
normal_initial (listed {equals = equals} {opening = opening} {closing = closing} a o d c) whole rest' r =
    let n : Normal _ _ (closing ∷ rest') _ _ = normal_values d whole.1.1 (closing ∷ rest') (keeps closing r) in
    record { tokens = equals ∷ opening ∷ n.tokens; reduced = keeps equals (keeps opening n.reduced); spelled = listed a o n.spelled c; leads = leads_then (leads_one a) (leads_then (leads_then (leads_one o) n.leads) (leads_one c)) }

initial_whole : {ts rest : List Token} {stated : Bool} {vs : List Valued} → SpellsInitial ts rest stated vs → AreWhole ts → AreWhole rest
initial_whole unlisted whole = whole
initial_whole (listed a o d c) whole = (values_whole d whole.1.1).1

-- ---- shared declarations

normal_shared : {ts rest : List Token} {s : Shared} → SpellsShared ts rest s → AreWhole ts → (rest' : List Token) → Reduced rest rest' → Normal SpellsShared ts rest' s (shared_tokens s)
normal_shared (scalar {first = first} {token = token} {semicolon = semicolon} w n s) whole rest' r =
    record { tokens = first ∷ token ∷ semicolon ∷ rest'; reduced = keeps first (keeps token (keeps semicolon r)); spelled = scalar w n s; leads = leads_then (leads_then (leads_one w) (leads_one n)) (leads_one s) }
normal_shared (array {first = first} {token = token} {opening = opening} {number = size} {closing = closing} {semicolon = semicolon} w n o k c d s) whole rest' r =
    let i : NormalInitial _ (semicolon ∷ rest') _ _ = normal_initial d whole.1.1.1.1.1 (semicolon ∷ rest') (keeps semicolon r) in
    record {
      tokens = first ∷ token ∷ opening ∷ size ∷ closing ∷ i.tokens;
      reduced = keeps first (keeps token (keeps opening (keeps size (keeps closing i.reduced))));
      spelled = array w n o k c i.spelled s;
      leads = leads_then (leads_then (leads_then (leads_then (leads_one w) (leads_one n)) (leads_then (leads_then (leads_one o) (leads_one k)) (leads_one c))) i.leads) (leads_one s);
    }
normal_shared (tally {first = first} {int = int} {token = token} {semicolon = semicolon} w i n s) whole rest' r =
    record { tokens = first ∷ int ∷ token ∷ semicolon ∷ rest'; reduced = keeps first (keeps int (keeps token (keeps semicolon r))); spelled = tally w i n s; leads = leads_then (leads_then (leads_then (leads_one w) (leads_one i)) (leads_one n)) (leads_one s) }

shared_whole : {ts rest : List Token} {s : Shared} → SpellsShared ts rest s → AreWhole ts → AreWhole rest
shared_whole (scalar w n s) whole = whole.1.1.1
shared_whole (array w n o k c d s) whole = (initial_whole d whole.1.1.1.1.1).1
shared_whole (tally w i n s) whole = whole.1.1.1.1

normal_shareds : {ts rest : List Token} {all : List Shared} → Each SpellsShared ts rest all → AreWhole ts → (rest' : List Token) → Reduced rest rest'
    → Normal (Each SpellsShared) ts rest' all (each shared_tokens all)
normal_shareds stop whole rest' r = record { tokens = rest'; reduced = r; spelled = stop; leads = leads_none rest' }
normal_shareds (again d m) whole rest' r =
    let others : Normal _ _ rest' _ _ = normal_shareds m (shared_whole d whole) rest' r in
    let n : Normal _ _ others.tokens _ _ = normal_shared d whole others.tokens others.reduced in
    record { tokens = n.tokens; reduced = n.reduced; spelled = again n.spelled others.spelled; leads = leads_then n.leads others.leads }

-- ---- functions

normal_param : (ts rest : List Token) (p : Param) → SpellsParam ts rest p → (rest' : List Token) → Reduced rest rest' → Normal SpellsParam ts rest' p (param_tokens p)
normal_param _ _ _ (param {first = first} {token = token} w n) rest' r =
    record { tokens = first ∷ token ∷ rest'; reduced = keeps first (keeps token r); spelled = param w n; leads = leads_then (leads_one w) (leads_one n) }

normal_function : (ts rest : List Token) (f : Function) → SpellsFunction ts rest f → (rest' : List Token) → Reduced rest rest' → Normal SpellsFunction ts rest' f (function_tokens f)
normal_function _ _ _ (function {first = first} {token = token} {opening = opening} {closing = closing} w n o d c b) rest' r =
    let bl : Normal _ _ rest' _ _ = normal_block b rest' r in
    let ps : Normal _ _ (closing ∷ bl.tokens) _ _ = normal_list SpellsParam param_tokens normal_param d (closing ∷ bl.tokens) (keeps closing bl.reduced) in
    record {
      tokens = first ∷ token ∷ opening ∷ ps.tokens;
      reduced = keeps first (keeps token (keeps opening ps.reduced));
      spelled = function w n o ps.spelled c bl.spelled;
      leads = leads_then (leads_then (leads_then (leads_one w) (leads_one n)) (leads_then (leads_then (leads_one o) ps.leads) (leads_one c))) bl.leads;
    }

-- ---- programs

pub record NormalProgram (ts : List Token) (p : Program) : Type 0 where
  pub tokens : List Token
  pub reduced : Reduced ts tokens
  pub spelled : SpellsProgram tokens p
  pub are : kinds tokens ≡ tokens_of p ++ kind.End ∷ []

pub normal_program : (ts : List Token) (p : Program) → SpellsProgram ts p → AreWhole ts → NormalProgram ts p
unfolding tokens_of
normal_program _ _ (program {first = first} {opening = opening} {closing = closing} {main = main} {end = end} {shared = shared} {functions = functions} {body = body} w o sh c fs m b e) whole =
    let bl : Normal _ _ (end ∷ []) _ _ = normal_block b (end ∷ []) (keeps end none) in
    let fn : Normal _ _ (main ∷ bl.tokens) _ _ = normal_each SpellsFunction function_tokens normal_function fs (main ∷ bl.tokens) (keeps main bl.reduced) in
    let sn : Normal _ _ (closing ∷ fn.tokens) _ _ = normal_shareds sh whole.1.1 (closing ∷ fn.tokens) (keeps closing fn.reduced) in
    let all : Leads (first ∷ opening ∷ sn.tokens) (end ∷ []) _ = leads_then (leads_then (leads_then (leads_then (leads_one w) (leads_then (leads_then (leads_one o) sn.leads) (leads_one c))) fn.leads)
    (leads_one m)) bl.leads in
    record {
      tokens = first ∷ opening ∷ sn.tokens;
      reduced = keeps first (keeps opening sn.reduced);
      spelled = program w o sn.spelled c fn.spelled m bl.spelled e;
      are = all.is ∙ ap (λ x. tokens_of (record { shared = shared; functions = functions; main = body }) ++ x ∷ []) e;
    }
