-- An accepted program, as the grammar spells it, has the shape that its code asks for.
use Rattle.std.proofs.Common.{◌≡◌, ℕ, Bool, true, false, if◌then◌else◌, List, [], ◌∷◌, ◌++◌, Some, refl, sym, ◌∙◌, subst}
use Rattle.std.specs.Str.{bytes_eq}
use Rattle.std.proofs.lemmas.List.{append_assoc}
use Rattle.csl_tree.specs.declared.program.Program.{Program}
use Rattle.csl_tree.specs.declared.program.Function.{Function}
use Rattle.cal_terms.specs.declared.types.Gives.{Gives}
use Rattle.cal_terms.specs.declared.types.Gives.TheVariants as gives
use Rattle.csl_tree.specs.declared.program.Form.TheVariants as variant
use Rattle.csl_grammar.specs.Texts.{IsSpelledWithin, text_limit}
use Rattle.csl_meaning.specs.Effect.{function_named}
use Rattle.type_check.specs.declared.body.Body.TheVariants as body
use Rattle.type_check.specs.Names.{Names}
use Rattle.type_check.specs.Statements.{body_of}
use Rattle.type_check.specs.Faults.{IsAccepted, touches_tally, with_shared, with_params, with_own, with_function, gives_value, inside_faults, all_function_faults, global_names}
use Rattle.type_check.proofs.CleanLemmas.{accepted_main}
use Rattle.type_check.proofs.Facts.{accepted-functions, first-function, other-functions, function-body, function-ends}
use Rattle.compiled_code.specs.Shape.{HasValue, FunctionIs, HasShape}
use Rattle.accepted_code.proofs.Known.{Knows, known_behind, params_known, Stand, no_functions, one_function, main_knows}
use Rattle.accepted_code.proofs.Heads.{HeadsAre, main_heads, function_heads}
use Rattle.accepted_code.proofs.Endings.{function_returns, function_ends}
use Rattle.accepted_code.proofs.Formed.{form_is}

value_given : (g : Gives) → HasValue g → gives_value g ≡ true
value_given gives.Nothing h = absurd h
value_given gives.Int h = refl
value_given gives.Bool h = refl

-- a function without faults
function_is : (p : Program) (names : Names) (f : Function) → Knows p.functions names → inside_faults names f ≡ [] → HeadsAre (variant.Block f.body) → FunctionIs p f
function_is p names f knows none heads =
    record {
      body = form_is p names knows (body_of (body.Function f.gives)) (with_params names f.params) 0 (variant.Block f.body) (params_known p.functions f.params names knows) (function-body names f none)
          heads;
      returns = λ value. (function_returns names (with_params names f.params) f (function-body names f none), function_ends f (function-ends names f none (value_given f.gives value)));
    }

-- each of some functions without faults, where those before them are known
functions_are : (p : Program) (fs rest : List Function) (names : Names) → p.functions ≡ fs ++ rest → Stand fs names → all_function_faults names rest ≡ []
    → (name : List ℕ) (f : Function) → function_named rest name ≡ Some f → HeadsAre (variant.Block f.body) → FunctionIs p f
functions_are p fs [] names split stand none name f e heads = absurd cc
functions_are p fs (g ∷ rest) names split stand none name f e heads =
    by (bytes_eq g.name.text name) e (λ own_heads. function_is p (with_own names g) g knows (first-function names g rest none) own_heads)
    (λ e'. functions_are p (fs ++ g ∷ []) rest (with_function names g) (split_on g split) (one_function fs g (touches_tally (with_own names g) g) names stand) (other-functions names g rest none) name
    f e' heads)
  where
    split_on : (g : Function) → p.functions ≡ fs ++ g ∷ rest → p.functions ≡ (fs ++ g ∷ []) ++ rest
    split_on g split = split ∙ sym (append_assoc fs (g ∷ []) rest)

    knows : Knows p.functions (with_own names g)
    knows = subst (λ (l : List Function). Knows l (with_own names g)) (sym (split_on g split)) (known_behind (fs ++ g ∷ []) rest (with_own names g) (one_function fs g false names stand).knows)

    by : (b : Bool) → (if b then Some g else function_named rest name) ≡ Some f → (HeadsAre (variant.Block g.body) → FunctionIs p g) → (function_named rest name ≡ Some f → FunctionIs p f)
        → FunctionIs p f
    by true is own others = let same : f ≡ g = cc in subst (λ (h : Function). FunctionIs p h) (sym same) (own (subst (λ (h : Function). HeadsAre (variant.Block h.body)) same heads))
    by false is own others = others is

pub accepted_shape : (p : Program) → IsSpelledWithin text_limit p → IsAccepted p → HasShape p
accepted_shape p spelled accepted =
    record {
      functions = λ name f named. functions_are p [] p.functions (with_shared [] p.shared) refl (no_functions p.shared) (accepted-functions p accepted) name f named
          (function_heads p spelled name f named);
      main = form_is p (global_names p) (main_knows p) (body_of body.Main) (global_names p) 0 (variant.Block p.main) (main_knows p) (accepted_main p accepted) (main_heads p spelled);
    }
