use Rattle.std.proofs.Common.{◌≡◌, List, Some, rules, subst}
use Rattle.std.specs.Prelude.{slice_get}
use Rattle.csl_tree.specs.declared.program.Function.{Function}
use Rattle.code_verify.proofs.Lists.{entry_there}
use Rattle.compile_steps.proofs.ModuleLemmas.{function_room, function_shape, function_params, next_codes}
use Rattle.compile_steps.proofs.module.function_codes.Goals as goal

pub function_code-requires-clause-shape : goal.function_code-requires-clause-shape
function_code-requires-clause-shape c =
    function_shape c.args.names.now c.requires.spelled c.requires.accepted c.loop-f.f-index c.f-item.result
    (subst (λ (fs : List Function). slice_get fs c.loop-f.f-index ≡ Some c.f-item.result) c.requires.all (entry_there c.args.functions.now c.loop-f.f-index c.f-item.result (search rules) c.f-item.is))

pub function_code-requires-clause-few : goal.function_code-requires-clause-few
function_code-requires-clause-few c =
    function_params c.args.names.now c.requires.spelled c.requires.accepted c.loop-f.f-index c.f-item.result
    (subst (λ (fs : List Function). slice_get fs c.loop-f.f-index ≡ Some c.f-item.result) c.requires.all (entry_there c.args.functions.now c.loop-f.f-index c.f-item.result (search rules) c.f-item.is))

pub function_code-requires-clause-room : goal.function_code-requires-clause-room
function_code-requires-clause-room c =
    function_room c.args.names.now c.requires.spelled c.requires.accepted c.loop-f.f-index c.f-item.result
    (subst (λ (fs : List Function). slice_get fs c.loop-f.f-index ≡ Some c.f-item.result) c.requires.all (entry_there c.args.functions.now c.loop-f.f-index c.f-item.result (search rules) c.f-item.is))

pub loop-f-preserved : goal.loop-f-preserved
loop-f-preserved c =
    next_codes c.args.names.now c.loop-f.codes c.push.new.self _ c.in_ok-function_code.field-0 c.args.functions.now c.loop-f.f-index c.f-item.result
    c.in_ok-push.ensures.ok c.in_ok-function_code.ensures (search rules) c.f-item.is c.loop-f.invariant
