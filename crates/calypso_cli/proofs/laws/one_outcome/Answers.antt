use Rattle.std.proofs.Common.{◌≡◌, ◌∙◌, sym, ℕ, List, Option, Some, None, false}
use Rattle.cal_base.specs.Main.{Meaning}
use Rattle.csl_meaning.specs.Meaning.{meaning}
use Rattle.csl_reader.specs.Readings as reading
use Rattle.csl_reader.specs.Readings.{IsRead}
use Rattle.csl_reader.proofs.OneWay.{read_one_way}
use Rattle.bytecode.specs.Laws.{OneModulePerBytes}
use Rattle.machine_meaning.specs.Meaning.{machine_meaning}
use Rattle.command_words.specs.Commands.{Flags, check, eval, run, sim, build, exec, gen, selfrun}
use Rattle.csl_grammar.specs.Texts.{text_limit}
use Rattle.calypso_cli.specs.Outcomes.{Sight, Outcome, Work, Does, Creates}
use Rattle.calypso_cli.specs.Commands.{IsRefusedText, IsModule, IsNoModule, module_limit, IsScript, IsNoScript, script_limit, WithScript, IsEvents, IsNoEvents, events_limit, WithEvents, run_of}
use Rattle.calypso_cli.specs.Commands.{check_of, build_of, gen_of, usual_fuel}
use Rattle.calypso_cli.specs.Laws.{ComesToOne}
use Rattle.program_gen.specs.Generated.{generated}
use Rattle.calypso_cli.proofs.Only.{one_load, one_create}
use Rattle.calypso_cli.proofs.Texts.{one_text}
use Rattle.calypso_cli.proofs.Readings.{programs_once, modules_once, scripts_once, events_once}
use Rattle.calypso_cli.proofs.laws.one_outcome.Goals as goal

-- work comes to one outcome
one_work : (work : Work) (a b : Outcome) → Does work a → Does work b → a ≡ b
one_work work a b h k = h ∙ sym k

-- so does a run, behind its script and log
one_run : (sight : Sight) (flags : Flags) (means : Meaning) (script : Option (List ℕ)) (a b : Outcome)
    → WithScript sight script (Creates flags.log (Does (run_of flags.steps means))) a → WithScript sight script (Creates flags.log (Does (run_of flags.steps means))) b → a ≡ b
one_run sight flags means None a b h k = one_create flags.log (Does (run_of flags.steps means)) (one_work (run_of flags.steps means)) a b h k
one_run sight flags means (Some name) a b h k =
    one_load name script_limit IsScript IsNoScript (λ rows. Creates flags.log (Does (run_of flags.steps means))) scripts_once
    (λ rows. one_create flags.log (Does (run_of flags.steps means)) (one_work (run_of flags.steps means))) h k

comes_to_one : OneModulePerBytes → ComesToOne
comes_to_one one_module (check file) sight one two h k =
    one_load file text_limit (λ bytes p. IsRead bytes (reading.accepted p)) IsRefusedText (λ p. Does (check_of p)) (programs_once read_one_way) (λ p. one_work (check_of p)) h k
comes_to_one one_module (eval file) sight one two h k =
    one_load file text_limit (λ bytes p. IsRead bytes (reading.accepted p)) IsRefusedText (λ p. Does (run_of false (meaning p usual_fuel))) (programs_once read_one_way)
    (λ p. one_work (run_of false (meaning p usual_fuel))) h k
comes_to_one one_module (run file flags) sight one two h k =
    one_load file text_limit (λ bytes p. IsRead bytes (reading.accepted p)) IsRefusedText
    (λ p. WithScript sight flags.script (Creates flags.log (Does (run_of flags.steps (meaning p flags.fuel))))) (programs_once read_one_way)
    (λ p a b. one_run sight flags (meaning p flags.fuel) flags.script a b) h k
comes_to_one one_module (sim file events log) sight one two h k =
    one_load file text_limit (λ bytes p. IsRead bytes (reading.accepted p)) IsRefusedText
    (λ p. WithEvents sight events (Creates log (Does (run_of false (meaning p usual_fuel))))) (programs_once read_one_way)
    (λ p a b g l. one_load events events_limit IsEvents IsNoEvents (λ list. Creates log (Does (run_of false (meaning p usual_fuel)))) events_once
    (λ list. one_create log (Does (run_of false (meaning p usual_fuel))) (one_work (run_of false (meaning p usual_fuel)))) g l) h k
comes_to_one one_module (build file into) sight one two h k =
    one_load file text_limit (λ bytes p. IsRead bytes (reading.accepted p)) IsRefusedText (λ p. Creates (Some into) (Does build_of)) (programs_once read_one_way)
    (λ p. one_create (Some into) (Does build_of) (one_work build_of)) h k
comes_to_one one_module (exec file flags) sight one two h k =
    one_load file module_limit IsModule IsNoModule (λ m. WithScript sight flags.script (Creates flags.log (Does (run_of flags.steps (machine_meaning m flags.fuel))))) (modules_once one_module)
    (λ m a b. one_run sight flags (machine_meaning m flags.fuel) flags.script a b) h k
comes_to_one one_module (gen number size) sight one two h k = one_work (gen_of number size) one two h k
comes_to_one one_module (selfrun number size) sight one two h k = one_text (generated number size) (λ p. run_of false (meaning p usual_fuel)) h k

pub returns : goal.returns
returns c = comes_to_one c.one_module.ensures
