use Rattle.engine_laws.proofs.Units.{steps_are_numbered}
use Rattle.machine_meaning.specs.Meaning.{machine_main}
use Rattle.event_engine.specs.declared.simulation.TheConstants.{SIM_FUEL}
use Rattle.event_engine.proofs.Simulating.{ok_ending, ok_text, ok_log, err_text, err_log}
use Rattle.event_engine.proofs.simulation.sim.Goals as goal

pub returns-clause-end : goal.returns-clause-end
returns-clause-end g c = ok_ending _ (machine_main c.args.code.now SIM_FUEL) (steps_are_numbered c.args.code.now SIM_FUEL) c.args.events.now c.requires.workers _ _ c.sim_with.result
    c.sim_with.ensures.comes

pub returns-clause-whole : goal.returns-clause-whole
returns-clause-whole g c = ok_text _ (machine_main c.args.code.now SIM_FUEL) (steps_are_numbered c.args.code.now SIM_FUEL) c.args.events.now c.requires.workers _ _ c.sim_with.result
    c.sim_with.ensures.comes

pub returns-clause-told : goal.returns-clause-told
returns-clause-told g c = ok_log _ (machine_main c.args.code.now SIM_FUEL) (steps_are_numbered c.args.code.now SIM_FUEL) c.args.events.now c.requires.workers _ _ c.sim_with.result
    c.sim_with.ensures.comes

pub returns-clause-prefix : goal.returns-clause-prefix
returns-clause-prefix g c = err_text _ (machine_main c.args.code.now SIM_FUEL) (steps_are_numbered c.args.code.now SIM_FUEL) c.args.events.now c.requires.workers _ _ c.sim_with.result
    c.sim_with.ensures.comes

pub returns-clause-front : goal.returns-clause-front
returns-clause-front g c = err_log _ (machine_main c.args.code.now SIM_FUEL) (steps_are_numbered c.args.code.now SIM_FUEL) c.args.events.now c.requires.workers _ _ c.sim_with.result
    c.sim_with.ensures.comes
