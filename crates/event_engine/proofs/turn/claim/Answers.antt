use Rattle.std.proofs.Common.{◌<◌, length, rules}
use Rattle.cal_base.specs.Claims.{size_of}
use Rattle.worker_gate.proofs.Turns.{claimed_within}
use Rattle.event_engine.specs.declared.scene.Mode.TheVariants as mode
use Rattle.event_engine.proofs.Scenes.{below_set}
use Rattle.event_engine.proofs.turn.claim.Goals as goal

pub returns-clause-below : goal.returns-clause-below
returns-clause-below g c =
    let within : c.from-place.result < length c.args.modes.now = search rules in
    below_set (size_of g.N.JobName.job) c.args.modes.now c.from-place.result (mode.Busy c.in-Work.k) within c.requires.below
    (claimed_within g.N.JobName.job c.args.core.now c.args.who c.in-Work.k c.in-Work.ensures.answer)
