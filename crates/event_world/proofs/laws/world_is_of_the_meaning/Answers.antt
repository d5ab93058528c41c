use Rattle.event_world.proofs.Courses.{world_is_of_the_meaning}
use Rattle.event_world.proofs.laws.world_is_of_the_meaning.Goals as goal

pub returns : goal.returns
returns c = world_is_of_the_meaning
