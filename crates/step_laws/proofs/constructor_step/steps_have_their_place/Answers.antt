use Rattle.step_laws.proofs.ConstructorReached.{has_its_place}
use Rattle.step_laws.proofs.constructor_step.steps_have_their_place.Goals as goal

pub returns : goal.returns
returns c = has_its_place
