use Rattle.step_laws.proofs.ConstructorReached.{makes_concrete}
use Rattle.step_laws.proofs.constructor_step.made_objects_are_concrete.Goals as goal

pub returns : goal.returns
returns c = makes_concrete
