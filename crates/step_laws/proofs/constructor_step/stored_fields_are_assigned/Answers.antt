use Rattle.step_laws.proofs.ConstructorReached.{stores_assigned}
use Rattle.step_laws.proofs.constructor_step.stored_fields_are_assigned.Goals as goal

pub returns : goal.returns
returns c = stores_assigned
