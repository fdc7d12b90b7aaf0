use Rattle.step_laws.proofs.ConstructorReached.{names_instance}
use Rattle.step_laws.proofs.constructor_step.calls_on_objects_name_instance_methods.Goals as goal

pub returns : goal.returns
returns c = names_instance
