use Rattle.place_laws.proofs.Reached.{typed_step}
use Rattle.place_laws.proofs.steps.steps_are_typed.Goals as goal

pub returns : goal.returns
returns c = typed_step
