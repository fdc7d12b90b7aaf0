use Rattle.step_laws.proofs.NamedReached.{names_what_is_there}
use Rattle.step_laws.proofs.named_step.steps_name_what_is_there.Goals as goal

pub returns : goal.returns
returns c = names_what_is_there
