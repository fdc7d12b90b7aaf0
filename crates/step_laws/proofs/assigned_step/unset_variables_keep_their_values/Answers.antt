use Rattle.step_laws.proofs.AssignedSources.{keeps_value}
use Rattle.step_laws.proofs.assigned_step.unset_variables_keep_their_values.Goals as goal

pub returns : goal.returns
returns c = keeps_value
