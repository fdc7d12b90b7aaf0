use Rattle.step_laws.proofs.AssignedReached.{spoken_stay}
use Rattle.step_laws.proofs.assigned_step.spoken_parameters_stay.Goals as goal

pub returns : goal.returns
returns c = spoken_stay
