use Rattle.step_laws.proofs.AssignedReached.{this_stay}
use Rattle.step_laws.proofs.assigned_step.this_stays.Goals as goal

pub returns : goal.returns
returns c = this_stay
