use Rattle.step_laws.proofs.CallWays.{one_action}
use Rattle.step_laws.proofs.call_step.call_has_one_action.Goals as goal

pub returns : goal.returns
returns c = one_action
