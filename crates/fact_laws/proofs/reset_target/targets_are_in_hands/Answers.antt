use Rattle.fact_laws.proofs.ResetTargets.{answered_targets}
use Rattle.fact_laws.proofs.reset_target.targets_are_in_hands.Goals as goal

pub returns : goal.returns
returns c = answered_targets
