use Rattle.covering_laws.proofs.CoveringLaws.{makers_own_step}
use Rattle.covering_laws.proofs.steps.makers_own_step.Goals as goal

pub returns : goal.returns
returns c = makers_own_step
