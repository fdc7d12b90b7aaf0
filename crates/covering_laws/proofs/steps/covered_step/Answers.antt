use Rattle.covering_laws.proofs.CoveringLaws.{covered_step}
use Rattle.covering_laws.proofs.steps.covered_step.Goals as goal

pub returns : goal.returns
returns c = covered_step
