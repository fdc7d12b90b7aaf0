use Rattle.covering_laws.proofs.CoveringLaws.{fields_own_step}
use Rattle.covering_laws.proofs.steps.fields_own_step.Goals as goal

pub returns : goal.returns
returns c = fields_own_step
