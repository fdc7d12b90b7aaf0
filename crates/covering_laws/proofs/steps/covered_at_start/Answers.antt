use Rattle.covering_laws.proofs.CoveringLaws.{covered_at_start}
use Rattle.covering_laws.proofs.steps.covered_at_start.Goals as goal

pub returns : goal.returns
returns c = covered_at_start
