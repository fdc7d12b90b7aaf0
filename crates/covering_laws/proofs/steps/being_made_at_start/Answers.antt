use Rattle.covering_laws.proofs.CoveringLaws.{being_made_at_start}
use Rattle.covering_laws.proofs.steps.being_made_at_start.Goals as goal

pub returns : goal.returns
returns c = being_made_at_start
