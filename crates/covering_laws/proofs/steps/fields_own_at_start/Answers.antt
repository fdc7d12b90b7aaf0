use Rattle.covering_laws.proofs.CoveringLaws.{fields_own_at_start}
use Rattle.covering_laws.proofs.steps.fields_own_at_start.Goals as goal

pub returns : goal.returns
returns c = fields_own_at_start
