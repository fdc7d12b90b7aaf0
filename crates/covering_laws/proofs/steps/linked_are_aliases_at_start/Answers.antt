use Rattle.covering_laws.proofs.CoveringLaws.{linked_are_aliases_at_start}
use Rattle.covering_laws.proofs.steps.linked_are_aliases_at_start.Goals as goal

pub returns : goal.returns
returns c = linked_are_aliases_at_start
