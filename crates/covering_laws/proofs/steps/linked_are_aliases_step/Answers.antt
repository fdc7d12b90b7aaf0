use Rattle.covering_laws.proofs.CoveringLaws.{linked_are_aliases_step}
use Rattle.covering_laws.proofs.steps.linked_are_aliases_step.Goals as goal

pub returns : goal.returns
returns c = linked_are_aliases_step
