use Rattle.covering_laws.proofs.CoveredFieldLaws.{contents_are_met_at_throw}
use Rattle.covering_laws.proofs.ends.contents_are_met_at_throw.Goals as goal

pub returns : goal.returns
returns c = contents_are_met_at_throw
