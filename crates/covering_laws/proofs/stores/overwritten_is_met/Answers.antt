use Rattle.covering_laws.proofs.CoveredFieldLaws.{overwritten_is_met}
use Rattle.covering_laws.proofs.stores.overwritten_is_met.Goals as goal

pub returns : goal.returns
returns c = overwritten_is_met
