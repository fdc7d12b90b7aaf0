use Rattle.covering_laws.proofs.CoveredFieldLaws.{promises_are_kept_at_end}
use Rattle.covering_laws.proofs.ends.promises_are_kept_at_end.Goals as goal

pub returns : goal.returns
returns c = promises_are_kept_at_end
