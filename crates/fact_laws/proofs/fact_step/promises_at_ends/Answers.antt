use Rattle.fact_laws.proofs.Ending.{promises_kept}
use Rattle.fact_laws.proofs.fact_step.promises_at_ends.Goals as goal

pub returns : goal.returns
returns c = promises_kept
