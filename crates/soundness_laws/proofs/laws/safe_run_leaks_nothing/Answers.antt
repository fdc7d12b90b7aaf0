use Rattle.soundness_laws.proofs.SafeRuns.{leaks_nothing}
use Rattle.soundness_laws.proofs.laws.safe_run_leaks_nothing.Goals as goal

pub returns : goal.returns
returns c = leaks_nothing
