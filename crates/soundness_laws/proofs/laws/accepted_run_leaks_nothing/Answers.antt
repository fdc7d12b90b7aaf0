use Rattle.soundness_laws.proofs.SafeRuns.{accepted_leaks_nothing}
use Rattle.soundness_laws.proofs.laws.accepted_run_leaks_nothing.Goals as goal

pub returns : goal.returns
returns c = accepted_leaks_nothing
