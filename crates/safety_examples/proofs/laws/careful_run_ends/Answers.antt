use Rattle.std.proofs.Common.{ap, not}
use Rattle.soundness_laws.specs.Runs.{Run}
use Rattle.safety_examples.proofs.CarefulRun.{careful_run}
use Rattle.safety_examples.proofs.CarefulSets.{close_not_none}
use Rattle.safety_examples.proofs.laws.careful_run_ends.Goals as goal

pub returns-clause-obligation : goal.returns-clause-obligation
returns-clause-obligation c = ap not close_not_none

pub returns-clause-ledger : goal.returns-clause-ledger
returns-clause-ledger c = ap (λ (r : Run). r.config.entries) careful_run

pub returns-clause-ended : goal.returns-clause-ended
returns-clause-ended c = ap (λ (r : Run). r.how) careful_run
