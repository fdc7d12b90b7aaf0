use Rattle.fact_laws.proofs.Resetting.{owed_apart, target_owed}
use Rattle.fact_laws.proofs.fact_step.owed_fact_with_target.Goals as goal

pub returns : goal.returns
returns c = record { apart = owed_apart; target = target_owed }
