use Rattle.value_laws.proofs.ValueTypeLaws.{types_step}
use Rattle.value_laws.proofs.value_type_runs.types_step.Goals as goal

pub returns : goal.returns
returns c = types_step
