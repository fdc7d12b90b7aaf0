use Rattle.value_laws.proofs.ValueTypeLaws.{types_at_start}
use Rattle.value_laws.proofs.value_type_runs.types_at_start.Goals as goal

pub returns : goal.returns
returns c = types_at_start
