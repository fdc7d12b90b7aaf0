use Rattle.step_laws.proofs.TypeWays.{steps_find_types}
use Rattle.step_laws.proofs.operand_type.steps_find_types.Goals as goal

pub returns : goal.returns
returns c = steps_find_types
