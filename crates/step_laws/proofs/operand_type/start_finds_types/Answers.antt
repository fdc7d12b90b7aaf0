use Rattle.step_laws.proofs.TypeWays.{start_finds_types}
use Rattle.step_laws.proofs.operand_type.start_finds_types.Goals as goal

pub returns : goal.returns
returns c = start_finds_types
