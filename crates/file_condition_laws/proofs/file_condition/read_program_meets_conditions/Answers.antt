use Rattle.file_condition_laws.proofs.Conditions.{read_conditions}
use Rattle.file_condition_laws.proofs.file_condition.read_program_meets_conditions.Goals as goal

pub returns : goal.returns
returns c = read_conditions
