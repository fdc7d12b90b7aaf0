use Rattle.file_condition_laws.proofs.Results.{read_results}
use Rattle.file_condition_laws.proofs.file_condition.read_program_keeps_obligations.Goals as goal

pub returns : goal.returns
returns c = read_results
