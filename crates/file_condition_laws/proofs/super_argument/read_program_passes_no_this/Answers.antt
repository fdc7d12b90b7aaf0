use Rattle.file_condition_laws.proofs.Programs.{read_passes}
use Rattle.file_condition_laws.proofs.super_argument.read_program_passes_no_this.Goals as goal

pub returns : goal.returns
returns c = read_passes
