use Rattle.file_condition_laws.proofs.Read.{read_constants}
use Rattle.file_condition_laws.proofs.whole_library.read_constants_are_library.Goals as goal

pub returns : goal.returns
returns c = read_constants
