use Rattle.file_condition_laws.proofs.Read.{read_throws}
use Rattle.file_condition_laws.proofs.whole_library.read_library_throws_its_classes.Goals as goal

pub returns : goal.returns
returns c = read_throws
