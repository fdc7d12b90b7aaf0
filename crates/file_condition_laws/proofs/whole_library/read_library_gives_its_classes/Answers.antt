use Rattle.file_condition_laws.proofs.Read.{read_gives}
use Rattle.file_condition_laws.proofs.whole_library.read_library_gives_its_classes.Goals as goal

pub returns : goal.returns
returns c = read_gives
