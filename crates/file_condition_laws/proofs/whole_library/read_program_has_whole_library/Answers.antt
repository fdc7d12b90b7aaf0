-- The law is a lemma over the definitions alone.
use Rattle.file_condition_laws.proofs.Read.{read_whole}
use Rattle.file_condition_laws.proofs.whole_library.read_program_has_whole_library.Goals as goal

pub returns : goal.returns
returns c = read_whole
