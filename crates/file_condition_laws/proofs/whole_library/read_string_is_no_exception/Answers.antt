use Rattle.file_condition_laws.proofs.Read.{read_texts}
use Rattle.file_condition_laws.proofs.whole_library.read_string_is_no_exception.Goals as goal

pub returns : goal.returns
returns c = read_texts
