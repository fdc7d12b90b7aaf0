-- The law is a lemma over the definitions alone.
use Rattle.file_condition_laws.proofs.Library.{table_whole}
use Rattle.file_condition_laws.proofs.whole_library.table_has_whole_library.Goals as goal

pub returns : goal.returns
returns c = table_whole
