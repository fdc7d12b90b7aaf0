-- The law is a lemma over the definitions alone.
use Rattle.reading_laws.proofs.OneFileReading.{one_files_stop}
use Rattle.reading_laws.proofs.reading.files_stop_is_one.Goals as goal

pub returns : goal.returns
returns c = one_files_stop
