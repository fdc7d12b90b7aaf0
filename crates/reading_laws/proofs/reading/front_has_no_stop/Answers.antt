-- The law is a lemma over the definitions alone.
use Rattle.reading_laws.proofs.OneFileReading.{no_files_stop}
use Rattle.reading_laws.proofs.reading.front_has_no_stop.Goals as goal

pub returns : goal.returns
returns c = no_files_stop
