-- The laws are lemmas over the definitions alone.
use Rattle.reading_laws.proofs.OneFileReading.{one_sections, one_sources}
use Rattle.reading_laws.proofs.reading.front_is_one.Goals as goal

pub returns-clause-sections : goal.returns-clause-sections
returns-clause-sections c = one_sections

pub returns-clause-sources : goal.returns-clause-sources
returns-clause-sources c = one_sources
