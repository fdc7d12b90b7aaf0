-- The law is a lemma over the definitions alone.
use Rattle.reading_laws.proofs.OneSettingsReading.{one_cause}
use Rattle.reading_laws.proofs.settings.cause_is_one.Goals as goal

pub returns : goal.returns
returns c = one_cause
