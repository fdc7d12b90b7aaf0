-- The law is a lemma over the definitions alone.
use Rattle.reading_laws.proofs.OneSettingsReading.{no_cause}
use Rattle.reading_laws.proofs.settings.read_settings_have_no_cause.Goals as goal

pub returns : goal.returns
returns c = no_cause
