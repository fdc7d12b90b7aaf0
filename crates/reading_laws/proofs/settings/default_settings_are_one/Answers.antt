-- The law is a lemma over the definitions alone.
use Rattle.reading_laws.proofs.OneSettingsReading.{one_default}
use Rattle.reading_laws.proofs.settings.default_settings_are_one.Goals as goal

pub returns : goal.returns
returns c = one_default
