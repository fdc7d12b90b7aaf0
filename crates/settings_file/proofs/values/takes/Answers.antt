use Rattle.std.proofs.Common.{codes, refl}
use Rattle.settings_file.proofs.Keys.{other_key}
use Rattle.settings_file.proofs.values.takes.Goals as goal

pub returns-in_default : goal.returns-in_default
returns-in_default c =
    rw (other_key _ (codes "version") c.in_default.not-version, other_key _ (codes "ignored") c.in_default.not-ignored, other_key _ (codes "core") c.in_default.not-core, other_key _ (codes "exact") c.in_default.not-exact) refl
