-- Settings that say the same, wherever their lists lie in memory.
use Rattle.std.specs.Prelude.{◌≡◌}
use Rattle.java_syntax.specs.declared.settings.Settings.{Settings}

pub record AreSameSettings (s t : Settings) : Type 0 where
  pub version : s.version ≡ t.version
  pub ignored : s.ignored.items ≡ t.ignored.items
  pub exact : s.exact.items ≡ t.exact.items
  pub core : s.core ≡ t.core
