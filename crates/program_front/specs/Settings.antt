-- The settings of a check.
use Rattle.std.specs.Prelude.{ℕ, Option, Some, None, List, Result, Ok, Err}
use Rattle.rlc_base.specs.declared.faults.Stop.{Stop}
use Rattle.rlc_base.specs.declared.faults.Stop.TheVariants as stops
use Rattle.java_syntax.specs.declared.settings.Settings as settings
use Rattle.settings_file.specs.Reading.{IsDefault, IsRead, IsStopOf}

-- no settings file is refused where there is none
abbrev pub IsWantOfMemory : Stop → Type 0
IsWantOfMemory stops.NoMemory = Unit {0}
IsWantOfMemory stop = ⊥

-- the settings that the bytes of the settings file say, or the default ones where there is no such file
abbrev pub AreSettings : ℕ → Option (List ℕ) → Result settings.Settings Stop → Type 0
AreSettings file None (Ok s) = IsDefault s
AreSettings file None (Err stop) = IsWantOfMemory stop
AreSettings file (Some bytes) (Ok s) = IsRead bytes s
AreSettings file (Some bytes) (Err stop) = IsStopOf file bytes stop
