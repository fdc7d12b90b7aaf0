-- What is read of the bytes of a settings file, and why they are refused.
use Rattle.std.specs.Prelude.{◌≡◌, ℕ, true, false, Some, None, List, [], All}
use Rattle.std.specs.Str.{IsUtf8}
use Rattle.toml.specs.Data.{Members}
use Rattle.toml.specs.Parse.{parse_document}
use Rattle.rlc_base.specs.declared.code.Code.{Code}
use Rattle.rlc_base.specs.declared.code.Code.TheVariants as refused
use Rattle.rlc_base.specs.declared.place.Pos.{Pos}
use Rattle.rlc_base.specs.declared.faults.Stop.{Stop}
use Rattle.rlc_base.specs.declared.faults.Stop.TheVariants as stops
use Rattle.java_syntax.specs.declared.settings.Settings.{Settings}
use Rattle.settings_file.specs.Document.{core_in, default_ignored, exact_in, ignored_in, is_well_keyed, known_version, version_in}

-- the bytes are a TOML document with these members
pub record IsDocument (bytes : List ℕ) (ms : Members) : Type 0 where
  pub utf8 : IsUtf8 bytes
  pub parsed : parse_document bytes ≡ Some ms

-- these are the settings of a document
pub record IsSettingsOf (ms : Members) (s : Settings) : Type 0 where
  pub keys : is_well_keyed ms ≡ true
  pub version : known_version (version_in ms) ≡ Some s.version
  pub ignored : s.ignored.items ≡ ignored_in ms
  pub exact : s.exact.items ≡ exact_in ms
  pub core : s.core ≡ core_in ms

-- the settings where no file names any
pub record IsDefault (s : Settings) : Type 0 where
  pub version : s.version ≡ 1
  pub ignored : s.ignored.items ≡ default_ignored
  pub exact : s.exact.items ≡ []
  pub core : s.core ≡ true

-- the bytes say these settings
pub record IsRead (bytes : List ℕ) (s : Settings) : Type 0 where
  pub members : Members
  pub document : IsDocument bytes members
  pub settings : IsSettingsOf members s

-- why the bytes are refused: no TOML document; else another key, or a value of another type; else no known version
pub data IsCause (bytes : List ℕ) : Code → Type 0 where
  no_document : (IsUtf8 bytes → parse_document bytes ≡ None) → IsCause bytes refused.BadToml
  wrong_key : (ms : Members) → IsDocument bytes ms → is_well_keyed ms ≡ false → IsCause bytes refused.BadKey
  wrong_version : (ms : Members) → IsDocument bytes ms → is_well_keyed ms ≡ true → known_version (version_in ms) ≡ None → IsCause bytes refused.BadVersion

-- a settings file has no places
abbrev pub unplaced : ℕ → Pos
unplaced file = record { file = file; line = 0; col = 0 }

-- why no settings are answered for the bytes of this file
abbrev pub IsStopOf : ℕ → List ℕ → Stop → Type 0
IsStopOf file bytes (stops.Refused r) = IsCause bytes r.code × (r.pos ≡ unplaced file)
IsStopOf file bytes (stops.TooMuch r) = ⊥
IsStopOf file bytes stops.NoMemory = Unit {0}

-- the bytes are a document of version 2 that says the same
pub record SaysSame (s : Settings) (bytes : List ℕ) : Type 0 where
  pub members : Members
  pub document : IsDocument bytes members
  pub keys : is_well_keyed members ≡ true
  pub version : known_version (version_in members) ≡ Some 2
  pub ignored : ignored_in members ≡ s.ignored.items
  pub exact : exact_in members ≡ s.exact.items
  pub core : core_in members ≡ s.core

-- each name is UTF-8
pub record HasTexts (s : Settings) : Type 0 where
  pub ignored : All IsUtf8 s.ignored.items
  pub exact : All IsUtf8 s.exact.items
