-- The bytes of a settings file are one document, or none.
use Rattle.std.proofs.Common.{◌≡◌, ◌∙◌, ap, refl, sym, ℕ, true, false, true≢false, Option, Some, None, List}
use Rattle.toml.specs.Data.{Members}
use Rattle.rlc_base.specs.declared.code.Code.{Code}
use Rattle.java_syntax.specs.declared.settings.Settings.{Settings}
use Rattle.settings_file.specs.Document.{core_in, exact_in, ignored_in, is_well_keyed, known_version, version_in}
use Rattle.settings_file.specs.Reading.{IsCause, IsDefault, IsDocument, IsRead, no_document, wrong_key, wrong_version}
use Rattle.reading_laws.specs.SameSettings.{AreSameSettings}

same_some : {A : Type 0} (a b : A) → Some a ≡ Some b → a ≡ b
same_some a b h = cc

none_some : {A : Type 0} (o : Option A) (a : A) → o ≡ None → o ≡ Some a → ⊥
none_some o a h g = cc

one_document : (bytes : List ℕ) (ms ns : Members) → IsDocument bytes ms → IsDocument bytes ns → ms ≡ ns
one_document bytes ms ns h g = same_some ms ns (sym h.parsed ∙ g.parsed)

pub one_reading : (bytes : List ℕ) (s t : Settings) → IsRead bytes s → IsRead bytes t → AreSameSettings s t
one_reading bytes s t h g =
    let same = one_document bytes h.members g.members h.document g.document in
    record {
      version = same_some s.version t.version (sym h.settings.version ∙ ap (λ ms. known_version (version_in ms)) same ∙ g.settings.version);
      ignored = h.settings.ignored ∙ ap ignored_in same ∙ sym g.settings.ignored;
      exact = h.settings.exact ∙ ap exact_in same ∙ sym g.settings.exact;
      core = h.settings.core ∙ ap core_in same ∙ sym g.settings.core;
    }

pub one_default : (s t : Settings) → IsDefault s → IsDefault t → AreSameSettings s t
one_default s t h g = record {
  version = h.version ∙ sym g.version;
  ignored = h.ignored ∙ sym g.ignored;
  exact = h.exact ∙ sym g.exact;
  core = h.core ∙ sym g.core;
}

-- the document is the same, and so is what is known of its keys
keyed_once : (bytes : List ℕ) (ms ns : Members) → IsDocument bytes ms → IsDocument bytes ns → is_well_keyed ms ≡ true → is_well_keyed ns ≡ false → ⊥
keyed_once bytes ms ns h g keys wrong = true≢false (sym keys ∙ ap is_well_keyed (one_document bytes ms ns h g) ∙ wrong)

pub no_cause : (bytes : List ℕ) (s : Settings) (code : Code) → IsRead bytes s → IsCause bytes code → ⊥
no_cause bytes s code h (no_document none) = none_some _ h.members (none h.document.utf8) h.document.parsed
no_cause bytes s code h (wrong_key ms document wrong) = keyed_once bytes h.members ms h.document document h.settings.keys wrong
no_cause bytes s code h (wrong_version ms document keys none) =
    none_some _ s.version none (ap (λ ns. known_version (version_in ns)) (one_document bytes ms h.members document h.document) ∙ h.settings.version)

pub one_cause : (bytes : List ℕ) (code other : Code) → IsCause bytes code → IsCause bytes other → code ≡ other
one_cause bytes code other (no_document none) (no_document also) = refl
one_cause bytes code other (no_document none) (wrong_key ms document wrong) = absurd (none_some _ ms (none document.utf8) document.parsed)
one_cause bytes code other (no_document none) (wrong_version ms document keys no_version) = absurd (none_some _ ms (none document.utf8) document.parsed)
one_cause bytes code other (wrong_key ms document wrong) (no_document none) = absurd (none_some _ ms (none document.utf8) document.parsed)
one_cause bytes code other (wrong_key ms document wrong) (wrong_key ns also bad) = refl
one_cause bytes code other (wrong_key ms document wrong) (wrong_version ns also keys no_version) = absurd (keyed_once bytes ns ms also document keys wrong)
one_cause bytes code other (wrong_version ms document keys no_version) (no_document none) = absurd (none_some _ ms (none document.utf8) document.parsed)
one_cause bytes code other (wrong_version ms document keys no_version) (wrong_key ns also wrong) = absurd (keyed_once bytes ms ns document also keys wrong)
one_cause bytes code other (wrong_version ms document keys no_version) (wrong_version ns also good none) = refl
