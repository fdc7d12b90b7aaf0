use Rattle.std.proofs.Common.{◌∙◌, sym, refl, true≢false}
use Rattle.settings_file.specs.Reading.{IsDocument, no_document, wrong_key, wrong_version}
use Rattle.toml.specs.View.{table_view}
use Rattle.settings_file.proofs.reading.read_settings.Goals as goal

pub returns-in-Err-2-clause-cause : goal.returns-in-Err-2-clause-cause
returns-in-Err-2-clause-cause c =
    rw c.refused.ensures
    (no_document (λ utf8. c.in-Err.ensures.refused (λ memory. absurd (true≢false (sym (c.is_memory.ensures.1 memory) ∙ c.if-is_memory.false))) utf8), refl)

pub returns-then-not-is_well_keyed-clause-cause : goal.returns-then-not-is_well_keyed-clause-cause
returns-then-not-is_well_keyed-clause-cause c =
    let document : IsDocument c.args.bytes.now (table_view c.in-Ok.table) = record { utf8 = c.in-Ok.ensures.ok.0; parsed = c.in-Ok.ensures.ok.1 } in
    rw c.refused-then-not-is_well_keyed.ensures (wrong_key (table_view c.in-Ok.table) document (sym c.is_well_keyed.ensures ∙ c.if-not-is_well_keyed.true), refl)

pub returns-in_default-clause-cause : goal.returns-in_default-clause-cause
returns-in_default-clause-cause c =
    let document : IsDocument c.args.bytes.now (table_view c.in-Ok.table) = record { utf8 = c.in-Ok.ensures.ok.0; parsed = c.in-Ok.ensures.ok.1 } in
    rw c.refused-in_default.ensures (wrong_version (table_view c.in-Ok.table) document (sym c.is_well_keyed.ensures ∙ c.if-not-is_well_keyed.false) (sym c.version_of.ensures ∙ c.in_default.is), refl)
