use Rattle.std.proofs.Common.{◌≡◌, drop}
use Rattle.toml.specs.View.{items_view}
use Rattle.settings_file.specs.Document.{are_texts}
use Rattle.settings_file.proofs.values.are_texts.Given as goal

abbrev pub invariant-each : goal.invariant-each
invariant-each l = are_texts (items_view (drop l.value-index l.value-items)) ≡ are_texts (items_view l.value-items)
