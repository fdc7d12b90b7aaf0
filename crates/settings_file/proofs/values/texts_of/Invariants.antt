use Rattle.std.proofs.Common.{◌≡◌, ◌++◌, All, drop}
use Rattle.std.specs.Str.{IsUtf8}
use Rattle.toml.specs.View.{items_view}
use Rattle.settings_file.specs.Document.{texts}
use Rattle.settings_file.proofs.values.texts_of.Given as goal

abbrev pub invariant-each : goal.invariant-each
invariant-each l = record {
  texts : l.copied.items ++ texts (items_view (drop l.value-index l.value-items)) ≡ texts (items_view l.value-items);
  utf8 : All IsUtf8 l.copied.items;
}
