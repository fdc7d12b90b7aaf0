use Rattle.std.proofs.Common.{ap, map, ◌∙◌}
use Rattle.std.proofs.lemmas.List.{take_all}
use Rattle.std.proofs.lemmas.List.Elements.{All-get_or}
use Rattle.std.specs.Str.{IsUtf8}
use Rattle.toml.specs.Data.{array, string}
use Rattle.toml.specs.View.{items_of}
use Rattle.toml.proofs.Views.{view-Array}
use Rattle.settings_file.proofs.Members.{text_items_map}
use Rattle.settings_file.proofs.printing.name_list.Goals as goal

pub text_value-requires : goal.text_value-requires
text_value-requires c = rw (c.name-item.is) (All-get_or IsUtf8 c.args.names.now c.each.name-index c.name-item.result c.each-test.true c.requires)

pub returns : goal.returns
returns c =
    view-Array c.each.values
    ∙ ap (λ ds. array (items_of ds)) (c.each.invariant ∙ ap (map string) (take_all c.each.name-index c.args.names.now c.each-test.false))
    ∙ ap array (text_items_map c.args.names.now)
