-- A set holds a name where its keys have it.
use Rattle.std.proofs.Common.{◌∙◌}
use Rattle.class_names.proofs.NameLemmas.{list_any-texts}
use Rattle.class_order.proofs.declared.holds.Goals as goal

pub returns : goal.returns
returns c = c.contains.ensures ∙ list_any-texts c.args.names.now.keys c.args.name.now
