use Rattle.std.proofs.Common.{◌≡◌}
use Rattle.toml.specs.View.{members_view}
use Rattle.settings_file.specs.Document.{takes_all}
use Rattle.settings_file.proofs.document.takes_all.Given as goal

abbrev pub invariant-members : goal.invariant-members
invariant-members l =
    (goal.iterator-members).can_next l.key-iterator ×
    (goal.iterator-members).is_finite l.key-iterator ×
    (takes_all l.second (members_view l.key-iterator) ≡ takes_all l.second (members_view l.table.entries))
