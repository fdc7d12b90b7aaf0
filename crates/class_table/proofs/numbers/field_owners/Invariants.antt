use Rattle.std.proofs.Common.{◌≡◌, map, take}
use Rattle.class_declarations.specs.Members.{written_field_of}
use Rattle.class_table.specs.Table.{field_owners}
use Rattle.class_table.proofs.numbers.field_owners.Given as goal

abbrev pub invariant-loop-field : goal.invariant-loop-field
invariant-loop-field l = l.owners.items ≡ field_owners (map written_field_of (take l.field-index l.fields))
