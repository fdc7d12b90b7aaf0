use Rattle.std.proofs.Common.{map, take}
use Rattle.std.specs.List.{AllZip}
use Rattle.class_declarations.specs.Members.{written_field_of}
use Rattle.table_members.specs.Fields.{IsField}
use Rattle.table_members.proofs.fields.table_fields.Given as goal

abbrev pub invariant-each : goal.invariant-each
invariant-each l = AllZip (IsField l.names) (map written_field_of (take l.field-index l.written)) l.fields.items
