use Rattle.std.proofs.Common.{◌≡◌, map, take}
use Rattle.class_order.specs.Declarations.{declaration_of}
use Rattle.class_declarations.specs.Members.{fields_from, written_field_of}
use Rattle.class_declarations.proofs.fields.all_fields.Given as goal

abbrev pub invariant-loop-i : goal.invariant-loop-i
invariant-loop-i l = map written_field_of l.all.items ≡ fields_from 0 (map declaration_of (take l.i l.order))
