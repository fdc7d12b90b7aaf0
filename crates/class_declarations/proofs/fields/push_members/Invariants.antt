use Rattle.std.proofs.Common.{◌≡◌, ◌++◌, map, take}
use Rattle.class_order.specs.Declarations.{declaration_of}
use Rattle.class_declarations.specs.Members.{fields_of_members, written_field_of}
use Rattle.class_declarations.proofs.fields.push_members.Given as goal

abbrev pub invariant-loop-member : goal.invariant-loop-member
invariant-loop-member l = map written_field_of l.all.items ≡ map written_field_of l.fn.all.items ++ fields_of_members l.class (declaration_of l.declared) (take l.member-index l.members)
