use Rattle.std.proofs.Common.{◌≡◌, map, take}
use Rattle.class_order.specs.Declarations.{declaration_of}
use Rattle.class_checks.specs.DoubleMembers.{field_names_among}
use Rattle.class_checks.specs.MemberKeys.{keyed_field, keyed_of}
use Rattle.class_checks.proofs.members.field_keys.Given as goal

abbrev pub invariant-loop-member : goal.invariant-loop-member
invariant-loop-member l = map keyed_of l.keys.items ≡ map keyed_field (field_names_among l.names (declaration_of l.class) (take l.member-index l.members))
