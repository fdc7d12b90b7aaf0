use Rattle.std.proofs.Common.{◌≡◌, take}
use Rattle.refusal_order.specs.Refusals.{least}
use Rattle.class_names.specs.Meanings.{unit_of}
use Rattle.class_checks.specs.TypeCases.{unknown_in_members}
use Rattle.class_checks.proofs.types.unknown_in_members.Given as goal

abbrev pub invariant-loop-member : goal.invariant-loop-member
invariant-loop-member l = l.found ≡ least (unknown_in_members l.names (unit_of l.scope) (take l.member-index l.members))
