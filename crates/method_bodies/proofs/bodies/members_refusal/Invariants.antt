use Rattle.std.proofs.Common.{◌≡◌, take}
use Rattle.std.specs.List.{flat_map}
use Rattle.refusal_order.specs.Refusals.{least}
use Rattle.method_bodies.specs.MethodBodies.{member_case}
use Rattle.method_bodies.proofs.bodies.members_refusal.Given as goal

abbrev pub invariant-loop-member : goal.invariant-loop-member
invariant-loop-member l = l.found ≡ least (flat_map (member_case l.class) (take l.member-index l.members))
