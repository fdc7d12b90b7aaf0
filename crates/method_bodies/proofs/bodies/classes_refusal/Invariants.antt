use Rattle.std.proofs.Common.{◌≡◌, take}
use Rattle.std.specs.List.{flat_map}
use Rattle.refusal_order.specs.Refusals.{least}
use Rattle.method_bodies.specs.MethodBodies.{class_cases}
use Rattle.method_bodies.proofs.bodies.classes_refusal.Given as goal

abbrev pub invariant-loop-class : goal.invariant-loop-class
invariant-loop-class l = l.found ≡ least (flat_map class_cases (take l.class-index l.classes))
