use Rattle.std.proofs.Common.{◌≡◌, take}
use Rattle.std.specs.List.{flat_map}
use Rattle.refusal_order.specs.Refusals.{least}
use Rattle.method_bodies.specs.MethodBodies.{unit_cases}
use Rattle.method_bodies.proofs.bodies.body_refusal.Given as goal

abbrev pub invariant-loop-unit : goal.invariant-loop-unit
invariant-loop-unit l = l.found ≡ least (flat_map unit_cases (take l.unit-index l.units))
