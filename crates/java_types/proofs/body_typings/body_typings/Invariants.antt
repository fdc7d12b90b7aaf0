use Rattle.std.proofs.Common.{◌≡◌, ◌++◌, map, take}
use Rattle.source_classes.specs.Members.{environment_in}
use Rattle.java_bodies.specs.Bodies.{source_body_of}
use Rattle.java_types.specs.ProgramCases.{bodies_cases}
use Rattle.java_types.specs.TypedBodies.{typed_bodies, typed_body_of}
use Rattle.java_types.proofs.body_typings.body_typings.Given as goal

abbrev pub invariant-loop-b : goal.invariant-loop-b
invariant-loop-b l = record {
  typed : map typed_body_of l.all.items ≡ typed_bodies (environment_in l.scope) (map source_body_of (take l.b-index l.bodies));
  cases : l.refusals.items ≡ l.fn.refusals.items ++ bodies_cases (environment_in l.scope) (map source_body_of (take l.b-index l.bodies));
}
