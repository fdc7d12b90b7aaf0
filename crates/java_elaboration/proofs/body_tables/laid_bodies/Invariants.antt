-- The bodies so far are laid.
use Rattle.std.proofs.Common.{map}
use Rattle.std.specs.List.{AllZip}
use Rattle.java_types.specs.TypedBodies.{typed_body_of}
use Rattle.java_elaboration.specs.Elaborations.{IsBodyOf}
use Rattle.java_elaboration.proofs.body_tables.laid_bodies.Given as goal

abbrev pub invariant-loop-typing : goal.invariant-loop-typing
invariant-loop-typing l = AllZip IsBodyOf (map typed_body_of l.yielded) l.bodies.items
