use Rattle.std.proofs.Common.{◌≡◌}
use Rattle.program_bodies.specs.ProgramBodies.{methods_from}
use Rattle.program_bodies.proofs.bodies.methods_with.Given as goal

abbrev pub invariant-loop-method : goal.invariant-loop-method
invariant-loop-method l = l.made.items ≡ methods_from l.bodies 0 l.yielded
