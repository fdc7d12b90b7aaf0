-- The numbers of the bodies from here on are noted.
use Rattle.std.proofs.Common.{◌≤◌, length}
use Rattle.program_bodies.proofs.NumberSteps.{AreNoted}
use Rattle.program_bodies.proofs.bodies.body_numbers.Given as goal

abbrev pub invariant-loop-number : goal.invariant-loop-number
invariant-loop-number l = record {
  in_range : l.number ≤ length l.bodies;
  noted : AreNoted l.bodies l.methods l.number l.numbers.items;
}

abbrev pub decreases-loop-number : goal.decreases-loop-number
decreases-loop-number l = l.number
