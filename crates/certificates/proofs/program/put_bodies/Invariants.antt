use Rattle.certificates.proofs.VerdictLaws.{AreFaultless}
use Rattle.certificates.proofs.program.put_bodies.Given as goal

abbrev pub invariant-bodies : goal.invariant-bodies
invariant-bodies l = AreFaultless l.p l.number
