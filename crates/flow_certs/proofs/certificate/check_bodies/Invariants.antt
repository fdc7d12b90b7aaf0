use Rattle.flow_certs.specs.Forms.{lines_of, sections}
use Rattle.flow_certs.proofs.ProgramLaws.{IsSoFar}
use Rattle.flow_certs.proofs.certificate.check_bodies.Given as goal

abbrev pub invariant-bodies : goal.invariant-bodies
invariant-bodies l = IsSoFar l.p (lines_of l.bytes) (sections l.p l.bytes) l.body l.line (lines_of l.rest)
