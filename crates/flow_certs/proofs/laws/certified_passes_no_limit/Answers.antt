-- The law is a lemma over the definitions alone.
use Rattle.flow_certs.proofs.CertificateLaws.{limitless}
use Rattle.flow_certs.proofs.laws.certified_passes_no_limit.Goals as goal

pub returns : goal.returns
returns c = λ p bytes b r is inside. limitless p bytes is b r inside
