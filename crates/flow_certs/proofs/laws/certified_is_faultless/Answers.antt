-- The law is a lemma over the definitions alone.
use Rattle.flow_certs.proofs.CertificateLaws.{faultless}
use Rattle.flow_certs.proofs.laws.certified_is_faultless.Goals as goal

pub returns : goal.returns
returns c = λ p bytes b o rule at names is. faultless p bytes is b o rule at names
